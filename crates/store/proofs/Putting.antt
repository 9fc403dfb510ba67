-- What the functions that put the K lines need. Assumes nothing.
use Prim.Native.Nat.{ℕ, ◌+◌, ◌-◌, ◌*◌, ◌≤◌, ◌<◌}
use Rattle.std.proofs.Common.{Ok, Err}
use mathlib.Core.Path.{◌≡◌, refl, sym, ap, ◌∙◌}
use mathlib.Core.Bool.{true, false}
use mathlib.Core.List.{List, [], ◌++◌, append_assoc}
use native.Mathlib.Omega.{arith}
use native.Mathlib.Numerals.{add-one}
use lib.Dec.{ltb}
use lib.ListN.{length, take, drop, length-append, length-drop}
use lib.Seq.{sets-eq, drop-drop, drop_at, take_at}
use borrow.Rule.Slice.PartMut.{mid_of, put_mid}
use borrow.Author.Tests.{lt-ltb, le-ltb, le-leb}
use Rattle.units.specs.declared.refusal.Refusal.{Refusal}
use Rattle.units.specs.declared.refusal.Refusal.TheVariants.{Room}
use Rattle.units.specs.Pick.{pick}
use Rattle.message.specs.declared.settings.Settings.{Settings}
use Rattle.message.specs.Settings.{settings_fit}
use Rattle.fields.specs.Put.{put}
use Rattle.fields.proofs.Cases.{absurd_by}
use Rattle.fields.proofs.Puts.{put_room, mid_rest, put_rest}
use Rattle.lines.specs.Lists.{joined}
use Rattle.lines.specs.Settings.{setting_fits}
use Rattle.lines.specs.Writing.{Written, write_answer, write_buffer}
use Rattle.store.specs.declared.stored.Place.TheVariants.{Nowhere}
use Rattle.store.specs.Runs.{run_at, runs_text}
use Rattle.store.specs.Stored.{refused, says, answer_in, buffer_in}
use Rattle.store.proofs.RunLines.{runs_top_lem, run_short, text_short}

-- ONE LINE, with room for any
module _ (s : Settings) (i : ℕ) (out d : List ℕ) (a : Written) (pre : (settings_fit s ≡ true) × (i < s.numbers.group.m) × (37 ≤ length out))
    (said : (a ≡ write_answer (setting_fits s (i + 3)) (run_at s i) out) × (d ≡ write_buffer (setting_fits s (i + 3)) (run_at s i) out)) where
  fits : setting_fits s (i + 3) ≡ true
  unfolding setting_fits
  fits = rw (pre.0, le-leb 1 (i + 3) (omega arith), le-leb (i + 3) (2 + s.numbers.group.m) (omega (arith, pre.1)))

  no_less : ltb (length out) (length (run_at s i)) ≡ false
  no_less = le-ltb (length out) (length (run_at s i)) (omega (arith, run_short s pre.0 i pre.1, pre.2))

  is_done : a ≡ Ok (length (run_at s i))
  unfolding write_answer pick
  is_done = said.0 ∙ rw (fits, no_less)

  there : d ≡ run_at s i ++ drop (length (run_at s i)) out
  unfolding write_buffer pick
  there = said.1 ∙ rw (fits, no_less)

  -- its bytes are put
  pub one_put : (len : ℕ) → a ≡ Ok len → (len ≡ length (run_at s i)) × (d ≡ run_at s i ++ drop (length (run_at s i)) out)
  one_put len q = (let x = sym q ∙ is_done in cc, there)

  -- it is never refused
  pub one_never : {A : Type 0} (why : Refusal) → a ≡ Err why → A
  one_never why q = absurd_by (let x = sym q ∙ is_done in cc)

-- LINE AFTER LINE: what is put after i of them
joined_none : (f : ℕ → List ℕ) → joined f 0 ≡ []
unfolding joined
joined_none f = refl

joined_more : (f : ℕ → List ℕ) (i : ℕ) → joined f (i + 1) ≡ joined f i ++ f i
unfolding joined
joined_more f i = rw (add-one i)

-- the buffer then
pub record Puts (s : Settings) (start out : List ℕ) (at i : ℕ) : Type 0 where
  pub few : i ≤ s.numbers.group.m
  pub place : at ≡ length (runs_text s i)
  pub short : at ≤ 37 * i
  pub text : out ≡ runs_text s i ++ drop at start

module _ (s : Settings) (start : List ℕ) (pre : (settings_fit s ≡ true) × (600 ≤ length start)) where
  -- none yet
  pub puts_start : Puts s start start 0 0
  puts_start = record { few = omega arith; place = rw (joined_none (run_at s)); short = omega arith; text = rw (joined_none (run_at s)) }

  module _ (out : List ℕ) (at i : ℕ) (p : Puts s start out at i) where
    -- the buffer keeps its length
    pub puts_long : length out ≡ length start
    puts_long =
        let a = p.place in let b = p.short in let c = p.few in let d = runs_top_lem s pre.0 in
        let x = length-append (runs_text s i) (drop at start) in
        let y = length-drop at start in
        ap {B = ℕ} length p.text ∙ (omega arith)

    module _ (h : i < s.numbers.group.m) where
      -- there is room for one more
      pub puts_room : at + 37 ≤ length out
      puts_room = let b = p.short in let d = runs_top_lem s pre.0 in let l = puts_long in omega arith

      -- also in the part that is lent
      pub puts_part : 37 ≤ length (mid_of at (length out - at) out)
      puts_part = let r = puts_room in rw (mid_rest at out) (let l = length-drop at out in omega arith)

      -- one more is put
      pub puts_more : (r : ℕ) (d now : List ℕ) → (r ≡ length (run_at s i)) × (d ≡ run_at s i ++ drop (length (run_at s i)) (mid_of at (length out - at) out)) → now ≡ put_mid at (length out - at) out d
          → Puts s start now (at + r) (i + 1)
      puts_more r d now q l =
          let T = runs_text s i in
          let L = run_at s i in
          let R = puts_room in
          let a = p.place in
          let b = p.short in
          let z = run_short s pre.0 i h in
          let k = q.0 in
          let rest : mid_of at (length out - at) out ≡ drop at start = mid_rest at out ∙ ap (drop at) p.text ∙ drop_at T (drop at start) at (sym a) in
          let front : take at out ≡ T = ap (take at) p.text ∙ take_at T (drop at start) at (sym a) in
          let m = joined_more (run_at s) i in
          let n = length-append T L in
          record {
            few = omega arith;
            place = rw m (omega arith);
            short = omega arith;
            text =
                l ∙ put_rest at out d (omega arith) ∙ rw (front, q.1, rest, m)
                (ap (λ (v : List ℕ). T ++ (L ++ v)) (ap (λ (j : ℕ). drop j (drop at start)) (sym k) ∙ drop-drop r at start) ∙ sym (append_assoc T L (drop (at + r) start)));
          }

  -- all are put
  pub puts_all : (out : List ℕ) (at i : ℕ) → Puts s start out at i → s.numbers.group.m ≤ i
      → (at ≡ length (runs_text s s.numbers.group.m)) × (out ≡ runs_text s s.numbers.group.m ++ drop (length (runs_text s s.numbers.group.m)) start)
  puts_all out at i p h =
      let f = p.few in
      let q : s.numbers.group.m ≡ i = omega arith in
      at_end s.numbers.group.m q
    where
      at_end : (m : ℕ) → m ≡ i → (at ≡ length (runs_text s m)) × (out ≡ runs_text s m ++ drop (length (runs_text s m)) start)
      at_end m q = rw q (p.place, p.text ∙ ap (λ (j : ℕ). runs_text s i ++ drop j start) p.place)

-- ALL OF THEM OR NONE
module _ (s : Settings) (fits : settings_fit s ≡ true) (len : ℕ) (long : len ≡ length (runs_text s s.numbers.group.m)) where
  -- they are 600 bytes at the most
  pub all_short : len ≤ 600
  all_short = let a = text_short s fits s.numbers.group.m (omega arith) in let d = runs_top_lem s fits in omega arith

  module _ (buf : List ℕ) where
    abbrev X : List ℕ
    X = runs_text s s.numbers.group.m

    -- 16, and the buffer stays
    pub no_room : length buf < len → (refused Room Nowhere ≡ answer_in (says X) buf) × (buf ≡ buffer_in (says X) buf)
    unfolding pick
    no_room h = rw (lt-ltb (length buf) (length X) (omega arith)) (refl, refl)

    -- they are put at the buffer's front
    pub all_put : (own rest d : List ℕ) → own ≡ X ++ rest → len ≤ length buf → d ≡ put buf 0 (take len own) → (Ok len ≡ answer_in (says X) buf) × (d ≡ buffer_in (says X) buf)
    unfolding pick
    all_put own rest d o h e =
        let z : 0 + length X ≡ length X = omega arith in
        let k : 0 + length X ≤ length buf = omega arith in
        let f : take len own ≡ X = ap (take len) o ∙ take_at X rest len (sym long) in
        rw (le-ltb (length buf) (length X) (omega arith))
        (ap Ok long, e ∙ ap (put buf 0) f ∙ put_room buf 0 X k ∙ sets-eq X buf 0 k ∙ ap (λ (m : ℕ). X ++ drop m buf) z)
