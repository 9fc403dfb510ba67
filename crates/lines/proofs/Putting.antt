-- What the functions need that put a line into a buffer. Assumes nothing.
use Rattle.std.specs.Prelude.{Err, Ok}
use Prim.Native.Nat.{ℕ, zero, suc, ◌+◌, ◌*◌, ◌≤◌, ◌<◌}
use mathlib.Core.Path.{◌≡◌, refl, sym, ap, ◌∙◌}
use mathlib.Core.Bool.{Bool, true, false, not}
use lib.Dec.{leb}
use mathlib.Core.List.{List, [], ◌∷◌, ◌++◌, append-nil}
use native.Mathlib.Omega.{arith}
use native.Mathlib.Numerals.{add-one}
use lib.ListN.{length, get_or, drop, set, length-append, length-set}
use lib.Seq.{sets, sets-eq}
use borrow.Author.Tests.{lt-ltb, le-ltb, le-leb, leb-true, leb-false, not-true, not-false}
use Rattle.units.specs.declared.refusal.Refusal.TheVariants.{Room}
use Rattle.units.specs.Pick.{pick}
use Rattle.fields.specs.declared.spelling.Spelling.{Spelling}
use Rattle.fields.specs.Field.{limit}
use Rattle.fields.specs.Put.{put, put_end, written}
use Rattle.fields.specs.Text.{tabbed}
use Rattle.fields.proofs.Cases.{by_lt}
use Rattle.fields.proofs.Puts.{sets_append, put_room, end_room, written_is, written_none}
use Rattle.fields.proofs.Spellings.{longest_short, spelled_short}
use Rattle.fields.proofs.Texts.{tabbed_append}
use Rattle.lines.specs.declared.kind.Kind.{Kind}
use Rattle.lines.specs.declared.table.Quantity.{Quantity}
use Rattle.lines.specs.Lists.{column}
use Rattle.lines.specs.Table.{letter_of, quantity_at, spelling_of}
use Rattle.lines.specs.Writing.{spelled_at, texts_to, line_of, answer_of, buffer_of}

pub written_short : (sp : Spelling) (n : ℕ) → length (written sp n) ≤ 16
written_short sp n =
    by_lt (limit sp) n (λ h. rw (written_none sp n h) (omega arith))
    (λ h. rw (written_is sp n h) (let a = spelled_short sp n h in let b = longest_short sp in omega arith))

-- ONE NUMBER MORE
module _ (kind : Kind) (v : List ℕ) where
  texts_more : (k : ℕ) → tabbed (texts_to kind v (k + 1)) ≡ tabbed (texts_to kind v k) ++ (9 ∷ spelled_at kind v k)
  unfolding column tabbed
  texts_more k = rw (add-one k) (tabbed_append (texts_to kind v k) (spelled_at kind v k ∷ []) ∙ rw (append-nil (spelled_at kind v k)))

  texts_longer : (k : ℕ) → length (tabbed (texts_to kind v (k + 1))) ≡ length (tabbed (texts_to kind v k)) + (1 + length (spelled_at kind v k))
  texts_longer k = ap length (texts_more k) ∙ length-append (tabbed (texts_to kind v k)) (9 ∷ spelled_at kind v k) ∙ omega arith

  texts_room : (k n : ℕ) → k < n → length (tabbed (texts_to kind v k)) + (1 + length (spelled_at kind v k)) ≤ length (tabbed (texts_to kind v n))
  texts_room k zero h = absurd (omega arith)
  texts_room k (suc n) h =
      let a : length (tabbed (texts_to kind v (suc n))) ≡ length (tabbed (texts_to kind v n)) + (1 + length (spelled_at kind v n)) = rw (← add-one n) (texts_longer n) in
      by_lt k n (λ l. let r = texts_room k n l in omega arith) (λ l. let q : k ≡ n = omega arith in rw q (omega arith))

  texts_none : length (tabbed (texts_to kind v 0)) ≡ 0
  unfolding column tabbed
  texts_none = refl

  pub texts_short : (n : ℕ) → length (tabbed (texts_to kind v n)) ≤ 17 * n
  texts_short zero = let e = texts_none in omega arith
  texts_short (suc n) =
      let a : length (tabbed (texts_to kind v (suc n))) ≡ length (tabbed (texts_to kind v n)) + (1 + length (spelled_at kind v n)) = rw (← add-one n) (texts_longer n) in
      let b = written_short (spelling_of (quantity_at kind n)) (get_or v n 0) in
      let r = texts_short n in omega arith

  module _ (k : ℕ) (q : Quantity) (sp : Spelling) (qe : q ≡ quantity_at kind k) (se : sp ≡ spelling_of q) where
    spelled_now : written sp (get_or v k 0) ≡ spelled_at kind v k
    spelled_now = rw (se, qe)

    pub width_more : (sum w : ℕ) → sum ≡ length (tabbed (texts_to kind v k)) → w ≡ length (written sp (get_or v k 0)) → sum + (1 + w) ≡ length (tabbed (texts_to kind v (k + 1)))
    width_more sum w e h = let a = texts_longer k in let b : w ≡ length (spelled_at kind v k) = h ∙ ap length spelled_now in omega arith

    pub width_short : (w : ℕ) → w ≡ length (written sp (get_or v k 0)) → w ≤ 16
    width_short w h = let a = written_short sp (get_or v k 0) in omega arith

    module _ (n : ℕ) (l b : List ℕ) (at : ℕ) (kn : k < n) (room : 1 + length (tabbed (texts_to kind v n)) ≤ length l) (le : length b ≡ length l)
        (ae : at ≡ 1 + length (tabbed (texts_to kind v k))) where
      pub tab_room : at < length b
      tab_room = let a = texts_room k n kn in omega arith

      number_room : at + 1 + length (spelled_at kind v k) ≤ length (set b at 9)
      number_room = let a = texts_room k n kn in let x = length-set b at 9 in omega arith

      pub end_more : (e : ℕ) → e ≡ put_end (set b at 9) (at + 1) (written sp (get_or v k 0)) → e ≡ 1 + length (tabbed (texts_to kind v (k + 1)))
      end_more e h = h ∙ rw (spelled_now, end_room (set b at 9) (at + 1) (spelled_at kind v k) number_room) (let a = texts_longer k in omega arith)

      pub put_more : (d : List ℕ) → b ≡ sets l 1 (tabbed (texts_to kind v k)) → d ≡ put (set b at 9) (at + 1) (written sp (get_or v k 0))
          → d ≡ sets l 1 (tabbed (texts_to kind v (k + 1)))
      put_more d be h =
          let T = tabbed (texts_to kind v k) in
          h ∙ rw (spelled_now, put_room (set b at 9) (at + 1) (spelled_at kind v k) number_room, texts_more k, add-one at, ae, be)
          (sets_append T (9 ∷ spelled_at kind v k) l 1)

-- THE WHOLE LINE
module _ (kind : Kind) (v : List ℕ) where
  line_is : line_of kind v ≡ letter_of kind ∷ tabbed (texts_to kind v (length v)) ++ (10 ∷ [])
  unfolding line_of
  line_is = refl

  line_length : length (line_of kind v) ≡ 2 + length (tabbed (texts_to kind v (length v)))
  line_length = rw line_is (let a = length-append (tabbed (texts_to kind v (length v))) (10 ∷ []) in omega arith)

  module _ (len w : ℕ) (b : List ℕ) (le : len ≡ 2 + w) (we : w ≡ length (tabbed (texts_to kind v (length v)))) where
    len_is : len ≡ length (line_of kind v)
    len_is = let a = line_length in omega arith

    pub line_room : length b < len → (Err Room ≡ answer_of (line_of kind v) b) × (b ≡ buffer_of (line_of kind v) b)
    unfolding pick
    line_room s = let k : length b < length (line_of kind v) = let a = len_is in omega arith in rw (lt-ltb (length b) (length (line_of kind v)) k) (refl, refl)

    module _ (s : len ≤ length b) where
      enough : length (line_of kind v) ≤ length b
      enough = let a = len_is in omega arith

      pub line_answer_lem : Ok len ≡ answer_of (line_of kind v) b
      unfolding pick
      line_answer_lem = rw (le-ltb (length b) (length (line_of kind v)) enough) (ap Ok len_is)

      pub numbers_room : (c : ℕ) → 1 + length (tabbed (texts_to kind v (length v))) ≤ length (set b 0 c)
      numbers_room c = let a = length-set b 0 c in omega arith

      pub line_put : (c e : ℕ) (d : List ℕ) → c ≡ letter_of kind → e ≡ 1 + length (tabbed (texts_to kind v (length v))) → d ≡ sets (set b 0 c) 1 (tabbed (texts_to kind v (length v)))
          → set d e 10 ≡ buffer_of (line_of kind v) b
      unfolding pick
      line_put c e d ce ee de =
          let T = tabbed (texts_to kind v (length v)) in
          let k : 0 + length (letter_of kind ∷ T ++ (10 ∷ [])) ≤ length b = let a = ap {B = ℕ} length line_is in let g = enough in omega arith in
          rw (le-ltb (length b) (length (line_of kind v)) enough, line_is, de, ee, ce)
          (sets_append T (10 ∷ []) (set b 0 (letter_of kind)) 1 ∙ sets-eq (letter_of kind ∷ T ++ (10 ∷ [])) b 0 k
          ∙ (let z : 0 + length (letter_of kind ∷ T ++ (10 ∷ [])) ≡ length (letter_of kind ∷ T ++ (10 ∷ [])) = omega arith in ap (λ (m : ℕ). (letter_of kind ∷ T ++ (10 ∷ [])) ++ drop m b) z))

      pub feed_room : (c e : ℕ) (d : List ℕ) → e ≡ 1 + length (tabbed (texts_to kind v (length v))) → length d ≡ length (set b 0 c) → e < length d
      feed_room c e d ee de = let a = length-set b 0 c in omega arith

-- `is_enough_for`
pub room_sure : (kind : Kind) (v : List ℕ) (n len : ℕ) → 2 + 17 * n ≤ len → true ≡ leb (2 + length (tabbed (texts_to kind v n))) len
room_sure kind v n len h = sym (le-leb (2 + length (tabbed (texts_to kind v n))) len (let a = texts_short kind v n in omega arith))

pub room_counted : (kind : Kind) (v : List ℕ) (n len w : ℕ) → w ≡ length (tabbed (texts_to kind v n)) → leb (2 + w) len ≡ leb (2 + length (tabbed (texts_to kind v n))) len
room_counted kind v n len w e = rw e

pub room_not : (b : Bool) (m len : ℕ) → b ≡ leb m len → not b ≡ true → len < m
room_not b m len e t = leb-false m len (sym e ∙ not-true b t)

pub room_yes : (b : Bool) (m len : ℕ) → b ≡ leb m len → not b ≡ false → m ≤ len
room_yes b m len e t = leb-true m len (sym e ∙ not-false b t)
