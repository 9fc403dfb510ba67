-- What the functions need that read a line straight on: one number more, and the whole line. Assumes nothing.
use Rattle.std.specs.Prelude.{Option, Some, None, Result, Ok, Err}
use Rattle.std.specs.Result.{result_ok}
use Prim.Native.Nat.{ℕ, suc, ◌+◌, ◌≤◌, ◌<◌}
use mathlib.Core.Path.{◌≡◌, refl, sym, ap, ◌∙◌}
use mathlib.Core.List.{List, [], ◌∷◌, ◌++◌, append-nil}
use mathlib.Core.Bool.{Bool, true}
use native.Mathlib.Omega.{arith}
use native.Mathlib.Numerals.{add-one}
use lib.Dec.{eqb}
use lib.ListN.{length, get_or, take, drop, set, length-set, take-append-drop, drop_of_length-le}
use lib.Seq.{drop-cons, take-add, take-append-add, take-append_seam, take-suc-set, length-take-le, get_or-set_other}
use borrow.Author.Tests.{eqb-true}
use Rattle.units.specs.declared.settings.Group.{Group}
use Rattle.units.specs.Settings.{group_fits}
use Rattle.message.specs.declared.value.Message.{Message}
use Rattle.fields.specs.declared.field.Fault.{Fault}
use Rattle.fields.specs.declared.field.Field.{Field}
use Rattle.fields.specs.declared.field.Fault.TheVariants.{Form}
use Rattle.fields.specs.declared.spelling.Spelling.TheVariants.{Decimal}
use Rattle.fields.specs.Field.{value, spelled, read_here}
use Rattle.fields.specs.Text.{until, starts, tabbed}
use Rattle.fields.proofs.Cases.{by_test, by_lt, absurd_by}
use Rattle.fields.proofs.Spellings.{field_read}
use Rattle.fields.proofs.Starts.{Stands, here_only}
use Rattle.fields.proofs.Texts.{until_append, tabbed_append}
use Rattle.lines.specs.declared.kind.Kind.{Kind}
use Rattle.lines.specs.declared.kind.Kind.TheVariants.{Reading}
use Rattle.lines.specs.declared.read.First.{First}
use Rattle.fields.specs.declared.spelling.Limit.{Limit}
use Rattle.lines.specs.Reading.{values, limit_after, read_all, first_of, first_line, read_line}
use Rattle.lines.specs.Straight.{Trod, AfterTab}
use Rattle.lines.specs.Table.{letter_of, kind_of, limit_of, limit_for, quantity_at, count_of}
use Rattle.lines.specs.Values.{message_of}
use Rattle.lines.specs.Walk.{Rest}
use Rattle.lines.specs.Writing.{line_of}
use Rattle.lines.proofs.Making.{message_same}
use Rattle.lines.proofs.Openings.{rest_same}
use Rattle.lines.proofs.Rows.{count_same}
use Rattle.lines.proofs.Spelled.{Fit, Read, spelled_all, read_only, read_join, spelling_is, texts_are}
use Rattle.lines.proofs.Walking.{limit_after_lem}
use Rattle.lines.proofs.Wire.{taken, text_of, letter_only, line_ends, line_back}

-- a byte that stands at a place
pub at_place : (text : List ℕ) (at b : ℕ) (t : Bool) → t ≡ starts b (drop at text) → t ≡ true → drop at text ≡ b ∷ drop (at + 1) text
unfolding starts
at_place text at b t e n =
    let q : starts b (drop at text) ≡ true = sym e ∙ n in
    by_lt at (length text)
    (λ h. let d = drop-cons text at 0 h in let z = rw d at q in d ∙ rw (eqb-true (get_or text at 0) b z, add-one at))
    (λ h. let z = rw (drop_of_length-le text {i = at} h) at q in absurd_by (cc))

-- THE START
pub trod_start : (kind : Kind) (s : Group) (input v : List ℕ) → 0 < length input → length v ≡ 34 → Rest v 0 → Trod kind s input v 0 1
unfolding read_all tabbed
trod_start kind s [] v h l r = absurd (omega arith)
trod_start kind s (c ∷ cs) v h l r = record { texts = []; passed = refl; got = refl; inside = omega arith; few = omega arith; long = l; rest = r }

-- ONE NUMBER MORE
module _ (kind : Kind) (s : Group) (input v : List ℕ) (k at : ℕ) (w : Trod kind s input v k at) (kt : k < 34) (l : Limit) (limit_is : l ≡ limit_after kind s (take k v))
    (n next : ℕ) (tab : drop at input ≡ 9 ∷ drop (at + 1) input) (e : read_here input (at + 1) l.spelling l.low l.high ≡ value n next) where
  here : Stands input (at + 1) l.spelling l.low l.high n next
  here = here_only input (at + 1) l.spelling l.low l.high n next e

  now_passed : take next input ≡ take at input ++ (9 ∷ spelled l.spelling n)
  now_passed =
      let f = spelled l.spelling n in
      let z : next ≡ at + suc (length f) = let b = here.after in omega arith in
      ap (λ (m : ℕ). take m input) z ∙ take-add at (suc (length f)) input ∙ rw (tab, here.bytes, take-append_seam f (drop next input))

  read_more : read_all (limit_after kind s) [] (w.texts ++ (spelled l.spelling n ∷ [])) ≡ values (take k v ++ (n ∷ []))
  unfolding read_all
  read_more =
      read_join (limit_after kind s) [] (take k v) w.texts (spelled l.spelling n ∷ []) w.got
      ∙ rw (← limit_is, field_read l.spelling l.low l.high 0 n here.inside)

  trod_more : Trod kind s input (set v k n) (k + 1) next
  unfolding tabbed
  trod_more =
      let c = w.long in
      let m : k < length v = omega arith in
      let t : take (k + 1) (set v k n) ≡ take k v ++ (n ∷ []) = rw (add-one k) (take-suc-set v k n m) in
      record {
        texts = w.texts ++ (spelled l.spelling n ∷ []);
        passed = now_passed ∙ rw (w.passed, tabbed_append w.texts (spelled l.spelling n ∷ []), append-nil (spelled l.spelling n));
        got = read_more ∙ ap values (sym t);
        inside = here.within;
        few = omega arith;
        long = length-set v k n ∙ w.long;
        rest = λ i h. get_or-set_other v k i n 0 (λ z. absurd (omega arith)) ∙ w.rest i (omega arith);
      }

-- THE WHOLE LINE
module _ {kind : Kind} {s : Group} {input v : List ℕ} {k at : ℕ} (w : Trod kind s input v k at) (ke : k ≡ count_of kind s (get_or v 2 0)) (gr : group_fits s ≡ true)
    (known : kind_of (get_or input 0 0) ≡ Some kind) (feed : drop at input ≡ 10 ∷ drop (at + 1) input) where
  letter : get_or input 0 0 ≡ letter_of kind
  letter = letter_only (get_or input 0 0) kind known

  read : Read (limit_after kind s) [] (take k v) w.texts
  read = read_only (limit_after kind s) [] w.texts (take k v) w.got

  same : (i : ℕ) → get_or v i 0 ≡ get_or (take k v) i 0
  same i = rest_same v k w.rest i

  fit : Fit kind s (take k v)
  fit = record {
    counted = length-take-le k v (let a = w.few in let b = w.long in omega arith) ∙ ke ∙ ap (count_of kind s) (same 2);
    inside = rw (← read.joined) at read.fit;
  }

  text_is : take at input ≡ text_of kind (take k v)
  text_is = w.passed ∙ rw (letter, read.spelt ∙ ap (spelled_all (limit_after kind s) []) (sym read.joined) ∙ texts_are kind s (take k v) fit.inside)

  input_is : input ≡ text_of kind (take k v) ++ (10 ∷ drop (at + 1) input)
  input_is = sym (take-append-drop at input) ∙ rw (text_is, feed)

  until_is : until 10 input ≡ text_of kind (take k v)
  unfolding until
  until_is = ap (until 10) input_is ∙ until_append 10 (text_of kind (take k v)) (10 ∷ drop (at + 1) input) (line_ends kind (take k v)).1 ∙ append-nil (text_of kind (take k v))

  pub feed_is : at ≡ length (until 10 input)
  feed_is = sym (length-take-le at input w.inside) ∙ ap length (text_is ∙ sym until_is)

  line_is : first_of input ≡ line_of kind (take k v)
  line_is = rw until_is (ap (take (length (text_of kind (take k v)) + 1)) input_is ∙ take-append-add (text_of kind (take k v)) (10 ∷ drop (at + 1) input) 1 ∙ sym (line_ends kind (take k v)).0)

  pub straight_line : {m : Message} → m ≡ message_of s kind v → ◌≡◌ {A = First} (record { line = record { verdict = Ok tt; message = m }; feed = at }) (first_line s input)
  unfolding first_line
  straight_line {m} me =
      let r : read_line s (first_of input) ≡ taken (message_of s kind (take k v)) = ap (read_line s) line_is ∙ line_back kind s (take k v) gr (rw letter at known) fit in
      let z : m ≡ message_of s kind (take k v) = me ∙ message_same s kind v (take k v) same in
      rw (r, z, ← feed_is)

-- a field goes on by `ok()?`
pub field_on : {r : Result Field Fault} {o : Option Field} {f : Field} → o ≡ result_ok r → o ≡ Some f → r ≡ Ok f
field_on {r = Ok g} p e = cc
field_on {r = Err why} p e = absurd_by (cc)

-- `go_on`
abbrev pub Treading : Kind → Group → List ℕ → List ℕ → ℕ → List ℕ → ℕ → ℕ → Type 0
Treading kind s input v₀ from v at k = Trod kind s input v k at × ((i : ℕ) → i < from → get_or v i 0 ≡ get_or v₀ i 0)

-- what it gives: all numbers up to a place, where it gives the place after them; those before the first stay
abbrev pub Came : Kind → Group → List ℕ → List ℕ → ℕ → ℕ → List ℕ → Option ℕ → Type 0
Came kind s input v₀ from to v end = ((at : ℕ) → end ≡ Some at → Trod kind s input v to at) × ((i : ℕ) → i < from → get_or v i 0 ≡ get_or v₀ i 0)

pub tread_stop : {kind : Kind} {s : Group} {input : List ℕ} (v₀ : List ℕ) (from : ℕ) {to : ℕ} {v : List ℕ} {at k : ℕ} → Treading kind s input v₀ from v at k → Came kind s input v₀ from to v None
tread_stop v₀ from w = (λ x e. absurd_by (cc), w.1)

pub tread_end : {kind : Kind} {s : Group} {input : List ℕ} (v₀ : List ℕ) (from : ℕ) {to : ℕ} {v : List ℕ} {at k : ℕ} → Treading kind s input v₀ from v at k → k ≤ to → to ≤ k → Came kind s input v₀ from to v (Some at)
tread_end v₀ from {to} {v} {at} {k} w b h = let q : k ≡ to = omega arith in (λ x e. let z : at ≡ x = cc in rw (q, z) at w.0, w.1)

pub tread_more : {kind : Kind} {s : Group} {input : List ℕ} (v₀ : List ℕ) (from : ℕ) {v : List ℕ} {at k : ℕ} → Treading kind s input v₀ from v at k → from ≤ k → k < 34
    → {t : Bool} → t ≡ starts 9 (drop at input) → t ≡ true → {label : ℕ} {l : Limit} {g : Result Field Fault} → label ≡ get_or (take k v) 1 0 → l ≡ limit_of kind k s label
    → g ≡ read_here input (at + 1) l.spelling l.low l.high → {n next : ℕ} → g ≡ value n next → Treading kind s input v₀ from (set v k n) next (k + 1)
tread_more {kind} {s} {input} v₀ from {v} {at} {k} w h b {t} te tn {label} {l} {g} le be ge {n} {next} e = (
  trod_more kind s input v k at w.0 b l (limit_after_lem kind s v k label l w.0.few w.0.long le be) n next (at_place input at 9 t te tn) (sym ge ∙ e),
  λ i j. get_or-set_other v k i n 0 (λ z. absurd (omega arith)) ∙ w.1 i j,
)

-- `numbers_in`
pub all_total : {kind : Kind} {s : Group} {input : List ℕ} (v : List ℕ) {heads total : ℕ} → total ≡ count_of kind s (get_or v 2 0) → heads ≡ count_of kind s 0
    → {x : List ℕ} {end : ℕ} → ((i : ℕ) → i < heads → get_or x i 0 ≡ get_or v i 0) → Trod kind s input x total end → Trod kind s input x (count_of kind s (get_or x 2 0)) end
all_total {kind} {s} v te he {x} kept w = rw (← count_same kind s (get_or v 2 0) (get_or x 2 0) (λ l. sym (kept 2 (omega arith))), ← te) w

-- `after_tab`
pub after_none : (input : List ℕ) (at : ℕ) (l : Limit) → AfterTab input at l (Err Form)
after_none input at l n next e = absurd_by (cc)

pub after_some : (input : List ℕ) (at : ℕ) (l : Limit) (t : Bool) → l.spelling ≡ Decimal → t ≡ starts 9 (drop at input) → t ≡ true → (g : Result Field Fault) → g ≡ read_here input (at + 1) Decimal l.low l.high → AfterTab input at l g
after_some input at l t d te tn g ge n next e = (at_place input at 9 t te tn, rw d (sym ge ∙ e))

-- `reading_in`: M's numbers are decimal
pub reading_decimal : (s : Group) (n given : ℕ) (l : Limit) → l ≡ limit_for (quantity_at Reading n) s given → l.spelling ≡ Decimal
unfolding quantity_at
reading_decimal s n given l e =
    ap (λ (x : Limit). x.spelling) e
    ∙ spelling_is (quantity_at Reading n) s given
    ∙ by_test (eqb n 0) (λ a. rw a) (λ a. by_test (eqb n 1) (λ b. rw (a, b)) (λ b. by_test (eqb n 2) (λ c. rw (a, b, c)) (λ c. rw (a, b, c))))

pub trod_after : {kind : Kind} {s : Group} {input v : List ℕ} {k at : ℕ} → Trod kind s input v k at → k < 34 → {l : Limit} → l ≡ limit_after kind s (take k v) → {g : Result Field Fault} → AfterTab input at l g
    → {n next : ℕ} → g ≡ value n next → Trod kind s input (set v k n) (k + 1) next
trod_after w h li a {n} {next} e = let p = a n next e in trod_more _ _ _ _ _ _ w h _ li n next p.0 p.1

pub at_inside : (text : List ℕ) (at b : ℕ) (t : Bool) → t ≡ starts b (drop at text) → t ≡ true → at < length text
at_inside text at b t e n = by_lt at (length text) (λ h. h) (λ h. let z = sym (drop_of_length-le text {i = at} h) ∙ at_place text at b t e n in absurd_by (cc))

pub reading_three : (s : Group) (mask : ℕ) → 3 ≡ count_of Reading s mask
unfolding count_of
reading_three s mask = refl
