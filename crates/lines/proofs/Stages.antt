-- The reader's two stages: the head of a line, then what R's mask says that there is. Assumes nothing.
use Rattle.std.specs.Prelude.{Result, Ok, Err, IsErrAnd}
use Prim.Native.Nat.{ℕ, ◌+◌, ◌-◌, ◌≤◌, ◌<◌}
use mathlib.Core.Path.{◌≡◌, refl, sym, ◌∙◌}
use mathlib.Core.List.{List, []}
use mathlib.Core.Bool.{Bool, true, false, not}
use native.Mathlib.Omega.{arith}
use lib.Dec.{eqb}
use lib.ListN.{length, get_or, take, drop, length-drop}
use lib.Seq.{get_or-take, take_all}
use borrow.Author.Tests.{eq-eqb, ne_eqb, eqb-true, leb-true, not-true, not-false}
use Rattle.units.specs.declared.refusal.Refusal.{Refusal}
use Rattle.units.specs.declared.refusal.Refusal.TheVariants.{Fields}
use Rattle.units.specs.Refusal.{Verdict}
use Rattle.units.specs.declared.settings.Group.{Group}
use Rattle.units.specs.Pick.{pick}
use Rattle.fields.specs.Text.{fields_of, later_fields, first_field}
use Rattle.fields.proofs.Cases.{by_test, absurd_by}
use Rattle.fields.proofs.Texts.{cursor_more}
use Rattle.lines.specs.declared.kind.Kind.{Kind}
use Rattle.lines.specs.Table.{letter_of, count_of}
use Rattle.lines.specs.Reading.{Got, values, stop, limit_after, read_all, enough, read_rest, read_values}
use Rattle.lines.specs.Walk.{Here, got_of, Walked, Filled}
use Rattle.lines.proofs.Rows.{count_same}

pub enough_heads : (k : Kind) (s : Group) (n : ℕ) → enough k s n ≡ true → count_of k s 0 ≤ n
unfolding pick
enough_heads k s n =
    by_test (eqb (letter_of k) 82) (λ t. rw t (λ e. leb-true (count_of k s 0) n e)) (λ t. rw t (λ e. let q = eqb-true n (count_of k s 0) e in omega arith))

filled_stop : {k : Kind} {s : Group} {text w : List ℕ} {all : Got} {why : Refusal} → length w ≡ 34 → stop why ≡ all → Filled k s text w all (Err why)
filled_stop l e = record { got = e; rest = λ z. absurd_by (cc); long = l }

-- `read_rest`
total_is : (k : Kind) (s : Group) (v : List ℕ) (heads : ℕ) → heads ≡ count_of k s 0 → count_of k s (get_or v 2 0) ≡ count_of k s (get_or (take heads v) 2 0)
total_is k s v heads he = count_same k s _ _ (λ l. sym (get_or-take heads v 2 0 (omega arith)))

module _ {k : Kind} {s : Group} {text v : List ℕ} {fields heads total : ℕ} (fe : fields ≡ length (later_fields text)) (he : heads ≡ count_of k s 0) (te : total ≡ count_of k s (get_or v 2 0)) where
  pub rest_few : (fields ≡ total → ⊥) → length v ≡ 34 → Filled k s text v (read_rest k s (later_fields text) (values (take heads v))) (Err Fields)
  unfolding pick
  rest_few d l = filled_stop l (sym (rw (← total_is k s v heads he, ← te, ne_eqb (length (later_fields text)) total (λ q. d (fe ∙ q)))))

  module _ (q : fields ≡ total) {w : List ℕ} {r : Result ℕ Refusal} (d : Walked k s text v w heads total r) where
    counted : length (later_fields text) ≡ total
    counted = sym fe ∙ q

    rest_got : got_of r (take (length (later_fields text)) w) ≡ read_rest k s (later_fields text) (values (take heads v))
    unfolding pick
    rest_got =
        let l : length (drop heads (later_fields text)) ≤ total - heads = let a = length-drop heads (later_fields text) in let n = counted in omega arith in
        rw (← total_is k s v heads he, ← te, eq-eqb (length (later_fields text)) total counted, counted, ← he) (d.got ∙ rw (take_all (total - heads) (drop heads (later_fields text)) l))

    pub rest_walked : {at : ℕ} → r ≡ Ok at → Filled k s text w (read_rest k s (later_fields text) (values (take heads v))) (Ok tt)
    rest_walked {at} e = record { got = rw e at rest_got; rest = λ z. rw counted (d.rest at e); long = d.long }

    pub rest_stop : {why : Refusal} {g : Verdict} → r ≡ Err why → IsErrAnd g (λ y. y ≡ why) → Filled k s text w (read_rest k s (later_fields text) (values (take heads v))) g
    rest_stop {g = Ok y} e f = absurd f
    rest_stop {g = Err y} e f = rw f (filled_stop d.long (rw e at rest_got))

-- `read_values`
module _ {k : Kind} {s : Group} {text : List ℕ} {fields : ℕ} {b : Bool} (fe : fields ≡ length (later_fields text)) (be : b ≡ enough k s fields) where
  pub values_few : {v : List ℕ} → not b ≡ true → length v ≡ 34 → Filled k s text v (read_values k s (later_fields text)) (Err Fields)
  unfolding read_values pick
  values_few t l = filled_stop l (sym (rw (← fe, ← be, not-true b t)))

  module _ (t : not b ≡ false) {heads : ℕ} (he : heads ≡ count_of k s 0) {v w : List ℕ} {r : Result ℕ Refusal} (d : Walked k s text v w 0 heads r) where
    head_got : got_of r (take heads w) ≡ read_all (limit_after k s) [] (take (count_of k s 0) (later_fields text))
    head_got = let q : heads - 0 ≡ count_of k s 0 = omega arith in d.got ∙ rw q

    after_got : (g : Got) → g ≡ got_of r (take heads w) → read_rest k s (later_fields text) g ≡ read_values k s (later_fields text)
    unfolding read_values pick
    after_got g e = rw (← fe, ← be, not-false b t, ← head_got, e)

    pub values_rest : {x : List ℕ} {a : Verdict} {at : ℕ} → r ≡ Ok at → Filled k s text x (read_rest k s (later_fields text) (values (take heads w))) a → Filled k s text x (read_values k s (later_fields text)) a
    values_rest e f = record { got = f.got ∙ after_got (values (take heads w)) (rw e); rest = f.rest; long = f.long }

    pub values_stop : {why : Refusal} {g : Verdict} → r ≡ Err why → IsErrAnd g (λ y. y ≡ why) → Filled k s text w (read_values k s (later_fields text)) g
    values_stop {g = Ok y} e f = absurd f
    values_stop {why} {g = Err y} e f = rw f (filled_stop d.long (after_got (stop why) (rw e)))

-- THE FIRST FIELD of one byte: the next starts at place 2
pub here_start : (text : List ℕ) → length (first_field text) ≡ 1 → Here text 2 0
here_start text e h =
    let q : 0 + 1 < length (fields_of text) = omega arith in
    let z : 0 + length (first_field text) + 1 ≡ 2 = omega arith in
    rw (← z) (cursor_more text 0 0 refl q)
