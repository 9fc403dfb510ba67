-- A line of an export: read from place to place as by its fields, and the steps of the functions that read it. Assumes nothing.
use Prim.Native.Nat.{ℕ, ◌+◌, ◌≤◌, ◌<◌}
use mathlib.Core.Path.{◌≡◌, refl, sym, ap, ◌∙◌}
use mathlib.Core.List.{List, []}
use mathlib.Core.Bool.{true}
use native.Mathlib.Omega.{arith}
use lib.ListN.{length, get_or, take, drop}
use lib.Dec.{eqb}
use borrow.Author.Tests.{eq-eqb, ne_eqb, le-leb, lt-leb}
use Rattle.units.specs.declared.refusal.Refusal.TheVariants.{Long, Unended, Fields, Form as NoForm}
use Rattle.units.specs.Limits.{factor_low, factor_top}
use Rattle.std.proofs.Common.{Some, None, Option, Result}
use Rattle.units.specs.Pick.{pick}
use Rattle.fields.specs.declared.field.Fault.{Fault}
use Rattle.fields.specs.declared.field.Field.{Field}
use Rattle.fields.specs.declared.spelling.Spelling.TheVariants.{Factor}
use Rattle.fields.specs.declared.text.Scan.{Scan}
use Rattle.fields.specs.Certificate.{is_certificate}
use Rattle.fields.specs.Day.{date_fits, day_judged, day_in}
use Rattle.fields.specs.Field.{fits, judge, read_field, read_at}
use Rattle.fields.specs.Text.{until, fields_of, field_at, next_at, scanned, tabs_in}
use Rattle.fields.proofs.Cases.{by_test}
use Rattle.fields.proofs.Texts.{cursor_field, cursor_more, until_take, fields_count}
use Rattle.lines.specs.Settling.{certificate_of}
use Rattle.store.specs.Row.{Entry, name_in, bad_row, good_row, after_field, row_in, row_text, row_of, rest_at, row_at}

-- what the last two of four fields lead to, and the last of them
abbrev pub last_in : List (List ℕ) → ℕ → Result Field Fault → Entry
last_in fs day = after_field (λ factor next. good_row (certificate_of (get_or fs 0 [])) day (certificate_of (get_or fs 2 [])) factor)

abbrev pub rest_in : List (List ℕ) → ℕ → Entry
rest_in fs day = pick (is_certificate (get_or fs 2 [])) (last_in fs day (read_field Factor factor_low factor_top 0 (get_or fs 3 []))) (bad_row NoForm)

-- BY FIELDS AND FROM PLACE TO PLACE: where the next field starts makes no difference to what a field leads to
dated_after : (go gone : ℕ → ℕ → Entry) (a b : ℕ) (d : Option ℕ) → ((n : ℕ) → go n a ≡ gone n b) → after_field go (day_judged a d) ≡ after_field gone (day_judged b d)
unfolding day_judged
dated_after go gone a b (Some n) h = by_test (date_fits n) (λ t. rw t (h n)) (λ t. rw t)
dated_after go gone a b None h = refl

day_after : (go gone : ℕ → ℕ → Entry) (a b : ℕ) (cs : List ℕ) → ((n : ℕ) → go n a ≡ gone n b) → after_field go (day_in a cs) ≡ after_field gone (day_in b cs)
unfolding day_in
day_after go gone a b cs h = dated_after go gone a b _ h

judged_after : (go : ℕ → Entry) (low high a b : ℕ) (d : Option ℕ) → after_field (λ n next. go n) (judge Factor low high a d) ≡ after_field (λ n next. go n) (judge Factor low high b d)
unfolding judge
judged_after go low high a b (Some n) = by_test (fits Factor low high n) (λ t. rw t) (λ t. rw t)
judged_after go low high a b None = refl

factor_after : (go : ℕ → Entry) (low high a b : ℕ) (cs : List ℕ) → after_field (λ n next. go n) (read_field Factor low high a cs) ≡ after_field (λ n next. go n) (read_field Factor low high b cs)
unfolding read_field
factor_after go low high a b cs = judged_after go low high a b _

module _ (text : List ℕ) (four : length (fields_of text) ≡ 4) where
  abbrev p1 : ℕ
  p1 = next_at text 0

  abbrev p2 : ℕ
  p2 = next_at text p1

  abbrev p3 : ℕ
  p3 = next_at text p2

  -- the fields from each place are those that are left
  c0 : fields_of (drop 0 text) ≡ drop 0 (fields_of text)
  c0 = refl

  c1 : fields_of (drop p1 text) ≡ drop 1 (fields_of text)
  c1 = cursor_more text 0 0 c0 (omega arith)

  c2 : fields_of (drop p2 text) ≡ drop 2 (fields_of text)
  c2 = cursor_more text p1 1 c1 (omega arith)

  c3 : fields_of (drop p3 text) ≡ drop 3 (fields_of text)
  c3 = cursor_more text p2 2 c2 (omega arith)

  rest_same : (day : ℕ) → rest_at text (certificate_of (field_at text 0)) day p2 ≡ rest_in (fields_of text) day
  unfolding rest_at name_in read_at pick
  rest_same day =
      rw (← cursor_field text p2 2 c2, ← cursor_field text p3 3 c3)
      (by_test (is_certificate (field_at text p2))
      (λ t. rw t (factor_after (λ factor. good_row (certificate_of (field_at text 0)) day (certificate_of (field_at text p2)) factor) factor_low factor_top (next_at text p3) 0 (field_at text p3)))
      (λ t. rw t))

  -- from place to place it is what the four fields are
  pub row_same : row_at text ≡ row_in (fields_of text)
  unfolding row_at row_in name_in pick
  row_same =
      rw (← cursor_field text p1 1 c1)
      (by_test (is_certificate (field_at text 0))
      (λ t. rw t (day_after (rest_at text (certificate_of (field_at text 0))) (λ day next. rest_in (fields_of text) day) p2 0 (field_at text p1) rest_same))
      (λ t. rw t))

-- `row_of`: too long, not ended, not four fields, or what they are
module _ (line : List ℕ) (r : Entry) where
  pub line_over : 600 < length line → r ≡ bad_row Long → r ≡ row_of line
  unfolding row_of pick
  line_over h e = rw (lt-leb (length line) 600 h) e

  module _ (l : length line ≤ 600) (c : Scan) (ce : c ≡ scanned line) where
    feed_is : c.feed ≡ length (until 10 line)
    unfolding scanned
    feed_is = rw ce

    tabs_are : c.tabs ≡ tabs_in (until 10 line)
    unfolding scanned
    tabs_are = rw ce

    pub line_open : (c.feed + 1 ≡ length line → ⊥) → r ≡ bad_row Unended → r ≡ row_of line
    unfolding row_of pick
    line_open d e = rw (le-leb (length line) 600 l, ← feed_is, ne_eqb (c.feed + 1) (length line) d) e

    module _ (d : c.feed + 1 ≡ length line) where
      is_ended_lem : eqb (length (until 10 line) + 1) (length line) ≡ true
      is_ended_lem = eq-eqb (length (until 10 line) + 1) (length line) (ap (λ (n : ℕ). n + 1) (sym feed_is) ∙ d)

      pub line_fields : (c.tabs ≡ 3 → ⊥) → r ≡ bad_row Fields → r ≡ row_of line
      unfolding row_of row_text pick
      line_fields n e =
          let k = fields_count (until 10 line) in
          let t = tabs_are in
          rw (le-leb (length line) 600 l, is_ended_lem, ne_eqb (length (fields_of (until 10 line))) 4 (λ z. n (omega arith))) e

      pub line_row : c.tabs ≡ 3 → r ≡ row_at (take c.feed line) → r ≡ row_of line
      unfolding row_of row_text pick
      line_row n e =
          let k = fields_count (until 10 line) in
          let t = tabs_are in
          let q : length (fields_of (until 10 line)) ≡ 4 = omega arith in
          rw (le-leb (length line) 600 l, is_ended_lem, eq-eqb (length (fields_of (until 10 line))) 4 q)
          (e ∙ ap row_at (ap (λ (n : ℕ). take n line) feed_is ∙ until_take 10 line) ∙ row_same (until 10 line) q)
