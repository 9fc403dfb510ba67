-- A LINE OF AN EXPORT is refused exactly when the clause of its refusal holds and none before it; and a bad line of an export is told exactly when it is the first. Assumes nothing.
use Prim.Native.Nat.{ℕ, ◌+◌, ◌≤◌, ◌<◌}
use mathlib.Core.Path.{◌≡◌, refl, sym, ap, subst, ◌∙◌}
use mathlib.Core.Bool.{true}
use mathlib.Core.List.{List, []}
use lib.Dec.{eqb, leb}
use lib.ListN.{length, get_or}
use borrow.Author.Tests.{eq-eqb, ne_eqb, le-leb, lt-leb, leb-true, leb-false, eqb-true, eqb-false}
use Rattle.units.specs.declared.refusal.Refusal.{Refusal}
use Rattle.std.proofs.Common.{Result, Ok, Err, is_ok}
use Rattle.units.specs.Limits.{factor_low, factor_top}
use Rattle.units.specs.Pick.{pick}
use Rattle.fields.specs.declared.field.Field.{Field}
use Rattle.fields.specs.declared.field.Fault.{Fault}
use Rattle.fields.specs.declared.field.Fault.TheVariants.{Form, Range}
use Rattle.fields.specs.declared.spelling.Spelling.TheVariants.{Factor}
use Rattle.fields.specs.Certificate.{is_certificate}
use Rattle.fields.specs.Day.{day_in}
use Rattle.fields.specs.Field.{value, read_field}
use Rattle.fields.specs.Lines.{lines_of}
use Rattle.fields.specs.Text.{until, fields_of}
use Rattle.fields.proofs.Cases.{by_test, absurd_by}
use Rattle.fields.proofs.Dates.{day_only}
use Rattle.store.specs.declared.stored.Place.TheVariants.{Line}
use Rattle.store.specs.declared.stored.Serials.{Serials}
use Rattle.store.specs.Row.{Entry, after_field, row_in, row_text, row_of}
use Rattle.store.specs.Rows.{bad, rows_of}
use Rattle.store.specs.Says.{Four, field, RowRefused, long, unended, fields, serial, day_form, day_range, certificate, factor_form, factor_range, Says, line}
use Rattle.store.proofs.Reading.{last_in, rest_in}
use Rattle.store.proofs.Rows.{bad_exact}
use Rattle.store.specs.Stored.{refused}

-- a refusal that is the one given
told : {l : List ℕ} {w why : Refusal} → RowRefused l w → ◌≡◌ {A = Entry} (Err w) (Err why) → RowRefused l why
told {l} {w} {why} r e = let q : w ≡ why = cc in subst (RowRefused l) q r

-- A LINE OF FOUR FIELDS is what they are
four_verdict : (l : List ℕ) (fs : List (List ℕ)) → Four l fs → row_of l ≡ row_in fs
unfolding row_of row_text pick
four_verdict l fs f =
    rw (le-leb (length l) 600 f.short, f.ended, eq-eqb (length (fields_of (until 10 l))) 4 (ap {B = ℕ} (λ (x : List (List ℕ)). length x) f.fields ∙ f.four))
    (ap row_in f.fields)

module _ (l : List ℕ) (fs : List (List ℕ)) (f : Four l fs) (why : Refusal) (a : is_certificate (field fs 0) ≡ true) where
  module _ (day : ℕ) (d : day_in 0 (field fs 1) ≡ value day 0) where
    factor_refused : is_certificate (field fs 2) ≡ true → (x : Result Field Fault) → read_field Factor factor_low factor_top 0 (field fs 3) ≡ x → last_in fs day x ≡ Err why → RowRefused l why
    factor_refused b (Ok g) q e = absurd_by (cc)
    factor_refused b (Err Form) q e = told (factor_form day f a d b q) e
    factor_refused b (Err Range) q e = told (factor_range day f a d b q) e

    rest_refused : rest_in fs day ≡ Err why → RowRefused l why
    unfolding pick
    rest_refused = by_test (is_certificate (field fs 2)) (λ b. rw b (factor_refused b _ refl)) (λ b. rw b (told (certificate day f a d b)))

  day_refused : (x : Result Field Fault) → day_in 0 (field fs 1) ≡ x → after_field (λ day next. rest_in fs day) x ≡ Err why → RowRefused l why
  day_refused (Ok g) q e = rest_refused g.n (q ∙ ap (value g.n) (day_only 0 (field fs 1) g.n g.next q).2) e
  day_refused (Err Form) q e = told (day_form f a q) e
  day_refused (Err Range) q e = told (day_range f a q) e

fields_refused : (l : List ℕ) (fs : List (List ℕ)) → Four l fs → (why : Refusal) → row_in fs ≡ Err why → RowRefused l why
unfolding row_in pick
fields_refused l fs f why = by_test (is_certificate (field fs 0)) (λ a. rw a (day_refused l fs f why a _ refl)) (λ a. rw a (told (serial f a)))

-- WHY IT IS REFUSED
verdict_refused : (l : List ℕ) (why : Refusal) → row_of l ≡ Err why → RowRefused l why
unfolding row_of row_text pick
verdict_refused l why =
    by_test (leb (length l) 600)
    (λ a. rw a (by_test (eqb (length (until 10 l) + 1) (length l))
    (λ b. rw b (by_test (eqb (length (fields_of (until 10 l))) 4)
    (λ d. rw d (fields_refused l _ (record { short = leb-true (length l) 600 a; ended = b; fields = refl; four = eqb-true (length (fields_of (until 10 l))) 4 d }) why))
    (λ d. rw d (told (fields (leb-true (length l) 600 a) b (eqb-false (length (fields_of (until 10 l))) 4 d))))))
    (λ b. rw b (told (unended (leb-true (length l) 600 a) b)))))
    (λ a. rw a (told (long (leb-false (length l) 600 a))))

-- AND WHEN
refused_verdict : (l : List ℕ) {why : Refusal} → RowRefused l why → row_of l ≡ Err why
unfolding row_of row_text row_in pick
refused_verdict l (long h) = rw (lt-leb (length l) 600 h)
refused_verdict l (unended h e) = rw (le-leb (length l) 600 h, e)
refused_verdict l (fields h e n) = rw (le-leb (length l) 600 h, e, ne_eqb (length (fields_of (until 10 l))) 4 n)
refused_verdict l (serial {fs} f a) = four_verdict l fs f ∙ rw a
refused_verdict l (day_form {fs} f a d) = four_verdict l fs f ∙ rw (a, d)
refused_verdict l (day_range {fs} f a d) = four_verdict l fs f ∙ rw (a, d)
refused_verdict l (certificate {fs} day f a d b) = four_verdict l fs f ∙ rw (a, d, b)
refused_verdict l (factor_form {fs} day f a d b q) = four_verdict l fs f ∙ rw (a, d, b, q)
refused_verdict l (factor_range {fs} day f a d b q) = four_verdict l fs f ∙ rw (a, d, b, q)

-- THE LAW: a line is refused exactly when a clause of `RowRefused` says so
pub row_refusals : (l : List ℕ) (why : Refusal) → (row_of l ≡ Err why → RowRefused l why) × (RowRefused l why → row_of l ≡ Err why)
row_refusals l why = (verdict_refused l why, refused_verdict l)

-- OF AN EXPORT: what is told of a bad line is what `Says` has for it
pub line_says : (export day : List ℕ) (s : Serials) (buf : List ℕ) {why : Refusal} {n : ℕ} → length (lines_of export) ≤ 512 → rows_of export ≡ bad why n → Says export day s buf (refused why (Line n))
line_says export day s buf {why} {n} few e =
    let b = (bad_exact 1 (lines_of export) why n).0 e in
    let w = b.2 in
    subst (λ (k : ℕ). Says export day s buf (refused why (Line k))) (sym b.1) (line why b.0 few w.within w.earlier (verdict_refused _ why w.refused))

-- and a line that `Says` has is told
pub line_bad : (export : List ℕ) {why : Refusal} (i : ℕ) → i < length (lines_of export) → ((j : ℕ) → j < i → is_ok (row_of (get_or (lines_of export) j [])) ≡ true)
    → RowRefused (get_or (lines_of export) i []) why → rows_of export ≡ bad why (i + 1)
line_bad export {why} i h t r = (bad_exact 1 (lines_of export) why (i + 1)).1 i refl (record { within = h; earlier = t; refused = refused_verdict _ r })
