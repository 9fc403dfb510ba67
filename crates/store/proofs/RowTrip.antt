-- A LINE OF AN EXPORT: what is taken is the one spelling of a row in range, and every such row is taken in it. Assumes nothing.
use Prim.Native.Nat.{ℕ, zero, suc, ◌+◌, ◌/◌, ◌%◌, ◌≤◌, ◌<◌}
use mathlib.Core.Path.{subst, ◌≡◌, refl, sym, ap, ◌∙◌}
use mathlib.Core.List.{List, [], ◌∷◌, ◌++◌, append-nil}
use mathlib.Core.Bool.{true}
use native.Mathlib.Omega.{arith}
use lib.ListN.{length, get_or, length-append}
use lib.Dec.{eqb, leb}
use borrow.Author.Tests.{eqb-true, eq-eqb, ne_eqb, le-leb}
use Rattle.std.proofs.Common.{Result, Ok, Err}
use Rattle.units.specs.Limits.{factor_low, factor_top}
use Rattle.units.specs.Pick.{pick}
use Rattle.fields.specs.declared.field.Field.{Field}
use Rattle.fields.specs.declared.field.Fault.{Fault}
use Rattle.fields.specs.declared.spelling.Spelling.TheVariants.{Factor}
use Rattle.fields.specs.Certificate.{is_certificate}
use Rattle.fields.specs.Day.{date_fits, day_in}
use Rattle.fields.specs.Digits.{char_of, fixed}
use Rattle.fields.specs.Field.{fits, spelled, read_field}
use Rattle.fields.specs.Text.{until, fields_of, later_fields, first_field, tabbed, lacks, all_lack}
use Rattle.fields.proofs.Cases.{by_test, absurd_by}
use Rattle.fields.proofs.Certificates.{certificate_lacks, certificate_long}
use Rattle.fields.proofs.Dates.{day_only, day_read}
use Rattle.fields.proofs.Numbers.{char_above, fixed_length}
use Rattle.fields.proofs.Scans.{feed_last}
use Rattle.fields.proofs.Spellings.{field_only, field_read, fits_range, range_fits, spelled_lacks, spelled_short}
use Rattle.fields.proofs.Texts.{text_only, fields_back, until_append, lacks_append, tabbed_lacks}
use Rattle.lines.specs.Settings.{bytes_of}
use Rattle.lines.proofs.WholeSettings.{certificate_made, certificate_again, bytes_shown, bytes_again}
use Rattle.lines.specs.Settling.{certificate_of}
use Rattle.store.specs.declared.row.Row.{Row}
use Rattle.store.specs.Row.{good_row, after_field, row_in, row_text, row_of, row_line, RowInRange}
use Rattle.store.proofs.Reading.{last_in, rest_in}

-- a row in range is the row of four fields
record Given (fs : List (List ℕ)) (x : Row) : Type 0 where
  pub range : RowInRange x
  pub serial : bytes_of x.serial ≡ get_or fs 0 []
  pub day : get_or fs 1 [] ≡ fixed 10 8 x.day
  pub certificate : bytes_of x.certificate ≡ get_or fs 2 []
  pub factor : get_or fs 3 [] ≡ spelled Factor x.factor

module _ (fs : List (List ℕ)) (a : is_certificate (get_or fs 0 []) ≡ true) where
  module _ (day : ℕ) (s : get_or fs 1 [] ≡ fixed 10 8 day) (t : date_fits day ≡ true) where
    factor_given : is_certificate (get_or fs 2 []) ≡ true → (d : Result Field Fault) → read_field Factor factor_low factor_top 0 (get_or fs 3 []) ≡ d → (x : Row) → last_in fs day d ≡ Ok x → Given fs x
    factor_given b (Ok f) q x e =
        let o = field_only Factor factor_low factor_top 0 (get_or fs 3 []) f.n f.next q in
        let i = fits_range Factor factor_low factor_top f.n o.inside in
        let w : Given fs (record { serial = certificate_of (get_or fs 0 []); day = day; certificate = certificate_of (get_or fs 2 []); factor = f.n }) = record {
          range = record { serial = certificate_made (get_or fs 0 []) a; day = t; certificate = certificate_made (get_or fs 2 []) b; factor = (i.least, i.most) };
          serial = bytes_again (get_or fs 0 []) a;
          day = s;
          certificate = bytes_again (get_or fs 2 []) b;
          factor = o.spelt;
        } in
        subst (Given fs) (cc) w
    factor_given b (Err why) q x e = absurd_by (cc)

    rest_given : (x : Row) → rest_in fs day ≡ Ok x → Given fs x
    unfolding pick
    rest_given x = by_test (is_certificate (get_or fs 2 [])) (λ b. rw b (factor_given b _ refl x)) (λ b. rw b (λ e. absurd_by (cc)))

  day_given : (d : Result Field Fault) → day_in 0 (get_or fs 1 []) ≡ d → (x : Row) → after_field (λ day next. rest_in fs day) d ≡ Ok x → Given fs x
  day_given (Ok f) q x e = let o = day_only 0 (get_or fs 1 []) f.n f.next q in rest_given f.n o.0 o.1 x e
  day_given (Err why) q x e = absurd_by (cc)

in_given : (fs : List (List ℕ)) (x : Row) → row_in fs ≡ Ok x → Given fs x
unfolding row_in pick
in_given fs x = by_test (is_certificate (get_or fs 0 [])) (λ a. rw a (day_given fs a (day_in 0 (get_or fs 1 [])) refl x)) (λ a. rw a (λ e. absurd_by (cc)))

-- WHAT IS TAKEN
three : (fs : List (List ℕ)) → length fs ≡ 3 → fs ≡ get_or fs 0 [] ∷ get_or fs 1 [] ∷ get_or fs 2 [] ∷ []
three [] e = absurd (omega arith)
three (a ∷ []) e = absurd (omega arith)
three (a ∷ b ∷ []) e = absurd (omega arith)
three (a ∷ b ∷ c ∷ []) e = refl
three (a ∷ b ∷ c ∷ d ∷ fs) e = absurd (omega arith)

-- a row's line without its line feed
abbrev text_of : Row → List ℕ
text_of x = bytes_of x.serial ++ tabbed (fixed 10 8 x.day ∷ bytes_of x.certificate ∷ spelled Factor x.factor ∷ [])

row_line_is : (x : Row) → text_of x ++ (10 ∷ []) ≡ row_line x
unfolding row_line
row_line_is x = refl

row_text_is : (text : List ℕ) (x : Row) → length (fields_of text) ≡ 4 → Given (fields_of text) x → text ≡ text_of x
row_text_is text x e w =
    let q : length (later_fields text) ≡ 3 = omega arith in
    text_only text ∙ ap (λ (fs : List (List ℕ)). first_field text ++ tabbed fs) (three (later_fields text) q) ∙ rw (w.serial, w.certificate, ← w.day, ← w.factor)

fields_only : (line text : List ℕ) → line ≡ text ++ (10 ∷ []) → length (fields_of text) ≡ 4 → (x : Row) → row_in (fields_of text) ≡ Ok x → RowInRange x × (line ≡ row_line x)
fields_only line text l four x e =
    let w = in_given (fields_of text) x e in
    (w.range, l ∙ ap {B = List ℕ} (λ (t : List ℕ). t ++ (10 ∷ [])) (row_text_is text x four w) ∙ row_line_is x)

-- THE LAW: a line that is taken is the one spelling of its row, which is in range
pub row_only : (line : List ℕ) (x : Row) → row_of line ≡ Ok x → RowInRange x × (line ≡ row_line x)
unfolding row_of row_text pick
row_only line x =
    by_test (leb (length line) 600)
    (λ a. rw a (by_test (eqb (length (until 10 line) + 1) (length line))
    (λ b. rw b (by_test (eqb (length (fields_of (until 10 line))) 4)
    (λ d. rw d (fields_only line (until 10 line) (feed_last line (eqb-true (length (until 10 line) + 1) (length line) b)) (eqb-true (length (fields_of (until 10 line))) 4 d) x))
    (λ d. rw d (λ e. absurd_by (cc)))))
    (λ b. rw b (λ e. absurd_by (cc)))))
    (λ a. rw a (λ e. absurd_by (cc)))

-- WHAT IS READ BACK
day_lacks : (b k n : ℕ) → b < 48 → lacks b (fixed 10 k n) ≡ true
unfolding fixed lacks
day_lacks b zero n h = refl
day_lacks b (suc k) n h =
    lacks_append b (fixed 10 k (n / 10)) (char_of (n % 10) ∷ []) (day_lacks b k (n / 10) h)
    (let u = char_above (n % 10) in rw (ne_eqb (char_of (n % 10)) b (omega arith)))

module _ (x : Row) (r : RowInRange x) where
  shown_0 : is_certificate (bytes_of x.serial) ≡ true
  shown_0 = bytes_shown x.serial r.serial

  shown_2 : is_certificate (bytes_of x.certificate) ≡ true
  shown_2 = bytes_shown x.certificate r.certificate

  factor_fits : fits Factor factor_low factor_top x.factor ≡ true
  factor_fits = range_fits Factor factor_low factor_top x.factor (record { least = r.factor.0; most = r.factor.1; can = omega (arith, r.factor) })

  later_lack : (b : ℕ) → b < 33 → all_lack b (fixed 10 8 x.day ∷ bytes_of x.certificate ∷ spelled Factor x.factor ∷ []) ≡ true
  unfolding all_lack
  later_lack b h = rw (day_lacks b 8 x.day (omega arith), certificate_lacks b (bytes_of x.certificate) h shown_2, spelled_lacks b Factor x.factor (omega arith))

  fields_are : fields_of (text_of x) ≡ bytes_of x.serial ∷ fixed 10 8 x.day ∷ bytes_of x.certificate ∷ spelled Factor x.factor ∷ []
  fields_are = fields_back (bytes_of x.serial) _ (certificate_lacks 9 (bytes_of x.serial) (omega arith) shown_0) (later_lack 9 (omega arith))

  no_feed : lacks 10 (text_of x) ≡ true
  no_feed = lacks_append 10 (bytes_of x.serial) _ (certificate_lacks 10 (bytes_of x.serial) (omega arith) shown_0) (tabbed_lacks 10 _ (λ z. absurd (omega arith)) (later_lack 10 (omega arith)))

  until_is : until 10 (row_line x) ≡ text_of x
  unfolding until
  until_is = ap (until 10) (sym (row_line_is x)) ∙ until_append 10 (text_of x) (10 ∷ []) no_feed ∙ append-nil (text_of x)

  row_text_short : length (text_of x) ≤ 100
  unfolding tabbed
  row_text_short =
      let a = certificate_long (bytes_of x.serial) shown_0 in
      let b = certificate_long (bytes_of x.certificate) shown_2 in
      let d = fixed_length 10 8 x.day in
      let f = spelled_short Factor x.factor (omega (arith, r.factor)) in
      let F = spelled Factor x.factor in
      let l1 = length-append (bytes_of x.serial) (9 ∷ fixed 10 8 x.day ++ (9 ∷ bytes_of x.certificate ++ (9 ∷ F ++ []))) in
      let l2 = length-append (fixed 10 8 x.day) (9 ∷ bytes_of x.certificate ++ (9 ∷ F ++ [])) in
      let l3 = length-append (bytes_of x.certificate) (9 ∷ F ++ []) in
      let l4 = length-append F [] in
      omega arith

  line_long : length (row_line x) ≡ length (text_of x) + 1
  line_long = ap length (sym (row_line_is x)) ∙ length-append (text_of x) (10 ∷ [])

  in_back : row_in (bytes_of x.serial ∷ fixed 10 8 x.day ∷ bytes_of x.certificate ∷ spelled Factor x.factor ∷ []) ≡ good_row x.serial x.day x.certificate x.factor
  unfolding row_in pick
  in_back = rw (shown_0, day_read 0 x.day r.day, shown_2, field_read Factor factor_low factor_top 0 x.factor factor_fits, certificate_again x.serial r.serial, certificate_again x.certificate r.certificate)

  -- THE LAW: the one spelling of a row in range is read as that row
  pub row_read : row_of (row_line x) ≡ good_row x.serial x.day x.certificate x.factor
  unfolding row_of row_text pick
  row_read =
      let l = line_long in
      let t = row_text_short in
      rw (le-leb (length (row_line x)) 600 (omega arith), until_is, eq-eqb (length (text_of x) + 1) (length (row_line x)) (sym l), eq-eqb (length (fields_of (text_of x))) 4 (ap {B = ℕ} length fields_are), fields_are) in_back
