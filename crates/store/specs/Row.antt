-- "one certificate a line, in tabbed fields without a kind, being meter serial .., day .., certificate and factor"
use Rattle.std.specs.Prelude.{ℕ, ◌≤◌, ◌≡◌, true, List, [], ◌∷◌, ◌++◌, eqb, leb, length, get_or, Option, Some, None, Result, Ok, Err}
use Rattle.units.specs.declared.refusal.Refusal.{Refusal}
use Rattle.units.specs.declared.refusal.Refusal.TheVariants.{Long, Unended, Fields, Form as NoForm}
use Rattle.units.specs.Limits.{line_top, factor_low, factor_top}
use Rattle.units.specs.Pick.{pick}
use Rattle.message.specs.declared.certificate.Certificate.{Certificate}
use Rattle.message.specs.InRange.{CertificateInRange}
use Rattle.fields.specs.declared.field.Fault.{Fault}
use Rattle.fields.specs.declared.field.Field.{Field}
use Rattle.fields.specs.declared.spelling.Spelling.TheVariants.{Factor}
use Rattle.fields.specs.Certificate.{is_certificate}
use Rattle.fields.specs.Day.{day_digits, date_fits, day_in, day_at}
use Rattle.fields.specs.Digits.{fixed}
use Rattle.fields.specs.Field.{refusal_of, spelled, read_field, read_at}
use Rattle.fields.specs.Text.{line_feed, until, fields_of, field_at, next_at, tabbed}
use Rattle.lines.specs.Reading.{ended_once}
use Rattle.lines.specs.Settings.{bytes_of}
use Rattle.lines.specs.Settling.{certificate_of, no_one}
use Rattle.store.specs.declared.name.Named.{Named}
use Rattle.store.specs.declared.row.Row.{Row}

-- no certificate: its day is no date
abbrev pub no_row : Row
no_row = record { serial = no_one; day = 0; certificate = no_one; factor = 0 }

-- what a line is: a row, or why it is none
abbrev pub Entry : Type 0
Entry = Result Row Refusal

abbrev pub bad_row : Refusal → Entry
bad_row why = Err why

abbrev pub good_row : Certificate → ℕ → Certificate → ℕ → Entry
good_row serial day certificate factor = Ok (record { serial = serial; day = day; certificate = certificate; factor = factor })

abbrev pub after_field : (ℕ → ℕ → Entry) → Result Field Fault → Entry
after_field go (Ok field) = go field.n field.next
after_field go (Err why) = bad_row (refusal_of why)

-- FIELD BY FIELD FROM THE LEFT, form before range: names are "1 to 16 bytes as for certificates", the factor is as in K
unfoldable pub row_in : List (List ℕ) → Entry
row_in fs =
    pick (is_certificate (get_or fs 0 []))
    (after_field (λ day next.
    pick (is_certificate (get_or fs 2 []))
    (after_field (λ factor next. good_row (certificate_of (get_or fs 0 [])) day (certificate_of (get_or fs 2 [])) factor) (read_field Factor factor_low factor_top 0 (get_or fs 3 [])))
    (bad_row NoForm)) (day_in 0 (get_or fs 1 [])))
    (bad_row NoForm)

-- not four fields is 4
unfoldable pub row_text : List ℕ → Entry
row_text text = pick (eqb (length (fields_of text)) 4) (row_in (fields_of text)) (bad_row Fields)

-- A LINE OF AN EXPORT: 1, 2, 4, 5 and 6
unfoldable pub row_of : List ℕ → Entry
row_of line = pick (leb (length line) line_top) (pick (ended_once line) (row_text (until line_feed line)) (bad_row Unended)) (bad_row Long)

-- THE ONE SPELLING of a row, and what is in range of it
unfoldable pub row_line : Row → List ℕ
row_line x = bytes_of x.serial ++ tabbed (fixed 10 day_digits x.day ∷ bytes_of x.certificate ∷ spelled Factor x.factor ∷ []) ++ (line_feed ∷ [])

pub record RowInRange (x : Row) : Type 0 where
  pub serial : CertificateInRange x.serial
  pub day : date_fits x.day ≡ true
  pub certificate : CertificateInRange x.certificate
  pub factor : (factor_low ≤ x.factor) × (x.factor ≤ factor_top)

-- the same from place to place, as the reader goes: a name and where the next field starts, then the other fields
unfoldable pub name_in : ℕ → List ℕ → Option Named
name_in next cs = pick (is_certificate cs) (Some (record { name = certificate_of cs; next = next })) None

abbrev pub name_at : List ℕ → ℕ → Option Named
name_at text at = name_in (next_at text at) (field_at text at)

abbrev pub rest_of : List ℕ → Certificate → ℕ → Option Named → Entry
rest_of text serial day (Some paper) = after_field (λ factor next. good_row serial day paper.name factor) (read_at text paper.next Factor factor_low factor_top)
rest_of text serial day None = bad_row NoForm

unfoldable pub rest_at : List ℕ → Certificate → ℕ → ℕ → Entry
rest_at text serial day at = rest_of text serial day (name_at text at)

abbrev pub row_from : List ℕ → Option Named → Entry
row_from text (Some serial) = after_field (rest_at text serial.name) (day_at text serial.next)
row_from text None = bad_row NoForm

unfoldable pub row_at : List ℕ → Entry
row_at text = row_from text (name_at text 0)
