-- THE READER: every check of a line in document 01's order, and what the line says.
use Rattle.std.specs.Prelude.{ℕ, ◌+◌, Bool, List, [], ◌∷◌, ◌++◌, eqb, leb, length, get_or, take, drop, Option, Some, None, Result, Ok, Err}
use Rattle.units.specs.declared.refusal.Refusal.{Refusal}
use Rattle.units.specs.declared.refusal.Refusal.TheVariants.{Long, Unended, Kind as NoKind, Fields, Range as NoRange}
use Rattle.units.specs.declared.settings.Group.{Group}
use Rattle.units.specs.Limits.{line_top}
use Rattle.units.specs.Pick.{pick}
use Rattle.units.specs.Refusal.{number_of}
use Rattle.units.specs.Settings.{group_fits}
use Rattle.message.specs.declared.head.Head.TheVariants.{Refused as HeadRefused}
use Rattle.message.specs.Message.{plain}
use Rattle.fields.specs.declared.field.Fault.{Fault}
use Rattle.fields.specs.declared.field.Field.{Field}
use Rattle.fields.specs.Field.{refusal_of, read_field}
use Rattle.fields.specs.Text.{line_feed, until, first_field, later_fields}
use Rattle.lines.specs.declared.kind.Kind.{Kind}
use Rattle.lines.specs.declared.read.Line.{Line}
use Rattle.lines.specs.declared.read.First.{First}
use Rattle.fields.specs.declared.spelling.Limit.{Limit}
use Rattle.lines.specs.Table.{letter_of, kind_of, limit_of, count_of}
use Rattle.lines.specs.Values.{message_of}

-- the numbers of fields, or the first refusal
pub data Got : Type 0 where
  values : List ℕ → Got
  stop : Refusal → Got

-- the limit of the number that comes after others; a base state label is judged by the label at place 1
abbrev pub limit_after : Kind → Group → List ℕ → Limit
limit_after kind s us = limit_of kind (length us) s (get_or us 1 0)

abbrev pub read_by : Limit → List ℕ → Result Field Fault
read_by l f = read_field l.spelling l.low l.high 0 f

abbrev pub onward : Result Field Fault → (ℕ → Got) → Got
onward (Ok f) go = go f.n
onward (Err why) go = stop (refusal_of why)

-- "form and range go field by field from the left, form first"
unfoldable pub read_all : (List ℕ → Limit) → List ℕ → List (List ℕ) → Got
read_all S us [] = values us
read_all S us (f ∷ fs) = onward (read_by (S us) f) (λ n. read_all S (us ++ (n ∷ [])) fs)

-- 4: the number of fields is known beforehand, but "For R, four fields must be there, those are judged, then the number of values (4), then the values"
abbrev pub enough : Kind → Group → ℕ → Bool
enough kind s n = pick (eqb (letter_of kind) 82) (leb (count_of kind s 0) n) (eqb n (count_of kind s 0))

abbrev pub read_rest : Kind → Group → List (List ℕ) → Got → Got
read_rest kind s fs (values us) = pick (eqb (length fs) (count_of kind s (get_or us 2 0))) (read_all (limit_after kind s) us (drop (count_of kind s 0) fs)) (stop Fields)
read_rest kind s fs (stop why) = stop why

unfoldable pub read_values : Kind → Group → List (List ℕ) → Got
read_values kind s fs =
    pick (enough kind s (length fs)) (read_rest kind s fs (read_all (limit_after kind s) [] (take (count_of kind s 0) fs))) (stop Fields)

-- the message of a refused line carries the refusal's number
abbrev pub refused_line : Refusal → Line
refused_line why = record { verdict = Err why; message = plain (HeadRefused (number_of why)) }

abbrev pub line_with : Group → Kind → Got → Line
line_with s kind (values vs) = record { verdict = Ok tt; message = message_of s kind vs }
line_with s kind (stop why) = refused_line why

-- a first field that is no single letter is unknown too
abbrev pub kind_in : List ℕ → Option Kind
kind_in [] = None
kind_in (c ∷ []) = kind_of c
kind_in (c ∷ d ∷ cs) = None

abbrev pub read_known : Group → List (List ℕ) → Option Kind → Line
read_known s fs (Some kind) = line_with s kind (read_values kind s fs)
read_known s fs None = refused_line NoKind

unfoldable pub read_text : Group → List ℕ → Line
read_text s text = read_known s (later_fields text) (kind_in (first_field text))

-- 2: "no line feed last, or one earlier; also no bytes"
abbrev pub ended_once : List ℕ → Bool
ended_once line = eqb (length (until line_feed line) + 1) (length line)

-- "anything out of range get 6, before all else"; then 1 to 6 in number order
unfoldable pub read_line : Group → List ℕ → Line
read_line s line =
    pick (group_fits s) (pick (leb (length line) line_top) (pick (ended_once line) (read_text s (until line_feed line)) (refused_line Unended)) (refused_line Long))
    (refused_line NoRange)

-- the input up to and with its first line feed; the whole input where there is none
abbrev pub first_of : List ℕ → List ℕ
first_of input = take (length (until line_feed input) + 1) input

-- an input's first line, and the place of its line feed
unfoldable pub first_line : Group → List ℕ → First
first_line s input = record { line = read_line s (first_of input); feed = length (until line_feed input) }
