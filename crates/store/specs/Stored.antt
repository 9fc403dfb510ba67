-- THE WHOLE ANSWER: "It is refused exactly when there are more than 512 lines, a line or the given day or a serial is bad, two certificates of one meter
-- share a day, a serial has none in force, or the lent buffer is short, checked in that order."
use Rattle.std.specs.Prelude.{ℕ, ◌+◌, Bool, true, not, List, [], ◌∷◌, ◌++◌, leb, ltb, length, drop, Result, Ok, Err}
use Rattle.units.specs.declared.refusal.Refusal.{Refusal}
use Rattle.units.specs.declared.refusal.Refusal.TheVariants.{Form as NoForm, Range as NoRange, Room, SameDay, NoneInForce, Full}
use Rattle.units.specs.Limits.{runs_top}
use Rattle.units.specs.Pick.{pick}
use Rattle.units.specs.Refusal.{number_of}
use Rattle.units.specs.Within.{within}
use Rattle.message.specs.declared.settings.Settings.{Settings}
use Rattle.message.specs.Settings.{certificate_fits}
use Rattle.fields.specs.declared.field.Fault.{Fault}
use Rattle.fields.specs.declared.field.Field.{Field}
use Rattle.fields.specs.Field.{refusal_of}
use Rattle.fields.specs.Day.{day_in}
use Rattle.fields.specs.Lines.{lines_of}
use Rattle.store.specs.declared.row.Row.{Row}
use Rattle.store.specs.declared.stored.Place.{Place}
use Rattle.store.specs.declared.stored.Place.TheVariants.{Nowhere, Line, Day, Count, Run}
use Rattle.store.specs.declared.stored.Serials.{Serials}
use Rattle.store.specs.declared.stored.Refused.{Refused}
use Rattle.store.specs.First.{at_first}
use Rattle.store.specs.Repeated.{repeated_at}
use Rattle.store.specs.Rows.{Rows, rows, bad, rows_top, rows_of}
use Rattle.store.specs.Runs.{serial_at, found, is_blank, settings_from, text_of}

-- what an export leads to: the bytes of the K lines, or a refusal and its place
pub data Outcome : Type 0 where
  says : List ℕ → Outcome
  no : Refusal → Place → Outcome

-- "a serial has none in force": the lowest such run
unfoldable pub in_force : Serials → ℕ → List Row → Outcome
in_force s day rs = at_first (λ i. is_blank (found s day rs i)) s.m (λ i. no NoneInForce (Run i)) (says (text_of s.m (found s day rs)))

-- "two certificates of one meter share a day": every meter of the export, and the first line whose meter and day stood before
unfoldable pub apart : Serials → ℕ → List Row → Outcome
apart s day rs = pick (ltb (repeated_at rs) (length rs)) (no SameDay (Line (repeated_at rs + 1))) (in_force s day rs)

-- "a serial is bad": not one spelling of 1 to 16 bytes; the number of serials comes first
abbrev pub bad_serial : Serials → ℕ → Bool
bad_serial s i = not (certificate_fits true (serial_at s i))

unfoldable pub named : Serials → ℕ → List Row → Outcome
named s day rs = pick (within 1 runs_top s.m) (at_first (bad_serial s) s.m (λ i. no NoForm (Run i)) (apart s day rs)) (no NoRange Count)

-- "the given day"
abbrev pub on_day : Serials → List Row → Result Field Fault → Outcome
on_day s rs (Ok day) = named s day.n rs
on_day s rs (Err why) = no (refusal_of why) Day

-- "a line": the first that is bad
abbrev pub listed : List ℕ → Serials → Rows → Outcome
listed day s (rows rs) = on_day s rs (day_in 0 day)
listed day s (bad why line) = no why (Line line)

-- "more than 512 lines", before everything
unfoldable pub outcome_of : List ℕ → List ℕ → Serials → Outcome
outcome_of export day s = pick (leb (length (lines_of export)) rows_top) (listed day s (rows_of export)) (no Full Nowhere)

-- how many bytes the K lines have, or why there are none and where
abbrev pub Stored : Type 0
Stored = Result ℕ Refused

abbrev pub refused : {A : Type 0} → Refusal → Place → Result A Refused
refused why place = Err (record { why = why; place = place })

-- THE CHECKS as they are made, each with what it gives the next (proofs/Writing.antt: one after the other they are the outcome)
abbrev pub Judged : Type 0
Judged = Result (Unit {0}) Refused

unfoldable pub lines_judged : List ℕ → Judged
lines_judged export = pick (leb (length (lines_of export)) rows_top) (Ok tt) (refused Full Nowhere)

abbrev pub date_judged : Result Field Fault → Result ℕ Refused
date_judged (Ok day) = Ok day.n
date_judged (Err why) = refused (refusal_of why) Day

unfoldable pub serials_judged : Serials → Judged
serials_judged s = pick (within 1 runs_top s.m) (at_first (bad_serial s) s.m (λ i. refused NoForm (Run i)) (Ok tt)) (refused NoRange Count)

unfoldable pub days_judged : List Row → Judged
days_judged rs = pick (ltb (repeated_at rs) (length rs)) (refused SameDay (Line (repeated_at rs + 1))) (Ok tt)

unfoldable pub settings_judged : Serials → ℕ → List Row → Result Settings Refused
settings_judged s day rs = at_first (λ i. is_blank (found s day rs i)) s.m (λ i. refused NoneInForce (Run i)) (Ok (settings_from 1 s.m 1 1 1 (found s day rs)))

-- "the lent buffer is short", last: all K lines or none
abbrev pub answer_in : Outcome → List ℕ → Stored
answer_in (says text) buf = pick (ltb (length buf) (length text)) (refused Room Nowhere) (Ok (length text))
answer_in (no why place) buf = refused why place

abbrev pub buffer_in : Outcome → List ℕ → List ℕ
buffer_in (says text) buf = pick (ltb (length buf) (length text)) buf (text ++ drop (length text) buf)
buffer_in (no why place) buf = buf

-- WHAT `write_runs` ANSWERS, and what the lent buffer holds then
abbrev pub stored : List ℕ → List ℕ → Serials → List ℕ → Stored × List ℕ
stored export day s buf = (answer_in (outcome_of export day s) buf, buffer_in (outcome_of export day s) buf)

-- the number of an answer, 0 where it is done, and the values that go with it: the length, or the place as what it is and which
abbrev pub stored_number : Stored → ℕ
stored_number (Ok len) = 0
stored_number (Err e) = number_of e.why

abbrev pub place_values : Place → List ℕ
place_values Nowhere = 0 ∷ []
place_values (Line line) = 1 ∷ line ∷ []
place_values Day = 2 ∷ []
place_values Count = 3 ∷ []
place_values (Run run) = 4 ∷ run ∷ []

abbrev pub stored_values : Stored → List ℕ
stored_values (Ok len) = len ∷ []
stored_values (Err e) = place_values e.place
