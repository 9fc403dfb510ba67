-- THE PROGRAM `certificates`: from the day, the serials and an export, the bytes that it writes.
use Rattle.std.specs.Prelude.{ℕ, List, leb, take, Ok, Err}
use Rattle.units.specs.declared.refusal.Refusal.TheVariants.{Full}
use Rattle.units.specs.Pick.{pick}
use Rattle.lines.specs.Writing.{Written, answer_of, buffer_of, refusal_line}
use Rattle.store.specs.declared.kept.Kept.{Kept}
use Rattle.store.specs.declared.kept.Told.{Told}
use Rattle.store.specs.declared.stored.Place.{Place}
use Rattle.store.specs.declared.stored.Place.TheVariants.{Nowhere}
use Rattle.store.specs.declared.stored.Serials.{Serials}
use Rattle.store.specs.Rows.{rows_top}
use Rattle.store.specs.Stored.{Stored, Outcome, says, no, outcome_of, answer_in, buffer_in}

-- THE OUTPUT: the K lines, or one line X; and the place, for standard error
abbrev pub text_in : Outcome → List ℕ
text_in (says text) = text
text_in (no why place) = refusal_line why

abbrev pub place_in : Outcome → Place
place_in (says text) = Nowhere
place_in (no why place) = place

unfoldable pub store_text : List ℕ → Serials → List ℕ → List ℕ
store_text day s export = text_in (outcome_of export day s)

unfoldable pub store_place : List ℕ → Serials → List ℕ → Place
store_place day s export = place_in (outcome_of export day s)

-- what what is kept leads to: 19 by the count of all lines
unfoldable pub kept_outcome : Kept → List ℕ → List ℕ → Serials → Outcome
kept_outcome k held day s = pick (leb k.count.lines rows_top) (outcome_of (take k.len held) day s) (no Full Nowhere)

-- an answer told in bytes: the K lines are there, the line X is put
abbrev pub wrote_len : Written → ℕ
wrote_len (Ok len) = len
wrote_len (Err why) = 0

abbrev pub tell_in : Stored → List ℕ → Told
tell_in (Ok len) buf = record { len = len; place = Nowhere }
tell_in (Err e) buf = record { len = wrote_len (answer_of (refusal_line e.why) buf); place = e.place }

abbrev pub tell_buffer : Stored → List ℕ → List ℕ
tell_buffer (Ok len) buf = buf
tell_buffer (Err e) buf = buffer_of (refusal_line e.why) buf

unfoldable pub told_of : Kept → List ℕ → List ℕ → Serials → List ℕ → Told
told_of k held day s buf = tell_in (answer_in (kept_outcome k held day s) buf) (buffer_in (kept_outcome k held day s) buf)

unfoldable pub told_buffer : Kept → List ℕ → List ℕ → Serials → List ℕ → List ℕ
told_buffer k held day s buf = tell_buffer (answer_in (kept_outcome k held day s) buf) (buffer_in (kept_outcome k held day s) buf)
