-- RUNS WRITTEN DOWN: a script of acts, the world that it leads to, and a test that each act keeps the premises as they are worded.
use Rattle.std.specs.Prelude.{ℕ, ◌-◌, Bool, true, false, not, ◌&&◌, ◌||◌, List, [], ◌∷◌, eqb, leb, ltb, length, get_or}
use Rattle.std.proofs.Math.Option.{Option, none, some}
use Rattle.units.specs.declared.labels.RoundLabel.{RoundLabel}
use Rattle.units.specs.declared.settings.Numbers.{Numbers}
use Rattle.units.specs.Refusal.{verdict_number}
use Rattle.message.specs.declared.head.Head.{Head}
use Rattle.message.specs.declared.head.Head.TheVariants.{Refused}
use Rattle.message.specs.declared.value.Message.{Message}
use Rattle.message.specs.Message.{plain, message_fits}
use Rattle.message.specs.View.{on_reading, on_floor, on_start, is_exchanged}
use Rattle.lines.specs.Table.{letter_of}
use Rattle.lines.specs.Values.{kind_is}
use Rattle.controller.specs.declared.state.Controller.{Controller}
use Rattle.controller.specs.Step.{stepped}
use Rattle.controller_laws.specs.Session.{Line, line}
use Rattle.group.specs.World.{Mark, World, Event, hand, store, crash, after}
use Rattle.group.specs.Premises.{Meters}

-- M, C, E, V, F or B is given to a number; the n-th message that was ever sent, counted from 0, is passed to a number; a floor is stored; a controller falls
pub data Act : Type 0 where
  give : ℕ → Head → Act
  pass : ℕ → ℕ → Act
  keep : ℕ → RoundLabel → Act
  fall : ℕ → Act

abbrev pub nth : List Message → ℕ → Message
nth sent n = get_or sent (length sent - 1 - n) (plain (Refused 3))

abbrev pub event_of : World → Act → Event
event_of w (give i head) = hand i (plain head)
event_of w (pass i n) = hand i (nth w.sent n)
event_of w (keep i label) = store i label
event_of w (fall i) = crash i

unfoldable pub played : Numbers → World → List Act → World
played s w [] = w
played s w (x ∷ more) = played s (after s w (event_of w x)) more

-- ---- the test
-- the floor is among those of the number i
unfoldable pub marked : ℕ → RoundLabel → List Mark → Bool
marked i label [] = false
marked i label (x ∷ more) = (eqb x.who i && eqb x.floor.0 label.0) || marked i label more

-- no floor of the number i is above this one
unfoldable pub highest : ℕ → RoundLabel → List Mark → Bool
highest i floor [] = true
highest i floor (x ∷ more) = (ltb x.who i || ltb i x.who || leb x.floor.0 floor.0) && highest i floor more

-- M is the meter's, F was stored, B is for its own number and not below its floors; of Q R A U D S none is given, but passed
unfoldable pub fairly : Meters → World → ℕ → Head → Bool
fairly meters w i h =
    on_reading (λ label run raw. eqb raw (meters label run))
    (on_floor (λ label. marked i label w.stored) (on_start (λ own floor. eqb own i && highest i floor w.confirmed) (not (is_exchanged h)) h) h) h

unfoldable pub fair : Meters → World → Act → Bool
fair meters w (give i head) = fairly meters w i head
fair meters w (pass i n) = ltb n (length w.sent) && is_exchanged (nth w.sent n).head
fair meters w (keep i label) = true
fair meters w (fall i) = true

unfoldable pub all_fair : Numbers → Meters → World → List Act → Bool
all_fair s meters w [] = true
all_fair s meters w (x ∷ more) = fair meters w x && all_fair s meters (after s w (event_of w x)) more

-- every message that is given can be written as a line that is read: X is only written
unfoldable pub writable : Numbers → Act → Bool
writable s (give i head) = not (eqb (letter_of (kind_is head)) 88) && message_fits s.group (plain head)
writable s (pass i n) = true
writable s (keep i label) = true
writable s (fall i) = true

unfoldable pub all_writable : Numbers → List Act → Bool
all_writable s [] = true
all_writable s (x ∷ more) = writable s x && all_writable s more

-- the number of the refusal that each act leads to, 0 where there is none
abbrev pub number_from : Numbers → Message → Option Controller → ℕ
number_from s a none = 0
number_from s a (some c) = verdict_number (stepped s c a).verdict

abbrev pub number_at : Numbers → World → Event → ℕ
number_at s w (hand i a) = number_from s a (w.up i)
number_at s w (store i label) = 0
number_at s w (crash i) = 0

unfoldable pub refusals : Numbers → World → List Act → List ℕ
refusals s w [] = []
refusals s w (x ∷ more) = number_at s w (event_of w x) ∷ refusals s (after s w (event_of w x)) more

-- all that was sent, the oldest first, with the bits of its floats
unfoldable pub in_order : Numbers → List Message → List Line → List Line
in_order s [] later = later
in_order s (x ∷ sent) later = in_order s sent (line s.group x ∷ later)

abbrev pub saying : Numbers → World → List Line
saying s w = in_order s w.sent []
