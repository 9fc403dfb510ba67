-- THE WORLD: who stands at each number, everything ever sent, the floors stored and confirmed for each number; what an event makes of it, and what can come of it.
-- One definition serves messages (this file), lines of bytes (Wire.antt) and station programs (Stations.antt).
use Rattle.std.specs.Prelude.{ℕ, List, [], ◌∷◌, ◌++◌, eqb, Result, Ok, Err, None, Some}
use Rattle.std.proofs.Math.Option.{Option, none, some}
use Rattle.units.specs.declared.labels.RoundLabel.{RoundLabel}
use Rattle.units.specs.declared.settings.Numbers.{Numbers}
use Rattle.units.specs.Pick.{pick}
use Rattle.message.specs.declared.head.Head.{Head}
use Rattle.message.specs.declared.value.Message.{Message}
use Rattle.message.specs.View.{on_floor, on_start}
use Rattle.plan.specs.Plan.{Sent}
use Rattle.controller.specs.declared.start.Unstarted.{Unstarted}
use Rattle.controller.specs.declared.state.Controller.{Controller}
use Rattle.controller.specs.Answers.{Answer}
use Rattle.controller.specs.Sent.{sent_message}
use Rattle.controller.specs.Start.{started}
use Rattle.controller.specs.Step.{stepped}

-- a floor of a number
pub record Mark : Type 0 where
  pub who : ℕ
  pub floor : RoundLabel

abbrev pub mark : ℕ → RoundLabel → Mark
mark i label = record { who = i; floor = label }

-- who stands at each number, none while it is down; everything that was ever sent; every floor ever stored for a number;
-- every floor ever confirmed to a number, that is the label of an F which was handed to it
pub record WorldOf (C L : Type 0) : Type 0 where
  pub up : ℕ → Option C
  pub sent : List L
  pub stored : List Mark
  pub confirmed : List Mark

abbrev pub empty : {C L : Type 0} → WorldOf C L
empty = record { up = λ i. none; sent = []; stored = []; confirmed = [] }

-- something is handed to a number; a floor is stored for a number; a number crashes. Each may come at any moment, any number of times or never
pub data EventOf (H : Type 0) : Type 0 where
  hand : ℕ → H → EventOf H
  store : ℕ → RoundLabel → EventOf H
  crash : ℕ → EventOf H

-- another one, or none, for one number
unfoldable pub put : {A : Type 0} → (ℕ → Option A) → ℕ → Option A → ℕ → Option A
put up i c j = pick (eqb j i) c (up j)

abbrev pub with_up : {C L : Type 0} → WorldOf C L → ℕ → Option C → WorldOf C L
with_up w i c = record { up = put w.up i c; sent = w.sent; stored = w.stored; confirmed = w.confirmed }

-- what an event makes of a world, by what is made of something handed
abbrev pub Takes : Type 0 → Type 0 → Type 0 → Type 0
Takes C L H = WorldOf C L → ℕ → H → WorldOf C L

abbrev pub after_by : {C L H : Type 0} → Takes C L H → WorldOf C L → EventOf H → WorldOf C L
after_by takes w (hand i a) = takes w i a
after_by takes w (store i label) = record { up = w.up; sent = w.sent; stored = mark i label ∷ w.stored; confirmed = w.confirmed }
after_by takes w (crash i) = with_up w i none

-- a premise on what is handed, as one on events: floors may be stored and numbers may crash at any moment
abbrev pub Asks : Type 0 → Type 0 → Type 0 → Type 1
Asks C L H = WorldOf C L → ℕ → H → Type 0

abbrev pub On : {C L H : Type 0} → Asks C L H → WorldOf C L → EventOf H → Type 0
On P w (hand i a) = P w i a
On P w (store i label) = Unit {0}
On P w (crash i) = Unit {0}

-- what can come of a world, event by event, while the premise is kept; from `empty` on it is a run
pub data OnwardBy {C L H : Type 0} (takes : Takes C L H) (P : Asks C L H) (w : WorldOf C L) : WorldOf C L → Type 0 where
  here : OnwardBy takes P w w
  next : {v : WorldOf C L} → OnwardBy takes P w v → (e : EventOf H) → On P v e → OnwardBy takes P w (after_by takes v e)

-- ---- CONTROLLERS AND MESSAGES: a message is a line, a reading, a timer, F or B
abbrev pub World : Type 0
World = WorldOf Controller Message

abbrev pub Event : Type 0
Event = EventOf Message

-- what a step sends, as whole messages, ahead of what was sent before
abbrev pub sending : Numbers → Controller → Sent → List Message → List Message
sending s c None before = before
sending s c (Some head) before = sent_message s c head ∷ before

abbrev pub sent_by : Numbers → Answer → List Message → List Message
sent_by s r before = sending s r.next r.second (sending s r.next r.first before)

-- F confirms its label to the number that it is handed to
abbrev pub confirms : ℕ → Head → List Mark
confirms i head = on_floor (λ label. mark i label ∷ []) [] head

-- a message taken by a controller, with the answer of its step
abbrev pub after_answer : Numbers → World → ℕ → Head → Answer → World
after_answer s w i head r = record { up = put w.up i (some r.next); sent = sent_by s r w.sent; stored = w.stored; confirmed = confirms i head ++ w.confirmed }

-- a start that is refused leaves the number down
abbrev pub begun : Result Controller Unstarted → Option Controller
begun (Ok c) = some c
begun (Err u) = none

-- what is handed to a number that is down: B starts it, and anything else is lost
abbrev pub rising : Numbers → Head → Option Controller
rising s head = on_start (λ own floor. begun (started s own floor)) none head

-- to a running controller B is a message as any other, and restarts it
abbrev pub handed : Numbers → World → ℕ → Message → Option Controller → World
handed s w i a none = with_up w i (rising s a.head)
handed s w i a (some c) = after_answer s w i a.head (stepped s c a)

abbrev pub hands : Numbers → Takes Controller Message Message
hands s w i a = handed s w i a (w.up i)

abbrev pub after : Numbers → World → Event → World
after s = after_by (hands s)
