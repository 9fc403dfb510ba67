-- WHAT ONE WHOLE LINE LEADS TO: the settings first, then a controller; what the program is at next, and the bytes that it writes.
use Rattle.std.specs.Prelude.{ℕ, List, [], ◌++◌, Err, None, Ok, Some}
use Rattle.units.specs.declared.refusal.Refusal.{Refusal}
use Rattle.units.specs.declared.refusal.Refusal.TheVariants.{Closed}
use Rattle.units.specs.Refusal.{Verdict}
use Rattle.units.specs.declared.settings.Group.{Group}
use Rattle.units.specs.declared.settings.Numbers.{Numbers}
use Rattle.message.specs.declared.head.Head.{Head}
use Rattle.message.specs.declared.value.Message.{Message}
use Rattle.message.specs.View.{on_start}
use Rattle.plan.specs.Plan.{Sent}
use Rattle.lines.specs.Settling.{Standing, settling_start, settle_line}
use Rattle.lines.specs.declared.settle.Wanted.TheVariants.{More, Whole}
use Rattle.lines.specs.declared.settle.Settling.{Settling}
use Rattle.lines.specs.Reading.{read_line}
use Rattle.lines.specs.Writing.{spell_line, refusal_line}
use Rattle.controller.specs.declared.state.Controller.{Controller}
use Rattle.controller.specs.Answers.{Answer}
use Rattle.controller.specs.Sent.{sent_message}
use Rattle.controller.specs.Start.{start_of}
use Rattle.controller.specs.Step.{stepped}
use Rattle.session.specs.declared.stage.Core.{Core}
use Rattle.session.specs.declared.stage.Stage.{Stage}
use Rattle.session.specs.declared.stage.Stage.TheVariants.{Settling as AtSettings, Waiting, Running, Ended}

abbrev pub numbers_in : Core → Numbers
numbers_in c = c.settling.settings.numbers

abbrev pub group_in : Core → Group
group_in c = (numbers_in c).group

-- nothing is read; the controller does not count yet
unfoldable pub core_start : Core
core_start = record { stage = AtSettings; settling = settling_start; controller = start_of settling_start.settings.numbers 0 (record { 0 = 0 }) }

abbrev pub settled_in : Core → Stage → Settling → Core
settled_in c stage settling = record { stage = stage; settling = settling; controller = c.controller }

abbrev pub running_with : Core → Controller → Core
running_with c controller = record { stage = Running; settling = c.settling; controller = controller }

pub record Turn : Type 0 where
  pub next : Core
  pub text : List ℕ

abbrev pub quiet : Core → Turn
quiet c = record { next = c; text = [] }

abbrev pub refusing : Core → Refusal → Turn
refusing c why = record { next = c; text = refusal_line why }

-- WHILE THE SETTINGS COME: "Refused settings give X 15 and the end"
unfoldable pub settles_to : Core → Settling → Standing → Turn
settles_to c next (Ok More) = quiet (settled_in c AtSettings next)
settles_to c next (Ok Whole) = quiet (settled_in c Waiting next)
settles_to c next (Err why) = refusing (settled_in c Ended next) why

-- BEFORE THE FIRST B "another line that passes 1 to 6 is 9"
unfoldable pub waits_for : Core → Head → Turn
waits_for c head = on_start (λ own floor. quiet (running_with c (start_of (numbers_in c) own floor))) (refusing c Closed) head

-- AFTER IT each line is a message, and B a restart
-- what is done with a message, where the line was taken
unfoldable pub hears : (Message → Turn) → Core → Message → Verdict → Turn
hears go c a (Ok tt) = go a
hears go c a (Err why) = refusing c why

-- the line of a message that was sent, after the step
unfoldable pub sent_text : Numbers → Controller → Sent → List ℕ
sent_text s c None = []
sent_text s c (Some head) = spell_line s.group (sent_message s c head)

unfoldable pub verdict_text : Verdict → List ℕ
verdict_text (Ok tt) = []
verdict_text (Err why) = refusal_line why

-- "it writes each line sent, and `X` for each refusal"
unfoldable pub answer_text : Numbers → Answer → List ℕ
answer_text s a = sent_text s a.next a.first ++ (sent_text s a.next a.second ++ verdict_text a.verdict)

abbrev pub step_turn : Core → Answer → Turn
step_turn c a = record { next = running_with c a.next; text = answer_text (numbers_in c) a }

-- the four stages, whatever is done with a running controller's messages
unfoldable pub turn_by : (Core → Message → Turn) → Core → List ℕ → Stage → Turn
turn_by go c line AtSettings = settles_to c (settle_line c.settling line).next (settle_line c.settling line).answer
turn_by go c line Waiting = hears (λ a. waits_for c a.head) c (read_line (group_in c) line).message (read_line (group_in c) line).verdict
turn_by go c line Running = hears (go c) c (read_line (group_in c) line).message (read_line (group_in c) line).verdict
turn_by go c line Ended = quiet c

abbrev pub stepping : Core → Message → Turn
stepping c a = step_turn c (stepped (numbers_in c) c.controller a)

abbrev pub turn : Core → List ℕ → Turn
turn c line = turn_by stepping c line c.stage
