-- LINES ONE AFTER ANOTHER: a call that serves all whole lines of a piece. That it is so many calls of `feed`, each lent the rest of the buffer, is proofs/Serving.antt.
use Rattle.std.specs.Prelude.{ℕ, ◌+◌, ◌-◌, ◌*◌, ◌≡◌, List, [], ◌++◌, Bool, true, false, not, ◌&&◌, eqb, leb, ltb, length, drop, Err, Ok}
use Rattle.units.specs.Refusal.{Verdict}
use Rattle.units.specs.declared.settings.Numbers.{Numbers}
use Rattle.units.specs.Limits.{line_top}
use Rattle.units.specs.Pick.{pick}
use Rattle.message.specs.declared.head.Head.{Head}
use Rattle.message.specs.declared.value.Message.{Message}
use Rattle.plan.specs.declared.planned.Change.{Change}
use Rattle.plan.specs.declared.planned.Change.TheVariants.{Reading as OneReading}
use Rattle.plan.specs.declared.planned.Effect.TheVariants.{Add}
use Rattle.plan.specs.declared.planned.Plan.{Plan}
use Rattle.plan.specs.Plan.{does, refuse}
use Rattle.lines.specs.declared.read.Line.{Line}
use Rattle.lines.specs.Reading.{first_line}
use Rattle.controller.specs.declared.state.Controller.{Controller}
use Rattle.controller.specs.Answers.{Answer}
use Rattle.controller.specs.Step.{planned, carried_out}
use Rattle.session.specs.declared.feed.Fed.{Fed}
use Rattle.session.specs.declared.feed.Session.{Session}
use Rattle.session.specs.declared.run.Ran.{Ran}
use Rattle.session.specs.declared.stage.Stage.{Stage}
use Rattle.session.specs.declared.stage.Stage.TheVariants.{Settling as AtSettings, Waiting, Running, Ended}
use Rattle.session.specs.Turn.{numbers_in, running_with}
use Rattle.fields.specs.Lines.{feed_at}
use Rattle.session.specs.Feeding.{answer_put, fed, fed_text}
use Rattle.session.specs.Repeat.{Run, run_on}

-- WHAT A LINE THAT WAS READ LEADS TO, where a controller runs: a refused one leads to its X and to nothing else
unfoldable pub plan_line : Numbers → Controller → Message → Head → Verdict → Plan
plan_line s k a head (Ok tt) = planned s k a head
plan_line s k a head (Err why) = refuse why

-- the change that it makes, known where it is that one reading is added and nothing else
abbrev pub AddedBy : Controller → Head → Verdict → Change → Type 0
AddedBy k head v change = (s : Numbers) (a : Message) (run raw : ℕ) → change ≡ OneReading run raw → plan_line s k a head v ≡ does (Add run raw)

abbrev pub line_answer : Numbers → Controller → Line → Answer
line_answer s k line = carried_out s k line.message (plan_line s k line.message line.message.head line.verdict)

-- A RUN OF LINES: the next line is served at once where it is whole and there is room for two lines
unfoldable pub goes_on : List ℕ → ℕ → Bool
goes_on input room = leb (2 * line_top) room && not (eqb (feed_at input) (length input))

abbrev pub line_run : Numbers → Controller → List ℕ → ℕ → Run Controller
line_run s k input room =
    record { next = (line_answer s k (first_line s.group input).line).next; took = feed_at input + 1; text = answer_put s (line_answer s k (first_line s.group input).line) }

-- each line has a byte at least, so there are no more lines than bytes
abbrev pub run_of : Numbers → Controller → List ℕ → ℕ → Run Controller
run_of s k input room = run_on goes_on (line_run s) (length input) k input room

abbrev pub ran : Run Controller → Ran
ran r = record { next = r.next; took = r.took; wrote = length r.text }

-- A CALL THAT SERVES A PIECE: one call of `feed`, and the lines behind it where a controller runs
abbrev pub is_running : Stage → Bool
is_running AtSettings = false
is_running Waiting = false
is_running Running = true
is_running Ended = false

-- a line is whole where nothing is held of it
abbrev pub may_run : Session → Bool
may_run x = is_running x.core.stage && eqb x.carry.len 0

abbrev pub run_next : Session → List ℕ → ℕ → Run Controller
run_next x input room = run_of (numbers_in x.core) x.core.controller input room

abbrev pub ran_on : Fed → Ran → Fed
ran_on f r = record {
  next = record { core = running_with f.next.core r.next; carry = f.next.carry };
  took = f.took + r.took;
  wrote = f.wrote + r.wrote;
  verdict = f.verdict;
}

unfoldable pub served : Session → List ℕ → ℕ → Fed
served x input room =
    pick (may_run (fed x input room).next)
    (ran_on (fed x input room) (ran (run_next (fed x input room).next (drop (fed x input room).took input) (room - (fed x input room).wrote))))
    (fed x input room)

-- what it writes: nothing of a line that was not taken for lack of room
unfoldable pub first_text : Session → List ℕ → ℕ → List ℕ
first_text x input room = pick (ltb room (length (fed_text x input))) [] (fed_text x input)

unfoldable pub served_text : Session → List ℕ → ℕ → List ℕ
served_text x input room =
    pick (may_run (fed x input room).next)
    (first_text x input room ++ (run_next (fed x input room).next (drop (fed x input room).took input) (room - (fed x input room).wrote)).text)
    (first_text x input room)
