-- DEMAND 1, "No line, message or timer can upset a controller, at any time, in any order": the verdict on a line, and what each refusal leaves.
use Rattle.std.specs.Prelude.{ℕ, ◌+◌, ◌≤◌, ◌<◌, ◌≡◌, true, false, List, ◌++◌, length, take, drop, Err, Ok}
use Rattle.units.specs.declared.refusal.Refusal.{Refusal}
use Rattle.units.specs.declared.refusal.Refusal.TheVariants.{Closed, Room}
use Rattle.units.specs.Refusal.{Verdict}
use Rattle.units.specs.Limits.{line_top}
use Rattle.message.specs.declared.head.Head.{Head}
use Rattle.message.specs.declared.value.Message.{Message}
use Rattle.message.specs.View.{on_start}
use Rattle.fields.specs.Lines.{feed_at, lines_of}
use Rattle.plan.specs.declared.brief.Phase.TheVariants.{Idle}
use Rattle.lines.specs.Settling.{Standing, settle_line}
use Rattle.lines.specs.declared.settle.Wanted.TheVariants.{More, Whole}
use Rattle.lines.specs.Reading.{read_line}
use Rattle.lines.specs.Writing.{refusal_line, buffer_of}
use Rattle.controller.specs.declared.state.Controller.{Controller}
use Rattle.controller.specs.Answers.{Answer}
use Rattle.controller.specs.Step.{stepped}
use Rattle.controller_laws.specs.Endings.{Ended as EndedBy}
use Rattle.controller_laws.specs.Ways.{ends_round}
use Rattle.session.specs.declared.feed.Session.{Session}
use Rattle.session.specs.declared.stage.Core.{Core}
use Rattle.session.specs.declared.stage.Stage.{Stage}
use Rattle.session.specs.declared.stage.Stage.TheVariants.{Settling as AtSettings, Waiting, Running, Ended}
use Rattle.session.specs.Feeding.{fed, fed_text, finished, last_turn}
use Rattle.session.specs.Pieces.{Feeds}
use Rattle.session.specs.Reach.{CoreFits}
use Rattle.session.specs.Station.{answers}
use Rattle.session.specs.Turn.{numbers_in, group_in, running_with, answer_text, turn}

-- THE VERDICT ON A LINE: the reader's 1 to 6 first; then 9 before the first B; then the step's
abbrev pub told_verdict : Standing → Verdict
told_verdict (Ok More) = Ok tt
told_verdict (Ok Whole) = Ok tt
told_verdict (Err why) = Err why

unfoldable pub wait_verdict : Head → Verdict
wait_verdict head = on_start (λ own floor. (Ok tt)) (Err Closed) head

unfoldable pub heard_verdict : (Message → Verdict) → Message → Verdict → Verdict
heard_verdict go a (Ok tt) = go a
heard_verdict go a (Err why) = Err why

-- the message that a line says, and the step that it leads to
abbrev pub spoken_in : Core → List ℕ → Message
spoken_in c line = (read_line (group_in c) line).message

abbrev pub step_by : Core → List ℕ → Answer
step_by c line = stepped (numbers_in c) c.controller (spoken_in c line)

unfoldable pub verdict_at : Core → List ℕ → Stage → Verdict
verdict_at c line AtSettings = told_verdict (settle_line c.settling line).answer
verdict_at c line Waiting = heard_verdict (λ a. wait_verdict a.head) (spoken_in c line) (read_line (group_in c) line).verdict
verdict_at c line Running = heard_verdict (λ a. (stepped (numbers_in c) c.controller a).verdict) (spoken_in c line) (read_line (group_in c) line).verdict
verdict_at c line Ended = Ok tt

abbrev pub verdict_of : Core → List ℕ → Verdict
verdict_of c line = verdict_at c line c.stage

-- A REFUSAL but 12, 13, 14 and 16: "the controller and all lent memory stay as they were", but for the X that is written
pub record Unmoved (x : Session) (piece buf : List ℕ) (why : Refusal) : Type 0 where
  -- settings, controller and stage, in every bit
  pub core : (fed x piece (length buf)).next.core ≡ x.core
  -- the line up to its line feed was taken, and nothing after it
  pub took : (fed x piece (length buf)).took ≡ feed_at piece + 1
  -- X and its number were written, and no byte past them
  pub wrote : (fed x piece (length buf)).wrote ≡ length (refusal_line why)
  pub buffer : buffer_of (fed_text x piece) buf ≡ refusal_line why ++ drop (length (refusal_line why)) buf
  -- whatever comes then, in whatever pieces, is answered as if the refused line had not come
  pub after : {later out : List ℕ} {y : Session} → Feeds (fed x piece (length buf)).next later out y → (last : List ℕ) → line_top ≤ length last
      → out ++ take (finished y (length last)).wrote (buffer_of (last_turn y).text last) ≡ answers x.core (lines_of later)

-- "the phase becomes idle, all else kept": the votes are those of `EndedBy`, with the D or F that led there taken in
pub record AllElse (c n : Controller) : Type 0 where
  pub phase : n.phase ≡ Idle
  pub own : n.own ≡ c.own
  pub label : n.label ≡ c.label
  pub state : n.state ≡ c.state
  pub estimates : n.estimates ≡ c.estimates
  pub held : n.held ≡ c.held
  pub readings : n.readings ≡ c.readings

-- 12, 13 AND 14 end the round
pub record RoundOver (x : Session) (line piece buf : List ℕ) (why : Refusal) : Type 0 where
  pub how : EndedBy x.core.controller (spoken_in x.core line).head why (step_by x.core line)
  pub kept : AllElse x.core.controller (step_by x.core line).next
  pub core : (fed x piece (length buf)).next.core ≡ running_with x.core (step_by x.core line).next
  pub took : (fed x piece (length buf)).took ≡ feed_at piece + 1
  pub buffer : buffer_of (fed_text x piece) buf ≡ answer_text (numbers_in x.core) (step_by x.core line) ++ drop (length (answer_text (numbers_in x.core) (step_by x.core line))) buf

-- 16: nothing is taken, written or changed, and the lent buffer is as it was
pub record Untouched (x : Session) (piece buf : List ℕ) : Type 0 where
  pub call : fed x piece (length buf) ≡ record { next = x; took = 0; wrote = 0; verdict = Err Room }
  pub buffer : buffer_of (fed_text x piece) buf ≡ buf

-- a session that is past its settings, the line at hand, the piece that ends it, and a lent buffer
pub record Demand1 (x : Session) (line piece buf : List ℕ) : Type 0 where
  -- the core is in range
  pub fits : CoreFits x.core
  -- the line at hand is answered as document 01 has it
  pub answer : fed_text x piece ≡ (turn x.core line).text
  pub refused : (why : Refusal) → verdict_of x.core line ≡ Err why → ends_round why ≡ false → length (refusal_line why) ≤ length buf → Unmoved x piece buf why
  pub round_over : (why : Refusal) → verdict_of x.core line ≡ Err why → ends_round why ≡ true → length (answer_text (numbers_in x.core) (step_by x.core line)) ≤ length buf
      → RoundOver x line piece buf why
  pub no_room : length buf < length (turn x.core line).text → Untouched x piece buf
