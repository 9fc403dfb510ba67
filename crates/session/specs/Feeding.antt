-- A SESSION FED WITH BYTES: what one call takes, writes and leaves. That this is the station program, however the input is cut, is proofs/Whole.antt.
use Rattle.std.specs.Prelude.{ℕ, ◌+◌, ◌≡◌, List, [], ◌++◌, Bool, true, false, eqb, ltb, length, Err, None, Ok, Some}
use Rattle.units.specs.declared.refusal.Refusal.{Refusal}
use Rattle.units.specs.declared.refusal.Refusal.TheVariants.{Long, Unended, Range, Settings as NoSettings, Room}
use Rattle.units.specs.Refusal.{Verdict, number_of}
use Rattle.units.specs.declared.settings.Numbers.{Numbers}
use Rattle.units.specs.Limits.{line_top}
use Rattle.units.specs.Pick.{pick}
use Rattle.message.specs.declared.head.Head.{Head}
use Rattle.message.specs.declared.value.Message.{Message}
use Rattle.message.specs.Message.{message_fits}
use Rattle.plan.specs.Plan.{Sent}
use Rattle.fields.specs.Cut.{carry_start, emptied, held_with, line_ending}
use Rattle.fields.specs.Lines.{feed_at}
use Rattle.lines.specs.declared.read.Line.{Line}
use Rattle.lines.specs.declared.settle.Settling.{Settling}
use Rattle.lines.specs.Reading.{read_line}
use Rattle.lines.specs.Writing.{Written, spell_line, answer_of, buffer_of, written_number}
use Rattle.controller.specs.declared.state.Controller.{Controller}
use Rattle.controller.specs.Answers.{Answer}
use Rattle.controller.specs.Sent.{sent_message}
use Rattle.controller.specs.Step.{planned, carried_out}
use Rattle.session.specs.declared.feed.Fed.{Fed}
use Rattle.session.specs.declared.feed.Session.{Session}
use Rattle.session.specs.declared.stage.Core.{Core}
use Rattle.session.specs.declared.stage.Stage.{Stage}
use Rattle.session.specs.declared.stage.Stage.TheVariants.{Settling as AtSettings, Waiting, Running, Ended}
use Rattle.session.specs.declared.turn.Turned.{Turned}
use Rattle.session.specs.Turn.{Turn, group_in, numbers_in, core_start, settled_in, running_with, verdict_text, turn_by}

-- WHAT IS WRITTEN of a step: a message out of range would not be, nor a third line; neither ever comes (proofs/Same.antt)
abbrev pub advanced : Numbers → Controller → Message → Answer
advanced s c a = carried_out s c a (planned s c a a.head)

unfoldable pub fit_text : Numbers → Controller → Head → List ℕ
fit_text s c head = pick (message_fits s.group (sent_message s c head)) (spell_line s.group (sent_message s c head)) []

-- the writer's 6 counts as nothing written
unfoldable pub or_nothing : Written → Written
or_nothing w = pick (eqb (written_number w) (number_of Range)) (Ok 0) w

unfoldable pub rest_text : Numbers → Controller → Verdict → Sent → List ℕ
rest_text s c v None = verdict_text v
rest_text s c v (Some head) = fit_text s c head

unfoldable pub put_text : Numbers → Controller → Sent → Verdict → Sent → List ℕ
put_text s c second v None = verdict_text v
put_text s c second v (Some head) = fit_text s c head ++ rest_text s c v second

abbrev pub answer_put : Numbers → Answer → List ℕ
answer_put s a = put_text s a.next a.second a.verdict a.first

abbrev pub advances : Core → Answer → Turn
advances c a = record { next = running_with c a.next; text = answer_put (numbers_in c) a }

abbrev pub advancing : Core → Message → Turn
advancing c a = advances c (advanced (numbers_in c) c.controller a)

abbrev pub done_length : Written → ℕ
done_length (Ok len) = len
done_length (Err why) = 0

-- THE LINE AT HAND in a session
abbrev pub line_turn : Session → List ℕ → Turn
line_turn x input = turn_by advancing x.core (line_ending x.carry input) x.core.stage

-- a line as it was read, at the stages that read lines
unfoldable pub Heard : Core → List ℕ → Line → Stage → Type 0
Heard c text l AtSettings = Unit {0}
Heard c text l Waiting = l ≡ read_line (group_in c) text
Heard c text l Running = l ≡ read_line (group_in c) text
Heard c text l Ended = Unit {0}

-- the code's part of a turn: the next core, and what was written into a lent buffer
abbrev pub Wrote : Turn → List ℕ → List ℕ → Turned → Type 0
Wrote t before after r = (r.next ≡ t.next) × (r.written ≡ answer_of t.text before) × (after ≡ buffer_of t.text before)

-- 16: with too little room nothing is taken, written or changed
abbrev pub line_done : Session → ℕ → Turn → ℕ → Fed
line_done x end t room =
    pick (ltb room (length t.text)) (record { next = x; took = 0; wrote = 0; verdict = Err Room })
    (record { next = record { core = t.next; carry = emptied x.carry }; took = end; wrote = length t.text; verdict = Ok tt })

-- the same, by what was written
unfoldable pub line_done_by : Session → ℕ → Core → Written → Fed
line_done_by x end next (Ok len) = record { next = record { core = next; carry = emptied x.carry }; took = end; wrote = len; verdict = Ok tt }
line_done_by x end next (Err why) = record { next = x; took = 0; wrote = 0; verdict = Err why }

-- an input without a line feed is held
abbrev pub piece_held : Session → List ℕ → Fed
piece_held x input = record { next = record { core = x.core; carry = held_with x.carry input }; took = length input; wrote = 0; verdict = Ok tt }

unfoldable pub fed : Session → List ℕ → ℕ → Fed
fed x input room = pick (eqb (feed_at input) (length input)) (piece_held x input) (line_done x (feed_at input + 1) (line_turn x input) room)

-- what a call writes, where there is room for it
unfoldable pub fed_text : Session → List ℕ → List ℕ
fed_text x input = pick (eqb (feed_at input) (length input)) [] (line_turn x input).text

-- THE END OF THE INPUT: a piece without a line feed is 2, and 1 above 600 bytes; settings that are not whole lack their next line
abbrev pub unended : ℕ → Refusal
unended n = pick (ltb line_top n) Long Unended

unfoldable pub unended_line : ℕ → Verdict
unended_line n = pick (eqb n 0) (Ok tt) (Err (unended n))

unfoldable pub last_of : Settling → ℕ → Stage → Verdict
last_of st n AtSettings = Err (NoSettings st.line (number_of (unended n)))
last_of st n Waiting = unended_line n
last_of st n Running = unended_line n
last_of st n Ended = Ok tt

abbrev pub is_ended : Stage → Bool
is_ended AtSettings = false
is_ended Waiting = false
is_ended Running = false
is_ended Ended = true

abbrev pub last_turn : Session → Turn
last_turn x =
    record { next = settled_in x.core Ended x.core.settling; text = verdict_text (last_of x.core.settling x.carry.len x.core.stage) }

abbrev pub finished : Session → ℕ → Fed
finished x room = line_done x 0 (last_turn x) room

unfoldable pub session_start : Session
session_start = record { core = core_start; carry = carry_start }
