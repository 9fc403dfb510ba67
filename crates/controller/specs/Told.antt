-- "it goes in, and comes back with what to send": an answer with its messages as whole values.
use Rattle.std.specs.Prelude.{ℕ, Option, None, Some}
use Rattle.units.specs.declared.settings.Numbers.{Numbers}
use Rattle.message.specs.declared.value.Message.{Message}
use Rattle.plan.specs.Plan.{Sent}
use Rattle.controller.specs.declared.state.Controller.{Controller}
use Rattle.controller.specs.Answers.{Answer, Told}
use Rattle.controller.specs.Sent.{sent_message}

-- a message that is sent, whole: its arrays are those of the controller after the step
unfoldable pub whole_of : Numbers → Controller → Sent → Option Message
whole_of s c None = None
whole_of s c (Some head) = Some (sent_message s c head)

-- the messages of an answer, made by the next controller
unfoldable pub told : Numbers → Answer → Told
told s r = record { next = r.next; first = whole_of s r.next r.first; second = whole_of s r.next r.second; verdict = r.verdict }

-- how many messages are told of
abbrev pub sent_count : Option Message → ℕ
sent_count None = 0
sent_count (Some x) = 1
