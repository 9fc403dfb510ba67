-- What is sent, as whole messages: the arrays of R, U and S are those of the controller after the step.
use Rattle.std.specs.Prelude.{List, ℕ, Float}
use Rattle.units.specs.declared.estimate.Estimate.{Estimate}
use Rattle.units.specs.declared.settings.Numbers.{Numbers}
use Rattle.filter.specs.Compute.{set_points}
use Rattle.message.specs.declared.head.Head.{Head}
use Rattle.message.specs.declared.value.Message.{Message}
use Rattle.message.specs.Message.{plain}
use Rattle.message.specs.View.{on_reply, on_update, on_issue}
use Rattle.controller.specs.declared.state.Controller.{Controller}
use Rattle.controller.specs.Merge.{selected}

abbrev pub with_readings : Head → List ℕ → Message
with_readings head readings = record { head = head; readings = readings; estimates = (plain head).estimates; targets = (plain head).targets }

abbrev pub with_estimates : Head → List Estimate → Message
with_estimates head estimates = record { head = head; readings = (plain head).readings; estimates = estimates; targets = (plain head).targets }

abbrev pub with_targets : Head → List Float → Message
with_targets head targets = record { head = head; readings = (plain head).readings; estimates = (plain head).estimates; targets = targets }

-- R has the readings asked for, U the estimates, S the targets that the state gives
unfoldable pub sent_message : Numbers → Controller → Head → Message
sent_message s c head =
    on_reply (λ sender label mask. with_readings head (selected mask c.readings))
    (on_update (λ sender state. with_estimates head c.estimates)
    (on_issue (λ sender label digest. with_targets head (set_points s c.estimates))
    (plain head) head) head) head
