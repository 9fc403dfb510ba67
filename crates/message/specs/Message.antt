-- A message as a value: "handed in as values with anything out of range get 6"; places that a kind or m does not use are blank.
use Rattle.std.specs.Prelude.{Bool, ◌&&◌, replicate}
use Rattle.units.specs.declared.settings.Group.{Group}
use Rattle.units.specs.Limits.{runs_top}
use Rattle.units.specs.Settings.{group_fits}
use Rattle.floats.specs.Bits.{nought}
use Rattle.floats.specs.Ranges.{blank, state_fits, targets_fit}
use Rattle.message.specs.declared.head.Head.{Head}
use Rattle.message.specs.declared.value.Message.{Message}
use Rattle.message.specs.Head.{carried, head_fits}
use Rattle.message.specs.Readings.{readings_fit}

-- a message that carries no array
unfoldable pub plain : Head → Message
plain head = record { head = head; readings = replicate runs_top 0; estimates = replicate runs_top blank; targets = replicate runs_top nought }

unfoldable pub message_fits : Group → Message → Bool
message_fits s a =
    group_fits s
    && head_fits s a.head
    && readings_fit (carried s a.head).readings a.readings
    && state_fits (carried s a.head).estimates a.estimates
    && targets_fit (carried s a.head).targets a.targets
