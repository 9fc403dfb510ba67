-- `read_known` meets its contract. Assumes nothing.
use mathlib.Core.Path.{refl}
use Rattle.lines.proofs.Openings.{known_taken, known_refused, none_read}
use Rattle.lines.proofs.Stages.{here_start}
use Rattle.lines.proofs.read.read_known.Goals as goal

pub returns-in-Ok : goal.returns-in-Ok
returns-in-Ok c = known_taken c.read_values.ensures c.in-Ok.is c.message_of.ensures

pub returns-in-Err : goal.returns-in-Err
returns-in-Err c = known_refused c.read_values.ensures c.in-Err.is c.refused.ensures

pub read_values-requires : goal.read_values-requires
read_values-requires c = (here_start _ c.requires, none_read, refl)
