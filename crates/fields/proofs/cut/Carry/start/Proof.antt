-- `Carry::start` meets its contract. Assumes nothing.
use mathlib.Core.Path.{refl}
use Rattle.fields.specs.Cut.{carry_start}
use Rattle.fields.proofs.cut.Carry.start.Statement.{statement}
use Rattle.fields.proofs.cut.Carry.start.Tie as tie

returns : tie.Need-returns
unfolding carry_start
returns c = refl

pub start_spec : {M : Type 1} → statement M
start_spec = tie.close (tie.spec returns)
