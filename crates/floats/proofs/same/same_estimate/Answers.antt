-- `same_estimate` meets its contract: both tests. Assumes nothing.
use Rattle.units.proofs.Every.{then_both, else_both}
use Rattle.floats.specs.Ranges.{same_estimate}
use Rattle.floats.proofs.same.same_estimate.Goals as goal

pub returns-then-same_float : goal.returns-then-same_float
unfolding same_estimate
returns-then-same_float c = then_both c.same_float.ensures c.if-same_float.true c.same_float-then-same_float.ensures

pub returns-else-same_float : goal.returns-else-same_float
unfolding same_estimate
returns-else-same_float c = else_both _ c.same_float.ensures c.if-same_float.false
