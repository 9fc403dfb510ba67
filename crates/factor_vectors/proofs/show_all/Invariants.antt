-- No more fields are shown than there are. Assumes nothing.
use Rattle.std.proofs.Common.{◌≤◌}
use Rattle.factor_vectors.proofs.show_all.Given as goal

abbrev pub invariant-loop-number : goal.invariant-loop-number
invariant-loop-number g l = l.shown ≤ l.number
