-- `gather` meets its contract: after each line the rows so far are those of the lines so far. Assumes nothing.
use Prim.Native.Nat.{◌-◌}
use lib.ListN.{length}
use Rattle.store.proofs.Gathering.{Gathering}
use Rattle.store.proofs.gather.gather.Given as goal

abbrev pub invariant-loop-at : goal.invariant-loop-at
invariant-loop-at l = Gathering l.export l.rows l.n l.at

abbrev pub decreases-loop-at : goal.decreases-loop-at
decreases-loop-at l = length l.export - l.at
