-- `put_runs` meets its contract: after i lines they stand one after the other. Assumes nothing.
use Prim.Native.Nat.{◌-◌}
use Rattle.store.proofs.Putting.{Puts}
use Rattle.store.proofs.put.put_runs.Given as goal

abbrev pub invariant-loop-i : goal.invariant-loop-i
invariant-loop-i l = Puts l.settings l.initial.out l.out l.at l.i

abbrev pub decreases-loop-i : goal.decreases-loop-i
decreases-loop-i l = l.settings.numbers.group.m - l.i
