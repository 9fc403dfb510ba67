-- `run_lines` meets its contract: after each line, what was said and what is left to do make the whole. Assumes nothing.
use Prim.Native.Nat.{◌-◌}
use lib.ListN.{length}
use Rattle.session.proofs.Adding.{Lines}
use Rattle.session.proofs.run.run_lines.Given as goal

abbrev pub invariant-loop-out : goal.invariant-loop-out
invariant-loop-out l = Lines l.numbers l.initial.next l.input l.initial.out l.next l.at l.filled l.out

abbrev pub decreases-loop-out : goal.decreases-loop-out
decreases-loop-out l = length l.input - l.at
