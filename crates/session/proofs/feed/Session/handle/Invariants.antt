-- `Session::handle` meets its contract: after each call, what was said and what is left to do make the whole. Assumes nothing.
use Prim.Native.Nat.{◌-◌}
use lib.ListN.{length}
use Rattle.session.proofs.Handling.{Calling}
use Rattle.session.proofs.feed.Session.handle.Given as goal

abbrev pub invariant-loop-at : goal.invariant-loop-at
invariant-loop-at l = Calling l.initial.next l.input l.initial.out l.next l.at l.filled l.out

abbrev pub decreases-loop-at : goal.decreases-loop-at
decreases-loop-at l = length l.input - l.at
