-- The first bytes of a block are handed over. Assumes nothing.
use Rattle.std.proofs.Common.{◌-◌, ◌*◌, ◌≤◌, ◌≡◌, length}
use Rattle.units.specs.Limits.{line_top}
use Rattle.station.proofs.Serving.{Handing}
use Rattle.station.proofs.serve.Given as goal

abbrev pub invariant-loop-written : goal.invariant-loop-written
invariant-loop-written g l = (l.have ≤ length l.block) × (2 * line_top ≤ length l.out) × Handing l.initial.next l.block l.have l.at l.next × (length l.out ≡ length l.initial.out)

abbrev pub decreases-loop-written : goal.decreases-loop-written
decreases-loop-written g l = l.have - l.at
