-- Each write leaves fewer bytes, or fewer writes. Assumes nothing.
use Rattle.std.proofs.Common.{◌+◌, ◌-◌, ◌≤◌, length}
use Rattle.station.proofs.say.say.Given as goal

abbrev pub invariant-loop-at : goal.invariant-loop-at
invariant-loop-at g l = (l.n ≤ length l.text) × (l.at ≤ l.n)

abbrev pub decreases-loop-at : goal.decreases-loop-at
decreases-loop-at g l = (l.n - l.at) + l.left
