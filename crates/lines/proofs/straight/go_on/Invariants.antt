-- `go_on` meets its contract. Assumes nothing.
use Rattle.lines.proofs.Straights.{Treading}
use Rattle.lines.proofs.straight.go_on.Given as goal

abbrev pub invariant-loop-k : goal.invariant-loop-k
invariant-loop-k l = Treading l.kind l.group l.input l.initial.v l.from l.v l.at l.k
