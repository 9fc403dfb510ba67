-- `read_on` meets its contract. Assumes nothing.
use Rattle.lines.proofs.Walking.{Walking}
use Rattle.lines.proofs.values.read_on.Given as goal

abbrev pub invariant-loop-k : goal.invariant-loop-k
invariant-loop-k l = Walking l.kind l.group l.text l.initial.v l.from l.to l.v l.at l.k
