-- `float_here` meets its contract. Assumes nothing.
use Rattle.fields.proofs.Quicks.{Sixteen}
use Rattle.fields.proofs.quick.float_here.Given as goal

abbrev pub invariant-loop-b : goal.invariant-loop-b
invariant-loop-b l = Sixteen l.digits l.n l.worst l.b-index
