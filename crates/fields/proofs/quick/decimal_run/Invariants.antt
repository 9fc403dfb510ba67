-- `decimal_run` meets its contract: the digits that are left, after the number so far, say what all say. Assumes nothing.
use Rattle.fields.proofs.Quicks.{Running}
use Rattle.fields.proofs.quick.decimal_run.Given as goal

abbrev pub invariant-loop-end : goal.invariant-loop-end
invariant-loop-end l = Running l.text l.at l.n l.end
