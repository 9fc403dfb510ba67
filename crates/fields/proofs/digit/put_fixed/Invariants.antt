-- `put_fixed` meets its contract: the digits put and those left make the whole. Assumes nothing.
use Rattle.fields.proofs.Writing.{Left}
use Rattle.fields.proofs.digit.put_fixed.Given as goal

abbrev pub invariant-loop-i : goal.invariant-loop-i
invariant-loop-i g l = Left g.row.BASE l.k l.n l.initial.buf l.at l.buf l.i l.left
