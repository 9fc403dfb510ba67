-- `put_factor` meets its contract. Assumes nothing.
use mathlib.Core.Path.{ap}
use mathlib.Core.Bool.{not}
use Rattle.fields.proofs.Writing.{factor_over, factor_none, factor_put}
use Rattle.fields.proofs.factor.put_factor.Goals as goal

pub returns-then-whole-gt9 : goal.returns-then-whole-gt9
returns-then-whole-gt9 c = factor_over _ _ _ (rw c.from.ensures at c.if-whole-gt9.true)

pub returns-then-not-has_room : goal.returns-then-not-has_room
returns-then-not-has_room c = factor_none _ _ _ (rw c.from.ensures at c.if-whole-gt9.false) _ c.has_room.ensures (ap not c.if-not-has_room.true)

pub returns : goal.returns
returns c = let a = c.args in
    factor_put a.buf.now a.at a.n (rw c.from.ensures at c.if-whole-gt9.false) _ c.has_room.ensures (ap not c.if-not-has_room.false)
    _ _ _ (rw c.from.ensures at c.byte_of.ensures) c.put_fixed.ensures.0 c.put_fixed.ensures.1
