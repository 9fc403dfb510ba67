-- `put_fixed` meets its contract: the digits put and those left make the whole. Assumes nothing.
use mathlib.Core.Path.{refl}
use Rattle.fields.proofs.Writing.{left_again, left_end}
use Rattle.fields.proofs.digit.put_fixed.Goals as goal

pub loop-i-preserved : goal.loop-i-preserved
loop-i-preserved g c = left_again _ _ _ _ _ _ _ _ c.loop-i.invariant c.loop-i-test.true _ c.byte_of.ensures

pub returns : goal.returns
returns g c = (refl, left_end _ _ _ _ _ _ _ _ c.loop-i.invariant c.loop-i-test.false)
