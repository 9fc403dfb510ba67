-- `widths` meets its contract. Assumes nothing.
use mathlib.Core.Path.{refl}
use native.Mathlib.Omega.{arith}
use Rattle.fields.specs.Text.{tabbed}
use Rattle.lines.specs.Lists.{column}
use Rattle.lines.proofs.Putting.{width_more, width_short}
use Rattle.lines.proofs.write.widths.Goals as goal

pub loop-k-init : goal.loop-k-init
unfolding column tabbed
loop-k-init c = (refl, omega arith)

pub overflow_add-sum : goal.overflow_add-sum
overflow_add-sum c = let a = c.args in omega (arith, width_short a.kind a.numbers.now c.loop-k.k _ _ c.quantity_at.ensures c.spelling.ensures _ c.width.ensures)

pub overflow_add-sum-in-loop-k : goal.overflow_add-sum-in-loop-k
overflow_add-sum-in-loop-k c = let a = c.args in omega (arith, width_short a.kind a.numbers.now c.loop-k.k _ _ c.quantity_at.ensures c.spelling.ensures _ c.width.ensures)

pub loop-k-preserved : goal.loop-k-preserved
loop-k-preserved c =
    let l = c.loop-k in let a = c.args in (
      width_more a.kind a.numbers.now l.k _ _ c.quantity_at.ensures c.spelling.ensures _ _ l.invariant.0 c.width.ensures,
      omega (arith, width_short a.kind a.numbers.now l.k _ _ c.quantity_at.ensures c.spelling.ensures _ c.width.ensures),
    )
