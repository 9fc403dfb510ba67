-- `put_runs` meets its contract: after i lines they stand one after the other. Assumes nothing.
use mathlib.Core.Path.{refl}
use native.Mathlib.Omega.{arith}
use Rattle.store.proofs.RunLines.{runs_top_lem}
use Rattle.store.proofs.Putting.{puts_part, puts_more, puts_all, puts_start}
use Rattle.store.proofs.put.put_runs.Goals as goal

pub put_one-at-requires : goal.put_one-at-requires
put_one-at-requires c =
    let z = c.requires in let t = c.loop-i-test.true in
    (z.0, t, puts_part _ _ z _ _ _ c.loop-i.invariant t)

pub overflow_add-at : goal.overflow_add-at
overflow_add-at c =
    let z = c.requires in let t = c.loop-i-test.true in
    let g = puts_more _ _ z _ _ _ c.loop-i.invariant t _ _ _ c.put_one-at.ensures refl in
    omega (arith, g.short, runs_top_lem _ z.0, t)

pub loop-i-preserved : goal.loop-i-preserved
loop-i-preserved c =
    puts_more _ _ c.requires _ _ _ c.loop-i.invariant c.loop-i-test.true _ _ _
    c.put_one-at.ensures refl

pub returns : goal.returns
returns c = puts_all _ _ c.requires _ _ _ c.loop-i.invariant c.loop-i-test.false

pub loop-i-init : goal.loop-i-init
loop-i-init c = puts_start _ _ c.requires
