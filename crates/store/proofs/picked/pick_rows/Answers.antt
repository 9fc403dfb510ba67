-- `pick_rows` meets its contract: the first i runs have their newest rows. Assumes nothing.
use Prim.Native.Nat.{◌<◌}
use native.Mathlib.Omega.{arith}
use lib.ListN.{replicate, length-replicate}
use Rattle.units.proofs.Tab.{fill_none, fill_more}
use Rattle.store.specs.Row.{no_row}
use Rattle.store.proofs.picked.pick_rows.Goals as goal

pub loop-i-init : goal.loop-i-init
loop-i-init c = fill_none _ no_row 16 (replicate 16 c.no_row-picked.result) (length-replicate 16 c.no_row-picked.result)

pub loop-i-preserved : goal.loop-i-preserved
loop-i-preserved c =
    let l = c.loop-i in let h : l.i < 16 = omega (arith, c.loop-i-test.true, c.requires) in
    fill_more _ no_row 16 (replicate 16 c.no_row-picked.result) l.picked l.i _ l.invariant h c.newest_of.ensures

pub returns : goal.returns
returns c = let l = c.loop-i in λ i h. l.invariant.1 i (omega (arith, c.loop-i-test.false))
