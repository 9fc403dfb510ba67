-- Exactly the block's first bytes are handed over. Assumes nothing.
use Rattle.std.proofs.Common.{arith, refl}
use borrow.Rule.Slice.PartMut.{mid_len}
use Rattle.station.proofs.Serving.{starts, goes_on}
use Rattle.station.proofs.serve.Goals as goal

pub loop-written-init : goal.loop-written-init
loop-written-init g c = (c.requires.0, c.requires.1, starts _ _ _, refl)

pub loop-written-preserved : goal.loop-written-preserved
loop-written-preserved g c =
    let i = c.loop-written.invariant in
    let m = mid_len c.loop-written.at c.args.have c.args.block.now i.0 in
    (i.0, omega (arith, i.1), goes_on _ _ _ i.2 m c.hand-handed.ensures, omega (arith, i.3))
