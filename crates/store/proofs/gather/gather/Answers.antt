-- `gather` meets its contract: after each line the rows so far are those of the lines so far. Assumes nothing.
use Prim.Native.Nat.{◌≤◌, ◌<◌}
use native.Mathlib.Omega.{arith}
use lib.ListN.{length}
use Rattle.store.proofs.Gathering.{gather_start, gather_on, gather_bad, gather_more, gather_end}
use Rattle.store.proofs.gather.gather.Goals as goal
use Rattle.store.proofs.gather.gather.Goals.{After-line_end-end}

line : (k : After-line_end-end) → let l = k.loop-at in let end = k.line_end-end.result in
    (l.n < 512) × (l.at < end) × (end ≤ length k.args.export.now)
line k =
    let l = k.loop-at in
    gather_on k.args.export.now l.rows l.n l.at k.line_end-end.result l.invariant k.loop-at-test.true k.line_end-end.ensures

pub returns-in-Err : goal.returns-in-Err
returns-in-Err c = let l = c.loop-at in (gather_bad _ l.rows l.n l.at _ l.invariant c.loop-at-test.true c.line_end-end.ensures _ c.row_of.ensures _ c.in-Err.is, tt)

pub loop-at-preserved : goal.loop-at-preserved
loop-at-preserved c = let l = c.loop-at in gather_more _ l.rows l.n l.at _ l.invariant c.loop-at-test.true c.line_end-end.ensures _ c.row_of.ensures _ c.in-Ok.is

pub returns : goal.returns
returns c = let l = c.loop-at in (gather_end _ l.rows l.n l.at l.invariant c.loop-at-test.false, omega (arith, l.invariant.few))

pub loop-at-init : goal.loop-at-init
loop-at-init c = gather_start _ _ c.requires.1 c.requires.0

pub bounds-rows-n : goal.bounds-rows-n
bounds-rows-n c = let k = (goal.at.bounds-rows-n c).After-line_end-end in omega (arith, (line k).0, k.loop-at.invariant.long)
