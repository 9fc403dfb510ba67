-- `put_setting` meets its contract. Assumes nothing.
use Prim.Native.Nat.{◌<◌}
use Rattle.lines.proofs.Runs.{sizes_put, filter_put, run_few, certificate_short, run_written}
use Rattle.lines.proofs.setting.put_setting.Goals as goal
use Rattle.lines.proofs.setting.put_setting.Goals.{After-turn_of-run}

few : (c : After-turn_of-run) → c.turn_of-run.result < 16
few c = let l = c in let z = l in run_few z.args.settings z.args.k z.requires l.if-k-eq1.false c.if-k-eq2.false _ c.turn_of-run.ensures

pub returns-then-k-eq1 : goal.returns-then-k-eq1
returns-then-k-eq1 c = let a = c.args in sizes_put a.settings a.k c.requires _ _ a.buf.now c.if-k-eq1.true (rw c.of-sizes.ensures at c.put_line.ensures)

pub returns-then-k-eq2 : goal.returns-then-k-eq2
returns-then-k-eq2 c =
    let a = c.args in
    filter_put a.settings a.k c.requires _ _ a.buf.now c.if-k-eq1.false c.if-k-eq2.true
    (rw (c.of-filter.ensures, c.from.ensures, c.from-then-k-eq2.ensures, c.from-then-k-eq2-2.ensures) at c.put_line-then-k-eq2.ensures)

pub put_run-requires : goal.put_run-requires
put_run-requires c =
    let k = c in let l = k in let z = l in
    certificate_short z.args.settings z.args.k z.requires l.if-k-eq1.false k.if-k-eq2.false _ k.turn_of-run.ensures

pub returns : goal.returns
returns c =
    let k = c in let l = k in let z = l in
    run_written z.args.settings z.args.k z.requires l.if-k-eq1.false k.if-k-eq2.false _ k.turn_of-run.ensures _ _ z.args.buf.now c.put_run.ensures

pub bounds-settings-run : goal.bounds-settings-run
bounds-settings-run c = few c

pub bounds-numbers-run : goal.bounds-numbers-run
bounds-numbers-run c = few (goal.at.bounds-numbers-run c).After-turn_of-run

pub bounds-numbers-run-2 : goal.bounds-numbers-run-2
bounds-numbers-run-2 c = few (goal.at.bounds-numbers-run-2 c).After-turn_of-run
