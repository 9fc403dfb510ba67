-- `Core::turn` meets its contract. Assumes nothing.
use mathlib.Core.Path.{refl}
use Rattle.session.proofs.Writes.{wrote_same, wrote_quiet}
use Rattle.session.proofs.Turns.{turn_settles, turn_waits, turn_runs, turn_ended, waits_heard, runs_heard}
use Rattle.session.specs.Feeding.{advancing}
use Rattle.session.proofs.stage.Core.turn.Goals as goal

pub returns-in-Settling : goal.returns-in-Settling
returns-in-Settling c =
    let a = c.args in
    wrote_same a.out.now (turn_settles advancing a.self _ _ c.in-Settling.is c.take_on.ensures) c.settle.ensures

pub returns-in-Waiting : goal.returns-in-Waiting
returns-in-Waiting c =
    let s = c in
    let a = s.args in
    let w = c.in-Waiting.is in
    wrote_same a.out.now (turn_waits advancing a.self _ a.line w (waits_heard a.self _ a.line w s.requires)) c.wait.ensures

pub returns-in-Running : goal.returns-in-Running
returns-in-Running c =
    let s = c in
    let a = s.args in
    let w = c.in-Running.is in
    wrote_same a.out.now (turn_runs advancing a.self _ a.line w (runs_heard a.self _ a.line w s.requires)) c.run.ensures

pub returns-in-Ended : goal.returns-in-Ended
returns-in-Ended c = let a = c.args in wrote_quiet _ _ a.out.now (turn_ended advancing a.self _ c.in-Ended.is) refl c.quiet.ensures
