-- `Core::wait` meets its contract. Assumes nothing.
use Rattle.session.proofs.Writes.{wrote_same}
use Rattle.session.proofs.Turns.{hears_taken, hears_refused}
use Rattle.session.specs.Turn.{waits_for}
use Rattle.session.proofs.stage.Core.wait.Goals as goal

pub returns-in-Err : goal.returns-in-Err
returns-in-Err c =
    let a = c.args in
    wrote_same a.out.now (hears_refused (λ x. waits_for a.self x.head) a.self a.line.message _ c.in-Err.is) c.refuse.ensures

pub returns-in-Ok : goal.returns-in-Ok
returns-in-Ok c = let a = c.args in wrote_same a.out.now (hears_taken (λ x. waits_for a.self x.head) a.self a.line.message c.in-Ok.is) c.wait_for.ensures
