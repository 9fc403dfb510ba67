-- `Core::run` meets its contract. Assumes nothing.
use Rattle.session.proofs.Writes.{wrote_same}
use Rattle.session.proofs.Turns.{hears_taken, hears_refused}
use Rattle.session.specs.Feeding.{advancing}
use Rattle.session.proofs.stage.Core.run.Goals as goal

pub returns-in-Err : goal.returns-in-Err
returns-in-Err c = let a = c.args in wrote_same a.out.now (hears_refused (advancing a.self) a.self a.line.message _ c.in-Err.is) c.refuse.ensures

pub returns-in-Ok : goal.returns-in-Ok
returns-in-Ok c = let a = c.args in wrote_same a.out.now (hears_taken (advancing a.self) a.self a.line.message c.in-Ok.is) c.advance.ensures
