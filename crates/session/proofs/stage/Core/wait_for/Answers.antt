-- `Core::wait_for` meets its contract. Assumes nothing.
use mathlib.Core.Path.{ap, refl}
use Rattle.session.proofs.Turns.{waits_unlike}
use Rattle.session.proofs.Writes.{wrote_same, wrote_quiet}
use Rattle.session.specs.Turn.{waits_for}
use Rattle.session.proofs.stage.Core.wait_for.Goals as goal

pub returns-in-Start : goal.returns-in-Start
unfolding waits_for
returns-in-Start c = let a = c.args in wrote_quiet _ _ a.out.now (ap (waits_for a.self) c.in-Start.is) refl c.begin.ensures

pub returns-in_default : goal.returns-in_default
returns-in_default c = let a = c.args in wrote_same a.out.now (waits_unlike a.self a.head c.in_default.not-Start) c.refuse.ensures
