-- `Controller::apply` meets its contract: of an effect that keeps all, nothing changes; the check finds the others. Assumes nothing.
use mathlib.Core.Path.{refl}
use Rattle.units.proofs.Picked.{along}
use Rattle.controller.specs.Effects.{applied}
use Rattle.controller.proofs.state.Controller.apply.Goals as goal

pub returns-in-Keep : goal.returns-in-Keep
unfolding applied
returns-in-Keep c = along (applied c.args.numbers c.args.message c.args.self) c.in-Keep.is (refl)
