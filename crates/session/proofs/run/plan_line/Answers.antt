-- `plan_line` meets its contract. Assumes nothing.
use Rattle.units.proofs.Picked.{along}
use Rattle.session.specs.Serving.{plan_line}
use Rattle.session.proofs.run.plan_line.Goals as goal

pub returns-in-Ok : goal.returns-in-Ok
unfolding plan_line
returns-in-Ok c = along (plan_line _ _ _ _) c.in-Ok.is c.plan.ensures

pub returns-in-Err : goal.returns-in-Err
unfolding plan_line
returns-in-Err c = along (plan_line _ _ _ _) c.in-Err.is c.refusal.ensures
