-- `issue` meets its contract: the state that was computed is adopted, under the round's label. Assumes nothing.
use mathlib.Core.Path.{ap₂, ◌∙◌}
use Rattle.plan.specs.declared.brief.Phase.TheVariants.{Idle}
use Rattle.controller.specs.Effects.{adopting}
use Rattle.controller.proofs.state.Controller.issue.Goals as goal

pub returns : goal.returns
returns c = c.adopt.ensures ∙ ap₂ (λ s es. adopting c.args.self s es Idle) c.issued.ensures c.state_after-next.ensures
