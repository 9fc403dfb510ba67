-- `grow` meets its contract: one rounding, then the limit. Assumes nothing.
use Rattle.std.proofs.Common.{◌∙◌, ap₂}
use lib.Ieee.{Float, binary64, add}
use Rattle.floats.proofs.Limits.{variance_top_lem}
use Rattle.filter.specs.Run.{at_most, grown}
use Rattle.filter.proofs.run.grow.Goals as goal

pub returns : goal.returns
unfolding grown
returns c = c.at_most.ensures ∙ ap₂ (λ (t w : Float). at_most t (add binary64 c.args.p w)) variance_top_lem c.product.ensures
