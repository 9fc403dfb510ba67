-- `move_by` meets its contract: its three roundings are those of `moved`. Assumes nothing.
use Rattle.std.proofs.Common.{ap, ◌∙◌}
use lib.Ieee.{Float, binary64, add, mul, sub}
use Rattle.floats.proofs.Limits.{x_top_lem}
use Rattle.filter.specs.Run.{limited, moved}
use Rattle.filter.proofs.run.move_by.Goals as goal

pub returns : goal.returns
unfolding moved
returns c =
    let a = c.args in
    c.limit.ensures ∙ ap (λ (t : Float). limited t (add binary64 a.x (mul binary64 a.k (sub binary64 a.z a.x)))) x_top_lem
