-- `start_estimates` meets its contract. Assumes nothing.
use Rattle.std.proofs.Common.{rules, nat_lt}
use Rattle.units.proofs.Counted.{made_tab}
use Rattle.floats.specs.Ranges.{no_estimate}
use Rattle.controller.specs.Start.{start_at, start_estimates}
use Rattle.controller.proofs.start.start_estimates.Goals as goal

pub returns : goal.returns
unfolding start_estimates
returns c = made_tab _ _ (λ i. start_at (nat_lt i c.args.m) c.args.p) (λ i y q k. search rules) no_estimate _ 16 c.from_fn.ensures.items
