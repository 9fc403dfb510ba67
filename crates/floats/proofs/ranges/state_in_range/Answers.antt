-- `state_in_range` meets its contract: all sixteen places, as `every` says it. Assumes nothing.
use Rattle.std.proofs.Common.{nat_lt, rules}
use borrow.Author.Tests.{tests}
use Rattle.floats.specs.Ranges.{no_estimate, estimate_place, state_fits}
use Rattle.units.proofs.Chains.{placed_all, long_and}
use Rattle.floats.proofs.ranges.state_in_range.Goals as goal

pub returns : goal.returns
unfolding state_fits
returns c =
    long_and c.args.state 16 (search rules)
    (placed_all c.args.state no_estimate 16 c.all.new.self (λ i. estimate_place (nat_lt i c.args.m)) c.all.ensures.ran (cc) (cc) (λ x b q k. search (rules, tests)) (search rules))
