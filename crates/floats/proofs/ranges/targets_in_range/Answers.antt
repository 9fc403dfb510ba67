-- `targets_in_range` meets its contract: all sixteen places, as `every` says it. Assumes nothing.
use Rattle.std.proofs.Common.{nat_lt, rules}
use borrow.Author.Tests.{tests}
use lib.Ieee.{nan}
use Rattle.floats.specs.Ranges.{target_place, targets_fit}
use Rattle.units.proofs.Chains.{placed_all, long_and}
use Rattle.floats.proofs.ranges.targets_in_range.Goals as goal

pub returns : goal.returns
unfolding targets_fit
returns c =
    long_and c.args.targets 16 (search rules)
    (placed_all c.args.targets nan 16 c.all.new.self (λ i. target_place (nat_lt i c.args.m)) c.all.ensures.ran (cc) (cc) (λ x b q k. search (rules, tests)) (search rules))
