-- `targets_of` meets its contract: each place has its share. Assumes nothing.
use Rattle.std.proofs.Common.{rules}
use borrow.Author.Tests.{tests}
use lib.Ieee.{nan}
use Rattle.filter.specs.Share.{shared, weight_sum, targets}
use Rattle.units.proofs.Counted.{made_tab}
use Rattle.filter.proofs.share.targets_of.Goals as goal

pub returns : goal.returns
unfolding targets
returns c =
    made_tab _ _ (shared c.args.total c.args.numbers.group.m c.args.numbers.weights (weight_sum c.args.numbers.group.m c.args.numbers.weights))
    (λ i y q k. search (rules, tests)) nan _ 16 c.from_fn.ensures.items
