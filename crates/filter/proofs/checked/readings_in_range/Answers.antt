-- `readings_in_range` meets its contract: all sixteen places, as `every` says it. Assumes nothing.
use Rattle.std.proofs.Common.{nat_lt, rules}
use borrow.Author.Tests.{tests}
use Rattle.units.specs.Reading.{reading_place}
use Rattle.units.proofs.Chains.{placed_all}
use Rattle.filter.specs.Checked.{readings_fit}
use Rattle.filter.proofs.checked.readings_in_range.Goals as goal

pub returns : goal.returns
unfolding readings_fit
returns c =
    placed_all c.args.readings 0 16 c.all.new.self (λ i. reading_place (nat_lt i c.args.m)) c.all.ensures.ran (cc) (cc) (λ x b q k. search (rules, tests)) (search rules)
