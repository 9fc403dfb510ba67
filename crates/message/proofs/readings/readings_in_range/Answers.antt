-- `readings_in_range` meets its contract: all sixteen places, as `every` says it. Assumes nothing.
use Rattle.std.proofs.Common.{rules}
use borrow.Author.Tests.{tests}
use Rattle.units.specs.Mask.{in_mask}
use Rattle.units.specs.Reading.{reading_place}
use Rattle.units.proofs.Chains.{placed_all, long_and}
use Rattle.message.specs.Readings.{readings_fit}
use Rattle.message.proofs.readings.readings_in_range.Goals as goal

pub returns : goal.returns
unfolding readings_fit
returns c =
    long_and c.args.readings 16 (search rules)
    (placed_all c.args.readings 0 16 c.all.new.self (λ i. reading_place (in_mask c.args.mask i)) c.all.ensures.ran (cc) (cc) (λ x b q k. search (rules, tests)) (search rules))
