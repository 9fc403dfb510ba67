-- `same_state` meets its contract: all sixteen places, as `every` says it. Assumes nothing.
use Rattle.std.proofs.Common.{rules}
use borrow.Author.Tests.{tests}
use Rattle.units.proofs.Chains.{beside_all}
use Rattle.floats.specs.Ranges.{no_estimate, same_estimate, same_state}
use Rattle.floats.proofs.same.same_state.Goals as goal

pub returns : goal.returns
unfolding same_state
returns c =
    beside_all c.args.a c.args.b no_estimate no_estimate 16 c.all.new.self same_estimate c.all.ensures.ran
    (cc) (cc) (λ x b q k. search (rules, tests)) (search rules) (search rules)
