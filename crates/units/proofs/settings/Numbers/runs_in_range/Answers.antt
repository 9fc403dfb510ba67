-- All sixteen places, as `every` says it. Assumes nothing.
use Rattle.std.proofs.Common.{nat_lt, rules}
use borrow.Author.Tests.{tests}
use Rattle.units.specs.Settings.{place_fits, runs_fit}
use Rattle.units.proofs.Chains.{beside_placed_all}
use Rattle.units.proofs.settings.Numbers.runs_in_range.Goals as goal

pub returns : goal.returns
unfolding runs_fit
returns c =
    beside_placed_all c.args.self.factors c.args.self.weights 0 0 16 c.all.new.self (λ i. place_fits (nat_lt i c.args.self.group.m)) c.all.ensures.ran
    (cc) (cc) (cc) (λ x b q k. search (rules, tests)) (search rules) (search rules)
