-- `seats_in_range` meets its contract: all seven seats, as `every` says it. Assumes nothing.
use Rattle.std.proofs.Common.{nat_lt, rules}
use borrow.Author.Tests.{tests}
use Rattle.units.proofs.Chains.{placed_all, long_and}
use Rattle.vote.specs.Vote.{nobody, seat_fits, seats_fit}
use Rattle.vote.proofs.votes.seats_in_range.Goals as goal

pub returns : goal.returns
unfolding seats_fit
returns c =
    let a = c.args in
    long_and a.seats 7 (search rules)
    (placed_all a.seats nobody 7 c.all.new.self (λ i s. seat_fits (nat_lt i a.group.g) a.group.m a.label s.ballot) c.all.ensures.ran (cc) (cc) (λ x b q k. search (rules, tests)) (search rules))
