-- `other_than` meets its contract. Assumes nothing.
use borrow.Author.Tests.{eq-eqb, ne_eqb}
use Rattle.units.specs.Pick.{pick}
use Rattle.vote.specs.Decision.{other_than}
use Rattle.vote.proofs.ranks.other_than.Goals as goal

pub returns-then-strength-x : goal.returns-then-strength-x
unfolding other_than pick
returns-then-strength-x c = rw (eq-eqb _ _ c.if-strength-x.true)

pub returns-else-strength-x : goal.returns-else-strength-x
unfolding other_than pick
returns-else-strength-x c = rw (ne_eqb _ _ c.if-strength-x.false)
