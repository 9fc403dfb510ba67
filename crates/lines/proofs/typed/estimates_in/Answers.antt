-- `estimates_in` meets its contract. Assumes nothing.
use borrow.Author.Rules.{rules}
use borrow.Author.Tests.{tests}
use Rattle.units.specs.Pick.{pick}
use Rattle.units.proofs.Counted.{made_at}
use Rattle.floats.specs.Ranges.{no_estimate}
use Rattle.lines.specs.Values.{estimate_in}
use Rattle.lines.proofs.Columns.{is_column}
use Rattle.lines.proofs.typed.estimates_in.Goals as goal

pub returns : goal.returns
unfolding pick
returns c =
    let a = c.args in let r = c.from_fn.ensures.items in
    is_column _ no_estimate 16 _ r.long (made_at _ _ (estimate_in a.n a.v.now) (λ i y q k. search (rules, tests)) no_estimate _ 16 r)
