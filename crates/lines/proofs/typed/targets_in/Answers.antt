-- `targets_in` meets its contract. Assumes nothing.
use borrow.Author.Rules.{rules}
use borrow.Author.Tests.{tests}
use lib.Ieee.{nan}
use Rattle.units.specs.Pick.{pick}
use Rattle.units.proofs.Counted.{made_at}
use Rattle.lines.specs.Values.{target_in}
use Rattle.lines.proofs.Columns.{is_column}
use Rattle.lines.proofs.typed.targets_in.Goals as goal

pub returns : goal.returns
unfolding pick
returns c =
    let a = c.args in let r = c.from_fn.ensures.items in
    is_column _ nan 16 _ r.long (made_at _ _ (target_in a.n a.v.now) (λ i y q k. search (rules, tests)) nan _ 16 r)
