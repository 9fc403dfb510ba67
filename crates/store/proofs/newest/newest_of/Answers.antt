-- `newest_of` meets its contract. Assumes nothing.
use Rattle.std.proofs.Common.{rules, tests, ◌∙◌, ap}
use Rattle.std.proofs.lemmas.Iterator.{YieldsList-from_slice}
use Rattle.std.proofs.lemmas.Iterator.Consumers.{fold_from_yields_List}
use Rattle.store.specs.declared.row.Row.{Row}
use Rattle.store.specs.Newest.{better, newest_from}
use Rattle.store.proofs.Looking.{newest_fold}
use Rattle.store.proofs.newest.newest_of.Goals as goal

pub returns : goal.returns
returns c =
    let a = c.args in
    fold_from_yields_List _ (better a.serial a.day) _ _ c.fold.ensures.ran (YieldsList-from_slice a.rows.now cc) (λ b x r q k. search (rules, tests))
    ∙ newest_fold a.serial a.day c.no_row.result a.rows.now ∙ ap (λ (b : Row). newest_from a.serial a.day b a.rows.now) c.no_row.ensures
