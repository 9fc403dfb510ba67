-- `lacking` meets its contract. Assumes nothing.
use Rattle.std.proofs.Common.{rules, tests, ◌∙◌}
use Rattle.std.proofs.lemmas.Iterator.{YieldsList-from_slice}
use Rattle.std.proofs.lemmas.Iterator.Search.{position_from_yields_List}
use Rattle.store.specs.Row.{no_row}
use Rattle.store.specs.Runs.{is_blank}
use Rattle.store.proofs.Firsts.{place_of_all}
use Rattle.store.proofs.picked.lacking.Goals as goal

pub returns : goal.returns
returns c =
    let runs = c.args.runs.now in
    position_from_yields_List is_blank _ _ _ c.position.ensures.ran (YieldsList-from_slice runs cc) (λ x b q k. search (rules, tests)) ∙ place_of_all is_blank runs no_row
