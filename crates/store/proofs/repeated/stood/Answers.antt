-- `stood` meets its contract. Assumes nothing.
use Rattle.std.proofs.Common.{rules, tests, ◌∙◌}
use Rattle.std.proofs.lemmas.Iterator.{YieldsList-from_slice}
use Rattle.std.proofs.lemmas.Iterator.Search.{any_from_yields_List}
use lib.ListN.{get_or, take}
use Rattle.store.specs.Repeated.{shares}
use Rattle.store.proofs.Places.{past}
use Rattle.store.proofs.Looking.{stood_any}
use Rattle.store.proofs.repeated.stood.Goals as goal

pub returns : goal.returns
returns c =
    let a = c.args in
    any_from_yields_List (λ x. shares x (get_or a.rows.now a.i past)) _ _ _ c.any.ensures.ran (YieldsList-from_slice (take a.i a.rows.now) cc) (λ x b q k. search (rules, tests))
    ∙ stood_any a.rows.now a.i c.requires
