-- `readings_agree` meets its contract. Assumes nothing.
use Rattle.std.proofs.Common.{refl, ◌∙◌, rules}
use borrow.Author.Tests.{tests}
use Rattle.std.proofs.lemmas.Iterator.{YieldsList-from_range}
use Rattle.std.proofs.lemmas.Iterator.Search.{all_from_yields_List}
use Rattle.units.proofs.Counted.{all_numbers}
use Rattle.controller.specs.Merge.{agree_at, agrees}
use Rattle.controller.proofs.merge.readings_agree.Goals as goal

pub returns : goal.returns
unfolding agrees
returns c =
    let a = c.args in
    all_from_yields_List (agree_at a.shared a.a a.b) _ _ _ c.all.ensures.ran (YieldsList-from_range 0 16 16 (cc) refl) (λ x b q k. search (rules, tests)) ∙ all_numbers _ (agree_at a.shared a.a a.b) 16 (λ i b. refl)
