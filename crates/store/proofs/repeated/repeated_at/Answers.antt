-- `repeated_at` meets its contract. Assumes nothing.
use mathlib.Core.Path.{◌≡◌}
use mathlib.Core.Bool.{true, false}
use Rattle.std.proofs.Common.{rules, tests}
use Rattle.std.proofs.lemmas.Iterator.{first_from_Range}
use Rattle.store.specs.Repeated.{repeated_at, stood_at}
use Rattle.store.proofs.Firsts.{place_found}
use Rattle.store.proofs.repeated.repeated_at.Goals as goal

pub returns : goal.returns
unfolding repeated_at
returns c =
    let rows = c.args.rows.now in
    place_found (stood_at rows) _ _ (first_from_Range _ _ _ _ (λ i. stood_at rows i ≡ true) (λ i. stood_at rows i ≡ false) c.find.ensures.ran (λ x q k. search (rules, tests)) (λ x q k. search (rules, tests)))
