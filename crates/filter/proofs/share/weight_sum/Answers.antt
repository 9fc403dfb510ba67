-- `weight_sum` meets its contract: at most sixteen numbers of 32 bits are added. Assumes nothing.
use Rattle.std.proofs.Common.{◌∙◌, ℕ, take, rules}
use Rattle.std.proofs.iter.runs.Sources.{sums}
use Rattle.std.proofs.lemmas.Iterator.{YieldsList-from_slice, YieldsList-from_take, YieldsList-from_map}
use Rattle.std.proofs.lemmas.Iterator.Consumers.{YieldsList-at, sum_by_from_yields_List}
use Rattle.filter.specs.Share.{weight_sum}
use Rattle.filter.proofs.Sums.{summed}
use Rattle.filter.proofs.share.weight_sum.Goals as goal

pub sum-requires-clause-fits : goal.sum-requires-clause-fits
sum-requires-clause-fits c = search (rules, sums)

pub returns : goal.returns
unfolding weight_sum
returns c =
    sum_by_from_yields_List (λ (w : ℕ). w) (take c.args.m c.args.weights) c.map.result c.sum.result c.sum.ensures.ran
    (YieldsList-from_map _ (λ (w : ℕ). w) (YieldsList-at c.map.ensures.source (YieldsList-from_take c.args.m (YieldsList-from_slice c.args.weights (cc)) (cc))) c.map.ensures.closure
    (λ x r q k. search rules))
    ∙ summed (take c.args.m c.args.weights)
