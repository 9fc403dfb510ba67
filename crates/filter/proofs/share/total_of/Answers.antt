-- `total_of` meets its contract: x of each run added on, from run 0 upward. Assumes nothing.
use Rattle.std.proofs.Common.{◌∙◌, take, rules}
use lib.Ieee.{Float, binary64, add}
use Rattle.std.proofs.lemmas.Iterator.{YieldsList-from_slice, YieldsList-from_take}
use Rattle.std.proofs.lemmas.Iterator.Consumers.{fold_from_yields_List}
use Rattle.units.specs.declared.estimate.Estimate.{Estimate}
use Rattle.floats.specs.Bits.{nought}
use Rattle.filter.specs.Share.{total}
use Rattle.filter.proofs.Sums.{added}
use Rattle.filter.proofs.share.total_of.Goals as goal

pub returns : goal.returns
unfolding total
returns c =
    fold_from_yields_List {s = c.take.result} _ (λ (t : Float) (e : Estimate). add binary64 t e.x) nought c.fold.result c.fold.ensures.ran
    (YieldsList-from_take c.args.m (YieldsList-from_slice c.args.state (cc)) (cc)) (λ a x b q k. search rules)
    ∙ added nought (take c.args.m c.args.state)
