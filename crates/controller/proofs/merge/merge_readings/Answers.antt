-- `merge_readings` meets its contract. Assumes nothing.
use Rattle.std.proofs.Common.{rules, get_or}
use Rattle.units.specs.Mask.{in_mask}
use Rattle.units.proofs.Counted.{made_tab}
use Rattle.controller.specs.Merge.{merged, merged_at}
use Rattle.controller.proofs.merge.merge_readings.Goals as goal

pub returns : goal.returns
unfolding merged
returns c =
    let a = c.args in
    made_tab _ _ (λ i. merged_at (in_mask a.mask i) (get_or a.new i 0) (get_or a.old i 0)) (λ i y q k. search rules) 0 _ 16 c.from_fn.ensures.items
