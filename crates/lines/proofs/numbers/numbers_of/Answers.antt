-- `numbers_of` meets its contract. Assumes nothing.
use mathlib.Core.Path.{◌∙◌}
use Rattle.lines.proofs.Sending.{head_few, raws_few, floats_few, all_numbers}
use Rattle.lines.proofs.numbers.numbers_of.Goals as goal

pub push_readings-requires : goal.push_readings-requires
push_readings-requires c = rw c.head_numbers-numbers.ensures (head_few c.args.group c.args.message c.requires _ c.carries-carried.ensures)

pub push_estimates-requires : goal.push_estimates-requires
push_estimates-requires c = rw (c.push_readings.ensures, c.head_numbers-numbers.ensures) (raws_few c.args.group c.args.message c.requires _ c.carries-carried.ensures)

pub push_targets-requires : goal.push_targets-requires
push_targets-requires c =
    rw (c.push_estimates.ensures, c.push_readings.ensures, c.head_numbers-numbers.ensures) (floats_few c.args.group c.args.message c.requires _ c.carries-carried.ensures)

pub returns : goal.returns
returns c =
    c.push_targets.ensures
    ∙ rw (c.push_estimates.ensures, c.push_readings.ensures, c.head_numbers-numbers.ensures) (all_numbers c.args.group c.args.message c.requires _ c.carries-carried.ensures)
