-- "the product is exact": n × q and raw × factor are whole numbers that a float holds, for values in range. Assumes nothing.
use Rattle.std.proofs.Common.{◌≡◌, ℕ, ◌-◌, ◌*◌, ◌<◌, ◌≤◌, true, false, List, get_or, le_trans, mul-le-mul, arith, lit≤}
use lib.Ieee.Exact.{HasValue}
use Rattle.units.specs.declared.labels.RoundLabel.{RoundLabel}
use Rattle.units.specs.declared.labels.StateLabel.{StateLabel}
use Rattle.units.specs.declared.settings.Numbers.{Numbers}
use Rattle.units.specs.Labels.{correction}
use Rattle.units.specs.Limits.{label_top, raw_top}
use Rattle.units.specs.Settings.{numbers_fit}
use Rattle.units.proofs.InRange.{numbers_range}
use Rattle.floats.specs.Bits.{of_whole}
use Rattle.floats.proofs.Encoding.{whole_value}
use Rattle.filter.specs.Checked.{readings_fit}
use Rattle.filter.proofs.Inputs.{reading_run}

apart : (l b top : ℕ) → l ≤ top → l - b ≤ top
apart l b top h = omega arith

module _ (s : Numbers) (h : numbers_fit s ≡ true) where
  -- n × q
  pub growth_exact : (label : RoundLabel) (base : StateLabel) → label.0 ≤ label_top → HasValue (of_whole (correction label base * s.q)) false (correction label base * s.q) 1
  growth_exact label base l = whole_value (correction label base * s.q) (le_trans (mul-le-mul (apart label.0 base.0 label_top l) (numbers_range s h).q.1) (lit≤ tt))

  -- raw × factor
  pub reading_exact : (raw i : ℕ) → raw ≤ raw_top → i < s.group.m → HasValue (of_whole (raw * get_or s.factors i 0)) false (raw * get_or s.factors i 0) 1
  reading_exact raw i r l = whole_value (raw * get_or s.factors i 0) (le_trans (mul-le-mul r ((numbers_range s h).factor i l).1) (lit≤ tt))

  pub readings_exact : (readings : List ℕ) (i : ℕ) → readings_fit s.group.m readings ≡ true → i < s.group.m
      → HasValue (of_whole (get_or readings i 0 * get_or s.factors i 0)) false (get_or readings i 0 * get_or s.factors i 0) 1
  readings_exact readings i f l = reading_exact (get_or readings i 0) i (reading_run s.group.m readings i f l (omega (arith, (numbers_range s h).runs.1))) l
