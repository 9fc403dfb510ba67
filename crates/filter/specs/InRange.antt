-- Clause by clause, in document 01's words: what is handed to computing with nothing out of range, and what is taken. What `computing_fits` is to be; that it
-- is is `computing_exact` of proofs/Inputs.antt, and that everything taken stays in range is `taken_range`.
use Rattle.std.specs.Prelude.{◌≡◌, ℕ, ◌^◌, ◌<◌, ◌≤◌, true, List, slice_index}
use Rattle.units.specs.declared.labels.RoundLabel.{RoundLabel}
use Rattle.units.specs.declared.labels.StateLabel.{StateLabel}
use Rattle.units.specs.declared.estimate.Estimate.{Estimate}
use Rattle.units.specs.declared.settings.Numbers.{Numbers}
use Rattle.units.specs.InRange.{NumbersInRange}
use Rattle.floats.specs.Ranges.{up_to}
use Rattle.floats.specs.InRange.{StateInRange, TargetsInRange}
use Rattle.filter.specs.declared.compute.Computed.{Computed}
use Rattle.filter.specs.Share.{total}

-- settings and a state in range; "The state label is below the label"; a mask that "isn't 0000 and has no bit at m or above"; "raw reading .. 0..1,000,000"
-- of each run, and 0 at a place that is no run
pub record ComputingInRange (label : RoundLabel) (base : StateLabel) (state : List Estimate) (s : Numbers) (chosen : ℕ) (readings : List ℕ) : Type 0 where
  pub settings : NumbersInRange s
  pub estimates : StateInRange s.group.m state
  pub older : base.0 < label.0
  pub some_run : 1 ≤ chosen
  pub own_runs : chosen < 2 ^ s.group.m
  pub reading : (i : ℕ) → i < s.group.m → slice_index readings i ≤ 1000000
  pub no_reading : (i : ℕ) → s.group.m ≤ i → i < 16 → slice_index readings i ≡ 0

-- what computing gives, in range: the state, its total, the targets
pub record ComputedInRange (m : ℕ) (c : Computed) : Type 0 where
  pub estimates : StateInRange m c.state
  pub total_x : up_to 17600000 (total m c.state) ≡ true
  pub given : TargetsInRange m c.targets
