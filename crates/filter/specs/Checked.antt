-- Values handed in "with anything out of range get 6, before all else": what is in range here, and what is answered.
use Rattle.std.specs.Prelude.{ℕ, Bool, ◌&&◌, List, nat_lt, replicate, slice_index, Result, Ok, Err}
use Rattle.units.specs.declared.labels.RoundLabel.{RoundLabel}
use Rattle.units.specs.declared.labels.StateLabel.{StateLabel}
use Rattle.units.specs.declared.estimate.Estimate.{Estimate}
use Rattle.units.specs.declared.settings.Numbers.{Numbers}
use Rattle.units.specs.declared.refusal.Refusal.TheVariants.{Range}
use Rattle.units.specs.Labels.{before}
use Rattle.units.specs.Limits.{runs_top}
use Rattle.units.specs.Mask.{mask_fits}
use Rattle.units.specs.Pick.{pick}
use Rattle.units.specs.Reading.{reading_place}
use Rattle.units.specs.Every.{every}
use Rattle.units.specs.Settings.{numbers_fit}
use Rattle.floats.specs.Bits.{nought}
use Rattle.floats.specs.Ranges.{state_fits}
use Rattle.filter.specs.declared.checked.Uncomputed.{Uncomputed}
use Rattle.filter.specs.declared.compute.Computed.{Computed}
use Rattle.filter.specs.Compute.{computed}

-- a run has a reading in range, any other place has 0
abbrev pub reading_at : ℕ → List ℕ → ℕ → Bool
reading_at m readings i = reading_place (nat_lt i m) (slice_index readings i)

unfoldable pub readings_fit : ℕ → List ℕ → Bool
readings_fit m readings = every (reading_at m readings) runs_top

-- a base below the label, which is then not 0
unfoldable pub computing_fits : RoundLabel → StateLabel → List Estimate → Numbers → ℕ → List ℕ → Bool
unfolding readings_fit
computing_fits label base state s chosen readings =
    (numbers_fit s && state_fits s.group.m state)
    && (before base label && mask_fits s.group.m chosen && readings_fit s.group.m readings)

-- in range or not: what is computed, or 6 with the state as it was and every target +0
unfoldable pub checked : RoundLabel → StateLabel → List Estimate → Numbers → ℕ → List ℕ → Result Computed Uncomputed
unfolding computing_fits
checked label base state s chosen readings =
    pick (computing_fits label base state s chosen readings) (Ok (computed label base state s chosen readings))
    (Err (record { why = Range; left = record { state = state; targets = replicate runs_top nought } }))

-- what stands after computing: what it gave, or what a refusal leaves
abbrev pub left : Result Computed Uncomputed → Computed
left (Ok c) = c
left (Err u) = u.left
