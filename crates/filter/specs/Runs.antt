-- "For each run": all sixteen places of a state after a round.
use Rattle.std.specs.Prelude.{ℕ, Bool, true, false, List, nat_lt, slice_index, slice_index_or}
use Rattle.units.specs.declared.estimate.Estimate.{Estimate}
use Rattle.units.specs.declared.settings.Numbers.{Numbers}
use Rattle.units.specs.Limits.{runs_top}
use Rattle.units.specs.Mask.{in_mask}
use Rattle.units.specs.Tab.{tab}
use Rattle.floats.specs.Ranges.{no_estimate}
use Rattle.filter.specs.Run.{outcome, estimate_after}

-- a run's place after a round; a place that is no run stays
unfoldable pub place : Bool → Estimate → ℕ → ℕ → ℕ → Bool → ℕ → ℕ → Estimate
unfolding outcome
place true e n q r chosen raw factor = estimate_after e (outcome e n q r chosen raw factor)
place false e n q r chosen raw factor = e

abbrev pub run_after : List Estimate → ℕ → Numbers → ℕ → List ℕ → ℕ → Estimate
run_after state n s chosen readings i =
    place (nat_lt i s.group.m) (slice_index_or state i no_estimate) n s.q s.r (in_mask chosen i) (slice_index readings i) (slice_index s.factors i)

unfoldable pub runs_after : List Estimate → ℕ → Numbers → ℕ → List ℕ → List Estimate
unfolding tab place
runs_after state n s chosen readings = tab (run_after state n s chosen readings) 0 runs_top
