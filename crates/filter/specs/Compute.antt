-- What a decided round computes, from both labels, the state, the numbers of the settings, the chosen mask and the readings.
use Rattle.std.specs.Prelude.{ℕ, List, Float}
use Rattle.units.specs.declared.labels.RoundLabel.{RoundLabel}
use Rattle.units.specs.declared.labels.StateLabel.{StateLabel}
use Rattle.units.specs.declared.estimate.Estimate.{Estimate}
use Rattle.units.specs.declared.settings.Numbers.{Numbers}
use Rattle.units.specs.Labels.{correction}
use Rattle.filter.specs.declared.compute.Computed.{Computed}
use Rattle.filter.specs.Runs.{runs_after}
use Rattle.filter.specs.Share.{total, targets}

-- "n = label - state label. For each run .."
unfoldable pub new_state : RoundLabel → StateLabel → List Estimate → Numbers → ℕ → List ℕ → List Estimate
unfolding runs_after
new_state label base state s chosen readings = runs_after state (correction label base) s chosen readings

-- the targets that a state gives
unfoldable pub set_points : Numbers → List Estimate → List Float
unfolding total targets
set_points s state = targets (total s.group.m state) s

-- both halves: the state that the round leaves, and the targets of that state
abbrev pub computed : RoundLabel → StateLabel → List Estimate → Numbers → ℕ → List ℕ → Computed
computed label base state s chosen readings =
    record {
      state = new_state label base state s chosen readings;
      targets = set_points s (new_state label base state s chosen readings);
    }
