-- "A start gives phase idle, current label = floor, state label 0, each x = +0 and P = p, no reading, no vote."
use Rattle.std.specs.Prelude.{ℕ, Bool, true, false, ◌&&◌, List, ltb, replicate, Result, Ok, Err}
use Rattle.vote.specs.Vote.{nobody}
use Rattle.units.specs.declared.estimate.Estimate.{Estimate}
use Rattle.units.specs.declared.labels.RoundLabel.{RoundLabel}
use Rattle.units.specs.declared.refusal.Refusal.TheVariants.{Range}
use Rattle.units.specs.declared.settings.Numbers.{Numbers}
use Rattle.units.specs.Labels.{floor_fits}
use Rattle.units.specs.Limits.{runs_top, controllers_top}
use Rattle.units.specs.Pick.{pick}
use Rattle.units.specs.Settings.{numbers_fit}
use Rattle.units.specs.Tab.{tab}
use Rattle.floats.specs.Bits.{of_whole, nought}
use Rattle.floats.specs.Ranges.{blank}
use Rattle.plan.specs.declared.brief.Phase.TheVariants.{Idle}
use Rattle.controller.specs.declared.start.Unstarted.{Unstarted}
use Rattle.controller.specs.declared.state.Controller.{Controller}

-- a place that is no run is blank
abbrev pub start_at : Bool → ℕ → Estimate
start_at true p = record { x = nought; variance = of_whole p }
start_at false p = blank

unfoldable pub start_estimates : ℕ → ℕ → List Estimate
start_estimates m p = tab (λ i. start_at (ltb i m) p) 0 runs_top

unfoldable pub start_of : Numbers → ℕ → RoundLabel → Controller
start_of s own floor =
    record {
      own = own;
      phase = Idle;
      label = floor;
      state = record { 0 = 0 };
      estimates = start_estimates s.group.m s.p;
      held = 0;
      readings = replicate runs_top 0;
      votes = replicate controllers_top nobody;
    }

-- 6 for a number, a floor or settings out of range; what the controller would be stands there too
unfoldable pub started : Numbers → ℕ → RoundLabel → Result Controller Unstarted
started s own floor = pick (numbers_fit s && ltb own s.group.g && floor_fits floor) (Ok (start_of s own floor)) (Err (record { why = Range; controller = start_of s own floor }))
