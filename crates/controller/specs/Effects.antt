-- What an effect makes of the controller: "What a step doesn't name stays."
use Rattle.std.specs.Prelude.{ℕ, List, replicate, set}
use Rattle.std.specs.Int.Bits.{bit_or}
use Rattle.units.specs.declared.estimate.Estimate.{Estimate}
use Rattle.units.specs.declared.labels.RoundLabel.{RoundLabel}
use Rattle.units.specs.declared.labels.StateLabel.{StateLabel}
use Rattle.units.specs.declared.settings.Numbers.{Numbers}
use Rattle.units.specs.Labels.{issued_state}
use Rattle.units.specs.Limits.{controllers_top}
use Rattle.vote.specs.declared.digest.Digest.{Digest}
use Rattle.vote.specs.Vote.{nobody, seated}
use Rattle.filter.specs.Compute.{new_state}
use Rattle.message.specs.declared.value.Message.{Message}
use Rattle.plan.specs.declared.brief.Phase.{Phase}
use Rattle.plan.specs.declared.brief.Phase.TheVariants.{Idle, Collecting}
use Rattle.plan.specs.declared.planned.Effect.{Effect}
use Rattle.plan.specs.declared.planned.Effect.TheVariants.{Keep, Go, Begin, Add, Merge, Adopt, Count, Issue, Restart}
use Rattle.controller.specs.declared.state.Controller.{Controller}
use Rattle.controller.specs.Start.{start_of}
use Rattle.controller.specs.Merge.{Set, run_bit, single, together}

abbrev pub in_phase : Controller → Phase → Controller
in_phase c phase =
    record { own = c.own; phase = phase; label = c.label; state = c.state; estimates = c.estimates; held = c.held; readings = c.readings; votes = c.votes }

-- "a new collecting round with that label, this reading, no votes; an unfinished round is dropped"
abbrev pub begun : Controller → RoundLabel → ℕ → ℕ → Controller
begun c label run raw =
    record {
      own = c.own;
      phase = Collecting;
      label = label;
      state = c.state;
      estimates = c.estimates;
      held = (single run raw).mask;
      readings = (single run raw).readings;
      votes = replicate controllers_top nobody;
    }

-- the readings held, and those that a message carries for the runs of a mask
abbrev pub held_by : Controller → Set
held_by c = record { mask = c.held; readings = c.readings }

abbrev pub carried_by : ℕ → List ℕ → Set
carried_by mask readings = record { mask = mask; readings = readings }

abbrev pub holding : Controller → Set → Controller
holding c a =
    record { own = c.own; phase = c.phase; label = c.label; state = c.state; estimates = c.estimates; held = a.mask; readings = a.readings; votes = c.votes }

-- M's reading put where it belongs: `reading_joins` (controller_laws) says that this is `join`
abbrev pub added : Controller → ℕ → ℕ → Controller
added c run raw = holding c (record { mask = bit_or c.held (run_bit run); readings = set c.readings run raw })

-- R's readings, where none clashes
abbrev pub merged_in : Controller → ℕ → List ℕ → Controller
merged_in c mask new = holding c (together (held_by c) (carried_by mask new))

abbrev pub adopting : Controller → StateLabel → List Estimate → Phase → Controller
adopting c state estimates phase =
    record { own = c.own; phase = phase; label = c.label; state = state; estimates = estimates; held = c.held; readings = c.readings; votes = c.votes }

abbrev pub counted : Controller → ℕ → Digest → Phase → Controller
counted c seat digest phase =
    record { own = c.own; phase = phase; label = c.label; state = c.state; estimates = c.estimates; held = c.held; readings = c.readings; votes = seated c.votes seat digest }

-- "compute, send S, set the state label to the round's label, idle"
abbrev pub issuing : Numbers → Controller → Digest → Controller
issuing s c chosen = adopting c (issued_state c.label) (new_state c.label c.state c.estimates s chosen.mask c.readings) Idle

unfoldable pub applied : Numbers → Message → Controller → Effect → Controller
applied s a c Keep = c
applied s a c (Go phase) = in_phase c phase
applied s a c (Begin label run raw) = begun c label run raw
applied s a c (Add run raw) = added c run raw
applied s a c (Merge mask) = merged_in c mask a.readings
applied s a c (Adopt state phase) = adopting c state a.estimates phase
applied s a c (Count seat digest phase) = counted c seat digest phase
applied s a c (Issue seat digest chosen) = issuing s (counted c seat digest Idle) chosen
applied s a c (Restart own floor) = start_of s own floor
