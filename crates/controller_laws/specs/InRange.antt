-- WHAT IT IS TO BE IN RANGE, clause by clause and in document 01's words: a controller state handed in as a value, the inputs of a step, a start.
use Rattle.std.specs.Prelude.{ℕ, ◌≤◌, ◌<◌, ◌^◌, ◌≡◌, true, false, length, get_or, None, Some}
use Rattle.units.specs.declared.labels.RoundLabel.{RoundLabel}
use Rattle.units.specs.declared.settings.Numbers.{Numbers}
use Rattle.units.specs.Limits.{controllers_top, runs_top, label_top, raw_top, x_top, variance_top}
use Rattle.units.specs.Mask.{in_mask}
use Rattle.units.specs.Settings.{numbers_fit}
use Rattle.floats.specs.Ranges.{up_to, blank, no_estimate}
use Rattle.vote.specs.declared.digest.Digest.{Digest}
use Rattle.vote.specs.InRange.{LegalDigest}
use Rattle.message.specs.declared.value.Message.{Message}
use Rattle.message.specs.Message.{message_fits}
use Rattle.plan.specs.declared.brief.Phase.TheVariants.{Voting}
use Rattle.controller.specs.declared.state.Controller.{Controller}
use Rattle.controller.specs.State.{ballot_at}
use Rattle.controller_laws.specs.Phases.{Busy, Early}

-- a controller state, beside settings that are in range
pub record ControllerInRange (s : Numbers) (c : Controller) : Type 0 where
  -- "own number .. 0..g-1"
  pub own : c.own < s.group.g
  -- the current label, 0 after a start at floor 0, and the state label: 0..4,294,967,295
  pub label : c.label.0 ≤ label_top
  pub state : c.state.0 ≤ label_top
  -- sixteen places of estimates and of readings, seven seats
  pub sixteen : length c.estimates ≡ runs_top
  pub by_run : length c.readings ≡ runs_top
  pub seven : length c.votes ≡ controllers_top
  -- each run's x in +0..1,100,000.0 and P in +0..1,000,000,000.0; +0 and +0 at m and above
  pub estimate : (i : ℕ) → i < s.group.m → (up_to x_top (get_or c.estimates i no_estimate).x ≡ true) × (up_to variance_top (get_or c.estimates i no_estimate).variance ≡ true)
  pub no_estimate_held : (i : ℕ) → s.group.m ≤ i → i < runs_top → get_or c.estimates i no_estimate ≡ blank
  -- readings of the m runs alone, in 0..1,000,000 where one is held, and 0 elsewhere
  pub held : c.held < 2 ^ s.group.m
  pub reading : (i : ℕ) → i < runs_top → in_mask c.held i ≡ true → get_or c.readings i 0 ≤ raw_top
  pub no_reading : (i : ℕ) → i < runs_top → in_mask c.held i ≡ false → get_or c.readings i 0 ≡ 0
  -- not "if a vote it holds isn't legal for its label"; no vote stands at g or above
  pub vote : (i : ℕ) (d : Digest) → i < controllers_top → ballot_at c i ≡ Some d → (i < s.group.g) × LegalDigest s.group.m c.label d
  -- not "if it isn't idle and holds no reading or a state label at or above its label"
  pub busy : Busy c.phase → (1 ≤ c.held) × (c.state.0 < c.label.0)
  -- "or its own vote while collecting or pending"
  pub unvoted : Early c.phase → ballot_at c c.own ≡ None
  -- "or none of its own while voting"
  pub voted : c.phase ≡ Voting → (d : Digest) × (ballot_at c c.own ≡ Some d)

-- "Messages, .. settings or a controller state handed in as values"
pub record InputsInRange (s : Numbers) (c : Controller) (a : Message) : Type 0 where
  pub settings : numbers_fit s ≡ true
  pub controller : ControllerInRange s c
  pub message : message_fits s.group a ≡ true

-- a start: the settings, "own number .. 0..g-1", a floor of 0..4,294,967,295
pub record StartInRange (s : Numbers) (own : ℕ) (floor : RoundLabel) : Type 0 where
  pub settings : numbers_fit s ≡ true
  pub number : own < s.group.g
  pub low : floor.0 ≤ label_top
