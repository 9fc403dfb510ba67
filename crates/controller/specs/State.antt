-- The controller's state: what a handler goes by, and what is in range.
use Rattle.std.specs.Prelude.{ℕ, Bool, true, false, not, ◌&&◌, ltb, get_or, None, Some}
use Rattle.units.specs.declared.settings.Numbers.{Numbers}
use Rattle.units.specs.Labels.{floor_fits, state_label_fits}
use Rattle.units.specs.Limits.{controllers_top, runs_top, label_top, raw_top, x_top, variance_top, target_top}
use Rattle.units.specs.Mask.{mask_end}
use Rattle.floats.specs.Bits.{of_whole}
use Rattle.floats.specs.Ranges.{state_fits}
use Rattle.vote.specs.Digest.{Ballot, legal}
use Rattle.vote.specs.Vote.{seats_fit, nobody}
use Rattle.message.specs.Readings.{readings_fit}
use Rattle.plan.specs.declared.brief.Brief.{Brief}
use Rattle.plan.specs.declared.brief.Phase.{Phase}
use Rattle.plan.specs.declared.brief.Phase.TheVariants.{Idle, Collecting, Pending, Voting}
use Rattle.plan.specs.Votes.{own_digest}
use Rattle.controller.specs.declared.state.Controller.{Controller}
use Rattle.controller.specs.declared.state.Tops.{Tops}

-- "the limits of labels, runs and floats as its constants"
abbrev pub tops : Tops
tops = record { controllers = controllers_top; runs = runs_top; label = label_top; raw = raw_top; x = of_whole x_top; variance = of_whole variance_top; target = of_whole target_top }

abbrev pub brief_of : Controller → Brief
brief_of c = record { own = c.own; phase = c.phase; label = c.label; state = c.state; held = c.held }

-- what the seat of a number holds
abbrev pub ballot_at : Controller → ℕ → Ballot
ballot_at c seat = (get_or c.votes seat nobody).ballot

abbrev pub cast : Ballot → Bool
cast None = false
cast (Some d) = true

-- "if it isn't idle and holds no reading or a state label at or above its label, or its own vote while collecting or pending, or none of its own while voting":
-- the digest that it would vote is legal, and its own vote is there exactly while voting
unfoldable pub phase_fits : Brief → ℕ → Ballot → Phase → Bool
phase_fits b m own Idle = true
phase_fits b m own Collecting = legal m b.label (own_digest b) && not (cast own)
phase_fits b m own Pending = legal m b.label (own_digest b) && not (cast own)
phase_fits b m own Voting = legal m b.label (own_digest b) && cast own

-- a controller state "handed in as values": nothing is out of range, and "a vote it holds" is legal for its label
unfoldable pub controller_fits : Numbers → Controller → Bool
controller_fits s c =
    ltb c.own s.group.g
    && floor_fits c.label
    && state_label_fits c.state
    && state_fits s.group.m c.estimates
    && ltb c.held (mask_end s.group.m)
    && readings_fit c.held c.readings
    && seats_fit s.group c.label c.votes
    && phase_fits (brief_of c) s.group.m (ballot_at c c.own) c.phase
