-- M, Q and R of 'Phases of a round'.
use Rattle.std.specs.Prelude.{ℕ, Bool, not, eqb, ltb}
use Rattle.std.specs.Int.Bits.{bit_and}
use Rattle.units.specs.declared.labels.RoundLabel.{RoundLabel}
use Rattle.units.specs.declared.refusal.Refusal.TheVariants.{Own, Late, Closed, Other, Clash}
use Rattle.units.specs.Labels.{before}
use Rattle.units.specs.Mask.{in_mask}
use Rattle.units.specs.Pick.{pick}
use Rattle.message.specs.declared.head.Head.TheVariants.{Reply}
use Rattle.plan.specs.declared.brief.Brief.{Brief}
use Rattle.plan.specs.declared.brief.Phase.{Phase}
use Rattle.plan.specs.declared.brief.Phase.TheVariants.{Idle, Collecting, Pending, Voting}
use Rattle.plan.specs.declared.planned.Effect.TheVariants.{Keep, Begin, Add, Merge}
use Rattle.plan.specs.declared.planned.Plan.{Plan}
use Rattle.plan.specs.Plan.{refuse, does, sends}

-- "Same label while collecting: added; the same value again changes nothing; another value is 11"; `here` is what is held for that run
unfoldable pub collected : Brief → ℕ → ℕ → ℕ → Plan
collected b here run raw = pick (in_mask b.held run) (pick (eqb here raw) (does Keep) (refuse Clash)) (does (Add run raw))

-- the current label: 8 "when idle", "Pending or voting: 9"
unfoldable pub same_round : Brief → ℕ → ℕ → ℕ → Phase → Plan
same_round b here run raw Idle = refuse Late
same_round b here run raw Collecting = collected b here run raw
same_round b here run raw Pending = refuse Closed
same_round b here run raw Voting = refuse Closed

-- M: 8 where "label is at or below the state label, or below the current one, or equal to it when idle";
-- "label above the current one (any phase): a new collecting round with that label, this reading, no votes"
unfoldable pub plan_reading : Brief → ℕ → RoundLabel → ℕ → ℕ → Plan
plan_reading b here label run raw =
    pick (not (before b.state label)) (refuse Late)
    (pick (ltb label.0 b.label.0) (refuse Late)
    (pick (eqb label.0 b.label.0) (same_round b here run raw b.phase)
    (does (Begin label run raw))))

-- "sends R with the asked runs that are held, nothing if none"
unfoldable pub answered : Brief → ℕ → Plan
answered b mask = pick (eqb (bit_and mask b.held) 0) (does Keep) (sends Keep (Reply b.own b.label (bit_and mask b.held)))

unfoldable pub in_query : Brief → ℕ → Phase → Plan
in_query b mask Idle = refuse Closed
in_query b mask Collecting = answered b mask
in_query b mask Pending = answered b mask
in_query b mask Voting = answered b mask

-- Q (not idle): 7, 10, 9
unfoldable pub plan_query : Brief → ℕ → RoundLabel → ℕ → Plan
plan_query b sender label mask =
    pick (eqb sender b.own) (refuse Own)
    (pick (not (eqb label.0 b.label.0)) (refuse Other)
    (in_query b mask b.phase))

-- "all its readings are added; if one clashes, none is"
unfoldable pub in_reply : ℕ → Bool → Phase → Plan
in_reply mask clash Idle = refuse Closed
in_reply mask clash Collecting = pick clash (refuse Clash) (does (Merge mask))
in_reply mask clash Pending = refuse Closed
in_reply mask clash Voting = refuse Closed

-- R (collecting): 7, 10, 9, 11
unfoldable pub plan_reply : Brief → ℕ → RoundLabel → ℕ → Bool → Plan
plan_reply b sender label mask clash =
    pick (eqb sender b.own) (refuse Own)
    (pick (not (eqb label.0 b.label.0)) (refuse Other)
    (in_reply mask clash b.phase))
