-- C, E and V of 'Phases of a round': 10 comes before 9.
use Rattle.std.specs.Prelude.{ℕ, ◌-◌, not, eqb, ltb, Err, None}
use Rattle.units.specs.declared.labels.RoundLabel.{RoundLabel}
use Rattle.units.specs.declared.refusal.Refusal.TheVariants.{Closed, Other, Undecided}
use Rattle.units.specs.Labels.{just_before}
use Rattle.units.specs.Mask.{mask_end}
use Rattle.units.specs.Pick.{pick}
use Rattle.message.specs.declared.head.Head.TheVariants.{Query, Advert, Floor}
use Rattle.plan.specs.declared.brief.Brief.{Brief}
use Rattle.plan.specs.declared.brief.Phase.{Phase}
use Rattle.plan.specs.declared.brief.Phase.TheVariants.{Idle, Collecting, Pending, Voting}
use Rattle.plan.specs.declared.planned.Effect.TheVariants.{Keep, Go}
use Rattle.plan.specs.declared.planned.Plan.{Plan}
use Rattle.plan.specs.Plan.{refuse, does, sends, both}

-- all m runs but those held
unfoldable pub missing_runs : Brief → ℕ → ℕ
missing_runs b m = mask_end m - 1 - b.held

-- "sends Q for the runs not held, if any, then A if the state label is below label - 1"
unfoldable pub asking : Brief → ℕ → Plan
asking b m =
    pick (ltb b.state.0 (just_before b.label).0)
    (pick (eqb (missing_runs b m) 0) (sends Keep (Advert b.own b.state))
    (both Keep (Query b.own b.label (missing_runs b m)) (Advert b.own b.state)))
    (pick (eqb (missing_runs b m) 0) (does Keep) (sends Keep (Query b.own b.label (missing_runs b m))))

unfoldable pub in_due : Brief → ℕ → Phase → Plan
in_due b m Idle = refuse Closed
in_due b m Collecting = asking b m
in_due b m Pending = refuse Closed
in_due b m Voting = refuse Closed

-- C (collecting)
unfoldable pub plan_due : Brief → ℕ → RoundLabel → Plan
plan_due b m label = pick (not (eqb label.0 b.label.0)) (refuse Other) (in_due b m b.phase)

-- "pending; sends F with the label"
unfoldable pub in_ends : Brief → Phase → Plan
in_ends b Idle = refuse Closed
in_ends b Collecting = sends (Go Pending) (Floor b.label)
in_ends b Pending = refuse Closed
in_ends b Voting = refuse Closed

-- E (collecting)
unfoldable pub plan_ends : Brief → RoundLabel → Plan
plan_ends b label = pick (not (eqb label.0 b.label.0)) (refuse Other) (in_ends b b.phase)

-- 12 "ends the round: the phase becomes idle, all else kept"
unfoldable pub in_voting_ends : Phase → Plan
in_voting_ends Idle = refuse Closed
in_voting_ends Collecting = refuse Closed
in_voting_ends Pending = refuse Closed
in_voting_ends Voting = record { effect = Go Idle; first = None; second = None; verdict = Err Undecided }

-- V (voting): 12
unfoldable pub plan_voting_ends : Brief → RoundLabel → Plan
plan_voting_ends b label = pick (not (eqb label.0 b.label.0)) (refuse Other) (in_voting_ends b.phase)
