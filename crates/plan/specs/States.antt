-- A, U and S of 'Phases of a round'.
use Rattle.std.specs.Prelude.{ℕ, Bool, eqb, ltb}
use Rattle.units.specs.declared.labels.StateLabel.{StateLabel}
use Rattle.units.specs.declared.refusal.Refusal.TheVariants.{Own, Closed, Clash}
use Rattle.units.specs.Labels.{before}
use Rattle.units.specs.Pick.{pick}
use Rattle.message.specs.declared.head.Head.TheVariants.{Update}
use Rattle.plan.specs.declared.brief.Brief.{Brief}
use Rattle.plan.specs.declared.brief.Phase.{Phase}
use Rattle.plan.specs.declared.brief.Phase.TheVariants.{Idle, Collecting, Pending, Voting}
use Rattle.plan.specs.declared.planned.Effect.TheVariants.{Keep, Adopt}
use Rattle.plan.specs.declared.planned.Plan.{Plan}
use Rattle.plan.specs.Plan.{refuse, does, sends}

-- "A (any phase): sends U if its label is below ours"
unfoldable pub plan_advert : Brief → ℕ → StateLabel → Plan
plan_advert b sender theirs =
    pick (eqb sender b.own) (refuse Own)
    (pick (ltb theirs.0 b.state.0) (sends Keep (Update b.own b.state)) (does Keep))

-- "if it is at or above a collecting round's label, the phase becomes idle"
unfoldable pub overtaken : Brief → StateLabel → Phase
overtaken b theirs = pick (before theirs b.label) Collecting Idle

-- "a higher label replaces the state .. A lower label, or an equal one with equal bits, changes nothing; equal with other bits is 11"
unfoldable pub adopted : Brief → StateLabel → Bool → Phase → Plan
adopted b theirs same phase =
    pick (ltb b.state.0 theirs.0) (does (Adopt theirs phase))
    (pick (ltb theirs.0 b.state.0) (does Keep)
    (pick same (does Keep) (refuse Clash)))

unfoldable pub in_update : Brief → StateLabel → Bool → Phase → Plan
in_update b theirs same Idle = adopted b theirs same Idle
in_update b theirs same Collecting = adopted b theirs same (overtaken b theirs)
in_update b theirs same Pending = refuse Closed
in_update b theirs same Voting = refuse Closed

-- U (idle or collecting): 7, 9, 11
unfoldable pub plan_update : Brief → ℕ → StateLabel → Bool → Plan
plan_update b sender theirs same = pick (eqb sender b.own) (refuse Own) (in_update b theirs same b.phase)

-- "Another's S handed to a controller is 9, its own 7"
unfoldable pub plan_setpoints : Brief → ℕ → Plan
plan_setpoints b sender = pick (eqb sender b.own) (refuse Own) (refuse Closed)
