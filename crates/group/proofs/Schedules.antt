-- What comes of the schedules of specs/Schedules.antt, computed. Assumes nothing.
use mathlib.Core.Path.{◌≡◌, refl}
use mathlib.Core.Bool.{false}
use Rattle.controller_laws.specs.Session.{numbers}
use Rattle.group.specs.Examples.{three}
use Rattle.group.specs.WrongRules.{votes_at_once, crash_at_once, collects_again, collected_twice, computes_from_held, held_more, short_of, stops_short, four, tie_missed, order_before, mixed, mixed_orders, wrong, wrong_says, updates_while_voting, updated_inside, out_of_range}
use Rattle.group.specs.Schedules.{played_by, unfair_by, issue_if, issues, comes_of, floor_forgotten, last_floor, floor_unstored, two_readings, vote_made_up, twins, broken, broken_says, other_weights, apart, apart_says}
use Rattle.group.proofs.Computes.{world_computes}

-- what a schedule opens, and what comes of it
unfoldable schedule_computes : Unit {0}
unfolding world_computes played_by unfair_by issue_if issues comes_of
schedule_computes = tt

-- the wrong rules
unfoldable rules_compute : Unit {0}
unfolding votes_at_once collects_again computes_from_held short_of stops_short order_before mixed
rules_compute = tt

-- where a premise is broken, two S of one label differ
pub broken_says_lem : broken ≡ broken_says
unfolding schedule_computes numbers three floor_forgotten last_floor floor_unstored two_readings vote_made_up twins
broken_says_lem = refl

-- where the settings differ, two S of one label differ
pub apart_says_lem : apart ≡ apart_says
unfolding schedule_computes numbers other_weights
apart_says_lem = refl

-- where a rule of the step is wrong, two S of one label differ though every premise is kept
pub wrong_says_lem : wrong ≡ wrong_says
unfolding schedule_computes rules_compute numbers three four crash_at_once collected_twice held_more tie_missed mixed_orders
wrong_says_lem = refl

-- U taken while voting: the controller is out of range from then on
pub updated_out : out_of_range ≡ false
unfolding world_computes three updates_while_voting updated_inside played_by
updated_out = refl
