-- The plans' definitions by what they are about, opened together: a proof that goes by kinds or phases says `unfolding kinds_open` or `phases_open`. Assumes nothing.
use Rattle.plan.specs.Readings
use Rattle.plan.specs.Readings.{answered, plan_query, in_reply, plan_reply}
use Rattle.plan.specs.States.{plan_advert, overtaken, adopted, in_update, plan_update, plan_setpoints}
use Rattle.plan.specs.Timers.{asking, in_due, plan_due, in_ends, plan_ends, in_voting_ends, plan_voting_ends}
use Rattle.plan.specs.Votes.{plan_floor, plan_digest}
use Rattle.controller.specs.Step.{judged_plan, planned}

-- what each kind leads to, up to its phase
unfoldable pub readings_open : Unit {0}
unfolding plan_query plan_reply
readings_open = tt

unfoldable pub states_open : Unit {0}
unfolding plan_advert plan_update plan_setpoints
states_open = tt

unfoldable pub timers_open : Unit {0}
unfolding plan_due plan_ends plan_voting_ends
timers_open = tt

unfoldable pub votes_open : Unit {0}
unfolding plan_floor plan_digest judged_plan
votes_open = tt

unfoldable pub kinds_open : Unit {0}
unfolding planned readings_open states_open timers_open votes_open
kinds_open = tt

-- and within a phase
unfoldable pub phases_open : Unit {0}
unfolding Readings.collected answered in_reply overtaken adopted in_update asking in_due in_ends in_voting_ends
phases_open = tt
