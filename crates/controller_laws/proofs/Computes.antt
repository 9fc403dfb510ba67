-- The definitions that a computed step opens, by what they are about: a proof that computes says `unfolding step_computes`, and opens all of them. Assumes nothing.
use Rattle.units.specs.Pick.{pick}
use Rattle.units.specs.Settings.{group_fits, runs_fit, numbers_fit}
use Rattle.floats.proofs.Computes.{float_computes, range_computes}
use Rattle.vote.proofs.Computes.{digest_computes, judge_computes}
use Rattle.filter.proofs.Computes.{run_computes, share_computes}
use Rattle.message.specs.Head.{head_fits, carried}
use Rattle.message.specs.Message.{plain, message_fits}
use Rattle.message.specs.Readings.{readings_fit}
use Rattle.plan.specs.Plan.{afterwards}
use Rattle.plan.specs.Readings.{same_round, plan_reading}
use Rattle.plan.specs.Votes.{in_floor, in_seat, in_digest, possessed, chosen_plan, judged}
use Rattle.controller.specs.State.{phase_fits, controller_fits}
use Rattle.controller.specs.Start.{start_estimates, start_of, started}
use Rattle.controller.specs.Merge.{run_bit, agrees, merged}
use Rattle.controller.specs.Effects.{applied}
use Rattle.controller.specs.Sent.{sent_message}
use Rattle.controller.specs.Step.{judged_in, inputs_fit, stepped}
use Rattle.controller_laws.proofs.Opened.{kinds_open, phases_open}

-- the settings, and messages in range
unfoldable pub message_computes : Unit {0}
unfolding pick group_fits runs_fit numbers_fit head_fits carried plain message_fits readings_fit
message_computes = tt

-- what a message leads to
unfoldable pub plan_computes : Unit {0}
unfolding kinds_open phases_open afterwards same_round plan_reading
plan_computes = tt

-- F, D and judging
unfoldable pub vote_computes : Unit {0}
unfolding in_floor in_seat in_digest possessed chosen_plan judged judged_in
vote_computes = tt

-- a start, and a state in range
unfoldable pub start_computes : Unit {0}
unfolding phase_fits controller_fits start_estimates start_of started
start_computes = tt

-- what becomes of the controller, and what is sent
unfoldable pub effect_computes : Unit {0}
unfolding run_bit agrees merged applied sent_message inputs_fit stepped
effect_computes = tt

-- what the layers below compute
unfoldable pub below_computes : Unit {0}
unfolding float_computes range_computes digest_computes judge_computes run_computes share_computes
below_computes = tt

unfoldable pub step_computes : Unit {0}
unfolding below_computes message_computes plan_computes vote_computes start_computes effect_computes
step_computes = tt
