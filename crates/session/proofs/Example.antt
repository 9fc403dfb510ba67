-- DOCUMENT 01'S SESSION AS A WHOLE: the station program's output for its input, from bytes to bytes, which the checker computes. Assumes nothing.
use Prim.Native.Nat.{ℕ, ◌≤◌}
use mathlib.Core.Path.{◌≡◌, refl, ◌∙◌}
use mathlib.Core.List.{List, ◌++◌}
use lib.Count.{ones}
use lib.Ieee.{lt, le, eq, add, sub, mul, div, of_int, of_bits, to_bits, fits}
use lib.ListN.{length, take}
use Rattle.units.specs.Every.{every}
use Rattle.units.specs.Limits.{line_top}
use Rattle.units.specs.Pick.{pick}
use Rattle.units.specs.Settings.{group_fits, runs_fit, numbers_fit}
use Rattle.units.specs.Tab.{tab}
use Rattle.floats.specs.Bits.{bits_of, float_of, same_float}
use Rattle.floats.specs.Ranges.{estimate_fits, same_estimate, state_fits, targets_fit}
use Rattle.vote.specs.Digest.{legal, same, rank, unrank, full, least}
use Rattle.vote.specs.Vote.{seat_fits, seats_fit, votes_fit}
use Rattle.vote.specs.Decision.{tally_of, strength_of, largest, other_than, outsider, missing_of, held_off, rival_of, ruled_at, ruled, decision}
use Rattle.filter.specs.Run.{at_most, limited, grown, measured, gain, moved, shrunk, outcome}
use Rattle.filter.specs.Runs.{place, runs_after}
use Rattle.filter.specs.Share.{add_all, total, sum_of, weight_sum, target, share, targets}
use Rattle.filter.specs.Compute.{new_state, set_points}
use Rattle.fields.specs.Certificate.{all_visible, is_certificate}
use Rattle.fields.specs.Digits.{digit_of, char_of, value_from, fixed_in, fixed, decimal_in, decimal}
use Rattle.fields.specs.Field as Fields
use Rattle.fields.specs.Field.{decimal_said, factor_said, said_by, pointed, spelled, judge, read_field}
use Rattle.fields.specs.Put.{written}
use Rattle.fields.specs.Text.{until, later_fields, tabbed}
use Rattle.fields.specs.Lines.{lines_of}
use Rattle.message.specs.Head.{head_fits, carried}
use Rattle.message.specs.Message.{plain, message_fits}
use Rattle.message.specs.Readings.{readings_fit}
use Rattle.plan.specs.Plan.{afterwards}
use Rattle.plan.specs.Readings.{collected, same_round, plan_reading}
use Rattle.plan.specs.States.{plan_advert}
use Rattle.plan.specs.Timers.{in_ends, plan_ends}
use Rattle.plan.specs.Votes.{in_floor, plan_floor, possessed, chosen_plan, judged}
use Rattle.lines.specs.Lists.{column, joined}
use Rattle.lines.specs.Reading.{read_all, read_values, read_text, read_line}
use Rattle.lines.specs.Settling.{settling_start, settle_weight, settle_factor, settle_certificate, settle_run, is_kind, settle_text, settle_line}
use Rattle.lines.specs.Table.{kind_of, quantity_at, limit_for, count_of}
use Rattle.lines.specs.Values.{head_of, message_with, kind_is, head_values, numbers_of}
use Rattle.lines.specs.Writing.{line_of, spell_line, refusal_line, buffer_of}
use Rattle.controller.specs.State.{phase_fits, controller_fits}
use Rattle.controller.specs.Start.{start_estimates, start_of}
use Rattle.controller.specs.Merge.{run_bit}
use Rattle.controller.specs.Effects.{applied}
use Rattle.controller.specs.Sent.{sent_message}
use Rattle.controller.specs.Step.{judged_in, judged_plan, planned, inputs_fit, stepped}
use Rattle.session.specs.declared.feed.Session.{Session}
use Rattle.session.specs.Example.{bytes_of, session_input, session_output}
use Rattle.session.specs.Feeding.{last_turn, finished, session_start}
use Rattle.session.specs.Pieces.{Feeds}
use Rattle.session.specs.Station.{closing, answers, station}
use Rattle.session.specs.Turn.{core_start, settles_to, waits_for, hears, sent_text, verdict_text, answer_text, turn_by}
use Rattle.session.proofs.Whole.{whole}

-- the definitions that the session opens, by what they are about
-- binary64 and its bits
unfoldable float_computes : Unit {0}
unfolding lt le eq add sub mul div
float_computes = tt

unfoldable float_also : Unit {0}
unfolding of_int of_bits to_bits fits bits_of float_of same_float
float_also = tt

-- settings, ranges of floats, masks
unfoldable unit_computes : Unit {0}
unfolding ones every pick group_fits runs_fit numbers_fit estimate_fits same_estimate state_fits targets_fit
unit_computes = tt

-- digests and votes in range
unfoldable digest_computes : Unit {0}
unfolding legal same rank unrank full least seat_fits seats_fit votes_fit
digest_computes = tt

-- the decision
unfoldable judge_computes : Unit {0}
unfolding tally_of strength_of largest other_than outsider missing_of
judge_computes = tt

unfoldable judge_also : Unit {0}
unfolding held_off rival_of ruled_at ruled decision
judge_also = tt

-- 'Computing'
unfoldable filter_computes : Unit {0}
unfolding at_most limited grown measured gain moved
filter_computes = tt

unfoldable filter_also : Unit {0}
unfolding shrunk outcome tab place runs_after new_state
filter_also = tt

-- total and targets
unfoldable share_computes : Unit {0}
unfolding add_all total sum_of weight_sum target share targets set_points
share_computes = tt

-- digits and fields
unfoldable field_computes : Unit {0}
unfolding all_visible is_certificate digit_of char_of value_from fixed_in fixed
field_computes = tt

unfoldable field_also : Unit {0}
unfolding decimal_in decimal Fields.plain decimal_said factor_said said_by
field_also = tt

-- spellings and texts
unfoldable text_computes : Unit {0}
unfolding pointed spelled Fields.fits judge read_field written until later_fields tabbed lines_of
text_computes = tt

-- messages in range, and what they lead to
unfoldable plan_computes : Unit {0}
unfolding head_fits carried plain message_fits readings_fit afterwards collected same_round plan_reading
plan_computes = tt

unfoldable plan_also : Unit {0}
unfolding plan_advert in_ends plan_ends in_floor plan_floor possessed chosen_plan judged
plan_also = tt

-- reading
unfoldable read_computes : Unit {0}
unfolding column joined read_all read_values read_text read_line kind_of
read_computes = tt

unfoldable read_also : Unit {0}
unfolding quantity_at limit_for count_of head_of message_with kind_is
read_also = tt

-- the settings lines, and writing
unfoldable settle_computes : Unit {0}
unfolding settling_start settle_weight settle_factor settle_certificate settle_run is_kind settle_text
settle_computes = tt

unfoldable settle_also : Unit {0}
unfolding settle_line head_values numbers_of line_of spell_line refusal_line
settle_also = tt

-- a start and a step
unfoldable step_computes : Unit {0}
unfolding phase_fits controller_fits start_estimates start_of run_bit applied
step_computes = tt

unfoldable step_also : Unit {0}
unfolding sent_message judged_in judged_plan planned inputs_fit stepped
step_also = tt

-- the program
unfoldable turn_computes : Unit {0}
unfolding bytes_of session_input session_output closing answers core_start settles_to
turn_computes = tt

unfoldable turn_also : Unit {0}
unfolding waits_for hears sent_text verdict_text answer_text turn_by
turn_also = tt

unfoldable values_compute : Unit {0}
unfolding float_computes float_also unit_computes digest_computes judge_computes judge_also filter_computes filter_also share_computes
values_compute = tt

unfoldable lines_compute : Unit {0}
unfolding field_computes field_also text_computes read_computes read_also settle_computes settle_also
lines_compute = tt

unfoldable steps_compute : Unit {0}
unfolding plan_computes plan_also step_computes step_also turn_computes turn_also
steps_compute = tt

-- every byte that comes out, for every byte that goes in
pub session_bytes : station session_input ≡ session_output
unfolding values_compute lines_compute steps_compute
session_bytes = refl

-- so these bytes are written for those, however they are cut into pieces and whatever buffers are lent
pub session_fed : {out : List ℕ} {y : Session} → Feeds session_start session_input out y → (buf : List ℕ) → line_top ≤ length buf
    → out ++ take (finished y (length buf)).wrote (buffer_of (last_turn y).text buf) ≡ session_output
session_fed f buf h = whole f buf h ∙ session_bytes
