-- THE STEP: "Messages, votes, settings or a controller state handed in as values with anything out of range get 6, before all else"; then what the message leads to.
use Rattle.std.specs.Prelude.{ℕ, Bool, not, ◌&&◌, List, get_or, Err, None}
use Rattle.units.specs.declared.labels.RoundLabel.{RoundLabel}
use Rattle.units.specs.declared.refusal.Refusal.TheVariants.{Range, Kind}
use Rattle.units.specs.declared.settings.Numbers.{Numbers}
use Rattle.units.specs.Pick.{pick}
use Rattle.units.specs.Settings.{numbers_fit}
use Rattle.floats.specs.Ranges.{same_state}
use Rattle.vote.specs.declared.digest.Digest.{Digest}
use Rattle.vote.specs.Digest.{Decision}
use Rattle.vote.specs.declared.votes.Votes.{Votes}
use Rattle.vote.specs.Decision.{decision}
use Rattle.vote.specs.Vote.{seated}
use Rattle.message.specs.declared.head.Head.{Head}
use Rattle.message.specs.declared.head.Head.TheVariants.{Reading, Query, Reply, Advert, Update, Vote, Setpoints, Due, CollectingEnds, VotingEnds, Floor, Start, Refused}
use Rattle.message.specs.declared.value.Message.{Message}
use Rattle.message.specs.Message.{message_fits}
use Rattle.plan.specs.declared.brief.Phase.{Phase}
use Rattle.plan.specs.declared.brief.Phase.TheVariants.{Idle, Collecting, Pending, Voting}
use Rattle.plan.specs.declared.planned.Change.{Change}
use Rattle.plan.specs.declared.planned.Effect.{Effect}
use Rattle.plan.specs.declared.planned.Effect.TheVariants.{Keep, Go, Begin, Add, Merge, Adopt, Count, Issue, Restart}
use Rattle.plan.specs.declared.planned.Plan.{Plan}
use Rattle.plan.specs.Plan.{refuse, does, change_of}
use Rattle.plan.specs.Readings.{plan_reading, plan_query, plan_reply}
use Rattle.plan.specs.States.{plan_advert, plan_update, plan_setpoints}
use Rattle.plan.specs.Timers.{plan_due, plan_ends, plan_voting_ends}
use Rattle.plan.specs.Votes.{plan_floor, plan_digest, judged}
use Rattle.controller.specs.declared.state.Controller.{Controller}
use Rattle.controller.specs.Answers.{Answer}
use Rattle.controller.specs.State.{brief_of, ballot_at, controller_fits}
use Rattle.controller.specs.Merge.{agreed}
use Rattle.controller.specs.Effects.{held_by, carried_by, applied}

-- the votes of the current label, with one more in its seat
abbrev pub votes_with : Numbers → Controller → ℕ → Digest → Votes
votes_with s c seat digest = record { group = s.group; label = c.label; seats = seated c.votes seat digest }

abbrev pub decision_with : Numbers → Controller → ℕ → Digest → Decision
decision_with s c seat digest = decision (votes_with s c seat digest)

-- "While voting, the vote is judged after F and after each D"
unfoldable pub judged_in : Numbers → Controller → Plan → ℕ → Digest → Phase → Plan
judged_in s c p seat digest Idle = p
judged_in s c p seat digest Collecting = p
judged_in s c p seat digest Pending = p
judged_in s c p seat digest Voting = judged (brief_of c) seat digest p.first (decision_with s c seat digest)

unfoldable pub judged_plan : Numbers → Controller → Plan → Effect → Plan
judged_plan s c p Keep = p
judged_plan s c p (Go phase) = p
judged_plan s c p (Begin label run raw) = p
judged_plan s c p (Add run raw) = p
judged_plan s c p (Merge mask) = p
judged_plan s c p (Adopt state phase) = p
judged_plan s c p (Count seat digest phase) = judged_in s c p seat digest phase
judged_plan s c p (Issue seat digest chosen) = p
judged_plan s c p (Restart own floor) = p

abbrev pub vote_plan : Numbers → Controller → Plan → Plan
vote_plan s c p = judged_plan s c p p.effect

-- R clashes where one of its readings differs from what is held
abbrev pub clashing : Controller → ℕ → List ℕ → Bool
clashing c mask new = not (agreed (held_by c) (carried_by mask new))

-- what a message leads to; B is a start or restart, and X is of no known kind here
unfoldable pub planned : Numbers → Controller → Message → Head → Plan
planned s c a (Reading label run raw) = plan_reading (brief_of c) (get_or c.readings run 0) label run raw
planned s c a (Query sender label mask) = plan_query (brief_of c) sender label mask
planned s c a (Reply sender label mask) = plan_reply (brief_of c) sender label mask (clashing c mask a.readings)
planned s c a (Advert sender state) = plan_advert (brief_of c) sender state
planned s c a (Update sender state) = plan_update (brief_of c) sender state (same_state a.estimates c.estimates)
planned s c a (Vote sender label digest) = vote_plan s c (plan_digest (brief_of c) (ballot_at c sender) sender label digest)
planned s c a (Setpoints sender label digest) = plan_setpoints (brief_of c) sender
planned s c a (Due label) = plan_due (brief_of c) s.group.m label
planned s c a (CollectingEnds label) = plan_ends (brief_of c) label
planned s c a (VotingEnds label) = plan_voting_ends (brief_of c) label
planned s c a (Floor label) = vote_plan s c (plan_floor (brief_of c) label)
planned s c a (Start own floor) = does (Restart own floor)
planned s c a (Refused number) = refuse Kind

-- how much a reading changes
abbrev pub reading_change : Controller → RoundLabel → ℕ → ℕ → Change
reading_change c label run raw = change_of (plan_reading (brief_of c) (get_or c.readings run 0) label run raw).effect

unfoldable pub inputs_fit : Numbers → Controller → Message → Bool
inputs_fit s c a = numbers_fit s && controller_fits s c && message_fits s.group a

-- the plan carried out
abbrev pub carried_out : Numbers → Controller → Message → Plan → Answer
carried_out s c a p = record { next = applied s a c p.effect; first = p.first; second = p.second; verdict = p.verdict }

unfoldable pub stepped : Numbers → Controller → Message → Answer
stepped s c a =
    pick (inputs_fit s c a) (carried_out s c a (planned s c a a.head))
    (record { next = c; first = None; second = None; verdict = Err Range })
