-- WHY EACH RULE OF THE STEP IS THERE: wrong rules in its place, with schedules that keep every premise, and two S of one label that differ come of each. They are computed in proofs/Schedules.antt.
use Rattle.std.specs.Prelude.{ℕ, ◌+◌, ◌*◌, ◌-◌, ◌/◌, ◌%◌, ◌^◌, Bool, true, false, ◌&&◌, ◌||◌, List, [], ◌∷◌, ◌++◌, map, eqb, ltb, replicate, Err, None, Ok, Some}
use Rattle.std.proofs.Math.Option.{Option, none, some}
use Rattle.std.specs.Int.Count.{ones}
use Rattle.units.specs.declared.settings.Numbers.{Numbers}
use Rattle.units.specs.Limits.{controllers_top}
use Rattle.units.specs.Pick.{pick}
use Rattle.vote.specs.declared.digest.Digest.{Digest}
use Rattle.vote.specs.Digest.{Poll, Ballot}
use Rattle.vote.specs.declared.votes.Votes.{Votes}
use Rattle.vote.specs.Decision.{strengths, largest, winning}
use Rattle.vote.specs.Vote.{count, missing, ballots, nobody}
use Rattle.filter.specs.Compute.{new_state}
use Rattle.message.specs.declared.head.Head.{Head}
use Rattle.message.specs.declared.head.Head.TheVariants.{Setpoints, Due, CollectingEnds, VotingEnds, Floor}
use Rattle.message.specs.Message.{plain}
use Rattle.message.specs.View.{on_reading, on_update, on_floor, on_issue}
use Rattle.plan.specs.declared.brief.Phase.{Phase}
use Rattle.plan.specs.declared.brief.Phase.TheVariants.{Idle, Collecting, Pending, Voting}
use Rattle.plan.specs.declared.planned.Effect.TheVariants.{Keep}
use Rattle.plan.specs.Plan.{Sent, afterwards}
use Rattle.plan.specs.Votes.{possessed}
use Rattle.controller.specs.declared.state.Controller.{Controller}
use Rattle.controller.specs.Answers.{Answer}
use Rattle.controller.specs.State.{brief_of, controller_fits}
use Rattle.controller.specs.Effects.{in_phase, adopting, issuing}
use Rattle.controller.specs.Step.{stepped}
use Rattle.controller_laws.specs.Session.{Line, sends, numbers, sized}
use Rattle.group.specs.World.{empty}
use Rattle.group.specs.Scripts.{Act, give, pass, fall}
use Rattle.group.specs.Examples.{round, state_of, three}
use Rattle.group.specs.Schedules.{Stepping, played_by, Outcome, comes_of, up, low, one, both, run0, both_at1, both_at2, parted}

-- ---- small tests
abbrev pub is_reading : Head → Bool
is_reading h = on_reading (λ label run raw. true) false h

abbrev pub is_update : Head → Bool
is_update h = on_update (λ sender state. true) false h

abbrev pub is_floor : Head → Bool
is_floor h = on_floor (λ label. true) false h

abbrev pub is_issue : Head → Bool
is_issue h = on_issue (λ sender label digest. true) false h

abbrev pub is_idle : Phase → Bool
is_idle Idle = true
is_idle Collecting = false
is_idle Pending = false
is_idle Voting = false

abbrev pub is_voting : Phase → Bool
is_voting Idle = false
is_voting Collecting = false
is_voting Pending = false
is_voting Voting = true

-- a message of the kind goes out
abbrev pub is_out : (Head → Bool) → Sent → Bool
is_out is None = false
is_out is (Some head) = is head

abbrev pub goes_out : (Head → Bool) → Answer → Bool
goes_out is r = is_out is r.first || is_out is r.second

abbrev pub instead : Answer → Controller → Answer
instead r c = record { next = c; first = r.first; second = r.second; verdict = r.verdict }

-- ---- own vote before its floor is stored: where F would go out, it does at once what E and F do
unfoldable pub votes_at_once : Stepping
votes_at_once s c a = pick (goes_out is_floor (stepped s c a)) (stepped s (stepped s c a).next (plain (Floor c.label))) (stepped s c a)

-- controller 0 votes for run 0 and crashes before any F; nothing was confirmed, so it may restart at 0, and votes for both runs
unfoldable pub crash_at_once : List Act
crash_at_once =
    (up 0 ∷ up 1 ∷ up 2 ∷ low 0 1 ∷ give 0 (CollectingEnds (round 1)) ∷ [])
    ++ one 1 1
    ++ (pass 1 0 ∷ fall 0 ∷ up 0 ∷ [])
    ++ both 0 1
    ++ both 2 1
    ++ (pass 2 3 ∷ [])

-- ---- a label collected again when idle: M of the current label begins a round, as if the label were one lower and no vote were held
abbrev pub lowered : Controller → Controller
lowered c =
    record {
      own = c.own;
      phase = c.phase;
      label = record { 0 = c.label.0 - 1 };
      state = c.state;
      estimates = c.estimates;
      held = c.held;
      readings = c.readings;
      votes = replicate controllers_top nobody;
    }

unfoldable pub collects_again : Stepping
collects_again s c a = pick (is_reading a.head && is_idle c.phase) (stepped s (lowered c) a) (stepped s c a)

-- controller 0 votes for run 0, V ends its round, it collects the label again and votes for both runs
unfoldable pub collected_twice : List Act
collected_twice =
    (up 0 ∷ up 1 ∷ up 2 ∷ [])
    ++ one 0 1
    ++ (give 0 (VotingEnds (round 1)) ∷ [])
    ++ one 1 1
    ++ (pass 1 1 ∷ [])
    ++ both 0 1
    ++ both 2 1
    ++ (pass 2 6 ∷ [])

-- ---- computing from the held readings instead of the chosen ones
unfoldable pub computes_from_held : Stepping
computes_from_held s c a =
    let r = stepped s c a in
    pick (goes_out is_issue r)
    (instead r (adopting r.next r.next.state (new_state c.label c.state c.estimates s c.held c.readings) Idle)) r

-- controllers 0 and 1 vote for run 0, controller 2 for both; 1 and 2 issue the digest of run 0, each from what it holds
unfoldable pub held_more : List Act
held_more = (up 0 ∷ up 1 ∷ up 2 ∷ []) ++ one 0 1 ++ one 1 1 ++ (pass 1 1 ∷ []) ++ both 2 1 ++ (pass 2 1 ∷ pass 2 3 ∷ [])

abbrev pub parted_computing : List Line
parted_computing =
    sends (Setpoints 1 (round 1) (run0 0)) (0x40E2_6588_0000_0000 ∷ 0x40C8_8760_0000_0000 ∷ [])
    ∷ sends (Setpoints 2 (round 1) (run0 0)) (0x40F2_4F80_0000_0000 ∷ 0x40D8_6A00_0000_0000 ∷ [])
    ∷ []

-- the step r, ended with an S of the digest
abbrev pub issues_for : Numbers → Answer → Digest → Answer
issues_for s r d =
    let p = afterwards Keep (Setpoints r.next.own r.next.label d) r.first in
    record { next = issuing s r.next d; first = p.first; second = p.second; verdict = Ok tt }

-- ---- the shortcut: an open vote is issued where fewer votes are missing than its leader has
unfoldable pub short_of : Numbers → Answer → Votes → Poll → Answer
short_of s r v (Ok (Some d)) =
    pick (is_voting r.next.phase && ltb (missing (ballots v)) (count d (ballots v)) && possessed (brief_of r.next) d) (issues_for s r d) r
short_of s r v (Ok None) = r
short_of s r v (Err why) = r

abbrev pub votes_in : Numbers → Controller → Votes
votes_in s c = record { group = s.group; label = c.label; seats = c.votes }

unfoldable pub stops_short : Stepping
stops_short s c a =
    let r = stepped s c a in
    let v = votes_in s r.next in
    short_of s r v (winning v)

-- a group of four
unfoldable pub four : Numbers
four = sized 4

-- controllers 0 and 1 issue label 1; in round 2 they vote for run 0 from that state, 2 and 3 for both runs from the start's. 2 stops at v9's votes; 1 sees the tie
unfoldable pub tie_missed : List Act
tie_missed =
    (up 0 ∷ up 1 ∷ [])
    ++ both 0 1
    ++ both 1 1
    ++ (pass 0 3 ∷ pass 1 1 ∷ [])
    ++ one 0 2
    ++ one 1 2
    ++ (up 2 ∷ [])
    ++ both 2 2
    ++ (up 3 ∷ [])
    ++ both 3 2
    ++ (pass 2 13 ∷ pass 2 7 ∷ pass 1 11 ∷ pass 1 13 ∷ pass 1 7 ∷ [])

-- an S of label 2 for run 0 from the state of label 1
abbrev pub fresh : ℕ → Line
fresh i = sends (Setpoints i (round 2) (run0 1)) (0x40F7_E363_C988_2B93 ∷ 0x40DF_D9DA_620A_E4C4 ∷ [])

-- ---- a mixed group: 1 goes by the order of before, the number of measurements, then the state label, then the mask
abbrev pub rank_before : Ballot → ℕ
rank_before None = 0
rank_before (Some d) = ones d.mask * 2 ^ 48 + d.state.0 * 2 ^ 16 + d.mask

-- the winner by it
abbrev pub won_before : List Ballot → Digest
won_before s = let n = largest (strengths (map rank_before s)) in record { mask = n % 2 ^ 16; state = state_of (n / 2 ^ 16 % 2 ^ 32) }

-- with all votes in, where the step does not issue, that winner is issued if it is here
unfoldable pub order_before : Numbers → Controller → Answer → List Ballot → Answer
order_before s c r v = pick (is_voting c.phase && eqb (missing v) 0 && possessed (brief_of r.next) (won_before v)) (issues_for s r (won_before v)) r

unfoldable pub mixed : Stepping
mixed s c a =
    let r = stepped s c a in
    pick (eqb c.own 1) (order_before s c r (ballots (votes_in s r.next))) r

-- controller 0 issues label 1, alone; in round 2 it votes for run 0 from that state, 1 for both runs from the start's; each hears the other
unfoldable pub mixed_orders : List Act
mixed_orders = (up 0 ∷ up 1 ∷ []) ++ both 0 1 ++ one 0 2 ++ both 1 2 ++ (pass 0 6 ∷ pass 1 4 ∷ [])

-- ---- what comes of them; no act is unfair
abbrev pub wrong : List Outcome
wrong =
    comes_of votes_at_once three crash_at_once
    ∷ comes_of collects_again three collected_twice
    ∷ comes_of computes_from_held three held_more
    ∷ comes_of stops_short four tie_missed
    ∷ comes_of mixed numbers mixed_orders
    ∷ []

abbrev pub wrong_says : List Outcome
wrong_says =
    record { unfair = []; issued = parted }
    ∷ record { unfair = []; issued = parted }
    ∷ record { unfair = []; issued = parted_computing }
    ∷ record { unfair = []; issued = both_at1 0 ∷ both_at1 1 ∷ both_at2 2 ∷ fresh 1 ∷ [] }
    ∷ record { unfair = []; issued = both_at1 0 ∷ fresh 0 ∷ both_at2 1 ∷ [] }
    ∷ []

-- ---- U taken while voting
unfoldable pub updates_while_voting : Stepping
updates_while_voting s c a =
    let r = stepped s (in_phase c Idle) a in
    pick (is_update a.head && is_voting c.phase) (instead r (in_phase r.next Voting)) (stepped s c a)

-- controller 1 is voting on label 1 when a U of label 1 comes. No S can differ by it, since the chosen state is then not here (13); but the controller is out of range, and all it is handed is 6
unfoldable pub updated_inside : List Act
updated_inside =
    (up 0 ∷ up 1 ∷ up 2 ∷ [])
    ++ both 0 1
    ++ both 1 1
    ++ (pass 0 3 ∷ low 2 2 ∷ give 2 (Due (round 2)) ∷ pass 0 6 ∷ pass 1 7 ∷ [])

abbrev pub fits_in : Numbers → Option Controller → Bool
fits_in s none = true
fits_in s (some c) = controller_fits s c

abbrev pub out_of_range : Bool
out_of_range = fits_in three ((played_by updates_while_voting three empty updated_inside).up 1)
