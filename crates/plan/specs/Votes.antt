-- F and D of 'Phases of a round', and "While voting, the vote is judged after F and after each D".
use Rattle.std.specs.Prelude.{ℕ, Bool, not, ◌&&◌, eqb, Err, None, Ok, Some}
use Rattle.std.specs.Int.Bits.{bit_and}
use Rattle.units.specs.declared.labels.RoundLabel.{RoundLabel}
use Rattle.units.specs.declared.refusal.Refusal.{Refusal}
use Rattle.units.specs.declared.refusal.Refusal.TheVariants.{Own, Closed, Other, Clash, Lacking, Behind}
use Rattle.units.specs.Labels.{before}
use Rattle.units.specs.Pick.{pick}
use Rattle.vote.specs.declared.digest.Digest.{Digest}
use Rattle.vote.specs.Digest.{Ballot, Decision, same}
use Rattle.message.specs.declared.head.Head.TheVariants.{Vote, Setpoints}
use Rattle.plan.specs.declared.brief.Brief.{Brief}
use Rattle.plan.specs.declared.brief.Phase.{Phase}
use Rattle.plan.specs.declared.brief.Phase.TheVariants.{Idle, Collecting, Pending, Voting}
use Rattle.plan.specs.declared.planned.Effect.TheVariants.{Count, Issue}
use Rattle.plan.specs.Plan.{Sent, refuse, does, sends, afterwards}
use Rattle.plan.specs.declared.planned.Plan.{Plan}

-- "D with the held mask and state label"
abbrev pub own_digest : Brief → Digest
own_digest b = record { mask = b.held; state = b.state }

-- "voting; sends D .. and counts it as our vote"
unfoldable pub in_floor : Brief → Phase → Plan
in_floor b Idle = refuse Closed
in_floor b Collecting = refuse Closed
in_floor b Pending = sends (Count b.own (own_digest b) Voting) (Vote b.own b.label (own_digest b))
in_floor b Voting = refuse Closed

-- F (pending): 10, 9
unfoldable pub plan_floor : Brief → RoundLabel → Plan
plan_floor b label = pick (not (eqb label.0 b.label.0)) (refuse Other) (in_floor b b.phase)

-- "kept for its sender; the same again changes nothing, another is 11"; the ballot is what the sender's seat holds
unfoldable pub in_seat : ℕ → Digest → Phase → Ballot → Plan
in_seat sender digest phase None = does (Count sender digest phase)
in_seat sender digest phase (Some e) = pick (same e digest) (does (Count sender digest phase)) (refuse Clash)

unfoldable pub in_digest : Brief → Ballot → ℕ → Digest → Phase → Plan
in_digest b cast sender digest Idle = refuse Closed
in_digest b cast sender digest Collecting = in_seat sender digest b.phase cast
in_digest b cast sender digest Pending = in_seat sender digest b.phase cast
in_digest b cast sender digest Voting = in_seat sender digest b.phase cast

-- D (not idle): 7, 10, 9, 11
unfoldable pub plan_digest : Brief → Ballot → ℕ → RoundLabel → Digest → Plan
plan_digest b cast sender label digest =
    pick (eqb sender b.own) (refuse Own)
    (pick (not (eqb label.0 b.label.0)) (refuse Other)
    (in_digest b cast sender digest b.phase))

-- ---- judging

-- "12, 13 and 14 .. end the round: the phase becomes idle, all else kept, with the D or F that led there taken in"
abbrev pub end_of : ℕ → Digest → Sent → Refusal → Plan
end_of seat digest first why = record { effect = Count seat digest Idle; first = first; second = None; verdict = Err why }

-- 13 "if the chosen mask isn't within the held one or the state labels differ"
unfoldable pub possessed : Brief → Digest → Bool
possessed b chosen = eqb (bit_and chosen.mask b.held) chosen.mask && eqb chosen.state.0 b.state.0

-- "If decided: 14, then 13 .. else compute, send S, set the state label to the round's label, idle"
unfoldable pub chosen_plan : Brief → ℕ → Digest → Sent → Digest → Plan
chosen_plan b seat digest first chosen =
    pick (not (before chosen.state b.label)) (end_of seat digest first Behind)
    (pick (not (possessed b chosen)) (end_of seat digest first Lacking)
    (afterwards (Issue seat digest chosen) (Setpoints b.own b.label chosen) first))

-- a vote was taken in while voting, `first` goes out with it, and all votes together are decided so
unfoldable pub judged : Brief → ℕ → Digest → Sent → Decision → Plan
judged b seat digest first (Err why) = record { effect = Count seat digest Voting; first = first; second = None; verdict = Ok tt }
judged b seat digest first (Ok None) = record { effect = Count seat digest Voting; first = first; second = None; verdict = Ok tt }
judged b seat digest first (Ok (Some chosen)) = chosen_plan b seat digest first chosen
