-- "12, 13 and 14 .. end the round: the phase becomes idle, all else kept, with the D or F that led there taken in. After F our D is still sent, ahead of the refusal."
use Rattle.std.specs.Prelude.{ℕ, ◌≡◌, Err, None}
use Rattle.units.specs.declared.refusal.Refusal.{Refusal}
use Rattle.units.specs.declared.refusal.Refusal.TheVariants.{Undecided, Lacking, Behind}
use Rattle.vote.specs.declared.digest.Digest.{Digest}
use Rattle.message.specs.declared.head.Head.{Head}
use Rattle.message.specs.declared.head.Head.TheVariants.{VotingEnds}
use Rattle.plan.specs.declared.brief.Phase.TheVariants.{Idle, Voting}
use Rattle.plan.specs.Plan.{Sent}
use Rattle.controller.specs.declared.state.Controller.{Controller}
use Rattle.controller.specs.Answers.{Answer}
use Rattle.controller.specs.Effects.{in_phase, counted}
use Rattle.controller_laws.specs.Ways.{Votes}

-- a refusal that leaves the controller as it was, with nothing sent
abbrev pub refused_only : Controller → Refusal → Answer
refused_only c why = record { next = c; first = None; second = None; verdict = Err why }

-- a vote in its seat, the phase idle, and what goes out with the vote
abbrev pub ended_with : Controller → ℕ → Digest → Sent → Refusal → Answer
ended_with c seat digest first why = record { next = counted c seat digest Idle; first = first; second = None; verdict = Err why }

-- how the message h ends a round
pub data Ended (c : Controller) : Head → Refusal → Answer → Type 0 where
  by_time : c.phase ≡ Voting → Ended c (VotingEnds c.label) Undecided (refused_only (in_phase c Idle) Undecided)
  by_lack : {h : Head} {seat : ℕ} {digest : Digest} {first : Sent} → Votes c h seat digest first → Ended c h Lacking (ended_with c seat digest first Lacking)
  by_age : {h : Head} {seat : ℕ} {digest : Digest} {first : Sent} → Votes c h seat digest first → Ended c h Behind (ended_with c seat digest first Behind)
