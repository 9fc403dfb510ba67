-- WHAT JUDGING LEADS TO: "While voting, the vote is judged after F and after each D. If decided: 14, then 13 .. else compute, send S", and what comes where it is not decided.
use Rattle.std.specs.Prelude.{ℕ, ◌≡◌, true, false, None, Ok}
use Rattle.units.specs.declared.refusal.Refusal.TheVariants.{Lacking}
use Rattle.units.specs.declared.settings.Numbers.{Numbers}
use Rattle.vote.specs.declared.digest.Digest.{Digest}
use Rattle.vote.specs.Vote.{Decides}
use Rattle.message.specs.declared.head.Head.TheVariants.{Setpoints}
use Rattle.plan.specs.declared.brief.Phase.TheVariants.{Idle, Voting}
use Rattle.plan.specs.Plan.{Sent}
use Rattle.plan.specs.Votes.{possessed}
use Rattle.controller.specs.declared.state.Controller.{Controller}
use Rattle.controller.specs.Answers.{Answer}
use Rattle.controller.specs.State.{brief_of}
use Rattle.controller.specs.Effects.{counted, issuing}
use Rattle.controller.specs.Step.{votes_with}
use Rattle.controller_laws.specs.Endings.{ended_with}
use Rattle.controller_laws.specs.Sendings.{IsSent}

-- a vote in its seat, the phase still voting, and what goes out with the vote
abbrev pub still_voting : Controller → ℕ → Digest → Sent → Answer
still_voting c seat digest first = record { next = counted c seat digest Voting; first = first; second = None; verdict = Ok tt }

-- the round was computed from d: S names it, and state and phase are those of an issue
pub record IssuedFor (s : Numbers) (c : Controller) (seat : ℕ) (digest d : Digest) (r : Answer) : Type 0 where
  pub sent : IsSent r (Setpoints c.own c.label d)
  pub verdict : r.verdict ≡ Ok tt
  pub next : r.next ≡ issuing s (counted c seat digest Idle) d

-- the answer r to a vote that was taken in while voting, where the votes are those held with this one in its seat: "decided for a digest exactly when
-- every completion has it as winner" (`Decides`), and here where its mask is within the held one and its state label is ours
pub record Judged (s : Numbers) (c : Controller) (seat : ℕ) (digest : Digest) (first : Sent) (r : Answer) : Type 0 where
  -- decided and here: S goes out and names it
  pub issued : (d : Digest) → Decides (votes_with s c seat digest) d → possessed (brief_of c) d ≡ true → IssuedFor s c seat digest d r
  -- decided and not here: 13
  pub lacked : (d : Digest) → Decides (votes_with s c seat digest) d → possessed (brief_of c) d ≡ false → r ≡ ended_with c seat digest first Lacking
  -- decided for no digest: nothing more is sent than `first`, and the phase is voting
  pub undecided : ((d : Digest) → Decides (votes_with s c seat digest) d → ⊥) → r ≡ still_voting c seat digest first
