-- What is known of a step by what came of it: a message that it sent, the state that it left. For laws about many controllers together.
use Rattle.std.specs.Prelude.{ℕ, ◌≡◌, true, Ok, Some}
use Rattle.std.specs.Int.Bits.{bit_and}
use Rattle.units.specs.declared.settings.Numbers.{Numbers}
use Rattle.units.specs.Labels.{before}
use Rattle.vote.specs.declared.digest.Digest.{Digest}
use Rattle.message.specs.declared.head.Head.{Head}
use Rattle.message.specs.declared.head.Head.TheVariants.{Query, Reply, Advert, Update, Vote, Setpoints, Floor}
use Rattle.message.specs.declared.value.Message.{Message}
use Rattle.plan.specs.declared.brief.Phase.TheVariants.{Idle, Collecting, Pending}
use Rattle.plan.specs.Plan.{Sent}
use Rattle.plan.specs.Timers.{missing_runs}
use Rattle.plan.specs.Votes.{own_digest, possessed}
use Rattle.controller.specs.declared.state.Controller.{Controller}
use Rattle.controller.specs.Answers.{Answer}
use Rattle.controller.specs.State.{brief_of}
use Rattle.controller.specs.Start.{start_estimates}
use Rattle.controller.specs.Effects.{counted, issuing}
use Rattle.controller.specs.Step.{decision_with}
use Rattle.controller_laws.specs.Sendings.{IsSent}
use Rattle.controller_laws.specs.Ways.{Votes}

-- a round that is decided and possessed: a vote was taken in while voting, all votes together are decided for `chosen`, which lies before the round and is here
pub record RoundIssued (s : Numbers) (c : Controller) (h : Head) (chosen : Digest) (n : Controller) : Type 0 where
  pub seat : ℕ
  pub digest : Digest
  pub first : Sent
  pub vote : Votes c h seat digest first
  pub chose : decision_with s c seat digest ≡ Ok (Some chosen)
  pub older : before chosen.state c.label ≡ true
  pub here : possessed (brief_of c) chosen ≡ true
  pub next : n ≡ issuing s (counted c seat digest Idle) chosen

-- a message that goes out, with the step that sends it: h is the head that was taken, n the controller after the step
pub data SentBy (s : Numbers) (c : Controller) (h : Head) (n : Controller) : Head → Type 0 where
  query : n ≡ c → SentBy s c h n (Query c.own c.label (missing_runs (brief_of c) s.group.m))
  reply : (mask : ℕ) → n ≡ c → SentBy s c h n (Reply c.own c.label (bit_and mask c.held))
  advert : n ≡ c → SentBy s c h n (Advert c.own c.state)
  update : n ≡ c → SentBy s c h n (Update c.own c.state)
  floor : c.phase ≡ Collecting → SentBy s c h n (Floor c.label)
  vote : h ≡ Floor c.label → c.phase ≡ Pending → SentBy s c h n (Vote c.own c.label (own_digest (brief_of c)))
  setpoints : {chosen : Digest} → RoundIssued s c h chosen n → SentBy s c h n (Setpoints c.own c.label chosen)

-- the state after a step: as it was, or that of the message, or the one that the decided round leaves, with which S goes out, or that of a start
pub data StateBy (s : Numbers) (c : Controller) (a : Message) (r : Answer) : Type 0 where
  kept : r.next.state ≡ c.state → r.next.estimates ≡ c.estimates → StateBy s c a r
  adopted : (sender : ℕ) → a.head ≡ Update sender r.next.state → r.next.estimates ≡ a.estimates → StateBy s c a r
  by_issue : (chosen : Digest) → RoundIssued s c a.head chosen r.next → IsSent r (Setpoints c.own c.label chosen) → StateBy s c a r
  by_start : r.next.state ≡ record { 0 = 0 } → r.next.estimates ≡ start_estimates s.group.m s.p → StateBy s c a r
