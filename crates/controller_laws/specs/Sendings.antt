-- What a step may send: "at most what document 01 names", by the kind of message that it took.
use Rattle.std.specs.Prelude.{ℕ, ◌<◌, ◌≡◌, ◌⊎◌, None, Ok, Some}
use Rattle.std.specs.Int.Bits.{bit_and}
use Rattle.units.specs.declared.labels.StateLabel.{StateLabel}
use Rattle.units.specs.declared.settings.Numbers.{Numbers}
use Rattle.vote.specs.declared.digest.Digest.{Digest}
use Rattle.message.specs.declared.head.Head.{Head}
use Rattle.message.specs.declared.head.Head.TheVariants.{Query, Reply, Advert, Update, Vote, Setpoints, Due, CollectingEnds, Floor}
use Rattle.message.specs.declared.value.Message.{Message}
use Rattle.message.specs.View.{on_vote}
use Rattle.plan.specs.declared.brief.Phase.TheVariants.{Collecting, Pending}
use Rattle.plan.specs.Plan.{Sent}
use Rattle.plan.specs.Timers.{missing_runs}
use Rattle.plan.specs.Votes.{own_digest}
use Rattle.controller.specs.declared.state.Controller.{Controller}
use Rattle.controller.specs.Answers.{Answer, Told}
use Rattle.controller.specs.State.{brief_of}
use Rattle.controller.specs.Step.{decision_with}
use Rattle.controller_laws.specs.Phases.{Busy, Early}
use Rattle.controller_laws.specs.Ways.{Votes}

-- one of an answer's up to two messages
abbrev pub IsSent : Answer → Head → Type 0
IsSent r head = (r.first ≡ Some head) ⊎ (r.second ≡ Some head)

-- one of the whole messages that a step tells of
abbrev pub Tells : Told → Message → Type 0
Tells t x = (t.first ≡ Some x) ⊎ (t.second ≡ Some x)

-- what the message on the left may lead to being sent
pub data MaySend (s : Numbers) (c : Controller) : Head → Head → Type 0 where
  reply : {sender mask : ℕ} → Busy c.phase → MaySend s c (Query sender c.label mask) (Reply c.own c.label (bit_and mask c.held))
  update : {sender : ℕ} {theirs : StateLabel} → theirs.0 < c.state.0 → MaySend s c (Advert sender theirs) (Update c.own c.state)
  query : c.phase ≡ Collecting → MaySend s c (Due c.label) (Query c.own c.label (missing_runs (brief_of c) s.group.m))
  advert : c.phase ≡ Collecting → MaySend s c (Due c.label) (Advert c.own c.state)
  floor : c.phase ≡ Collecting → MaySend s c (CollectingEnds c.label) (Floor c.label)
  vote : c.phase ≡ Pending → MaySend s c (Floor c.label) (Vote c.own c.label (own_digest (brief_of c)))
  setpoints : {h : Head} {seat : ℕ} {digest chosen : Digest} {first : Sent} → Votes c h seat digest first → decision_with s c seat digest ≡ Ok (Some chosen)
      → MaySend s c h (Setpoints c.own c.label chosen)

-- something holds of a message that is sent
abbrev pub OnSent : (Head → Type 0) → Sent → Type 0
OnSent P None = Unit {0}
OnSent P (Some head) = P head

-- the message is a D
abbrev pub IsVote : Head → Type 0
IsVote h = on_vote (λ sender label digest. Unit {0}) ⊥ h

-- the step that let our vote out: it took the F of the current label while pending, and no early phase of that label is left to vote in again
pub record Voted (c : Controller) (h : Head) (n : Controller) : Type 0 where
  pub by_floor : h ≡ Floor c.label
  pub pending : c.phase ≡ Pending
  pub label : n.label ≡ c.label
  pub late : Early n.phase → ⊥
