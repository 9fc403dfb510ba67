-- THE WAYS THAT A STEP CAN GO: each plan that a message can lead to, with what is known there. Every law of the step goes by these.
use Rattle.std.specs.Prelude.{ℕ, ◌≤◌, ◌<◌, ◌≡◌, Bool, true, false, Err, None, Ok, Some}
use Rattle.std.specs.Int.Bits.{bit_and}
use Rattle.units.specs.declared.labels.RoundLabel.{RoundLabel}
use Rattle.units.specs.declared.labels.StateLabel.{StateLabel}
use Rattle.units.specs.declared.refusal.Refusal.{Refusal}
use Rattle.units.specs.declared.refusal.Refusal.TheVariants.{Range, Undecided, Lacking, Behind}
use Rattle.units.specs.declared.settings.Numbers.{Numbers}
use Rattle.units.specs.Labels.{before, just_before}
use Rattle.units.specs.Mask.{in_mask}
use Rattle.units.specs.Refusal.{number_of}
use Rattle.units.specs.Within.{within}
use Rattle.vote.specs.declared.digest.Digest.{Digest}
use Rattle.message.specs.declared.head.Head.{Head}
use Rattle.message.specs.declared.head.Head.TheVariants.{Reading, Query, Reply, Advert, Update, Vote, Setpoints, Due, CollectingEnds, VotingEnds, Floor, Start}
use Rattle.message.specs.declared.value.Message.{Message}
use Rattle.plan.specs.declared.brief.Phase.TheVariants.{Idle, Collecting, Pending, Voting}
use Rattle.plan.specs.declared.planned.Effect.TheVariants.{Keep, Go, Begin, Add, Merge, Adopt, Count, Issue, Restart}
use Rattle.plan.specs.declared.planned.Plan.{Plan}
use Rattle.plan.specs.Plan.{Sent, refuse, does, sends, both, afterwards}
use Rattle.plan.specs.Timers.{missing_runs}
use Rattle.plan.specs.Votes.{own_digest, end_of, possessed}
use Rattle.controller.specs.declared.state.Controller.{Controller}
use Rattle.controller.specs.Answers.{Answer}
use Rattle.controller.specs.State.{brief_of, ballot_at}
use Rattle.controller.specs.Step.{clashing, decision_with, inputs_fit, carried_out}
use Rattle.controller_laws.specs.Phases.{Busy, Early, Free}
use Rattle.controller_laws.specs.Reasons.{Refuses, Rests}

-- 12, 13 and 14, which end the round
abbrev pub ends_round : Refusal → Bool
ends_round why = within 12 14 (number_of why)

-- "the vote is judged after F and after each D": the vote that is taken in while voting, and what goes out with it
pub data Votes (c : Controller) : Head → ℕ → Digest → Sent → Type 0 where
  another's : {sender : ℕ} {digest : Digest} → (sender ≡ c.own → ⊥) → c.phase ≡ Voting → Free (ballot_at c sender) digest
      → Votes c (Vote sender c.label digest) sender digest None
  ours : c.phase ≡ Pending
      → Votes c (Floor c.label) c.own (own_digest (brief_of c)) (Some (Vote c.own c.label (own_digest (brief_of c))))

-- what the message h leads to
pub data Leads (s : Numbers) (c : Controller) (a : Message) : Head → Plan → Type 0 where
  refused : {h : Head} (why : Refusal) → Refuses c a h why → Leads s c a h (refuse why)
  unchanged : {h : Head} → Rests s c a h → Leads s c a h (does Keep)
  -- M
  begins : {label : RoundLabel} {run raw : ℕ} → c.state.0 < label.0 → c.label.0 < label.0
      → Leads s c a (Reading label run raw) (does (Begin label run raw))
  adds : {run raw : ℕ} → c.phase ≡ Collecting → c.state.0 < c.label.0 → in_mask c.held run ≡ false
      → Leads s c a (Reading c.label run raw) (does (Add run raw))
  -- Q, R
  replies : {sender mask : ℕ} → (sender ≡ c.own → ⊥) → Busy c.phase → (bit_and mask c.held ≡ 0 → ⊥)
      → Leads s c a (Query sender c.label mask) (sends Keep (Reply c.own c.label (bit_and mask c.held)))
  merges : {sender mask : ℕ} → (sender ≡ c.own → ⊥) → c.phase ≡ Collecting → clashing c mask a.readings ≡ false
      → Leads s c a (Reply sender c.label mask) (does (Merge mask))
  -- A, U
  updates : {sender : ℕ} {theirs : StateLabel} → (sender ≡ c.own → ⊥) → theirs.0 < c.state.0
      → Leads s c a (Advert sender theirs) (sends Keep (Update c.own c.state))
  adopts_idle : {sender : ℕ} {theirs : StateLabel} → (sender ≡ c.own → ⊥) → c.phase ≡ Idle → c.state.0 < theirs.0
      → Leads s c a (Update sender theirs) (does (Adopt theirs Idle))
  adopts_before : {sender : ℕ} {theirs : StateLabel} → (sender ≡ c.own → ⊥) → c.phase ≡ Collecting → c.state.0 < theirs.0 → theirs.0 < c.label.0
      → Leads s c a (Update sender theirs) (does (Adopt theirs Collecting))
  adopts_past : {sender : ℕ} {theirs : StateLabel} → (sender ≡ c.own → ⊥) → c.phase ≡ Collecting → c.state.0 < theirs.0 → before theirs c.label ≡ false
      → Leads s c a (Update sender theirs) (does (Adopt theirs Idle))
  -- C
  asks : c.phase ≡ Collecting → (missing_runs (brief_of c) s.group.m ≡ 0 → ⊥) → (just_before c.label).0 ≤ c.state.0
      → Leads s c a (Due c.label) (sends Keep (Query c.own c.label (missing_runs (brief_of c) s.group.m)))
  adverts : c.phase ≡ Collecting → missing_runs (brief_of c) s.group.m ≡ 0 → c.state.0 < (just_before c.label).0
      → Leads s c a (Due c.label) (sends Keep (Advert c.own c.state))
  asks_and_adverts : c.phase ≡ Collecting → (missing_runs (brief_of c) s.group.m ≡ 0 → ⊥) → c.state.0 < (just_before c.label).0
      → Leads s c a (Due c.label) (both Keep (Query c.own c.label (missing_runs (brief_of c) s.group.m)) (Advert c.own c.state))
  -- E, V
  collected : c.phase ≡ Collecting → Leads s c a (CollectingEnds c.label) (sends (Go Pending) (Floor c.label))
  lapses : c.phase ≡ Voting
      → Leads s c a (VotingEnds c.label) (record { effect = Go Idle; first = None; second = None; verdict = Err Undecided })
  -- D before our vote
  counts : {sender : ℕ} {digest : Digest} → (sender ≡ c.own → ⊥) → Early c.phase → Free (ballot_at c sender) digest
      → Leads s c a (Vote sender c.label digest) (does (Count sender digest c.phase))
  -- D and F while voting
  open_still : {h : Head} {seat : ℕ} {digest : Digest} {first : Sent} → Votes c h seat digest first
      → ((chosen : Digest) → decision_with s c seat digest ≡ Ok (Some chosen) → ⊥)
      → Leads s c a h (record { effect = Count seat digest Voting; first = first; second = None; verdict = Ok tt })
  behind : {h : Head} {seat : ℕ} {digest : Digest} {first : Sent} {chosen : Digest} → Votes c h seat digest first
      → decision_with s c seat digest ≡ Ok (Some chosen) → before chosen.state c.label ≡ false
      → Leads s c a h (end_of seat digest first Behind)
  lacking : {h : Head} {seat : ℕ} {digest : Digest} {first : Sent} {chosen : Digest} → Votes c h seat digest first
      → decision_with s c seat digest ≡ Ok (Some chosen) → before chosen.state c.label ≡ true → possessed (brief_of c) chosen ≡ false
      → Leads s c a h (end_of seat digest first Lacking)
  issues : {h : Head} {seat : ℕ} {digest : Digest} {first : Sent} {chosen : Digest} → Votes c h seat digest first
      → decision_with s c seat digest ≡ Ok (Some chosen) → before chosen.state c.label ≡ true → possessed (brief_of c) chosen ≡ true
      → Leads s c a h (afterwards (Issue seat digest chosen) (Setpoints c.own c.label chosen) first)
  -- B
  restarts : {own : ℕ} {floor : RoundLabel} → Leads s c a (Start own floor) (does (Restart own floor))

-- a step: 6 where something is out of range, else a plan that the message leads to, carried out
pub data Goes (s : Numbers) (c : Controller) (a : Message) : Answer → Type 0 where
  out : inputs_fit s c a ≡ false → Goes s c a (record { next = c; first = None; second = None; verdict = Err Range })
  led : {p : Plan} → inputs_fit s c a ≡ true → Leads s c a a.head p → Goes s c a (carried_out s c a p)
