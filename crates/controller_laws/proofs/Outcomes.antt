-- What sent a message, where an issued state came from, and what B does to a running controller. Assumes nothing.
use Rattle.std.specs.Prelude.{None, Ok, Some}
use Prim.Native.Nat.{ℕ}
use mathlib.Core.Path.{◌≡◌, refl, sym, ap, subst}
use mathlib.Core.Bool.{true}
use mathlib.Core.Logic.{◌⊎◌, inl, inr}
use mathlib.Core.Option.{Option, none, some}
use Rattle.units.specs.declared.labels.RoundLabel.{RoundLabel}
use Rattle.units.specs.declared.settings.Numbers.{Numbers}
use Rattle.units.specs.Labels.{before}
use Rattle.vote.specs.declared.digest.Digest.{Digest}
use Rattle.message.specs.declared.head.Head.{Head}
use Rattle.message.specs.declared.head.Head.TheVariants.{Setpoints, Start}
use Rattle.message.specs.declared.value.Message.{Message}
use Rattle.message.specs.Message.{plain}
use Rattle.message.specs.View.{on_some, as_reply, as_update, as_issue}
use Rattle.plan.specs.declared.brief.Phase.TheVariants.{Idle}
use Rattle.plan.specs.declared.planned.Effect.TheVariants.{Issue}
use Rattle.plan.specs.declared.planned.Plan.{Plan}
use Rattle.plan.specs.Plan.{Sent, afterwards}
use Rattle.plan.specs.Votes.{own_digest, possessed}
use Rattle.controller.specs.declared.state.Controller.{Controller}
use Rattle.controller.specs.Answers.{Answer}
use Rattle.controller.specs.State.{brief_of}
use Rattle.controller.specs.Start.{start_of}
use Rattle.controller.specs.Effects.{applied, counted, issuing}
use Rattle.controller.specs.Sent.{sent_message}
use Rattle.controller.specs.Step.{decision_with, planned, inputs_fit, carried_out, stepped}
use Rattle.controller_laws.specs.Outcomes.{RoundIssued, SentBy, StateBy}
use Rattle.controller_laws.specs.Outcomes.SentBy.{query, reply, advert, update, floor, vote, setpoints}
use Rattle.controller_laws.specs.Outcomes.StateBy.{kept, adopted, by_issue, by_start}
use Rattle.controller_laws.specs.Sendings.{IsSent, OnSent}
use Rattle.controller_laws.specs.Ways.{Votes, Leads, Goes}
use Rattle.controller_laws.specs.Ways.Votes.{another's, ours}
use Rattle.controller_laws.specs.Ways.Leads.{refused, unchanged, begins, adds, replies, merges, updates, adopts_idle, adopts_before, adopts_past, asks, adverts, asks_and_adverts, collected, lapses, counts, open_still, behind, lacking, issues, restarts}
use Rattle.controller_laws.specs.Ways.Goes.{out, led}
use Rattle.controller_laws.proofs.Ways.{on_pick, goes}
use Rattle.controller_laws.proofs.Sendings.{one_of}

module _ (s : Numbers) (c : Controller) (a : Message) where
  -- ---- what sent a message
  abbrev AllBy : Head → Plan → Type 0
  AllBy h p = OnSent (SentBy s c h (applied s a c p.effect)) p.first × OnSent (SentBy s c h (applied s a c p.effect)) p.second

  with_vote : {h : Head} {seat : ℕ} {digest : Digest} {first : Sent} (n : Controller) → Votes c h seat digest first → OnSent (SentBy s c h n) first
  with_vote n (another's k e f) = tt
  with_vote n (ours e) = vote refl e

  settled : {h : Head} {seat : ℕ} {digest chosen : Digest} {first : Sent} → Votes c h seat digest first → decision_with s c seat digest ≡ Ok (Some chosen) → before chosen.state c.label ≡ true
      → possessed (brief_of c) chosen ≡ true → RoundIssued s c h chosen (issuing s (counted c seat digest Idle) chosen)
  settled {seat = seat} {digest = digest} {first = first} w d b p =
      record { seat = seat; digest = digest; first = first; vote = w; chose = d; older = b; here = p; next = refl }

  issue_by : {h : Head} {seat : ℕ} {digest chosen : Digest} {first : Sent} → Votes c h seat digest first → decision_with s c seat digest ≡ Ok (Some chosen) → before chosen.state c.label ≡ true
      → possessed (brief_of c) chosen ≡ true → AllBy h (afterwards (Issue seat digest chosen) (Setpoints c.own c.label chosen) first)
  unfolding afterwards applied
  issue_by (another's {sender} {digest} n e f) d b p = (setpoints (settled (another's {sender = sender} {digest = digest} n e f) d b p), tt)
  issue_by (ours e) d b p = (vote refl e, setpoints (settled (ours e) d b p))

  way_by : {h : Head} {p : Plan} → Leads s c a h p → AllBy h p
  unfolding applied
  way_by (refused why e) = (tt, tt)
  way_by (unchanged r) = (tt, tt)
  way_by (begins l k) = (tt, tt)
  way_by (adds e lo n) = (tt, tt)
  way_by (replies {mask = mask} ne b n) = (reply mask refl, tt)
  way_by (merges ne e n) = (tt, tt)
  way_by (updates ne l) = (update refl, tt)
  way_by (adopts_idle ne e l) = (tt, tt)
  way_by (adopts_before ne e l k) = (tt, tt)
  way_by (adopts_past ne e l k) = (tt, tt)
  way_by (asks e n lo) = (query refl, tt)
  way_by (adverts e lo l) = (advert refl, tt)
  way_by (asks_and_adverts e n l) = (query refl, advert refl)
  way_by (collected e) = (floor e, tt)
  way_by (lapses e) = (tt, tt)
  way_by (counts n e f) = (tt, tt)
  way_by (open_still w d) = (with_vote _ w, tt)
  way_by (behind w d b) = (with_vote _ w, tt)
  way_by (lacking w d b n) = (with_vote _ w, tt)
  way_by (issues w d b n) = issue_by w d b n
  way_by restarts = (tt, tt)

  -- each message that goes out, with the step that sends it
  pub sent_by_lem : (head : Head) → IsSent (stepped s c a) head → SentBy s c a.head (stepped s c a).next head
  sent_by_lem = way (goes s c a)
    where
      way : {r : Answer} → Goes s c a r → (head : Head) → IsSent r head → SentBy s c a.head r.next head
      way (out e) = one_of _ None None tt tt
      way (led {p} e w) = let k = way_by w in one_of _ p.first p.second k.0 k.1

  -- ---- where the state comes from
  issue_state : {h : Head} {seat : ℕ} {digest chosen : Digest} {first : Sent} → a.head ≡ h → Votes c h seat digest first → decision_with s c seat digest ≡ Ok (Some chosen)
      → before chosen.state c.label ≡ true → possessed (brief_of c) chosen ≡ true
      → StateBy s c a (carried_out s c a (afterwards (Issue seat digest chosen) (Setpoints c.own c.label chosen) first))
  unfolding afterwards applied
  issue_state {chosen = chosen} u (another's {sender} {digest} n e f) d b p =
      by_issue chosen (subst (λ (h : Head). RoundIssued s c h chosen (issuing s (counted c sender digest Idle) chosen)) (sym u) (settled (another's {sender = sender} {digest = digest} n e f) d b p)) (inl refl)
  issue_state {chosen = chosen} u (ours e) d b p =
      by_issue chosen (subst (λ (h : Head). RoundIssued s c h chosen (issuing s (counted c c.own (own_digest (brief_of c)) Idle) chosen)) (sym u) (settled (ours e) d b p)) (inr refl)

  way_state : {h : Head} {p : Plan} → Leads s c a h p → a.head ≡ h → StateBy s c a (carried_out s c a p)
  unfolding applied start_of
  way_state (refused why e) u = kept refl refl
  way_state (unchanged r) u = kept refl refl
  way_state (begins b g) u = kept refl refl
  way_state (adds e lo g) u = kept refl refl
  way_state (replies ne b g) u = kept refl refl
  way_state (merges ne e g) u = kept refl refl
  way_state (updates ne g) u = kept refl refl
  way_state (adopts_idle {sender} ne e l) u = adopted sender u refl
  way_state (adopts_before {sender} ne e l k) u = adopted sender u refl
  way_state (adopts_past {sender} ne e l k) u = adopted sender u refl
  way_state (asks e g lo) u = kept refl refl
  way_state (adverts e lo g) u = kept refl refl
  way_state (asks_and_adverts e g b) u = kept refl refl
  way_state (collected e) u = kept refl refl
  way_state (lapses e) u = kept refl refl
  way_state (counts n e f) u = kept refl refl
  way_state (open_still w z) u = kept refl refl
  way_state (behind w z b) u = kept refl refl
  way_state (lacking w z b g) u = kept refl refl
  way_state (issues w z b g) u = issue_state u w z b g
  way_state restarts u = by_start refl refl

  -- state label and estimates change together, by U, by B, and by an issue, with which S goes out
  pub state_by : StateBy s c a (stepped s c a)
  state_by = way (goes s c a)
    where
      way : {r : Answer} → Goes s c a r → StateBy s c a r
      way (out e) = kept refl refl
      way (led e w) = way_state w refl

  -- ---- B
  -- a running controller that is handed B starts anew, or the step is 6 and it is as it was
  pub start_step : (own : ℕ) (low : RoundLabel) → a.head ≡ Start own low → ((stepped s c a).next ≡ c) ⊎ ((stepped s c a).next ≡ start_of s own low)
  unfolding stepped planned applied
  start_step own low e =
      on_pick (λ (r : Answer). (r.next ≡ c) ⊎ (r.next ≡ start_of s own low)) (inputs_fit s c a) (λ _. inr (ap (λ (h : Head). applied s a c (planned s c a h).effect) e)) (λ _. inl refl)

-- a choice by a view has what both its sides have
on_view : {A B : Type 0} (P : B → Type 0) {f : A → B} {z : B} → ((v : A) → P (f v)) → P z → (o : Option A) → P (on_some f z o)
on_view P f z none = z
on_view P f z (some v) = f v

-- the head of a whole message is the one that was sent
pub sent_head : (s : Numbers) (c : Controller) (head : Head) → (sent_message s c head).head ≡ head
unfolding sent_message plain
sent_head s c head = on_view Sends (λ v. refl) (on_view Sends (λ v. refl) (on_view Sends (λ v. refl) refl (as_issue head)) (as_update head)) (as_reply head)
  where
    Sends : Message → Type 0
    Sends m = m.head ≡ head
