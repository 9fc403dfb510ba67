-- EVERY MESSAGE SENT IS IN RANGE, so that it can be written; and nothing is sent but what document 01 names. Assumes nothing.
use Rattle.std.specs.Prelude.{None, Ok, Some}
use Prim.Native.Nat.{ℕ, ◌-◌}
use native.Mathlib.Omega.{arith}
use mathlib.Core.Path.{◌≡◌, refl, subst, ◌∙◌}
use mathlib.Core.Bool.{Bool, true, ◌&&◌}
use mathlib.Core.Logic.{◌⊎◌, ⊎_elim}
use lib.Bits.{bit_and, and_le_r}
use borrow.Author.Tests.{lt-ltb, le-leb}
use Rattle.units.specs.declared.settings.Group.{Group}
use Rattle.units.specs.declared.settings.Numbers.{Numbers}
use Rattle.units.specs.Labels.{round_fits}
use Rattle.units.specs.Limits.{label_top}
use Rattle.units.specs.Mask.{mask_end}
use Rattle.units.specs.Settings.{group_fits, numbers_fit}
use Rattle.units.proofs.Masks.{some_mask}
use Rattle.units.proofs.Every.{absurd_by, and_both}
use Rattle.units.proofs.InRange.{group_fits_lem}
use Rattle.floats.specs.Ranges.{state_fits, targets_fit}
use Rattle.vote.specs.declared.digest.Digest.{Digest}
use Rattle.vote.proofs.Decided.{decided_legal}
use Rattle.vote.proofs.InRange.{legal_range}
use Rattle.filter.specs.Compute.{set_points}
use Rattle.filter.proofs.Laws.{given_range}
use Rattle.message.specs.declared.head.Head.{Head}
use Rattle.message.specs.declared.head.Head.TheVariants.{Query, Reply, Advert, Update, Vote, Setpoints, Floor}
use Rattle.message.specs.declared.value.Message.{Message}
use Rattle.message.specs.Head.{head_fits, carry, carried, is_plain}
use Rattle.message.specs.Message.{plain, message_fits}
use Rattle.message.specs.Readings.{readings_fit}
use Rattle.message.proofs.Views.{plain_seen}
use Rattle.message.proofs.Plain.{none_fit, unused_estimates, unused_targets, plain_fit}
use Rattle.plan.specs.declared.brief.Phase.TheVariants.{Idle}
use Rattle.plan.specs.declared.planned.Effect.TheVariants.{Issue}
use Rattle.plan.specs.declared.planned.Plan.{Plan}
use Rattle.plan.specs.Plan.{Sent, afterwards}
use Rattle.plan.specs.Timers.{missing_runs}
use Rattle.plan.specs.Votes.{own_digest}
use Rattle.controller.specs.declared.state.Controller.{Controller}
use Rattle.controller.specs.Answers.{Answer}
use Rattle.controller.specs.State.{brief_of}
use Rattle.controller.specs.Merge.{selected}
use Rattle.controller.specs.Effects.{counted, issuing, applied}
use Rattle.controller.specs.Sent.{with_readings, with_estimates, with_targets, sent_message}
use Rattle.controller.specs.Step.{decision_with, votes_with, stepped}
use Rattle.controller_laws.specs.Sendings.{IsSent, MaySend, OnSent, IsVote, Voted}
use Rattle.controller_laws.specs.Sendings.MaySend.{reply, update, query, advert, floor, vote, setpoints}
use Rattle.controller_laws.specs.Phases.{Busy, Early}
use Rattle.controller_laws.specs.Ways.{Votes, Leads, Goes}
use Rattle.controller_laws.specs.Ways.Votes.{another's, ours}
use Rattle.controller_laws.specs.Ways.Leads.{refused, unchanged, begins, adds, replies, merges, updates, adopts_idle, adopts_before, adopts_past, asks, adverts, asks_and_adverts, collected, lapses, counts, open_still, behind, lacking, issues, restarts}
use Rattle.controller_laws.specs.Ways.Goes.{out, led}
use Rattle.controller_laws.proofs.Fits.{own_legal, inputs}
use Rattle.controller_laws.proofs.Held.{selected_fit}
use Rattle.controller_laws.proofs.Valid.{Valid}
use Rattle.controller_laws.proofs.Ways.{goes}

-- ---- a plain kind is sent as its head alone
pub sent_plain : (s : Numbers) (c : Controller) (head : Head) → is_plain head ≡ true → sent_message s c head ≡ plain head
unfolding sent_message
sent_plain s c head e = let n = plain_seen head e in rw (n.0, n.1, n.2) refl

-- ---- a message in range
message_made : (s : Group) (a : Message) → group_fits s ≡ true → head_fits s a.head ≡ true → readings_fit (carried s a.head).readings a.readings ≡ true
    → state_fits (carried s a.head).estimates a.estimates ≡ true → targets_fit (carried s a.head).targets a.targets ≡ true → message_fits s a ≡ true
unfolding message_fits
message_made s a g h r e t = and_both (and_both (and_both (and_both g h) r) e) t

plain_fits : (s : Group) (head : Head) → group_fits s ≡ true → head_fits s head ≡ true → carried s head ≡ carry 0 0 0 → message_fits s (plain head) ≡ true
plain_fits s head g h e = plain_fit s head e ∙ and_both g h

-- ---- each kind that is sent
module _ (s : Numbers) (c : Controller) (fit : numbers_fit s ≡ true) (v : Valid s c) where
  abbrev m : ℕ
  m = s.group.m

  -- the message can be sent by a controller whose own number, label and mask are those of c
  abbrev Ready : Controller → Head → Type 0
  Ready n head = message_fits s.group (sent_message s n head) ≡ true

  sender : (x : Bool) → x ≡ true → (lib.Dec.ltb c.own s.group.g && x) ≡ true
  sender x h = and_both (lt-ltb _ _ v.own) h

  pub round : Busy c.phase → round_fits c.label ≡ true
  round b =
      let q = legal_range m c.label (own_digest (brief_of c)) (own_legal s c fit v b) in
      and_both (le-leb 1 c.label.0 (omega (arith, q.older))) (le-leb c.label.0 label_top v.label)

  reply_ready : (mask : ℕ) → Busy c.phase → (bit_and mask c.held ≡ 0 → ⊥) → Ready c (Reply c.own c.label (bit_and mask c.held))
  unfolding sent_message head_fits carried plain
  reply_ready mask b n =
      message_made s.group (with_readings (Reply c.own c.label (bit_and mask c.held)) (selected (bit_and mask c.held) c.readings)) (group_fits_lem s fit)
      (and_both (sender _ (round b)) (and_both (le-leb 1 (bit_and mask c.held) (omega arith)) (lt-ltb (bit_and mask c.held) (mask_end m) (omega (arith, and_le_r mask c.held, v.held)))))
      (selected_fit mask c.held c.readings v.readings) unused_estimates unused_targets

  update_ready : Ready c (Update c.own c.state)
  unfolding sent_message head_fits carried plain
  update_ready =
      message_made s.group (with_estimates (Update c.own c.state) c.estimates) (group_fits_lem s fit) (sender _ (le-leb c.state.0 label_top v.state)) none_fit v.estimates unused_targets

  advert_ready : Ready c (Advert c.own c.state)
  unfolding sent_message head_fits carried
  advert_ready = plain_fits s.group (Advert c.own c.state) (group_fits_lem s fit) (sender _ (le-leb c.state.0 label_top v.state)) refl

  query_ready : Busy c.phase → (missing_runs (brief_of c) m ≡ 0 → ⊥) → Ready c (Query c.own c.label (missing_runs (brief_of c) m))
  unfolding sent_message head_fits carried missing_runs
  query_ready b n =
      plain_fits s.group (Query c.own c.label (missing_runs (brief_of c) m)) (group_fits_lem s fit)
      (and_both (sender _ (round b)) (and_both (le-leb 1 (mask_end m - 1 - c.held) (omega arith)) (lt-ltb (mask_end m - 1 - c.held) (mask_end m) (omega (arith, some_mask m))))) refl

  floor_ready : (n : Controller) → Busy c.phase → Ready n (Floor c.label)
  unfolding sent_message head_fits carried
  floor_ready n b = plain_fits s.group (Floor c.label) (group_fits_lem s fit) (round b) refl

  vote_ready : (n : Controller) → Busy c.phase → Ready n (Vote c.own c.label (own_digest (brief_of c)))
  unfolding sent_message head_fits carried
  vote_ready n b = plain_fits s.group (Vote c.own c.label (own_digest (brief_of c))) (group_fits_lem s fit) (and_both (sender _ (round b)) (own_legal s c fit v b)) refl

  setpoints_ready : (seat : ℕ) (digest chosen : Digest) → Busy c.phase → decision_with s c seat digest ≡ Ok (Some chosen)
      → Ready (issuing s (counted c seat digest Idle) chosen) (Setpoints c.own c.label chosen)
  unfolding sent_message head_fits carried plain
  setpoints_ready seat digest chosen b d =
      message_made s.group (with_targets (Setpoints c.own c.label chosen) (set_points s (issuing s (counted c seat digest Idle) chosen).estimates)) (group_fits_lem s fit)
      (and_both (sender _ (round b)) (decided_legal (votes_with s c seat digest) chosen d)) none_fit unused_estimates
      (given_range c.label c.state c.estimates s chosen.mask c.readings fit v.estimates)

  -- ---- every way
  module _ (a : Message) where
    -- what holds of all that a plan sends, on the controller after it
    abbrev AllReady : Plan → Type 0
    AllReady p = OnSent (Ready (applied s a c p.effect)) p.first × OnSent (Ready (applied s a c p.effect)) p.second

    -- what goes out with a vote
    with_vote : {h : Head} {seat : ℕ} {digest : Digest} {first : Sent} (n : Controller) → Votes c h seat digest first → OnSent (Ready n) first
    with_vote n (another's k e f) = tt
    with_vote n (ours e) = vote_ready n (rw e tt)

    issue_ready : {h : Head} {seat : ℕ} {digest : Digest} {first : Sent} (chosen : Digest) → Votes c h seat digest first → decision_with s c seat digest ≡ Ok (Some chosen)
        → AllReady (afterwards (Issue seat digest chosen) (Setpoints c.own c.label chosen) first)
    unfolding afterwards applied
    issue_ready chosen (another's {sender} {digest} n e f) d = (setpoints_ready sender digest chosen (rw e tt) d, tt)
    issue_ready chosen (ours e) d = (vote_ready _ (rw e tt), setpoints_ready c.own (own_digest (brief_of c)) chosen (rw e tt) d)

    way_ready : {h : Head} {p : Plan} → Leads s c a h p → AllReady p
    unfolding applied
    way_ready (refused why e) = (tt, tt)
    way_ready (unchanged r) = (tt, tt)
    way_ready (begins l k) = (tt, tt)
    way_ready (adds e lo n) = (tt, tt)
    way_ready (replies {mask = mask} ne b n) = (reply_ready mask b n, tt)
    way_ready (merges ne e n) = (tt, tt)
    way_ready (updates ne l) = (update_ready, tt)
    way_ready (adopts_idle ne e l) = (tt, tt)
    way_ready (adopts_before ne e l k) = (tt, tt)
    way_ready (adopts_past ne e l k) = (tt, tt)
    way_ready (asks e n lo) = (query_ready (rw e tt) n, tt)
    way_ready (adverts e lo l) = (advert_ready, tt)
    way_ready (asks_and_adverts e n l) = (query_ready (rw e tt) n, advert_ready)
    way_ready (collected e) = (floor_ready _ (rw e tt), tt)
    way_ready (lapses e) = (tt, tt)
    way_ready (counts n e f) = (tt, tt)
    way_ready (open_still w d) = (with_vote _ w, tt)
    way_ready (behind w d b) = (with_vote _ w, tt)
    way_ready (lacking w d b n) = (with_vote _ w, tt)
    way_ready (issues {chosen = chosen} w d b n) = issue_ready chosen w d
    way_ready restarts = (tt, tt)

pub none_sent : {A : Type 0} {head : Head} → ◌≡◌ {A = Sent} None (Some head) → A
none_sent q = absurd_by (cc)

-- what holds of all that an answer sends holds of one of its messages
pub one_of : (P : Head → Type 0) (x y : Sent) → OnSent P x → OnSent P y → (head : Head) → (x ≡ Some head) ⊎ (y ≡ Some head) → P head
one_of P x y p q head w = ⊎_elim (λ e. subst (OnSent P) e p) (λ e. subst (OnSent P) e q) w

module _ (s : Numbers) (c : Controller) (a : Message) where
  -- "every message answered is in range, so it can always be written": from any settings, state and message, as whole values
  pub sent_fits : (head : Head) → IsSent (stepped s c a) head → message_fits s.group (sent_message s (stepped s c a).next head) ≡ true
  sent_fits = way (goes s c a)
    where
      way : {r : Answer} → Goes s c a r → (head : Head) → IsSent r head → message_fits s.group (sent_message s r.next head) ≡ true
      way (out e) = one_of _ None None tt tt
      way (led {p} e w) = let q = inputs s c a e in let k = way_ready s c q.numbers q.valid a w in one_of _ p.first p.second k.0 k.1

  -- ---- what may be sent
  abbrev AllMay : Head → Plan → Type 0
  AllMay h p = OnSent (MaySend s c h) p.first × OnSent (MaySend s c h) p.second

  with_vote_may : {h : Head} {seat : ℕ} {digest : Digest} {first : Sent} → Votes c h seat digest first → OnSent (MaySend s c h) first
  with_vote_may (another's k e f) = tt
  with_vote_may (ours e) = vote e

  issue_may : {h : Head} {seat : ℕ} {digest : Digest} {first : Sent} (chosen : Digest) → Votes c h seat digest first → decision_with s c seat digest ≡ Ok (Some chosen)
      → AllMay h (afterwards (Issue seat digest chosen) (Setpoints c.own c.label chosen) first)
  unfolding afterwards
  issue_may chosen (another's {sender} {digest} n e f) d = (setpoints (another's {sender = sender} {digest = digest} n e f) d, tt)
  issue_may chosen (ours e) d = (vote e, setpoints (ours e) d)

  way_may : {h : Head} {p : Plan} → Leads s c a h p → AllMay h p
  way_may (refused why e) = (tt, tt)
  way_may (unchanged r) = (tt, tt)
  way_may (begins l k) = (tt, tt)
  way_may (adds e lo n) = (tt, tt)
  way_may (replies ne b n) = (reply b, tt)
  way_may (merges ne e n) = (tt, tt)
  way_may (updates ne l) = (update l, tt)
  way_may (adopts_idle ne e l) = (tt, tt)
  way_may (adopts_before ne e l k) = (tt, tt)
  way_may (adopts_past ne e l k) = (tt, tt)
  way_may (asks e n lo) = (query e, tt)
  way_may (adverts e lo l) = (advert e, tt)
  way_may (asks_and_adverts e n l) = (query e, advert e)
  way_may (collected e) = (floor e, tt)
  way_may (lapses e) = (tt, tt)
  way_may (counts n e f) = (tt, tt)
  way_may (open_still w d) = (with_vote_may w, tt)
  way_may (behind w d b) = (with_vote_may w, tt)
  way_may (lacking w d b n) = (with_vote_may w, tt)
  way_may (issues {chosen = chosen} w d b n) = issue_may chosen w d
  way_may restarts = (tt, tt)

  -- a message goes out only where the kind of message taken and the phase allow it, and it is the one that they name
  pub sent_few : (head : Head) → IsSent (stepped s c a) head → MaySend s c a.head head
  sent_few = way (goes s c a)
    where
      way : {r : Answer} → Goes s c a r → (head : Head) → IsSent r head → MaySend s c a.head head
      way (out e) = one_of _ None None tt tt
      way (led {p} e w) = let k = way_may w in one_of _ p.first p.second k.0 k.1

  -- what is sent stands in `first`, then `second`, with no gap
  in_order : {h : Head} {p : Plan} → Leads s c a h p → p.first ≡ None → p.second ≡ None
  unfolding afterwards
  in_order (refused why e) q = refl
  in_order (unchanged r) q = refl
  in_order (begins l k) q = refl
  in_order (adds e lo n) q = refl
  in_order (replies ne b n) q = refl
  in_order (merges ne e n) q = refl
  in_order (updates ne l) q = refl
  in_order (adopts_idle ne e l) q = refl
  in_order (adopts_before ne e l k) q = refl
  in_order (adopts_past ne e l k) q = refl
  in_order (asks e n lo) q = refl
  in_order (adverts e lo l) q = refl
  in_order (asks_and_adverts e n l) q = absurd_by (cc)
  in_order (collected e) q = refl
  in_order (lapses e) q = refl
  in_order (counts n e f) q = refl
  in_order (open_still w d) q = refl
  in_order (behind w d b) q = refl
  in_order (lacking w d b n) q = refl
  in_order (issues {first = None} w d b n) q = refl
  in_order (issues {first = Some one} w d b n) q = absurd_by (cc)
  in_order restarts q = refl

  pub sent_in_order : (stepped s c a).first ≡ None → (stepped s c a).second ≡ None
  sent_in_order = way (goes s c a)
    where
      way : {r : Answer} → Goes s c a r → r.first ≡ None → r.second ≡ None
      way (out e) q = refl
      way (led e w) q = in_order w q

  -- a second message goes out only where the message at hand was taken
  two_led : {h : Head} {p : Plan} → Leads s c a h p → (head : Head) → p.second ≡ Some head → p.verdict ≡ Ok tt
  unfolding afterwards
  two_led (refused why e) head q = none_sent q
  two_led (unchanged r) head q = none_sent q
  two_led (begins l k) head q = none_sent q
  two_led (adds e lo n) head q = none_sent q
  two_led (replies ne b n) head q = none_sent q
  two_led (merges ne e n) head q = none_sent q
  two_led (updates ne l) head q = none_sent q
  two_led (adopts_idle ne e l) head q = none_sent q
  two_led (adopts_before ne e l k) head q = none_sent q
  two_led (adopts_past ne e l k) head q = none_sent q
  two_led (asks e n lo) head q = none_sent q
  two_led (adverts e lo l) head q = none_sent q
  two_led (asks_and_adverts e n l) head q = refl
  two_led (collected e) head q = none_sent q
  two_led (lapses e) head q = none_sent q
  two_led (counts n e f) head q = none_sent q
  two_led (open_still w d) head q = none_sent q
  two_led (behind w d b) head q = none_sent q
  two_led (lacking w d b n) head q = none_sent q
  two_led (issues {first = None} w d b n) head q = none_sent q
  two_led (issues {first = Some one} w d b n) head q = refl
  two_led restarts head q = none_sent q

  pub two_taken : (head : Head) → (stepped s c a).second ≡ Some head → (stepped s c a).verdict ≡ Ok tt
  two_taken = way (goes s c a)
    where
      way : {r : Answer} → Goes s c a r → (head : Head) → r.second ≡ Some head → r.verdict ≡ Ok tt
      way (out e) head q = none_sent q
      way (led e w) head q = two_led w head q

  -- ---- our vote goes out once
  abbrev Once : Head → Plan → Type 0
  Once h p = OnSent (λ x. IsVote x → Voted c h (applied s a c p.effect)) p.first × OnSent (λ x. IsVote x → Voted c h (applied s a c p.effect)) p.second

  -- with a vote taken in, in a phase that is not early
  with_vote_once : {h : Head} {seat : ℕ} {digest : Digest} {first : Sent} (n : Controller) → Votes c h seat digest first → n.label ≡ c.label → (Early n.phase → ⊥)
      → OnSent (λ x. IsVote x → Voted c h n) first
  with_vote_once n (another's k e f) l q = tt
  with_vote_once n (ours e) l q = λ _. record { by_floor = refl; pending = e; label = l; late = q }

  issue_once : {h : Head} {seat : ℕ} {digest : Digest} {first : Sent} (chosen : Digest) → Votes c h seat digest first
      → Once h (afterwards (Issue seat digest chosen) (Setpoints c.own c.label chosen) first)
  unfolding afterwards applied
  issue_once chosen (another's n e f) = (λ z. absurd z, tt)
  issue_once chosen (ours e) = (λ _. record { by_floor = refl; pending = e; label = refl; late = λ z. z }, λ z. absurd z)

  way_once : {h : Head} {p : Plan} → Leads s c a h p → Once h p
  unfolding applied
  way_once (refused why e) = (tt, tt)
  way_once (unchanged r) = (tt, tt)
  way_once (begins l k) = (tt, tt)
  way_once (adds e lo n) = (tt, tt)
  way_once (replies ne b n) = (λ z. absurd z, tt)
  way_once (merges ne e n) = (tt, tt)
  way_once (updates ne l) = (λ z. absurd z, tt)
  way_once (adopts_idle ne e l) = (tt, tt)
  way_once (adopts_before ne e l k) = (tt, tt)
  way_once (adopts_past ne e l k) = (tt, tt)
  way_once (asks e n lo) = (λ z. absurd z, tt)
  way_once (adverts e lo l) = (λ z. absurd z, tt)
  way_once (asks_and_adverts e n l) = (λ z. absurd z, λ z. absurd z)
  way_once (collected e) = (λ z. absurd z, tt)
  way_once (lapses e) = (tt, tt)
  way_once (counts n e f) = (tt, tt)
  way_once (open_still w d) = (with_vote_once _ w refl (λ z. z), tt)
  way_once (behind w d b) = (with_vote_once _ w refl (λ z. z), tt)
  way_once (lacking w d b n) = (with_vote_once _ w refl (λ z. z), tt)
  way_once (issues {chosen = chosen} w d b n) = issue_once chosen w
  way_once restarts = (tt, tt)

  -- D goes out only by the step that takes our F, and that step leaves the phases before the vote; they come back with a higher label alone (`step_rises`)
  pub vote_once : (head : Head) → IsSent (stepped s c a) head → IsVote head → Voted c a.head (stepped s c a).next
  vote_once = way (goes s c a)
    where
      way : {r : Answer} → Goes s c a r → (head : Head) → IsSent r head → IsVote head → Voted c a.head r.next
      way (out e) = one_of _ None None tt tt
      way (led {p} e w) = let k = way_once w in one_of _ p.first p.second k.0 k.1
