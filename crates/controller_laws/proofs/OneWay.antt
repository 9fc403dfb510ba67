-- THE WAYS EXCLUDE EACH OTHER: a message leads to one plan, and a step has one answer. Assumes nothing.
use Rattle.std.specs.Prelude.{Err, None, Ok, Some}
use Prim.Native.Nat.{ℕ, ◌<◌}
use native.Mathlib.Nat.{le_refl, le_of_lt}
use native.Mathlib.Omega.{arith}
use mathlib.Core.Path.{◌≡◌, refl, sym, ap, ◌∙◌}
use mathlib.Core.Bool.{Bool, true, false, not}
use lib.Dec.{eqb}
use lib.ListN.{get_or}
use borrow.Author.Tests.{lt-ltb, le-ltb, eq-eqb, ne_eqb}
use Rattle.units.specs.declared.labels.RoundLabel.{RoundLabel}
use Rattle.units.specs.declared.labels.StateLabel.{StateLabel}
use Rattle.units.specs.declared.refusal.Refusal.{Refusal}
use Rattle.units.specs.declared.refusal.Refusal.TheVariants.{Own, Late, Closed, Other, Clash}
use Rattle.units.specs.declared.settings.Numbers.{Numbers}
use Rattle.units.specs.Pick.{pick}
use Rattle.units.proofs.Picked.{by_yes, by_no, along}
use Rattle.floats.specs.Ranges.{same_state}
use Rattle.vote.specs.declared.digest.Digest.{Digest}
use Rattle.vote.specs.Digest.{Decision, Ballot, same}
use Rattle.vote.proofs.Order.{same_true, same_refl}
use Rattle.message.specs.declared.head.Head.{Head}
use Rattle.message.specs.declared.head.Head.TheVariants.{Vote}
use Rattle.message.specs.declared.value.Message.{Message}
use Rattle.plan.specs.declared.brief.Brief.{Brief}
use Rattle.plan.specs.declared.brief.Phase.{Phase}
use Rattle.plan.specs.declared.brief.Phase.TheVariants.{Idle, Collecting, Pending, Voting}
use Rattle.plan.specs.declared.planned.Effect.TheVariants.{Keep, Adopt, Count}
use Rattle.plan.specs.declared.planned.Plan.{Plan}
use Rattle.plan.specs.Plan.{Sent, refuse, does}
use Rattle.plan.specs.Readings
use Rattle.plan.specs.Readings.{same_round, plan_reading, answered, in_query, in_reply}
use Rattle.plan.specs.States.{overtaken, adopted, in_update}
use Rattle.plan.specs.Timers.{in_due, in_ends, in_voting_ends}
use Rattle.plan.specs.Votes.{in_floor, plan_floor, in_seat, in_digest, plan_digest, chosen_plan, judged}
use Rattle.controller.specs.declared.state.Controller.{Controller}
use Rattle.controller.specs.Answers.{Answer}
use Rattle.controller.specs.State.{brief_of, ballot_at}
use Rattle.controller.specs.Step.{decision_with, judged_in, judged_plan, vote_plan, clashing, planned, carried_out, stepped}
use Rattle.controller_laws.specs.Phases.{Busy, Early, Open, Fixed, Free}
use Rattle.controller_laws.specs.Reasons.{Mine, TooLate, OtherLabel, Shut, Clashed, Refuses, Rests}
use Rattle.controller_laws.specs.Reasons.Mine.{my_query, my_reply, my_advert, my_update, my_vote, my_setpoints}
use Rattle.controller_laws.specs.Reasons.TooLate.{stale, below, idle}
use Rattle.controller_laws.specs.Reasons.OtherLabel.{other_query, other_reply, other_vote, other_due, other_collecting_ends, other_voting_ends, other_floor}
use Rattle.controller_laws.specs.Reasons.Shut.{shut_reading, shut_query, shut_reply, shut_update, shut_vote, shut_setpoints, shut_due, shut_collecting_ends, shut_voting_ends, shut_floor}
use Rattle.controller_laws.specs.Reasons.Clashed.{by_reading, by_reply, by_update, by_digest}
use Rattle.controller_laws.specs.Reasons.Refuses.{is_unknown, is_own, is_late, is_other, is_closed, is_clash}
use Rattle.controller_laws.specs.Reasons.Rests.{known, none_held, not_below, lower, equal, none_due}
use Rattle.controller_laws.specs.Ways.{Votes, Leads, Goes}
use Rattle.controller_laws.specs.Ways.Votes.{another's, ours}
use Rattle.controller_laws.specs.Ways.Leads.{refused, unchanged, begins, adds, replies, merges, updates, adopts_idle, adopts_before, adopts_past, asks, adverts, asks_and_adverts, collected, lapses, counts, open_still, behind, lacking, issues, restarts}
use Rattle.controller_laws.specs.Ways.Goes.{out, led}
use Rattle.controller_laws.proofs.Opened.{kinds_open, phases_open}
use Rattle.controller_laws.proofs.Ways.{same_round_lem}

-- a choice whose sides are both r
by_both : {A : Type 0} (t : Bool) {r x y : A} → r ≡ x → r ≡ y → r ≡ pick t x y
unfolding pick
by_both true p q = p
by_both false p q = q

early_busy : (p : Phase) → Early p → Busy p
early_busy Idle k = k
early_busy Collecting k = tt
early_busy Pending k = tt
early_busy Voting k = absurd k

-- digests that are not the same
not_same : (d e : Digest) → (d ≡ e → ⊥) → same d e ≡ false
not_same d e n = told (same d e) refl
  where
    told : (b : Bool) → same d e ≡ b → b ≡ false
    told true t = absurd (n (same_true d e t))
    told false t = refl

-- past the sender's and the label's tests, and stopped by them; f is what is made of the plan
module _ (c : Controller) (f : Plan → Plan) {r : Plan} where
  not_ours : (j : ℕ) (p : Plan) → (j ≡ c.own → ⊥) → r ≡ f p → r ≡ f (pick (eqb j c.own) (refuse Own) p)
  unfolding pick
  not_ours j p n h = rw (ne_eqb j c.own n) h

  own_stops : (p : Plan) → r ≡ f (refuse Own) → r ≡ f (pick (eqb c.own c.own) (refuse Own) p)
  unfolding pick
  own_stops p h = rw (eq-eqb c.own c.own refl) h

  this_label : (p : Plan) → r ≡ f p → r ≡ f (pick (not (eqb c.label.0 c.label.0)) (refuse Other) p)
  unfolding pick
  this_label p h = rw (eq-eqb c.label.0 c.label.0 refl) h

  label_stops : (l : RoundLabel) (p : Plan) → (l ≡ c.label → ⊥) → r ≡ f (refuse Other) → r ≡ f (pick (not (eqb l.0 c.label.0)) (refuse Other) p)
  unfolding pick
  label_stops l p n h = rw (ne_eqb l.0 c.label.0 (λ e. n (same_round_lem l c.label e))) h

abbrev itself : Plan → Plan
itself p = p

module _ (s : Numbers) (c : Controller) (a : Message) where
  abbrev b : Brief
  b = brief_of c

  -- from another, of the current label
  heard : (j : ℕ) {r : Plan} (p : Plan) → (j ≡ c.own → ⊥) → r ≡ p → r ≡ pick (eqb j c.own) (refuse Own) (pick (not (eqb c.label.0 c.label.0)) (refuse Other) p)
  heard j p n h = not_ours c itself j _ n (this_label c itself p h)

  heard_vote : (j : ℕ) {r : Plan} (p : Plan) → (j ≡ c.own → ⊥) → r ≡ vote_plan s c p
      → r ≡ vote_plan s c (pick (eqb j c.own) (refuse Own) (pick (not (eqb c.label.0 c.label.0)) (refuse Other) p))
  heard_vote j p n h = not_ours c (vote_plan s c) j _ n (this_label c (vote_plan s c) p h)

  -- ---- M of the current label
  reading_at_lem : (here run raw : ℕ) {r : Plan} → c.state.0 < c.label.0 → r ≡ same_round b here run raw c.phase → r ≡ plan_reading b here c.label run raw
  unfolding plan_reading
  reading_at_lem here run raw k h =
      by_no _ (ap not (lt-ltb _ _ k)) (by_no _ (le-ltb c.label.0 c.label.0 (le_refl _)) (by_yes _ (eq-eqb c.label.0 c.label.0 refl) h))

  collecting_at : (run raw : ℕ) {r : Plan} → c.phase ≡ Collecting → c.state.0 < c.label.0 → r ≡ Readings.collected b (get_or c.readings run 0) run raw
      → r ≡ plan_reading b (get_or c.readings run 0) c.label run raw
  unfolding same_round
  collecting_at run raw e k h = reading_at_lem (get_or c.readings run 0) run raw k (along (same_round b (get_or c.readings run 0) run raw) e h)

  -- ---- each kind in a phase
  fixed_reading : (here run raw : ℕ) (p : Phase) → Fixed p → refuse Closed ≡ same_round b here run raw p
  unfolding same_round
  fixed_reading here run raw Idle k = absurd k
  fixed_reading here run raw Collecting k = absurd k
  fixed_reading here run raw Pending k = refl
  fixed_reading here run raw Voting k = refl

  busy_query : (mask : ℕ) {r : Plan} (p : Phase) → Busy p → r ≡ answered b mask → r ≡ in_query b mask p
  unfolding in_query
  busy_query mask Idle k h = absurd k
  busy_query mask Collecting k h = h
  busy_query mask Pending k h = h
  busy_query mask Voting k h = h

  shut_to_reply : (mask : ℕ) (t : Bool) (p : Phase) → (p ≡ Collecting → ⊥) → refuse Closed ≡ in_reply mask t p
  unfolding in_reply
  shut_to_reply mask t Idle n = refl
  shut_to_reply mask t Collecting n = absurd (n refl)
  shut_to_reply mask t Pending n = refl
  shut_to_reply mask t Voting n = refl

  fixed_update : (theirs : StateLabel) (t : Bool) (p : Phase) → Fixed p → refuse Closed ≡ in_update b theirs t p
  unfolding in_update
  fixed_update theirs t Idle k = absurd k
  fixed_update theirs t Collecting k = absurd k
  fixed_update theirs t Pending k = refl
  fixed_update theirs t Voting k = refl

  open_update : (theirs : StateLabel) (t : Bool) {r : Plan} (p : Phase) → Open p → ((q : Phase) → r ≡ adopted b theirs t q) → r ≡ in_update b theirs t p
  unfolding in_update
  open_update theirs t Idle k h = h Idle
  open_update theirs t Collecting k h = h (overtaken b theirs)
  open_update theirs t Pending k h = absurd k
  open_update theirs t Voting k h = absurd k

  shut_to_due : (p : Phase) → (p ≡ Collecting → ⊥) → refuse Closed ≡ in_due b s.group.m p
  unfolding in_due
  shut_to_due Idle n = refl
  shut_to_due Collecting n = absurd (n refl)
  shut_to_due Pending n = refl
  shut_to_due Voting n = refl

  shut_to_ends : (p : Phase) → (p ≡ Collecting → ⊥) → refuse Closed ≡ in_ends b p
  unfolding in_ends
  shut_to_ends Idle n = refl
  shut_to_ends Collecting n = absurd (n refl)
  shut_to_ends Pending n = refl
  shut_to_ends Voting n = refl

  shut_to_voting_ends : (p : Phase) → (p ≡ Voting → ⊥) → refuse Closed ≡ in_voting_ends p
  unfolding in_voting_ends
  shut_to_voting_ends Idle n = refl
  shut_to_voting_ends Collecting n = refl
  shut_to_voting_ends Pending n = refl
  shut_to_voting_ends Voting n = absurd (n refl)

  shut_to_floor : (p : Phase) → (p ≡ Pending → ⊥) → refuse Closed ≡ vote_plan s c (in_floor b p)
  unfolding in_floor judged_plan
  shut_to_floor Idle n = refl
  shut_to_floor Collecting n = refl
  shut_to_floor Pending n = absurd (n refl)
  shut_to_floor Voting n = refl

  -- ---- D
  module _ (sender : ℕ) (digest : Digest) where
    busy_vote : {r : Plan} (p : Phase) → Busy p → r ≡ vote_plan s c (in_seat sender digest c.phase (ballot_at c sender)) → r ≡ vote_plan s c (in_digest b (ballot_at c sender) sender digest p)
    unfolding in_digest
    busy_vote Idle k h = absurd k
    busy_vote Collecting k h = h
    busy_vote Pending k h = h
    busy_vote Voting k h = h

    seat_free : (phase : Phase) (x : Ballot) → Free x digest → does (Count sender digest phase) ≡ in_seat sender digest phase x
    unfolding in_seat
    seat_free phase None f = refl
    seat_free phase (Some e) f = by_yes _ (ap (λ (x : Digest). same x digest) f ∙ same_refl digest) refl

    early_stands : (p : Phase) → Early p → does (Count sender digest p) ≡ vote_plan s c (does (Count sender digest p))
    unfolding judged_plan judged_in
    early_stands Idle k = absurd k
    early_stands Collecting k = refl
    early_stands Pending k = refl
    early_stands Voting k = absurd k

    voting_judges : (p : Phase) → p ≡ Voting → judged b sender digest None (decision_with s c sender digest) ≡ vote_plan s c (does (Count sender digest p))
    unfolding judged_plan judged_in
    voting_judges p e = along (λ (x : Phase). vote_plan s c (does (Count sender digest x))) e refl

    pub free_vote : {r : Plan} → (sender ≡ c.own → ⊥) → Busy c.phase → Free (ballot_at c sender) digest → r ≡ vote_plan s c (does (Count sender digest c.phase))
        → r ≡ planned s c a (Vote sender c.label digest)
    unfolding planned plan_digest
    free_vote ne k f h = heard_vote sender _ ne (busy_vote c.phase k (h ∙ ap (vote_plan s c) (seat_free c.phase (ballot_at c sender) f)))

  -- ---- why a message is refused
  own_plan : {h : Head} → Mine c h → refuse Own ≡ planned s c a h
  unfolding kinds_open
  own_plan my_query = own_stops c itself _ refl
  own_plan my_reply = own_stops c itself _ refl
  own_plan my_advert = own_stops c itself _ refl
  own_plan my_update = own_stops c itself _ refl
  own_plan my_vote = own_stops c (vote_plan s c) _ refl
  own_plan my_setpoints = own_stops c itself _ refl

  late_plan : {label : RoundLabel} (run raw : ℕ) → TooLate c label → refuse Late ≡ plan_reading b (get_or c.readings run 0) label run raw
  unfolding plan_reading same_round
  late_plan run raw (stale l) = by_yes _ (ap not (le-ltb _ _ l)) refl
  late_plan run raw (below l) = by_both _ refl (by_yes _ (lt-ltb _ _ l) refl)
  late_plan run raw (idle e p) =
      by_both _ refl (by_both _ refl (by_yes _ (eq-eqb _ _ (ap (λ (x : RoundLabel). x.0) e)) (along (same_round b (get_or c.readings run 0) run raw) p refl)))

  other_plan : {h : Head} → OtherLabel c h → refuse Other ≡ planned s c a h
  unfolding kinds_open
  other_plan (other_query {sender} {label = l} ne n) = not_ours c itself sender _ ne (label_stops c itself l _ n refl)
  other_plan (other_reply {sender} {label = l} ne n) = not_ours c itself sender _ ne (label_stops c itself l _ n refl)
  other_plan (other_vote {sender} {label = l} ne n) = not_ours c (vote_plan s c) sender _ ne (label_stops c (vote_plan s c) l _ n refl)
  other_plan (other_due {label = l} n) = label_stops c itself l _ n refl
  other_plan (other_collecting_ends {label = l} n) = label_stops c itself l _ n refl
  other_plan (other_voting_ends {label = l} n) = label_stops c itself l _ n refl
  other_plan (other_floor {label = l} n) = label_stops c (vote_plan s c) l _ n refl

  shut_plan : {h : Head} → Shut c h → refuse Closed ≡ planned s c a h
  unfolding kinds_open in_query in_digest
  shut_plan (shut_reading {run} {raw} k f) = reading_at_lem (get_or c.readings run 0) run raw k (fixed_reading (get_or c.readings run 0) run raw c.phase f)
  shut_plan (shut_query {sender} {mask} ne e) = heard sender _ ne (along (in_query b mask) e refl)
  shut_plan (shut_reply {sender} {mask} ne n) = heard sender _ ne (shut_to_reply mask (clashing c mask a.readings) c.phase n)
  shut_plan (shut_update {sender} {theirs} ne f) = not_ours c itself sender _ ne (fixed_update theirs (same_state a.estimates c.estimates) c.phase f)
  shut_plan (shut_vote {sender} {digest} ne e) = heard_vote sender _ ne (along (λ (x : Phase). vote_plan s c (in_digest b (ballot_at c sender) sender digest x)) e refl)
  shut_plan (shut_setpoints {sender} ne) = not_ours c itself sender _ ne refl
  shut_plan (shut_due n) = this_label c itself _ (shut_to_due c.phase n)
  shut_plan (shut_collecting_ends n) = this_label c itself _ (shut_to_ends c.phase n)
  shut_plan (shut_voting_ends n) = this_label c itself _ (shut_to_voting_ends c.phase n)
  shut_plan (shut_floor n) = this_label c (vote_plan s c) _ (shut_to_floor c.phase n)

  clash_plan : {h : Head} → Clashed c a h → refuse Clash ≡ planned s c a h
  unfolding kinds_open phases_open in_seat
  clash_plan (by_reading {run} {raw} e k h n) = collecting_at run raw e k (by_yes _ h (by_no _ (ne_eqb _ _ n) refl))
  clash_plan (by_reply {sender} {mask} ne e k) = heard sender _ ne (along (in_reply mask (clashing c mask a.readings)) e (by_yes _ k refl))
  clash_plan (by_update {sender} ne o k) =
      not_ours c itself sender _ ne
      (open_update c.state (same_state a.estimates c.estimates) c.phase o
      (λ q. by_no _ (le-ltb c.state.0 c.state.0 (le_refl _)) (by_no _ (le-ltb c.state.0 c.state.0 (le_refl _)) (by_no _ k refl))))
  clash_plan (by_digest {sender} {digest} {e} ne k h n) =
      heard_vote sender _ ne
      (busy_vote sender digest c.phase k
      (along (λ (x : Ballot). vote_plan s c (in_seat sender digest c.phase x)) h (ap (vote_plan s c) (by_no {r = refuse Clash} (does (Count sender digest c.phase)) (not_same e digest n) refl))))

  refused_plan : {h : Head} {why : Refusal} → Refuses c a h why → refuse why ≡ planned s c a h
  unfolding planned
  refused_plan is_unknown = refl
  refused_plan (is_own m) = own_plan m
  refused_plan (is_late {run = run} {raw = raw} l) = late_plan run raw l
  refused_plan (is_other o) = other_plan o
  refused_plan (is_closed q) = shut_plan q
  refused_plan (is_clash k) = clash_plan k

  -- ---- why it changes nothing
  rests_plan : {h : Head} → Rests s c a h → does Keep ≡ planned s c a h
  unfolding kinds_open phases_open
  rests_plan (known {run} {raw} e k h q) = collecting_at run raw e k (by_yes _ h (by_yes _ (eq-eqb _ _ q) refl))
  rests_plan (none_held {sender} {mask} ne k q) = heard sender _ ne (busy_query mask c.phase k (by_yes _ (eq-eqb _ _ q) refl))
  rests_plan (not_below {sender} ne l) = not_ours c itself sender _ ne (by_no _ (le-ltb _ _ l) refl)
  rests_plan (lower {sender} {theirs} ne o l) =
      not_ours c itself sender _ ne
      (open_update theirs (same_state a.estimates c.estimates) c.phase o (λ q. by_no _ (le-ltb c.state.0 theirs.0 (le_of_lt l)) (by_yes _ (lt-ltb _ _ l) refl)))
  rests_plan (equal {sender} ne o t) =
      not_ours c itself sender _ ne
      (open_update c.state (same_state a.estimates c.estimates) c.phase o
      (λ q. by_no _ (le-ltb c.state.0 c.state.0 (le_refl _)) (by_both _ refl (by_yes _ t refl))))
  rests_plan (none_due e q l) = this_label c itself _ (along (in_due b s.group.m) e (by_no _ (le-ltb _ _ l) (by_yes _ (eq-eqb _ _ q) refl)))

  -- ---- a vote that is taken in while voting
  votes_plan : {h : Head} {seat : ℕ} {digest : Digest} {first : Sent} → Votes c h seat digest first → judged b seat digest first (decision_with s c seat digest) ≡ planned s c a h
  unfolding planned plan_floor in_floor judged_plan judged_in
  votes_plan (another's {sender} {digest} ne e f) = free_vote sender digest ne (rw e tt) f (voting_judges sender digest c.phase e)
  votes_plan (ours e) = this_label c (vote_plan s c) _ (along (λ (x : Phase). vote_plan s c (in_floor b x)) e refl)

  open_plan : (seat : ℕ) (digest : Digest) (first : Sent) (x : Decision) → ((chosen : Digest) → x ≡ Ok (Some chosen) → ⊥)
      → record { effect = Count seat digest Voting; first = first; second = None; verdict = Ok tt } ≡ judged b seat digest first x
  unfolding judged
  open_plan seat digest first (Err why) n = refl
  open_plan seat digest first (Ok None) n = refl
  open_plan seat digest first (Ok (Some chosen)) n = absurd (n chosen refl)

  chosen_plan_lem : {h : Head} {seat : ℕ} {digest chosen : Digest} {first : Sent} {r : Plan} → Votes c h seat digest first → decision_with s c seat digest ≡ Ok (Some chosen)
      → r ≡ chosen_plan b seat digest first chosen → r ≡ planned s c a h
  unfolding judged
  chosen_plan_lem {seat = seat} {digest = digest} {first = first} w d h = along (judged b seat digest first) d h ∙ votes_plan w

  -- ---- every way
  pub leads_planned : {h : Head} {p : Plan} → Leads s c a h p → p ≡ planned s c a h
  unfolding kinds_open phases_open plan_reading chosen_plan
  leads_planned (refused why e) = refused_plan e
  leads_planned (unchanged r) = rests_plan r
  leads_planned (begins {label} l k) =
      by_no _ (ap not (lt-ltb _ _ l)) (by_no _ (le-ltb label.0 c.label.0 (le_of_lt k)) (by_no _ (ne_eqb label.0 c.label.0 (λ e. omega arith)) refl))
  leads_planned (adds {run} {raw} e k n) = collecting_at run raw e k (by_no _ n refl)
  leads_planned (replies {sender} {mask} ne k n) = heard sender _ ne (busy_query mask c.phase k (by_no _ (ne_eqb _ _ n) refl))
  leads_planned (merges {sender} {mask} ne e n) = heard sender _ ne (along (in_reply mask (clashing c mask a.readings)) e (by_no _ n refl))
  leads_planned (updates {sender} ne l) = not_ours c itself sender _ ne (by_yes _ (lt-ltb _ _ l) refl)
  leads_planned (adopts_idle {sender} {theirs} ne e l) = not_ours c itself sender _ ne (along (in_update b theirs (same_state a.estimates c.estimates)) e (by_yes _ (lt-ltb _ _ l) refl))
  leads_planned (adopts_before {sender} {theirs} ne e l k) =
      not_ours c itself sender _ ne
      (along (in_update b theirs (same_state a.estimates c.estimates)) e (by_yes _ (lt-ltb _ _ l) (ap (λ (x : Phase). does (Adopt theirs x)) (by_yes _ (lt-ltb _ _ k) refl))))
  leads_planned (adopts_past {sender} {theirs} ne e l k) =
      not_ours c itself sender _ ne
      (along (in_update b theirs (same_state a.estimates c.estimates)) e (by_yes _ (lt-ltb _ _ l) (ap (λ (x : Phase). does (Adopt theirs x)) (by_no _ k refl))))
  leads_planned (asks e n l) = this_label c itself _ (along (in_due b s.group.m) e (by_no _ (le-ltb _ _ l) (by_no _ (ne_eqb _ _ n) refl)))
  leads_planned (adverts e n l) = this_label c itself _ (along (in_due b s.group.m) e (by_yes _ (lt-ltb _ _ l) (by_yes _ (eq-eqb _ _ n) refl)))
  leads_planned (asks_and_adverts e n l) = this_label c itself _ (along (in_due b s.group.m) e (by_yes _ (lt-ltb _ _ l) (by_no _ (ne_eqb _ _ n) refl)))
  leads_planned (collected e) = this_label c itself _ (along (in_ends b) e refl)
  leads_planned (lapses e) = this_label c itself _ (along in_voting_ends e refl)
  leads_planned (counts {sender} {digest} ne e f) = free_vote sender digest ne (early_busy c.phase e) f (early_stands sender digest c.phase e)
  leads_planned (open_still {seat = seat} {digest = digest} {first = first} w d) = open_plan seat digest first (decision_with s c seat digest) d ∙ votes_plan w
  leads_planned (behind w d k) = chosen_plan_lem w d (by_yes _ (ap not k) refl)
  leads_planned (lacking w d k n) = chosen_plan_lem w d (by_no _ (ap not k) (by_yes _ (ap not n) refl))
  leads_planned (issues w d k n) = chosen_plan_lem w d (by_no _ (ap not k) (by_no _ (ap not n) refl))
  leads_planned restarts = refl

  -- a message leads to one plan
  pub leads_one : {h : Head} {p q : Plan} → Leads s c a h p → Leads s c a h q → p ≡ q
  leads_one v w = leads_planned v ∙ sym (leads_planned w)

  -- a step goes as it is defined and no other way: verdict, next state and what is sent are fixed by settings, state and message
  pub goes_one : {r : Answer} → Goes s c a r → r ≡ stepped s c a
  unfolding stepped
  goes_one (out e) = by_no _ e refl
  goes_one (led e w) = by_yes _ e (ap (carried_out s c a) (leads_planned w))
