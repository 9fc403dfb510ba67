-- Every step goes one of the ways of specs/Ways.antt. Assumes nothing.
use Rattle.std.specs.Prelude.{Err, None, Ok, Some}
use Prim.Native.Nat.{ℕ, ◌<◌}
use mathlib.Core.Path.{◌≡◌, refl, sym, ap, subst, ◌∙◌}
use mathlib.Core.Bool.{Bool, true, false, not, true≢false}
use native.Mathlib.Omega.{arith}
use lib.Bits.{bit_and}
use lib.Dec.{eqb, ltb}
use lib.ListN.{get_or}
use borrow.Author.Tests.{ltb-true, ltb-false, eqb-true, eqb-false, eq-eqb, not-true, not-false}
use Rattle.units.specs.declared.labels.RoundLabel.{RoundLabel}
use Rattle.units.specs.declared.labels.StateLabel.{StateLabel}
use Rattle.units.specs.declared.refusal.Refusal.{Refusal}
use Rattle.units.specs.declared.refusal.Refusal.TheVariants.{Kind, Own, Late, Closed, Other, Clash}
use Rattle.units.specs.declared.settings.Numbers.{Numbers}
use Rattle.units.specs.Labels.{before, just_before}
use Rattle.units.specs.Mask.{in_mask}
use Rattle.units.specs.Pick.{pick}
use Rattle.floats.specs.Ranges.{same_state}
use Rattle.units.proofs.Every.{absurd_by}
use Rattle.vote.specs.declared.digest.Digest.{Digest}
use Rattle.vote.specs.Digest.{Decision, Ballot, same}
use Rattle.vote.proofs.Order.{same_true, same_refl}
use Rattle.message.specs.declared.head.Head.{Head}
use Rattle.message.specs.declared.head.Head.TheVariants.{Reading, Query, Reply, Advert, Update, Vote, Setpoints, Due, CollectingEnds, VotingEnds, Floor, Start, Refused}
use Rattle.message.specs.declared.value.Message.{Message}
use Rattle.plan.specs.declared.brief.Phase.{Phase}
use Rattle.plan.specs.declared.brief.Phase.TheVariants.{Idle, Collecting, Pending, Voting}
use Rattle.plan.specs.declared.planned.Effect.TheVariants.{Keep, Adopt, Count}
use Rattle.plan.specs.declared.planned.Plan.{Plan}
use Rattle.plan.specs.Plan.{Sent, refuse, does, sends}
use Rattle.plan.specs.Readings
use Rattle.plan.specs.Readings.{same_round, plan_reading, answered, in_query, in_reply}
use Rattle.plan.specs.States.{overtaken, adopted, in_update}
use Rattle.plan.specs.Timers.{missing_runs, asking, in_due, in_ends, in_voting_ends}
use Rattle.plan.specs.Votes.{in_floor, in_seat, in_digest, possessed, chosen_plan, judged}
use Rattle.controller.specs.declared.state.Controller.{Controller}
use Rattle.controller.specs.State.{brief_of, ballot_at}
use Rattle.controller.specs.Step.{decision_with, judged_in, judged_plan, vote_plan, clashing, planned, inputs_fit, stepped}
use Rattle.controller_laws.specs.Phases.{Busy, Open, Free}
use Rattle.controller_laws.specs.Reasons.{Mine, OtherLabel, Refuses}
use Rattle.controller_laws.specs.Reasons.Mine.{my_query, my_reply, my_advert, my_update, my_vote, my_setpoints}
use Rattle.controller_laws.specs.Reasons.TooLate.{stale, below, idle}
use Rattle.controller_laws.specs.Reasons.OtherLabel.{other_query, other_reply, other_vote, other_due, other_collecting_ends, other_voting_ends, other_floor}
use Rattle.controller_laws.specs.Reasons.Shut.{shut_reading, shut_query, shut_reply, shut_update, shut_vote, shut_setpoints, shut_due, shut_collecting_ends, shut_voting_ends, shut_floor}
use Rattle.controller_laws.specs.Reasons.Clashed.{by_reading, by_reply, by_update, by_digest}
use Rattle.controller_laws.specs.Reasons.Refuses.{is_unknown, is_own, is_late, is_other, is_closed, is_clash}
use Rattle.controller_laws.specs.Reasons.Rests.{known, none_held, not_below, lower, equal, none_due}
use Rattle.controller_laws.specs.Ways.{ends_round, Votes, Leads, Goes}
use Rattle.controller_laws.specs.Ways.Votes.{another's, ours}
use Rattle.controller_laws.specs.Ways.Leads.{refused, unchanged, begins, adds, replies, merges, updates, adopts_idle, adopts_before, adopts_past, asks, adverts, asks_and_adverts, collected, lapses, counts, open_still, behind, lacking, issues, restarts}
use Rattle.controller_laws.specs.Ways.Goes.{out, led}
use Rattle.controller_laws.proofs.Opened.{kinds_open}

-- a choice has what both its sides have
pub on_pick {ℓ} : {X : Type 0} (P : X → Type ℓ) (t : Bool) {a b : X} → (t ≡ true → P a) → (t ≡ false → P b) → P (pick t a b)
unfolding pick
on_pick P true f g = f refl
on_pick P false f g = g refl

pub same_round_lem : (l k : RoundLabel) → l.0 ≡ k.0 → l ≡ k
same_round_lem l k e = λ i. record { 0 = e i }

pub same_state_lem : (l k : StateLabel) → l.0 ≡ k.0 → l ≡ k
same_state_lem l k e = λ i. record { 0 = e i }

-- labels that the test tells apart
another : (l k : RoundLabel) → not (eqb l.0 k.0) ≡ true → l ≡ k → ⊥
another l k e q = eqb-false _ _ (not-true _ e) (ap (λ (x : RoundLabel). x.0) q)

-- a phase is not two at once
abbrev place : Phase → ℕ
place Idle = 0
place Collecting = 1
place Pending = 2
place Voting = 3

not_in : {x : Phase} (p q : Phase) → x ≡ p → eqb (place p) (place q) ≡ false → x ≡ q → ⊥
not_in p q e n k = true≢false (sym (eq-eqb _ _ (ap place (sym e ∙ k))) ∙ n)

-- none of these refusals ends the round
pub refuses_keeps : {c : Controller} {a : Message} {h : Head} {why : Refusal} → Refuses c a h why → ends_round why ≡ false
refuses_keeps is_unknown = refl
refuses_keeps (is_own m) = refl
refuses_keeps (is_late l) = refl
refuses_keeps (is_other o) = refl
refuses_keeps (is_closed q) = refl
refuses_keeps (is_clash k) = refl

module _ (s : Numbers) (c : Controller) (a : Message) where
  abbrev To : Head → Plan → Type 0
  To h = Leads s c a h

  -- the sender's and the label's tests
  theirs : (h : ℕ → Head) → Mine c (h c.own) → (j : ℕ) {p : Plan} → ((j ≡ c.own → ⊥) → To (h j) p) → To (h j) (pick (eqb j c.own) (refuse Own) p)
  theirs h m j f =
      on_pick (To (h j)) (eqb j c.own) (λ e. subst (λ (k : ℕ). To (h k) (refuse Own)) (sym (eqb-true _ _ e)) (refused Own (is_own m)))
      (λ e. f (eqb-false j c.own e))

  module _ (h : RoundLabel → Head) (l : RoundLabel) where
    current : ((l ≡ c.label → ⊥) → OtherLabel c (h l)) → {p : Plan} → To (h c.label) p → To (h l) (pick (not (eqb l.0 c.label.0)) (refuse Other) p)
    current o {p} f =
        on_pick (To (h l)) (not (eqb l.0 c.label.0)) (λ e. refused Other (is_other (o (another l c.label e))))
        (λ e. subst (λ (k : RoundLabel). To (h k) p) (sym (same_round_lem l c.label (eqb-true _ _ (not-false _ e)))) f)

  -- ---- M, Q, R
  collected_way : (run raw : ℕ) → c.phase ≡ Collecting → c.state.0 < c.label.0
      → To (Reading c.label run raw) (Readings.collected (brief_of c) (get_or c.readings run 0) run raw)
  unfolding Readings.collected
  collected_way run raw e b =
      on_pick (To _) (in_mask c.held run)
      (λ h. on_pick (To _) (eqb (get_or c.readings run 0) raw) (λ k. unchanged (known e b h (eqb-true _ _ k))) (λ k. refused Clash (is_clash (by_reading e b h (eqb-false _ _ k)))))
      (λ n. adds e b n)

  same_way : (run raw : ℕ) (phase : Phase) → c.phase ≡ phase → c.state.0 < c.label.0
      → To (Reading c.label run raw) (same_round (brief_of c) (get_or c.readings run 0) run raw phase)
  unfolding same_round
  same_way run raw Idle e b = refused Late (is_late (idle refl e))
  same_way run raw Collecting e b = collected_way run raw e b
  same_way run raw Pending e b = refused Closed (is_closed (shut_reading b (rw e tt)))
  same_way run raw Voting e b = refused Closed (is_closed (shut_reading b (rw e tt)))

  reading_way : (label : RoundLabel) (run raw : ℕ) → To (Reading label run raw) (plan_reading (brief_of c) (get_or c.readings run 0) label run raw)
  unfolding plan_reading
  reading_way label run raw =
      on_pick (To _) (not (before c.state label)) (λ n. refused Late (is_late (stale (ltb-false _ _ (not-true _ n)))))
      (λ above. on_pick (To _) (ltb label.0 c.label.0) (λ l. refused Late (is_late (below (ltb-true _ _ l))))
      (λ ge. on_pick (To _) (eqb label.0 c.label.0)
      (λ e. let k = same_round_lem label c.label (eqb-true _ _ e) in
      subst (λ (x : RoundLabel). To (Reading x run raw) (same_round (brief_of c) (get_or c.readings run 0) run raw c.phase)) (sym k)
      (same_way run raw c.phase refl (subst (λ (x : RoundLabel). c.state.0 < x.0) k (ltb-true _ _ (not-false _ above)))))
      (λ ne. begins (ltb-true _ _ (not-false _ above)) (let n = eqb-false label.0 c.label.0 ne in omega (arith, ltb-false label.0 c.label.0 ge)))))

  module _ (sender mask : ℕ) (ne : sender ≡ c.own → ⊥) where
    answered_way : Busy c.phase → To (Query sender c.label mask) (answered (brief_of c) mask)
    unfolding answered
    answered_way b = on_pick (To _) (eqb (bit_and mask c.held) 0) (λ k. unchanged (none_held ne b (eqb-true _ _ k))) (λ n. replies ne b (eqb-false _ _ n))

    query_way : (phase : Phase) → c.phase ≡ phase → To (Query sender c.label mask) (in_query (brief_of c) mask phase)
    unfolding in_query
    query_way Idle e = refused Closed (is_closed (shut_query ne e))
    query_way Collecting e = answered_way (rw e tt)
    query_way Pending e = answered_way (rw e tt)
    query_way Voting e = answered_way (rw e tt)

    reply_way : (phase : Phase) → c.phase ≡ phase → To (Reply sender c.label mask) (in_reply mask (clashing c mask a.readings) phase)
    unfolding in_reply
    reply_way Idle e = refused Closed (is_closed (shut_reply ne (not_in Idle Collecting e refl)))
    reply_way Collecting e = on_pick (To _) (clashing c mask a.readings) (λ k. refused Clash (is_clash (by_reply ne e k))) (λ n. merges ne e n)
    reply_way Pending e = refused Closed (is_closed (shut_reply ne (not_in Pending Collecting e refl)))
    reply_way Voting e = refused Closed (is_closed (shut_reply ne (not_in Voting Collecting e refl)))

  -- ---- A, U
  module _ (sender : ℕ) (other : StateLabel) (ne : sender ≡ c.own → ⊥) where
    advert_way : To (Advert sender other) (pick (ltb other.0 c.state.0) (sends Keep (Update c.own c.state)) (does Keep))
    advert_way = on_pick (To _) (ltb other.0 c.state.0) (λ e. updates ne (ltb-true _ _ e)) (λ e. unchanged (not_below ne (ltb-false _ _ e)))

    -- where the state is not replaced
    older : Open c.phase → ltb c.state.0 other.0 ≡ false
        → To (Update sender other) (pick (ltb other.0 c.state.0) (does Keep) (pick (same_state a.estimates c.estimates) (does Keep) (refuse Clash)))
    older o n =
        on_pick (To _) (ltb other.0 c.state.0) (λ l. unchanged (lower ne o (ltb-true _ _ l)))
        (λ l. let k = same_state_lem c.state other (omega (arith, ltb-false c.state.0 other.0 n, ltb-false other.0 c.state.0 l)) in
        subst (λ (x : StateLabel). To (Update sender x) (pick (same_state a.estimates c.estimates) (does Keep) (refuse Clash))) k
        (on_pick (To _) (same_state a.estimates c.estimates) (λ t. unchanged (equal ne o t)) (λ t. refused Clash (is_clash (by_update ne o t)))))

    overtaken_way : c.phase ≡ Collecting → c.state.0 < other.0 → To (Update sender other) (does (Adopt other (overtaken (brief_of c) other)))
    unfolding overtaken
    overtaken_way e l =
        on_pick (λ (phase : Phase). To (Update sender other) (does (Adopt other phase))) (before other c.label) (λ b. adopts_before ne e l (ltb-true _ _ b)) (λ b. adopts_past ne e l b)

    update_way : (phase : Phase) → c.phase ≡ phase → To (Update sender other) (in_update (brief_of c) other (same_state a.estimates c.estimates) phase)
    unfolding in_update adopted
    update_way Idle e = on_pick (To _) (ltb c.state.0 other.0) (λ l. adopts_idle ne e (ltb-true _ _ l)) (λ n. older (rw e tt) n)
    update_way Collecting e = on_pick (To _) (ltb c.state.0 other.0) (λ l. overtaken_way e (ltb-true _ _ l)) (λ n. older (rw e tt) n)
    update_way Pending e = refused Closed (is_closed (shut_update ne (rw e tt)))
    update_way Voting e = refused Closed (is_closed (shut_update ne (rw e tt)))

  -- ---- C, E, V
  asking_way : c.phase ≡ Collecting → To (Due c.label) (asking (brief_of c) s.group.m)
  unfolding asking
  asking_way e =
      on_pick (To _) (ltb c.state.0 (just_before c.label).0)
      (λ l. on_pick (To _) (eqb (missing_runs (brief_of c) s.group.m) 0) (λ k. adverts e (eqb-true _ _ k) (ltb-true _ _ l)) (λ n. asks_and_adverts e (eqb-false _ _ n) (ltb-true _ _ l)))
      (λ l. on_pick (To _) (eqb (missing_runs (brief_of c) s.group.m) 0) (λ k. unchanged (none_due e (eqb-true _ _ k) (ltb-false _ _ l))) (λ n. asks e (eqb-false _ _ n) (ltb-false _ _ l)))

  due_way : (phase : Phase) → c.phase ≡ phase → To (Due c.label) (in_due (brief_of c) s.group.m phase)
  unfolding in_due
  due_way Idle e = refused Closed (is_closed (shut_due (not_in Idle Collecting e refl)))
  due_way Collecting e = asking_way e
  due_way Pending e = refused Closed (is_closed (shut_due (not_in Pending Collecting e refl)))
  due_way Voting e = refused Closed (is_closed (shut_due (not_in Voting Collecting e refl)))

  ends_way : (phase : Phase) → c.phase ≡ phase → To (CollectingEnds c.label) (in_ends (brief_of c) phase)
  unfolding in_ends
  ends_way Idle e = refused Closed (is_closed (shut_collecting_ends (not_in Idle Collecting e refl)))
  ends_way Collecting e = collected e
  ends_way Pending e = refused Closed (is_closed (shut_collecting_ends (not_in Pending Collecting e refl)))
  ends_way Voting e = refused Closed (is_closed (shut_collecting_ends (not_in Voting Collecting e refl)))

  voting_ends_way : (phase : Phase) → c.phase ≡ phase → To (VotingEnds c.label) (in_voting_ends phase)
  unfolding in_voting_ends
  voting_ends_way Idle e = refused Closed (is_closed (shut_voting_ends (not_in Idle Voting e refl)))
  voting_ends_way Collecting e = refused Closed (is_closed (shut_voting_ends (not_in Collecting Voting e refl)))
  voting_ends_way Pending e = refused Closed (is_closed (shut_voting_ends (not_in Pending Voting e refl)))
  voting_ends_way Voting e = lapses e

  -- ---- D, F
  module _ {h : Head} {seat : ℕ} {digest : Digest} {first : Sent} (v : Votes c h seat digest first) where
    chosen_way : (chosen : Digest) → decision_with s c seat digest ≡ Ok (Some chosen) → To h (chosen_plan (brief_of c) seat digest first chosen)
    unfolding chosen_plan
    chosen_way chosen e =
        on_pick (To h) (not (before chosen.state c.label)) (λ b. behind v e (not-true _ b))
        (λ b. on_pick (To h) (not (possessed (brief_of c) chosen)) (λ n. lacking v e (not-false _ b) (not-true _ n)) (λ n. issues v e (not-false _ b) (not-false _ n)))

    judged_way : (d : Decision) → decision_with s c seat digest ≡ d → To h (judged (brief_of c) seat digest first d)
    unfolding judged
    judged_way (Err why) e = open_still v (λ chosen q. absurd_by (cc))
    judged_way (Ok None) e = open_still v (λ chosen q. absurd_by (cc))
    judged_way (Ok (Some chosen)) e = chosen_way chosen e

  floor_way : (phase : Phase) → c.phase ≡ phase → To (Floor c.label) (vote_plan s c (in_floor (brief_of c) phase))
  unfolding in_floor judged_plan judged_in
  floor_way Idle e = refused Closed (is_closed (shut_floor (not_in Idle Pending e refl)))
  floor_way Collecting e = refused Closed (is_closed (shut_floor (not_in Collecting Pending e refl)))
  floor_way Pending e = judged_way (ours e) _ refl
  floor_way Voting e = refused Closed (is_closed (shut_floor (not_in Voting Pending e refl)))

  module _ (sender : ℕ) (digest : Digest) (other : sender ≡ c.own → ⊥) (free : Free (ballot_at c sender) digest) where
    taken_way : (phase : Phase) → c.phase ≡ phase → Busy phase → To (Vote sender c.label digest) (vote_plan s c (does (Count sender digest phase)))
    unfolding judged_plan judged_in
    taken_way Idle e b = absurd b
    taken_way Collecting e b = subst (λ (p : Phase). To (Vote sender c.label digest) (does (Count sender digest p))) e (counts other (rw e tt) free)
    taken_way Pending e b = subst (λ (p : Phase). To (Vote sender c.label digest) (does (Count sender digest p))) e (counts other (rw e tt) free)
    taken_way Voting e b = judged_way (another's other e free) _ refl

  module _ (sender : ℕ) (digest : Digest) (ne : sender ≡ c.own → ⊥) where
    seat_way : (phase : Phase) → c.phase ≡ phase → Busy phase → (b : Ballot) → ballot_at c sender ≡ b → To (Vote sender c.label digest) (vote_plan s c (in_seat sender digest phase b))
    unfolding in_seat judged_plan
    seat_way phase e q None k = taken_way sender digest ne (rw k tt) phase e q
    seat_way phase e q (Some d) k =
        on_pick (λ (p : Plan). To (Vote sender c.label digest) (vote_plan s c p)) (same d digest) (λ t. taken_way sender digest ne (rw k (same_true d digest t)) phase e q)
        (λ n. refused Clash (is_clash (by_digest ne (subst Busy (sym e) q) k (λ z. true≢false (sym (ap (λ (x : Digest). same x digest) z ∙ same_refl digest) ∙ n)))))

    digest_way : (phase : Phase) → c.phase ≡ phase → To (Vote sender c.label digest) (vote_plan s c (in_digest (brief_of c) (ballot_at c sender) sender digest phase))
    unfolding in_digest judged_plan
    digest_way Idle e = refused Closed (is_closed (shut_vote ne e))
    digest_way Collecting e = seat_way c.phase refl (rw e tt) _ refl
    digest_way Pending e = seat_way c.phase refl (rw e tt) _ refl
    digest_way Voting e = seat_way c.phase refl (rw e tt) _ refl

  -- what a choice between plans leads to, once judged
  judged_pick : (h : Head) (t : Bool) (p q : Plan) → (t ≡ true → To h (vote_plan s c p)) → (t ≡ false → To h (vote_plan s c q)) → To h (vote_plan s c (pick t p q))
  judged_pick h t p q f g = on_pick (λ (r : Plan). To h (vote_plan s c r)) t f g

  -- ---- every message
  leads : (h : Head) → To h (planned s c a h)
  unfolding kinds_open
  leads (Reading label run raw) = reading_way label run raw
  leads (Query sender label mask) =
      theirs (λ j. Query j label mask) my_query sender (λ ne. current (λ k. Query sender k mask) label (other_query ne) (query_way sender mask ne c.phase refl))
  leads (Reply sender label mask) =
      theirs (λ j. Reply j label mask) my_reply sender (λ ne. current (λ k. Reply sender k mask) label (other_reply ne) (reply_way sender mask ne c.phase refl))
  leads (Advert sender state) = theirs (λ j. Advert j state) my_advert sender (λ ne. advert_way sender state ne)
  leads (Update sender state) = theirs (λ j. Update j state) my_update sender (λ ne. update_way sender state ne c.phase refl)
  leads (Vote sender label digest) =
      judged_pick _ (eqb sender c.own) _ _ (λ e. subst (λ (j : ℕ). To (Vote j label digest) (refuse Own)) (sym (eqb-true _ _ e)) (refused Own (is_own my_vote)))
      (λ o. let ne = eqb-false sender c.own o in
      judged_pick _ (not (eqb label.0 c.label.0)) _ _ (λ e. refused Other (is_other (other_vote ne (another label c.label e))))
      (λ e. subst (λ (k : RoundLabel). To (Vote sender k digest) (vote_plan s c (in_digest (brief_of c) (ballot_at c sender) sender digest c.phase)))
      (sym (same_round_lem label c.label (eqb-true _ _ (not-false _ e)))) (digest_way sender digest ne c.phase refl)))
  leads (Setpoints sender label digest) = theirs (λ j. Setpoints j label digest) my_setpoints sender (λ ne. refused Closed (is_closed (shut_setpoints ne)))
  leads (Due label) = current Due label other_due (due_way c.phase refl)
  leads (CollectingEnds label) = current CollectingEnds label other_collecting_ends (ends_way c.phase refl)
  leads (VotingEnds label) = current VotingEnds label other_voting_ends (voting_ends_way c.phase refl)
  leads (Floor label) =
      judged_pick _ (not (eqb label.0 c.label.0)) _ _ (λ e. refused Other (is_other (other_floor (another label c.label e))))
      (λ e. subst (λ (k : RoundLabel). To (Floor k) (vote_plan s c (in_floor (brief_of c) c.phase)))
      (sym (same_round_lem label c.label (eqb-true _ _ (not-false _ e)))) (floor_way c.phase refl))
  leads (Start own floor) = restarts
  leads (Refused number) = refused Kind is_unknown

  pub goes : Goes s c a (stepped s c a)
  unfolding stepped
  goes = on_pick (Goes s c a) (inputs_fit s c a) (λ e. led e (leads a.head)) (λ e. out e)
