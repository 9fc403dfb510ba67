-- Where readings, votes and the state after a step come from, and that readings held are never altered. Assumes nothing.
use Rattle.std.specs.Prelude.{None, Some}
use Prim.Native.Nat.{ℕ, zero, suc, ◌≤◌, ◌<◌}
use native.Mathlib.Omega.{arith}
use native.Mathlib.Decide.{ℕ_discrete, dec_lt}
use mathlib.Core.Path.{◌≡◌, refl, sym, ap, subst, ◌∙◌}
use mathlib.Core.Bool.{Bool, true, false, ◌&&◌, ◌||◌, true≢false, or-false}
use mathlib.Core.List.{List}
use mathlib.Core.Logic.{◌⊎◌, inl, inr, ⊎_elim, by_cases}
use lib.Bits.{bit_and, bit_or}
use lib.Dec.{leb, ltb}
use lib.ListN.{length, get_or, set, replicate}
use lib.Seq.{get_or-set_same, get_or-set_other, set_out}
use borrow.Author.Tests.{ltb-true, eqb-true, not-false}
use Rattle.units.specs.declared.labels.RoundLabel.{RoundLabel}
use Rattle.units.specs.declared.settings.Numbers.{Numbers}
use Rattle.units.specs.Labels.{round_fits}
use Rattle.units.specs.Limits.{controllers_top, raw_top}
use Rattle.units.specs.Mask.{in_mask}
use Rattle.units.proofs.Every.{absurd_by, and_left, and_right, every_at}
use Rattle.units.proofs.Masks.{no_run, in_and, in_or}
use Rattle.vote.specs.declared.digest.Digest.{Digest}
use Rattle.vote.specs.Digest.{Ballot}
use Rattle.vote.specs.declared.votes.Seat.{Seat}
use Rattle.vote.specs.Vote.{nobody, seated}
use Rattle.message.specs.declared.head.Head.{Head}
use Rattle.message.specs.declared.head.Head.TheVariants.{Reading, Reply, Vote, Setpoints, Floor}
use Rattle.message.specs.declared.value.Message.{Message}
use Rattle.message.specs.Head.{head_fits}
use Rattle.message.proofs.Ranges.{readings_length}
use Rattle.plan.specs.declared.brief.Phase.{Phase}
use Rattle.plan.specs.declared.brief.Phase.TheVariants.{Pending}
use Rattle.plan.specs.declared.planned.Effect.{Effect}
use Rattle.plan.specs.declared.planned.Effect.TheVariants.{Issue}
use Rattle.plan.specs.declared.planned.Plan.{Plan}
use Rattle.plan.specs.Plan.{Sent, afterwards}
use Rattle.plan.specs.Votes.{own_digest}
use Rattle.controller.specs.declared.state.Controller.{Controller}
use Rattle.controller.specs.Answers.{Answer}
use Rattle.controller.specs.State.{brief_of, ballot_at, cast}
use Rattle.controller.specs.Start.{start_of}
use Rattle.controller.specs.Merge.{run_bit, agree_place, agree_at, agrees, merged_at, merged}
use Rattle.controller.specs.Effects.{applied}
use Rattle.controller.specs.Step.{clashing, carried_out, stepped}
use Rattle.controller_laws.specs.Changes.{NoStart, ReadingFrom, VoteFrom}
use Rattle.controller_laws.specs.Changes.ReadingFrom.{was_held, by_reading, by_reply}
use Rattle.controller_laws.specs.Changes.VoteFrom.{was_cast, by_digest, by_floor}
use Rattle.controller_laws.specs.Sendings.{OnSent}
use Rattle.controller_laws.specs.Phases.{Free}
use Rattle.controller_laws.specs.Ways.{Votes, Leads, Goes}
use Rattle.controller_laws.specs.Ways.Votes.{another's, ours}
use Rattle.controller_laws.specs.Ways.Leads.{refused, unchanged, begins, adds, replies, merges, updates, adopts_idle, adopts_before, adopts_past, asks, adverts, asks_and_adverts, collected, lapses, counts, open_still, behind, lacking, issues, restarts}
use Rattle.controller_laws.specs.Ways.Goes.{out, led}
use Rattle.controller_laws.proofs.Fits.{inputs}
use Rattle.controller_laws.proofs.Held.{merged_place}
use Rattle.controller_laws.proofs.Masks.{not_in_run}
use Rattle.controller_laws.proofs.Rises.{same_effect}
use Rattle.controller_laws.proofs.Valid.{sized, Own, phase_own, Valid}
use Rattle.controller_laws.proofs.Ways.{goes}

never : {A : Type 0} {b : Bool} → b ≡ true → b ≡ false → A
never p q = absurd (true≢false (sym p ∙ q))

-- ---- readings are never altered

-- where a reply does not clash, it agrees on every run that is held
agreed : (c : Controller) (mask : ℕ) (new : List ℕ) → clashing c mask new ≡ false → (i : ℕ) → i < 16 → in_mask mask i ≡ true → in_mask c.held i ≡ true → get_or new i 0 ≡ get_or c.readings i 0
unfolding agrees
agreed c mask new h i k p q =
    let t = every_at (agree_at (bit_and mask c.held) new c.readings) 16 i (not-false _ h) k in
    eqb-true _ _
    (ap (λ (b : Bool). agree_place b (get_or new i 0) (get_or c.readings i 0)) (sym (in_and mask c.held i ∙ both p q)) ∙ t)
  where
    both : in_mask mask i ≡ true → in_mask c.held i ≡ true → (in_mask mask i && in_mask c.held i) ≡ true
    both p q = rw (p, q)

-- a run that is held stays held, with what is held for it
abbrev Kept : Controller → ℕ → Controller → Type 0
Kept c i n = (in_mask n.held i ≡ true) × (get_or n.readings i 0 ≡ get_or c.readings i 0)

in_more : (held new i : ℕ) → in_mask held i ≡ true → in_mask (bit_or held new) i ≡ true
in_more held new i h = in_or held new i ∙ ap (λ (b : Bool). b || in_mask new i) h

merged_keeps : (t : Bool) (x y : ℕ) → (t ≡ true → x ≡ y) → merged_at t x y ≡ y
merged_keeps true x y f = f refl
merged_keeps false x y f = refl

module _ (s : Numbers) (c : Controller) (a : Message) (i : ℕ) (k : i < 16) (q : in_mask c.held i ≡ true) where
  keeps : {h : Head} {p : Plan} → Leads s c a h p → NoStart h → (applied s a c p.effect).label ≡ c.label → Kept c i (applied s a c p.effect)
  unfolding applied
  keeps (refused why e) n l = (q, refl)
  keeps (unchanged r) n l = (q, refl)
  keeps (begins {label} b g) n l = absurd (omega (arith, ap (λ (r : RoundLabel). r.0) l))
  keeps (adds {run} {raw} e lo g) n l =
      (in_more c.held (run_bit run) i q, get_or-set_other c.readings run i raw 0 (λ z. never q (ap (in_mask c.held) z ∙ g)))
  keeps (replies ne b g) n l = (q, refl)
  keeps (merges {mask = mask} ne e g) n l =
      (in_more c.held mask i q, merged_place mask a.readings c.readings i k ∙ merged_keeps (in_mask mask i) _ _ (λ z. agreed c mask a.readings g i k z q))
  keeps (updates ne g) n l = (q, refl)
  keeps (adopts_idle ne e g) n l = (q, refl)
  keeps (adopts_before ne e g b) n l = (q, refl)
  keeps (adopts_past ne e g b) n l = (q, refl)
  keeps (asks e g lo) n l = (q, refl)
  keeps (adverts e lo g) n l = (q, refl)
  keeps (asks_and_adverts e g b) n l = (q, refl)
  keeps (collected e) n l = (q, refl)
  keeps (lapses e) n l = (q, refl)
  keeps (counts g e f) n l = (q, refl)
  keeps (open_still w d) n l = (q, refl)
  keeps (behind w d b) n l = (q, refl)
  keeps (lacking w d b g) n l = (q, refl)
  keeps (issues w d b g) n l = subst (λ (e : Effect). Kept c i (applied s a c e)) (sym (same_effect _ _ _)) (q, refl)
  keeps (restarts {own} {floor}) n l = absurd (n own floor refl)

  -- while the label stays, every reading held is held after the step, with the same raw
  pub readings_kept : NoStart a.head → (stepped s c a).next.label ≡ c.label
      → (in_mask (stepped s c a).next.held i ≡ true) × (get_or (stepped s c a).next.readings i 0 ≡ get_or c.readings i 0)
  readings_kept n = way (goes s c a)
    where
      way : {r : Answer} → Goes s c a r → r.next.label ≡ c.label → Kept c i r.next
      way (out e) l = (q, refl)
      way (led e w) l = keeps w n l

-- ---- where a reading comes from
module _ (s : Numbers) (c : Controller) (a : Message) (i : ℕ) (k : i < 16) where
  abbrev From : Effect → Type 0
  From e = ReadingFrom c a (applied s a c e) i

  module _ (small : s.group.m ≤ 16) (size : length c.readings ≡ 16) where
    run_small : (label : RoundLabel) (run raw : ℕ) → head_fits s.group (Reading label run raw) ≡ true → run < 16
    unfolding head_fits
    run_small label run raw h = omega (arith, ltb-true run s.group.m (and_right (round_fits label) _ (and_left (round_fits label && ltb run s.group.m) (leb raw raw_top) h)))

    put : (readings : List ℕ) (run raw : ℕ) → length readings ≡ 16 → run < 16 → i ≡ run → get_or (set readings run raw) i 0 ≡ raw
    put readings run raw l r e = ap (λ (j : ℕ). get_or (set readings run raw) j 0) e ∙ get_or-set_same readings run raw 0 (omega arith)

    merges_from : (sender mask : ℕ) (n : Controller) → a.head ≡ Reply sender n.label mask → n.label ≡ c.label → in_mask n.held i ≡ true → n.held ≡ bit_or c.held mask
        → n.readings ≡ merged mask a.readings c.readings → (t : Bool) → in_mask mask i ≡ t → ReadingFrom c a n i
    merges_from sender mask n e l q held r true t =
        by_reply sender mask e t
        (ap (λ (x : List ℕ). get_or x i 0) r ∙ merged_place mask a.readings c.readings i k ∙ ap (λ (b : Bool). merged_at b (get_or a.readings i 0) (get_or c.readings i 0)) t)
    merges_from sender mask n e l q held r false t =
        was_held l
        (sym (or-false (in_mask c.held i)) ∙ ap (λ (b : Bool). in_mask c.held i || b) (sym t) ∙ sym (in_or c.held mask i) ∙ ap (λ (x : ℕ). in_mask x i) (sym held) ∙ q)
        (ap (λ (x : List ℕ). get_or x i 0) r ∙ merged_place mask a.readings c.readings i k ∙ ap (λ (b : Bool). merged_at b (get_or a.readings i 0) (get_or c.readings i 0)) t)

    came : {h : Head} {p : Plan} → Leads s c a h p → a.head ≡ h → head_fits s.group h ≡ true → in_mask (applied s a c p.effect).held i ≡ true → From p.effect
    unfolding applied start_of
    came (refused why e) u f q = was_held refl q refl
    came (unchanged r) u f q = was_held refl q refl
    came (begins {label} {run} {raw} b g) u f q =
        let r = run_small label run raw f in
        by_cases (ℕ_discrete i run) (λ e. by_reading raw (u ∙ ap (λ (j : ℕ). Reading label j raw) (sym e)) (put (replicate 16 0) run raw refl r e))
        (λ n. never q (not_in_run run i r k n))
    came (adds {run} {raw} e lo g) u f q =
        let r = run_small c.label run raw f in
        by_cases (ℕ_discrete i run) (λ z. by_reading raw (u ∙ ap (λ (j : ℕ). Reading c.label j raw) (sym z)) (put c.readings run raw size r z))
        (λ n. was_held refl
        (sym (or-false (in_mask c.held i)) ∙ ap (λ (b : Bool). in_mask c.held i || b) (sym (not_in_run run i r k n)) ∙ sym (in_or c.held (run_bit run) i) ∙ q)
        (get_or-set_other c.readings run i raw 0 n))
    came (replies ne b g) u f q = was_held refl q refl
    came (merges {sender} {mask} ne e g) u f q = merges_from sender mask _ u refl q refl refl (in_mask mask i) refl
    came (updates ne g) u f q = was_held refl q refl
    came (adopts_idle ne e g) u f q = was_held refl q refl
    came (adopts_before ne e g b) u f q = was_held refl q refl
    came (adopts_past ne e g b) u f q = was_held refl q refl
    came (asks e g lo) u f q = was_held refl q refl
    came (adverts e lo g) u f q = was_held refl q refl
    came (asks_and_adverts e g b) u f q = was_held refl q refl
    came (collected e) u f q = was_held refl q refl
    came (lapses e) u f q = was_held refl q refl
    came (counts g e b) u f q = was_held refl q refl
    came (open_still w d) u f q = was_held refl q refl
    came (behind w d b) u f q = was_held refl q refl
    came (lacking w d b g) u f q = was_held refl q refl
    came (issues w d b g) u f q = subst (λ (e : Effect). in_mask (applied s a c e).held i ≡ true → From e) (sym (same_effect _ _ _)) (λ z. was_held refl z refl) q
    came restarts u f q = never q (no_run i)

  -- "M and R readings are never altered": a reading held after a step was held for the same label, or the message said it
  pub readings_from : in_mask (stepped s c a).next.held i ≡ true → ReadingFrom c a (stepped s c a).next i
  readings_from = way (goes s c a)
    where
      way : {r : Answer} → Goes s c a r → in_mask r.next.held i ≡ true → ReadingFrom c a r.next i
      way (out e) q = was_held refl q refl
      way (led e w) q =
          let x = inputs s c a e in
          came (sized s x.numbers).m_high (readings_length c.held c.readings x.valid.readings) w refl x.message.head q

-- ---- where a vote comes from

-- among no votes there is none
none_cast : (n i : ℕ) → get_or (replicate n nobody) i nobody ≡ nobody
none_cast zero i = refl
none_cast (suc n) zero = refl
none_cast (suc n) (suc i) = none_cast n i

pub not_missing : {A : Type 0} {d : Digest} → ◌≡◌ {A = Ballot} None (Some d) → A
not_missing p = absurd_by (cc)

-- a start holds no vote
pub no_vote : {A : Type 0} (i : ℕ) {d : Digest} → (get_or (replicate controllers_top nobody) i nobody).ballot ≡ Some d → A
no_vote i h = not_missing (sym (ap (λ (x : Seat). x.ballot) (none_cast controllers_top i)) ∙ h)

pub same_digest : {d e : Digest} → ◌≡◌ {A = Ballot} (Some d) (Some e) → d ≡ e
same_digest p = cc

-- a vote among the seats after one was put in: that one, or one that was there
seated_from : (votes : List Seat) (seat : ℕ) (digest : Digest) (j : ℕ) (d : Digest) → (get_or (seated votes seat digest) j nobody).ballot ≡ Some d
    → ((j ≡ seat) × (digest ≡ d)) ⊎ ((get_or votes j nobody).ballot ≡ Some d)
seated_from votes seat digest j d h =
    by_cases (ℕ_discrete j seat)
    (λ e. by_cases (dec_lt seat (length votes))
    (λ l. inl (e, same_digest (sym (ap (λ (x : Seat). x.ballot) (ap (λ (n : ℕ). get_or (seated votes seat digest) n nobody) e ∙ get_or-set_same votes seat (record { ballot = Some digest }) nobody l)) ∙ h)))
    (λ l. inr (ap (λ (x : List Seat). (get_or x j nobody).ballot) (sym (set_out votes seat (record { ballot = Some digest }) (omega arith))) ∙ h)))
    (λ n. inr (ap (λ (x : Seat). x.ballot) (sym (get_or-set_other votes seat j (record { ballot = Some digest }) nobody n)) ∙ h))

-- what goes out with a vote is what is sent first
as_sent : (first : Sent) → OnSent (λ x. first ≡ Some x) first
as_sent None = tt
as_sent (Some head) = refl

sent_ahead : (e : Effect) (h : Head) (first : Sent) → OnSent (λ x. (afterwards e h first).first ≡ Some x) first
unfolding afterwards
sent_ahead e h None = tt
sent_ahead e h (Some head) = refl

same_vote : {i j : ℕ} {l k : RoundLabel} {d e : Digest} → i ≡ j → l ≡ k → d ≡ e → Vote i l d ≡ Vote j k e
same_vote p q r = λ t. Vote (p t) (q t) (r t)

module _ (s : Numbers) (c : Controller) (a : Message) (seat : ℕ) (d : Digest) where
  abbrev FromVote : Answer → Type 0
  FromVote r = VoteFrom c a r seat d

  -- a vote taken in while voting, in an answer that keeps the label and sends what goes out with the vote
  taken_from : {h : Head} {j : ℕ} {digest : Digest} {first : Sent} → Votes c h j digest first → a.head ≡ h → (r : Answer) → r.next.label ≡ c.label
      → r.next.votes ≡ seated c.votes j digest → OnSent (λ x. r.first ≡ Some x) first → ballot_at r.next seat ≡ Some d → FromVote r
  taken_from (another's {sender} {digest} n e f) u r l w o q =
      ⊎_elim (λ z. by_digest (u ∙ same_vote (sym z.0) (sym l) z.1)) (λ z. was_cast l z)
      (seated_from c.votes sender digest seat d (ap (λ (x : List Seat). (get_or x seat nobody).ballot) (sym w) ∙ q))
  taken_from (ours e) u r l w o q =
      ⊎_elim (λ z. by_floor (u ∙ ap Floor (sym l)) e z.0 (sym z.1) (o ∙ ap (λ (x : RoundLabel). Some (Vote c.own x (own_digest (brief_of c)))) (sym l))) (λ z. was_cast l z)
      (seated_from c.votes c.own (own_digest (brief_of c)) seat d (ap (λ (x : List Seat). (get_or x seat nobody).ballot) (sym w) ∙ q))

  vote_came : {h : Head} {p : Plan} → Leads s c a h p → a.head ≡ h → ballot_at (applied s a c p.effect) seat ≡ Some d → FromVote (carried_out s c a p)
  unfolding applied start_of
  vote_came (refused why e) u q = was_cast refl q
  vote_came (unchanged r) u q = was_cast refl q
  vote_came (begins b g) u q = no_vote seat q
  vote_came (adds e lo g) u q = was_cast refl q
  vote_came (replies ne b g) u q = was_cast refl q
  vote_came (merges ne e g) u q = was_cast refl q
  vote_came (updates ne g) u q = was_cast refl q
  vote_came (adopts_idle ne e g) u q = was_cast refl q
  vote_came (adopts_before ne e g b) u q = was_cast refl q
  vote_came (adopts_past ne e g b) u q = was_cast refl q
  vote_came (asks e g lo) u q = was_cast refl q
  vote_came (adverts e lo g) u q = was_cast refl q
  vote_came (asks_and_adverts e g b) u q = was_cast refl q
  vote_came (collected e) u q = was_cast refl q
  vote_came (lapses e) u q = was_cast refl q
  vote_came (counts {sender} {digest} n e f) u q =
      ⊎_elim (λ z. by_digest (u ∙ same_vote (sym z.0) refl z.1)) (λ z. was_cast refl z) (seated_from c.votes sender digest seat d q)
  vote_came (open_still {first = first} w z) u q = taken_from w u _ refl refl (as_sent first) q
  vote_came (behind {first = first} w z b) u q = taken_from w u _ refl refl (as_sent first) q
  vote_came (lacking {first = first} w z b g) u q = taken_from w u _ refl refl (as_sent first) q
  vote_came (issues {seat = j} {digest = digest} {first = first} {chosen = chosen} w z b g) u q =
      let h = Setpoints c.own c.label chosen in
      let e = same_effect (Issue j digest chosen) h first in
      taken_from w u (carried_out s c a (afterwards (Issue j digest chosen) h first)) (ap (λ (x : Effect). (applied s a c x).label) e) (ap (λ (x : Effect). (applied s a c x).votes) e)
      (sent_ahead (Issue j digest chosen) h first) q
  vote_came restarts u q = no_vote seat q

  -- a vote held after a step was held for the same label, or is the message's, or is our own, which this F lets out
  pub votes_from : ballot_at (stepped s c a).next seat ≡ Some d → VoteFrom c a (stepped s c a) seat d
  votes_from = way (goes s c a)
    where
      way : {r : Answer} → Goes s c a r → ballot_at r.next seat ≡ Some d → FromVote r
      way (out e) q = was_cast refl q
      way (led e w) q = vote_came w refl q

-- ---- votes are never altered

-- a vote stays when a free seat takes a digest
seated_keeps : (votes : List Seat) (j : ℕ) (digest : Digest) (seat : ℕ) (d : Digest) → (seat ≡ j → d ≡ digest) → (get_or votes seat nobody).ballot ≡ Some d
    → (get_or (seated votes j digest) seat nobody).ballot ≡ Some d
seated_keeps votes j digest seat d f h =
    by_cases (ℕ_discrete seat j)
    (λ e. by_cases (dec_lt j (length votes))
    (λ l. ap (λ (x : Seat). x.ballot) (ap (λ (n : ℕ). get_or (seated votes j digest) n nobody) e ∙ get_or-set_same votes j (record { ballot = Some digest }) nobody l) ∙ ap Some (sym (f e)))
    (λ l. ap (λ (x : List Seat). (get_or x seat nobody).ballot) (set_out votes j (record { ballot = Some digest }) (omega arith)) ∙ h))
    (λ n. ap (λ (x : Seat). x.ballot) (get_or-set_other votes j seat (record { ballot = Some digest }) nobody n) ∙ h)

free_same : (b : Ballot) (d digest : Digest) → b ≡ Some d → Free b digest → d ≡ digest
free_same None d digest h f = not_missing h
free_same (Some e) d digest h f = sym (same_digest h) ∙ f

module _ (s : Numbers) (c : Controller) (a : Message) (seat : ℕ) (d : Digest) (q : ballot_at c seat ≡ Some d) where
  -- before our vote our own seat is empty
  module _ (v : Valid s c) where
    unvoted : c.phase ≡ Pending → seat ≡ c.own → d ≡ own_digest (brief_of c)
    unvoted e z =
        let o = subst (λ (p : Phase). Own p (ballot_at c c.own)) e (phase_own (brief_of c) s.group.m (ballot_at c c.own) c.phase v.phase) in
        never (ap cast (sym (ap (ballot_at c) z) ∙ q)) o

    taken_keeps : {h : Head} {j : ℕ} {digest : Digest} {first : Sent} → Votes c h j digest first → (get_or (seated c.votes j digest) seat nobody).ballot ≡ Some d
    taken_keeps (another's {sender} {digest} n e f) = seated_keeps c.votes sender digest seat d (λ z. free_same (ballot_at c sender) d digest (ap (ballot_at c) (sym z) ∙ q) f) q
    taken_keeps (ours e) = seated_keeps c.votes c.own (own_digest (brief_of c)) seat d (unvoted e) q

    vote_keeps : {h : Head} {p : Plan} → Leads s c a h p → NoStart h → (applied s a c p.effect).label ≡ c.label → ballot_at (applied s a c p.effect) seat ≡ Some d
    unfolding applied
    vote_keeps (refused why e) n l = q
    vote_keeps (unchanged r) n l = q
    vote_keeps (begins {label} b g) n l = absurd (omega (arith, ap (λ (r : RoundLabel). r.0) l))
    vote_keeps (adds e lo g) n l = q
    vote_keeps (replies ne b g) n l = q
    vote_keeps (merges ne e g) n l = q
    vote_keeps (updates ne g) n l = q
    vote_keeps (adopts_idle ne e g) n l = q
    vote_keeps (adopts_before ne e g b) n l = q
    vote_keeps (adopts_past ne e g b) n l = q
    vote_keeps (asks e g lo) n l = q
    vote_keeps (adverts e lo g) n l = q
    vote_keeps (asks_and_adverts e g b) n l = q
    vote_keeps (collected e) n l = q
    vote_keeps (lapses e) n l = q
    vote_keeps (counts {sender} {digest} k e f) n l = seated_keeps c.votes sender digest seat d (λ z. free_same (ballot_at c sender) d digest (ap (ballot_at c) (sym z) ∙ q) f) q
    vote_keeps (open_still w z) n l = taken_keeps w
    vote_keeps (behind w z b) n l = taken_keeps w
    vote_keeps (lacking w z b g) n l = taken_keeps w
    vote_keeps (issues w z b g) n l = subst (λ (e : Effect). ballot_at (applied s a c e) seat ≡ Some d) (sym (same_effect _ _ _)) (taken_keeps w)
    vote_keeps (restarts {own} {floor}) n l = absurd (n own floor refl)

  -- while the label stays, every vote held is held after the step
  pub votes_kept : NoStart a.head → (stepped s c a).next.label ≡ c.label → ballot_at (stepped s c a).next seat ≡ Some d
  votes_kept n = way (goes s c a)
    where
      way : {r : Answer} → Goes s c a r → r.next.label ≡ c.label → ballot_at r.next seat ≡ Some d
      way (out e) l = q
      way (led e w) l = vote_keeps (inputs s c a e).valid w n l
