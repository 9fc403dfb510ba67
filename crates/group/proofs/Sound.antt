-- WHAT EVERY CONTROLLER HOLDS AND EVERY MESSAGE SAYS IS TRUE OF THE WHOLE RUN: the one reading, the released votes, the one state of a label. Assumes nothing beyond the premises.
use Rattle.std.specs.Prelude.{Some}
use Prim.Native.Nat.{ℕ, ◌≤◌, ◌<◌}
use mathlib.Core.Path.{◌≡◌, refl, sym, ap, subst, ◌∙◌}
use mathlib.Core.Bool.{Bool, true, true≢false}
use mathlib.Core.List.Memᴰ
use mathlib.Core.List.{List, Memᴰ}
use mathlib.Core.Logic.{inl, inr, ⊎_elim}
use mathlib.Core.Option.{Option, none, some}
use lib.Bits.{bit_and}
use lib.ListN.{get_or, replicate}
use Rattle.units.specs.declared.estimate.Estimate.{Estimate}
use Rattle.units.specs.declared.labels.RoundLabel.{RoundLabel}
use Rattle.units.specs.declared.labels.StateLabel.{StateLabel}
use Rattle.units.specs.declared.settings.Numbers.{Numbers}
use Rattle.units.specs.Mask.{in_mask}
use Rattle.units.proofs.Every.{and_right, absurd_by}
use Rattle.units.proofs.Masks.{no_run, in_and}
use Rattle.vote.specs.declared.digest.Digest.{Digest}
use Rattle.vote.specs.Vote.{seated}
use Rattle.vote.proofs.Decided.{decided_small}
use Rattle.filter.specs.Compute.{set_points}
use Rattle.message.specs.declared.head.Head.{Head}
use Rattle.message.specs.declared.head.Head.TheVariants.{Reading, Reply, Update, Vote, Setpoints}
use Rattle.message.specs.declared.value.Message.{Message}
use Rattle.message.specs.Message.{message_fits}
use Rattle.message.specs.View.{is_telling}
use Rattle.plan.specs.Votes.{own_digest}
use Rattle.controller.specs.declared.state.Controller.{Controller}
use Rattle.controller.specs.Answers.{Answer}
use Rattle.controller.specs.State.{brief_of, ballot_at}
use Rattle.controller.specs.Start.{start_of}
use Rattle.controller.specs.Merge.{merged_at}
use Rattle.controller.specs.Sent.{sent_message}
use Rattle.controller.specs.Step.{votes_with, stepped}
use Rattle.controller_laws.specs.Changes.{ReadingFrom, VoteFrom}
use Rattle.controller_laws.specs.Changes.ReadingFrom.{was_held, by_reading, by_reply}
use Rattle.controller_laws.specs.Changes.VoteFrom.{was_cast, by_digest, by_floor}
use Rattle.controller_laws.specs.Outcomes.{RoundIssued, SentBy, StateBy}
use Rattle.controller_laws.specs.Outcomes.SentBy.{query, reply, advert, update, floor, vote, setpoints}
use Rattle.controller_laws.specs.Outcomes.StateBy.{kept, adopted, by_issue, by_start}
use Rattle.controller_laws.specs.Sendings.{IsSent}
use Rattle.controller_laws.proofs.Changes.{readings_from, votes_from, no_vote}
use Rattle.controller_laws.proofs.Held.{merged_place}
use Rattle.controller_laws.proofs.Outcomes.{sent_by_lem, sent_head, state_by}
use Rattle.group.specs.World.{here, next, World, hand, store, crash, with_up, rising, after_answer, handed}
use Rattle.group.specs.Premises.{Meters, Released, Enough, Run}
use Rattle.group.specs.Demand.{Issued, Canon, at_start, of_issued, Right, WonBy}
use Rattle.group.proofs.Computing.{chosen_state, issued_state_lem, issued_targets}
use Rattle.group.proofs.Later.{after_keeps}
use Rattle.group.proofs.Sent.{no_one, same_one, put_cases, risen_by, Fresh, new_or_old, still_sent, now_sent}
use Rattle.group.proofs.Votes.{decided_wins}

module _ (s : Numbers) (meters : Meters) (sent : List Message) (lines : (x : Message) → Memᴰ x sent → message_fits s.group x ≡ true)
    (unique : (i : ℕ) (label : RoundLabel) (d e : Digest) → Released sent i label d → Released sent i label e → d ≡ e) where
  abbrev Can : StateLabel → List Estimate → Type 0
  Can = Canon s meters sent

  -- what a controller holds: the one reading of each run held, votes that were released, the state of its state label
  pub record Fine (c : Controller) : Type 0 where
    pub reads : (i : ℕ) → i < 16 → in_mask c.held i ≡ true → get_or c.readings i 0 ≡ meters c.label i
    pub votes : (j : ℕ) (d : Digest) → ballot_at c j ≡ Some d → Released sent j c.label d
    pub state : Can c.state c.estimates

  -- what a message says: R the readings of its label, U the state of its state label, S what it must be
  pub record Says (x : Message) : Type 0 where
    pub readings : (j : ℕ) (label : RoundLabel) (mask : ℕ) → x.head ≡ Reply j label mask → (i : ℕ) → i < 16 → in_mask mask i ≡ true → get_or x.readings i 0 ≡ meters label i
    pub state : (j : ℕ) (label : StateLabel) → x.head ≡ Update j label → Can label x.estimates
    pub issue : (j : ℕ) (label : RoundLabel) (d : Digest) → x.head ≡ Setpoints j label d → Right s meters sent label d x.targets

  -- what is known of a message that is handed to a controller
  pub record Heard (a : Message) : Type 0 where
    pub reading : (label : RoundLabel) (run raw : ℕ) → a.head ≡ Reading label run raw → raw ≡ meters label run
    pub readings : (j : ℕ) (label : RoundLabel) (mask : ℕ) → a.head ≡ Reply j label mask → (i : ℕ) → i < 16 → in_mask mask i ≡ true → get_or a.readings i 0 ≡ meters label i
    pub state : (j : ℕ) (label : StateLabel) → a.head ≡ Update j label → Can label a.estimates
    pub vote : (j : ℕ) (label : RoundLabel) (d : Digest) → a.head ≡ Vote j label d → Released sent j label d

  canon_as : {l k : StateLabel} {es fs : List Estimate} → l ≡ k → es ≡ fs → Can l es → Can k fs
  canon_as {l} {k} {es} {fs} p q c = subst (λ (x : StateLabel). Can x fs) p (subst (Can l) q c)

  -- a start
  fine_start : (own : ℕ) (low : RoundLabel) → Fine (start_of s own low)
  unfolding start_of
  fine_start own low = record { reads = λ i k e. absurd (true≢false (sym e ∙ no_run i)); votes = λ j d e. no_vote j e; state = at_start }

  -- ---- one step
  module _ (c : Controller) (f : Fine c) (a : Message) (h : Heard a) (ours : (j : ℕ) (label : RoundLabel) (d : Digest) → IsSent (stepped s c a) (Vote j label d) → Released sent j label d)
      (issues : (j : ℕ) (label : RoundLabel) (d : Digest) → IsSent (stepped s c a) (Setpoints j label d) → Issued s meters sent label d) where
    abbrev n : Controller
    n = (stepped s c a).next

    reads_on : (i : ℕ) → i < 16 → in_mask n.held i ≡ true → get_or n.readings i 0 ≡ meters n.label i
    reads_on i k e = from (readings_from s c a i k e)
      where
        from : ReadingFrom c a n i → get_or n.readings i 0 ≡ meters n.label i
        from (was_held l q g) = g ∙ f.reads i k q ∙ ap (λ (x : RoundLabel). meters x i) (sym l)
        from (by_reading raw q g) = g ∙ h.reading n.label i raw q
        from (by_reply sender mask q m g) = g ∙ h.readings sender n.label mask q i k m

    votes_on : (j : ℕ) (d : Digest) → ballot_at n j ≡ Some d → Released sent j n.label d
    votes_on j d e = from (votes_from s c a j d e)
      where
        from : VoteFrom c a (stepped s c a) j d → Released sent j n.label d
        from (was_cast l q) = subst (λ (x : RoundLabel). Released sent j x d) (sym l) (f.votes j d q)
        from (by_digest q) = h.vote j n.label d q
        from (by_floor q p z g o) =
            subst (λ (x : Digest). Released sent j n.label x) (sym g)
            (subst (λ (k : ℕ). Released sent k n.label (own_digest (brief_of c))) (sym z) (ours c.own n.label (own_digest (brief_of c)) (inl o)))

    module _ (d : Digest) (t : RoundIssued s c a.head d n) where
      small : s.group.m ≤ 16
      small = decided_small (votes_with s c t.seat t.digest) d t.chose

      -- the chosen digest is the winner
      settled_wins : WonBy s sent c.label d
      settled_wins =
          decided_wins s sent lines unique c.label (seated c.votes t.seat t.digest) d
          (λ j e q. subst (λ (k : Controller). ballot_at k j ≡ Some e → Released sent j k.label e) t.next (votes_on j e) q) t.chose

      settled_base : Can d.state c.estimates
      settled_base = canon_as (sym (chosen_state c d t.here)) refl f.state

      settled_state : Issued s meters sent c.label d → Can n.state n.estimates
      settled_state q =
          canon_as (ap (λ (k : Controller). k.state) (sym t.next))
          (sym (ap (λ (k : Controller). k.estimates) t.next ∙ issued_state_lem c d t.here s meters small f.reads))
          (of_issued c.label d c.estimates q settled_wins settled_base)

      settled_right : Right s meters sent c.label d (set_points s n.estimates)
      settled_right =
          record {
            wins = settled_wins;
            base = c.estimates;
            named = settled_base;
            given = ap (λ (k : Controller). set_points s k.estimates) t.next ∙ issued_targets c d t.here s meters small f.reads;
          }

    state_on : Can n.state n.estimates
    state_on = from (state_by s c a)
      where
        from : StateBy s c a (stepped s c a) → Can n.state n.estimates
        from (kept p q) = canon_as (sym p) (sym q) f.state
        from (adopted sender p q) = canon_as refl (sym q) (h.state sender n.state p)
        from (by_issue d t o) = settled_state d t (issues c.own c.label d o)
        from (by_start p q) = canon_as (sym p) (sym q) at_start

    fine_on : Fine n
    fine_on = record { reads = reads_on; votes = votes_on; state = state_on }

    -- R that goes out has the meters' readings
    said_readings : {head : Head} → SentBy s c a.head n head → (j : ℕ) (l : RoundLabel) (mask : ℕ) → head ≡ Reply j l mask
        → (i : ℕ) → i < 16 → in_mask mask i ≡ true → get_or (sent_message s n head).readings i 0 ≡ meters l i
    unfolding sent_message
    said_readings (reply asked e) j l mask q i k p =
        let m : mask ≡ bit_and asked c.held = cc in
        let o : in_mask (bit_and asked c.held) i ≡ true = ap (λ (x : ℕ). in_mask x i) (sym m) ∙ p in
        merged_place (bit_and asked c.held) n.readings (replicate 16 0) i k
        ∙ ap (λ (t : Bool). merged_at t (get_or n.readings i 0) (get_or (replicate 16 0) i 0)) o
        ∙ ap (λ (x : Controller). get_or x.readings i 0) e ∙ f.reads i k (and_right (in_mask asked i) _ (sym (in_and asked c.held i) ∙ o))
        ∙ ap (λ (x : RoundLabel). meters x i) cc
    said_readings (query e) j l mask q i k p = absurd_by (cc)
    said_readings (advert e) j l mask q i k p = absurd_by (cc)
    said_readings (update e) j l mask q i k p = absurd_by (cc)
    said_readings (floor e) j l mask q i k p = absurd_by (cc)
    said_readings (vote e z) j l mask q i k p = absurd_by (cc)
    said_readings (setpoints t) j l mask q i k p = absurd_by (cc)

    -- U that goes out has the state of its state label
    said_state : {head : Head} → SentBy s c a.head n head → (j : ℕ) (l : StateLabel) → head ≡ Update j l → Can l (sent_message s n head).estimates
    unfolding sent_message
    said_state (update e) j l q = canon_as (let z : c.state ≡ l = cc in z) (ap (λ (x : Controller). x.estimates) (sym e)) f.state
    said_state (query e) j l q = absurd_by (cc)
    said_state (reply asked e) j l q = absurd_by (cc)
    said_state (advert e) j l q = absurd_by (cc)
    said_state (floor e) j l q = absurd_by (cc)
    said_state (vote e z) j l q = absurd_by (cc)
    said_state (setpoints t) j l q = absurd_by (cc)

    -- S that goes out is what it must be
    said_issue : {head : Head} → SentBy s c a.head n head → (j : ℕ) (l : RoundLabel) (d : Digest) → head ≡ Setpoints j l d → Right s meters sent l d (sent_message s n head).targets
    unfolding sent_message
    said_issue (setpoints {chosen} t) j l d q =
        let x : c.label ≡ l = cc in
        let y : chosen ≡ d = cc in
        subst (λ (k : RoundLabel). Right s meters sent k d (set_points s n.estimates)) x (subst (λ (k : Digest). Right s meters sent c.label k (set_points s n.estimates)) y (settled_right chosen t))
    said_issue (query e) j l d q = absurd_by (cc)
    said_issue (reply asked e) j l d q = absurd_by (cc)
    said_issue (advert e) j l d q = absurd_by (cc)
    said_issue (update e) j l d q = absurd_by (cc)
    said_issue (floor e) j l d q = absurd_by (cc)
    said_issue (vote e z) j l d q = absurd_by (cc)

    -- what goes out is true
    says_on : (x : Message) → Fresh s (stepped s c a) x → Says x
    says_on x g =
        let w = sent_by_lem s c a g.head g.out in
        subst Says (sym g.whole)
        (record {
          readings = λ j l mask q. said_readings w j l mask (sym (sent_head s n g.head) ∙ q);
          state = λ j l q. said_state w j l (sym (sent_head s n g.head) ∙ q);
          issue = λ j l d q. said_issue w j l d (sym (sent_head s n g.head) ∙ q);
        })

  -- ---- the world
  pub record Sound (w : World) : Type 0 where
    pub each : (i : ℕ) (c : Controller) → w.up i ≡ some c → Fine c
    pub said : (x : Message) → Memᴰ x w.sent → Says x

  abbrev Within : World → Type 0
  Within w = (x : Message) → Memᴰ x w.sent → Memᴰ x sent

  -- what may be handed says what is true
  heard : (w : World) → Sound w → Within w → (i : ℕ) (a : Message) → Enough meters w i a → Heard a
  heard w o sub i a p =
      record {
        reading = p.one_reading;
        readings = λ j label mask e. (o.said a (p.not_made_up (ap is_telling e))).readings j label mask e;
        state = λ j label e. (o.said a (p.not_made_up (ap is_telling e))).state j label e;
        vote = λ j label d e. record { line = a; among = sub a (p.not_made_up (ap is_telling e)); said = e };
      }

  sound_put : (w : World) → Sound w → (i : ℕ) (u : Option Controller) → ((n : Controller) → u ≡ some n → Fine n) → Sound (with_up w i u)
  sound_put w o i u f = record { each = λ j c e. elim (put_cases w.up i u j c e) [ inl p ↦ f c p.1 | inr p ↦ o.each j c p.1 ]; said = o.said }

  module _ (w : World) (o : Sound w) (i : ℕ) (c : Controller) (at : w.up i ≡ some c) (a : Message) (p : Enough meters w i a) (sub : Within (after_answer s w i a.head (stepped s c a))) where
    abbrev r : Answer
    r = stepped s c a

    known : Heard a
    known = heard w o (λ x m. sub x (still_sent s r w.sent x m)) i a p

    -- what goes out is among the messages of the whole run
    out_there : (head : Head) → IsSent r head → Memᴰ (sent_message s r.next head) sent
    out_there head e = sub _ (now_sent s r w.sent head e)

    votes_out : (j : ℕ) (label : RoundLabel) (d : Digest) → IsSent r (Vote j label d) → Released sent j label d
    votes_out j label d e = record { line = sent_message s r.next (Vote j label d); among = out_there (Vote j label d) e; said = sent_head s r.next (Vote j label d) }

    issues_out : (j : ℕ) (label : RoundLabel) (d : Digest) → IsSent r (Setpoints j label d) → Issued s meters sent label d
    issues_out j label d e =
        record { line = sent_message s r.next (Setpoints j label d); among = out_there (Setpoints j label d) e; by = j; said = sent_head s r.next (Setpoints j label d) }

    sound_answered : Sound (after_answer s w i a.head r)
    sound_answered =
        record {
          each = λ j n e. elim (put_cases w.up i (some r.next) j n e) [
            | inl q ↦ subst Fine (same_one q.1) (fine_on c (o.each i c at) a known votes_out issues_out)
            | inr q ↦ o.each j n q.1
          ];
          said = λ x m. ⊎_elim (λ f. says_on c (o.each i c at) a known votes_out issues_out x f) (λ q. o.said x q) (new_or_old s r w.sent x m);
        }

  -- a start
  fine_risen : (h : Head) (n : Controller) → rising s h ≡ some n → Fine n
  fine_risen h n e = let z = risen_by s h n e in subst Fine (sym z.is) (fine_start z.own z.low)

  sound_handed : (w : World) → Sound w → (i : ℕ) (a : Message) → Enough meters w i a → (u : Option Controller) → w.up i ≡ u → Within (handed s w i a u) → Sound (handed s w i a u)
  sound_handed w o i a p none e sub = sound_put w o i (rising s a.head) (fine_risen a.head)
  sound_handed w o i a p (some c) e sub = sound_answered w o i c e a p sub

  -- every run all of whose messages are among `sent`
  pub sound : {w : World} → Run s (Enough meters) w → Within w → Sound w
  sound here sub = record { each = λ i c e. no_one e; said = λ x m. absurd (Memᴰ.not-nil m) }
  sound (next {v} run (hand i a) p) sub = sound_handed v (sound run (λ x m. sub x (after_keeps s v x m (hand i a)))) i a p (v.up i) refl sub
  sound (next {v} run (store i label) p) sub = let o = sound run sub in record { each = o.each; said = o.said }
  sound (next {v} run (crash i) p) sub = sound_put v (sound run sub) i none (λ n e. no_one e)
