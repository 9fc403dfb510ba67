-- ONE NUMBER RELEASES AT MOST ONE DIGEST FOR A LABEL, and a legal one. Assumes nothing beyond the premises.
use Rattle.std.specs.Prelude.{Ok}
use Prim.Native.Nat.{ℕ, ◌≤◌, ◌<◌}
use native.Mathlib.Omega.{arith}
use mathlib.Core.Path.{◌≡◌, refl, sym, ap, subst, ◌∙◌}
use mathlib.Core.Bool.{true}
use mathlib.Core.List.Memᴰ
use mathlib.Core.List.{Memᴰ}
use mathlib.Core.Logic.{◌⊎◌, inl, inr, ⊎_elim}
use mathlib.Core.Option.{Option, none, some}
use Rattle.units.specs.declared.labels.RoundLabel.{RoundLabel}
use Rattle.units.specs.declared.settings.Numbers.{Numbers}
use Rattle.units.proofs.Every.{absurd_by}
use Rattle.vote.specs.declared.digest.Digest.{Digest}
use Rattle.message.specs.declared.head.Head.{Head}
use Rattle.message.specs.declared.head.Head.TheVariants.{Vote, Start}
use Rattle.message.specs.declared.value.Message.{Message}
use Rattle.message.specs.Message.{message_fits}
use Rattle.plan.specs.Votes.{own_digest}
use Rattle.controller.specs.declared.state.Controller.{Controller}
use Rattle.controller.specs.Answers.{Answer}
use Rattle.controller.specs.State.{brief_of, controller_fits}
use Rattle.controller.specs.Start.{start_of, started}
use Rattle.controller.specs.Step.{stepped}
use Rattle.controller_laws.specs.Changes.{NoStart}
use Rattle.controller_laws.specs.Outcomes.{SentBy}
use Rattle.controller_laws.specs.Outcomes.SentBy.{query, reply, advert, update, floor, vote, setpoints}
use Rattle.controller_laws.specs.Sendings.{IsSent, Voted}
use Rattle.controller_laws.specs.Phases.{Early}
use Rattle.controller_laws.proofs.Fits.{step_fits, started_fits}
use Rattle.controller_laws.proofs.Outcomes.{sent_by_lem, start_step}
use Rattle.controller_laws.proofs.Rises.{step_rises}
use Rattle.controller_laws.proofs.Sendings.{sent_fits, vote_once}
use Rattle.group.specs.World.{here, next, World, empty, hand, store, crash, put, with_up, sent_by, rising, after_answer, handed}
use Rattle.group.specs.Premises.{Meters, Released, Enough, Run}
use Rattle.group.proofs.Sent.{no_one, same_one, put_cases, risen_by, new_or_old, released_by, start_or_not}

-- what a vote that goes out by a step is: the own digest of a pending controller
pub record OwnVote (c : Controller) (h : Head) (n : Controller) (i : ℕ) (label : RoundLabel) (d : Digest) : Type 0 where
  pub by : Voted c h n
  pub sender : i ≡ c.own
  pub round : label ≡ c.label
  pub digest : d ≡ own_digest (brief_of c)

vote_said : {s : Numbers} {c : Controller} {h : Head} {n : Controller} {k : Head} → SentBy s c h n k → (i : ℕ) (label : RoundLabel) (d : Digest) → k ≡ Vote i label d
    → (i ≡ c.own) × (label ≡ c.label) × (d ≡ own_digest (brief_of c))
vote_said (query e) i label d q = absurd_by (cc)
vote_said (reply mask e) i label d q = absurd_by (cc)
vote_said (advert e) i label d q = absurd_by (cc)
vote_said (update e) i label d q = absurd_by (cc)
vote_said (floor e) i label d q = absurd_by (cc)
vote_said (vote e p) i label d q = (cc, cc, cc)
vote_said (setpoints e) i label d q = absurd_by (cc)

pub own_vote : (s : Numbers) (c : Controller) (a : Message) (i : ℕ) (label : RoundLabel) (d : Digest) → IsSent (stepped s c a) (Vote i label d) → OwnVote c a.head (stepped s c a).next i label d
own_vote s c a i label d p =
    let q = vote_said (sent_by_lem s c a (Vote i label d) p) i label d refl in
    record { by = vote_once s c a (Vote i label d) p tt; sender = q.0; round = q.1; digest = q.2 }

module _ (s : Numbers) (meters : Meters) where
  -- of every world: numbers are their controllers' own, all is in range, and what a number has released lies below what it may still vote on
  pub record Once (w : World) : Type 0 where
    pub own : (i : ℕ) (c : Controller) → w.up i ≡ some c → c.own ≡ i
    pub fit : (i : ℕ) (c : Controller) → w.up i ≡ some c → controller_fits s c ≡ true
    pub lines : (x : Message) → Memᴰ x w.sent → message_fits s.group x ≡ true
    pub bound : (i : ℕ) (c : Controller) → w.up i ≡ some c → (label : RoundLabel) (d : Digest) → Released w.sent i label d → label.0 ≤ c.label.0
    pub early : (i : ℕ) (c : Controller) → w.up i ≡ some c → (label : RoundLabel) (d : Digest) → Released w.sent i label d → Early c.phase → label.0 < c.label.0
    pub unique : (i : ℕ) (label : RoundLabel) (d e : Digest) → Released w.sent i label d → Released w.sent i label e → d ≡ e

  once_empty : Once empty
  once_empty =
      record {
        own = λ i c e. no_one e;
        fit = λ i c e. no_one e;
        lines = λ x m. absurd (Memᴰ.not-nil m);
        bound = λ i c e. no_one e;
        early = λ i c e. no_one e;
        unique = λ i label d e p. absurd (Memᴰ.not-nil p.among);
      }

  -- a controller that may stand at the number i
  record May (w : World) (i : ℕ) (n : Controller) : Type 0 where
    pub own : n.own ≡ i
    pub fit : controller_fits s n ≡ true
    pub bound : (label : RoundLabel) (d : Digest) → Released w.sent i label d → label.0 ≤ n.label.0
    pub early : (label : RoundLabel) (d : Digest) → Released w.sent i label d → Early n.phase → label.0 < n.label.0

  as_it_was : (w : World) → Once w → (i : ℕ) (c : Controller) → w.up i ≡ some c → May w i c
  as_it_was w o i c e = record { own = o.own i c e; fit = o.fit i c e; bound = o.bound i c e; early = o.early i c e }

  -- who stands where, after one controller was put at the number i
  module _ (w : World) (o : Once w) (i : ℕ) (u : Option Controller) (m : (n : Controller) → u ≡ some n → May w i n) where
    stands : (j : ℕ) (c : Controller) → put w.up i u j ≡ some c → May w j c
    stands j c e =
        elim (put_cases w.up i u j c e) [
          | inl p ↦ subst (λ (k : ℕ). May w k c) (sym p.0) (m c p.1)
          | inr p ↦ as_it_was w o j c p.1
        ]

    once_put : Once (with_up w i u)
    once_put =
        record {
          own = λ j c e. (stands j c e).own;
          fit = λ j c e. (stands j c e).fit;
          lines = o.lines;
          bound = λ j c e. (stands j c e).bound;
          early = λ j c e. (stands j c e).early;
          unique = o.unique;
        }

  -- a step of the controller c of the number i
  module _ (w : World) (o : Once w) (i : ℕ) (c : Controller) (at : w.up i ≡ some c) (a : Message) where
    abbrev r : Answer
    r = stepped s c a

    split : (j : ℕ) (label : RoundLabel) (d : Digest) → Released (sent_by s r w.sent) j label d → OwnVote c a.head r.next j label d ⊎ Released w.sent j label d
    split j label d p = ⊎_elim (λ q. inl (own_vote s c a j label d q)) (λ q. inr q) (released_by s r w.sent j label d p)

    -- where the own vote goes out, none was released for the label before
    first_time : (label : RoundLabel) (d : Digest) → Voted c a.head r.next → label ≡ c.label → Released w.sent i label d → ⊥
    first_time label d v e p =
        let k = o.early i c at label d p (subst Early (sym v.pending) tt) in
        let q : label.0 ≡ c.label.0 = ap (λ (l : RoundLabel). l.0) e in omega arith

    sender_is : (j : ℕ) (label : RoundLabel) (d : Digest) → OwnVote c a.head r.next j label d → j ≡ i
    sender_is j label d v = v.sender ∙ o.own i c at

    module _ (m : May w i r.next) where
      stands_on : (j : ℕ) (n : Controller) → put w.up i (some r.next) j ≡ some n → ((j ≡ i) × (r.next ≡ n)) ⊎ ((j ≡ i → ⊥) × (w.up j ≡ some n))
      stands_on j n e = elim (put_cases w.up i (some r.next) j n e) [ inl p ↦ inl (p.0, same_one p.1) | inr p ↦ inr p ]

      old_for : (j : ℕ) (label : RoundLabel) (d : Digest) → j ≡ i → Released w.sent j label d → Released w.sent i label d
      old_for j label d e p = subst (λ (k : ℕ). Released w.sent k label d) e p

      bound_on : (j : ℕ) (n : Controller) → ((j ≡ i) × (r.next ≡ n)) ⊎ ((j ≡ i → ⊥) × (w.up j ≡ some n)) → (label : RoundLabel) (d : Digest)
          → OwnVote c a.head r.next j label d ⊎ Released w.sent j label d → label.0 ≤ n.label.0
      bound_on j n (inl p) label d (inl v) =
          let q : label.0 ≡ n.label.0 = ap (λ (l : RoundLabel). l.0) (v.round ∙ sym v.by.label ∙ ap (λ (k : Controller). k.label) p.1) in omega arith
      bound_on j n (inl p) label d (inr q) =
          let k = m.bound label d (old_for j label d p.0 q) in let e : r.next.label.0 ≡ n.label.0 = ap (λ (k : Controller). k.label.0) p.1 in omega arith
      bound_on j n (inr p) label d (inl v) = absurd (p.0 (sender_is j label d v))
      bound_on j n (inr p) label d (inr q) = o.bound j n p.1 label d q

      early_on : (j : ℕ) (n : Controller) → ((j ≡ i) × (r.next ≡ n)) ⊎ ((j ≡ i → ⊥) × (w.up j ≡ some n)) → (label : RoundLabel) (d : Digest)
          → OwnVote c a.head r.next j label d ⊎ Released w.sent j label d → Early n.phase → label.0 < n.label.0
      early_on j n (inl p) label d (inl v) t = absurd (v.by.late (subst (λ (k : Controller). Early k.phase) (sym p.1) t))
      early_on j n (inl p) label d (inr q) t =
          let k = m.early label d (old_for j label d p.0 q) (subst (λ (k : Controller). Early k.phase) (sym p.1) t) in
          let e : r.next.label.0 ≡ n.label.0 = ap (λ (k : Controller). k.label.0) p.1 in omega arith
      early_on j n (inr p) label d (inl v) t = absurd (p.0 (sender_is j label d v))
      early_on j n (inr p) label d (inr q) t = o.early j n p.1 label d q t

      one : (j : ℕ) (label : RoundLabel) (d e : Digest) → OwnVote c a.head r.next j label d ⊎ Released w.sent j label d → OwnVote c a.head r.next j label e ⊎ Released w.sent j label e → d ≡ e
      one j label d e (inl v) (inl u) = v.digest ∙ sym u.digest
      one j label d e (inl v) (inr q) = absurd (first_time label e v.by v.round (old_for j label e (sender_is j label d v) q))
      one j label d e (inr q) (inl v) = absurd (first_time label d v.by v.round (old_for j label d (sender_is j label e v) q))
      one j label d e (inr p) (inr q) = o.unique j label d e p q

      in_range : (x : Message) → Memᴰ x (sent_by s r w.sent) → message_fits s.group x ≡ true
      in_range x k =
          ⊎_elim (λ f. ap (message_fits s.group) f.whole ∙ sent_fits s c a f.head f.out) (λ n. o.lines x n) (new_or_old s r w.sent x k)

      once_answered : Once (after_answer s w i a.head r)
      once_answered =
          record {
            own = λ j n e. elim (stands_on j n e) [ inl p ↦ ap (λ (k : Controller). k.own) (sym p.1) ∙ m.own ∙ sym p.0 | inr p ↦ o.own j n p.1 ];
            fit = λ j n e. elim (stands_on j n e) [ inl p ↦ subst (λ (k : Controller). controller_fits s k ≡ true) p.1 m.fit | inr p ↦ o.fit j n p.1 ];
            lines = in_range;
            bound = λ j n e label d p. bound_on j n (stands_on j n e) label d (split j label d p);
            early = λ j n e label d p. early_on j n (stands_on j n e) label d (split j label d p);
            unique = λ j label d e p q. one j label d e (split j label d p) (split j label e q);
          }

    -- any message but B
    may_rise : NoStart a.head → May w i r.next
    may_rise k =
        let t = step_rises s c a k in
        record {
          own = t.own ∙ o.own i c at;
          fit = step_fits s c a (o.fit i c at);
          bound = λ label d p. let b = o.bound i c at label d p in omega (arith, t.label);
          early = λ label d p e. ⊎_elim (λ l. let b = o.bound i c at label d p in omega arith) (λ y. let b = o.early i c at label d p y in omega (arith, t.label)) (t.early e);
        }

    -- B, which is not below what was voted on
    may_start : (own : ℕ) (low : RoundLabel) → a.head ≡ Start own low → own ≡ i → ((label : RoundLabel) (d : Digest) → Released w.sent i label d → label.0 ≤ low.0) → May w i r.next
    unfolding start_of
    may_start own low e q b =
        ⊎_elim (λ z. subst (May w i) (sym z) (as_it_was w o i c at)) (λ z. subst (May w i) (sym z) (fresh (subst (λ (n : Controller). controller_fits s n ≡ true) z (step_fits s c a (o.fit i c at)))))
        (start_step s c a own low e)
      where
        fresh : controller_fits s (start_of s own low) ≡ true → May w i (start_of s own low)
        fresh f = record { own = q; fit = f; bound = b; early = λ label d p t. absurd t }

  -- B to a number that is down
  may_rise_up : (w : World) (i own : ℕ) (low : RoundLabel) → own ≡ i → ((label : RoundLabel) (d : Digest) → Released w.sent i label d → label.0 ≤ low.0)
      → started s own low ≡ Ok (start_of s own low) → May w i (start_of s own low)
  unfolding start_of
  may_rise_up w i own low q b t = record { own = q; fit = started_fits s own low (start_of s own low) t; bound = b; early = λ label d p k. absurd k }

  once_handed : (w : World) → Once w → (i : ℕ) (a : Message) → Enough meters w i a → (u : Option Controller) → w.up i ≡ u → Once (handed s w i a u)
  once_handed w o i a p none e =
      once_put w o i (rising s a.head)
      (λ n k. let z = risen_by s a.head n k in
      subst (May w i) (sym z.is) (may_rise_up w i z.own z.low (p.own_number z.own z.low z.by) (p.not_voted z.own z.low z.by) z.taken))
  once_handed w o i a p (some c) e =
      once_answered w o i c e a
      (⊎_elim (λ k. may_start w o i c e a k.0 k.1 k.2 (p.own_number k.0 k.1 k.2) (p.not_voted k.0 k.1 k.2))
      (λ k. may_rise w o i c e a k) (start_or_not a.head))

  pub once : {w : World} → Run s (Enough meters) w → Once w
  once here = once_empty
  once (next {v} run (hand i a) p) = once_handed v (once run) i a p (v.up i) refl
  once (next {v} run (store i label) p) =
      let o = once run in record { own = o.own; fit = o.fit; lines = o.lines; bound = o.bound; early = o.early; unique = o.unique }
  once (next {v} run (crash i) p) = once_put v (once run) i none (λ n e. no_one e)
