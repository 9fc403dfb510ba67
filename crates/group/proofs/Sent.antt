-- Which controller a number has after an event, and which messages are new. Assumes nothing.
use Rattle.std.specs.Prelude.{Result, Err, None, Ok, Some}
use Prim.Native.Nat.{ℕ}
use mathlib.Core.Path.{◌≡◌, refl, sym, ap, subst, ◌∙◌}
use mathlib.Core.List.Memᴰ
use mathlib.Core.List.{List, Memᴰ}
use mathlib.Core.Logic.{◌⊎◌, inl, inr, ⊎_elim}
use mathlib.Core.Option.{Option, none, some, some-injective, none-ne-some}
use lib.Dec.{eqb}
use borrow.Author.Tests.{eqb-true, eqb-false, eq-eqb}
use Rattle.units.specs.declared.labels.RoundLabel.{RoundLabel}
use Rattle.units.specs.declared.settings.Numbers.{Numbers}
use Rattle.units.specs.Pick.{pick}
use Rattle.fields.proofs.Cases.{by_test}
use Rattle.vote.specs.declared.digest.Digest.{Digest}
use Rattle.message.specs.declared.head.Head.{Head}
use Rattle.message.specs.declared.head.Head.TheVariants.{Vote, Start}
use Rattle.message.specs.declared.value.Message.{Message}
use Rattle.message.specs.View.{as_start}
use Rattle.message.proofs.Views.{start_seen, by_kind}
use Rattle.plan.specs.Plan.{Sent}
use Rattle.controller.specs.declared.start.Unstarted.{Unstarted}
use Rattle.controller.specs.declared.state.Controller.{Controller}
use Rattle.controller.specs.Answers.{Answer}
use Rattle.controller.specs.Sent.{sent_message}
use Rattle.controller.specs.Start.{start_of, started}
use Rattle.controller_laws.specs.Changes.{NoStart}
use Rattle.controller_laws.specs.Sendings.{IsSent}
use Rattle.controller_laws.proofs.Fits.{started_is}
use Rattle.controller_laws.proofs.Outcomes.{sent_head}
use Rattle.controller_laws.proofs.Ways.{on_pick}
use Rattle.group.specs.World.{put, sending, sent_by, begun, rising}
use Rattle.group.specs.Premises.{Released}

-- ---- the controllers
pub no_one : {A C : Type 0} {c : C} → none ≡ some c → A
no_one {c = c} e = absurd (none-ne-some c e)

pub same_one : {C : Type 0} {c n : C} → some c ≡ some n → c ≡ n
same_one {c = c} {n = n} e = some-injective c n e

-- what a number has is what was put there, or it is another number
pub put_cases : {A : Type 0} (up : ℕ → Option A) (i : ℕ) (o : Option A) (j : ℕ) (c : A) → put up i o j ≡ some c → ((j ≡ i) × (o ≡ some c)) ⊎ ((j ≡ i → ⊥) × (up j ≡ some c))
unfolding put
put_cases {A} up i o j c =
    on_pick (λ (x : Option A). x ≡ some c → ((j ≡ i) × (o ≡ some c)) ⊎ ((j ≡ i → ⊥) × (up j ≡ some c))) (eqb j i)
    (λ e h. inl (eqb-true j i e, h)) (λ e h. inr (eqb-false j i e, h))

pub put_there : {A : Type 0} (up : ℕ → Option A) (i : ℕ) (x : Option A) → put up i x i ≡ x
unfolding put pick
put_there up i x = rw (eq-eqb i i refl)

pub put_same : {A : Type 0} (f : ℕ → Option A) (i j : ℕ) → put f i (f i) j ≡ f j
unfolding put pick
put_same f i j = by_test (eqb j i) (λ t. rw t (ap f (sym (eqb-true j i t)))) (λ t. rw t)

-- a number that was down is up by a B alone, and by a start that was taken
pub record Risen (s : Numbers) (h : Head) (n : Controller) : Type 0 where
  pub own : ℕ
  pub low : RoundLabel
  pub by : h ≡ Start own low
  pub taken : started s own low ≡ Ok (start_of s own low)
  pub is : n ≡ start_of s own low

pub risen_by : (s : Numbers) (h : Head) (n : Controller) → rising s h ≡ some n → Risen s h n
risen_by s h n e = by_kind (λ (k : Head). rising s k ≡ some n → Risen s k n) (λ v. from v.0 v.1 (started s v.0 v.1) refl) (λ k q r. no_one (rw q at r)) (start_seen h) e
  where
    from : (own : ℕ) (low : RoundLabel) (v : Result Controller Unstarted) → started s own low ≡ v → begun v ≡ some n → Risen s (Start own low) n
    from own low (Ok c) q e =
        let z = started_is s own low c q in
        record { own = own; low = low; by = refl; taken = q ∙ ap Ok z; is = sym (same_one e) ∙ z }
    from own low (Err u) q e = no_one e

-- ---- the messages
-- a message that a step has sent
pub record Fresh (s : Numbers) (r : Answer) (x : Message) : Type 0 where
  pub head : Head
  pub out : IsSent r head
  pub whole : x ≡ sent_message s r.next head

module _ (s : Numbers) (r : Answer) (x : Message) (old : List Message) where
  in_sending : (t : Sent) → ((head : Head) → t ≡ Some head → IsSent r head) → Memᴰ x (sending s r.next t old) → Fresh s r x ⊎ Memᴰ x old
  in_sending None f m = inr m
  in_sending (Some head) f m = elim (Memᴰ.cases_cons m) [ inl e ↦ inl (record { head = head; out = f head refl; whole = e }) | inr n ↦ inr n ]

  past_sending : (t : Sent) → Memᴰ x old → Memᴰ x (sending s r.next t old)
  past_sending None m = m
  past_sending (Some head) m = Memᴰ.tail m

module _ (s : Numbers) (r : Answer) (old : List Message) where
  -- a message is one that this step sent, or an older one
  pub new_or_old : (x : Message) → Memᴰ x (sent_by s r old) → Fresh s r x ⊎ Memᴰ x old
  new_or_old x m =
      ⊎_elim (λ f. inl f) (λ n. in_sending s r x old r.first (λ head e. inl e) n)
      (in_sending s r x (sending s r.next r.first old) r.second (λ head e. inr e) m)

  -- what was sent stays sent
  pub still_sent : (x : Message) → Memᴰ x old → Memᴰ x (sent_by s r old)
  still_sent x m = past_sending s r x (sending s r.next r.first old) r.second (past_sending s r x old r.first m)

  -- what a step sends is there
  pub now_sent : (head : Head) → IsSent r head → Memᴰ (sent_message s r.next head) (sent_by s r old)
  now_sent head (inl e) = past_sending s r _ (sending s r.next r.first old) r.second (first r.first e)
    where
      first : (t : Sent) → t ≡ Some head → Memᴰ (sent_message s r.next head) (sending s r.next t old)
      first t e = subst (λ (u : Sent). Memᴰ (sent_message s r.next head) (sending s r.next u old)) (sym e) (Memᴰ.head refl)
  now_sent head (inr e) =
      subst (λ (u : Sent). Memᴰ (sent_message s r.next head) (sending s r.next u (sending s r.next r.first old))) (sym e) (Memᴰ.head refl)

  -- the head of a fresh message is the one sent
  pub fresh_head : (x : Message) (f : Fresh s r x) → x.head ≡ f.head
  fresh_head x f = ap (λ (y : Message). y.head) f.whole ∙ sent_head s r.next f.head

  -- a vote released is an older one, or goes out by this step
  pub released_by : (i : ℕ) (label : RoundLabel) (d : Digest) → Released (sent_by s r old) i label d → IsSent r (Vote i label d) ⊎ Released old i label d
  released_by i label d p =
      ⊎_elim (λ f. inl (subst (IsSent r) (sym (fresh_head p.line f) ∙ p.said) f.out)) (λ m. inr (record { line = p.line; among = m; said = p.said }))
      (new_or_old p.line p.among)

-- ---- B or another message
pub start_or_not : (h : Head) → ((own : ℕ) × (floor : RoundLabel) × (h ≡ Start own floor)) ⊎ NoStart h
start_or_not h =
    by_kind (λ (k : Head). ((own : ℕ) × (floor : RoundLabel) × (k ≡ Start own floor)) ⊎ NoStart k) (λ v. inl (v.0, v.1, refl)) (λ k q. inr (λ o f e. absurd (none-ne-some (o, f) (sym q ∙ ap as_start e)))) (start_seen h)
