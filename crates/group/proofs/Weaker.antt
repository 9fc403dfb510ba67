-- THE WEAKER PREMISE IS ENOUGH: every run that keeps the premises as they are worded keeps the weaker ones. Assumes nothing beyond the premises.
use Prim.Native.Nat.{ℕ}
use mathlib.Core.Path.{◌≡◌, refl, sym, ap, subst, ◌∙◌}
use mathlib.Core.List.Memᴰ
use mathlib.Core.List.{◌++◌, Memᴰ}
use mathlib.Core.Logic.{⊎_elim}
use mathlib.Core.Option.{Option, none, some}
use Rattle.units.specs.declared.labels.RoundLabel.{RoundLabel}
use Rattle.units.specs.declared.settings.Numbers.{Numbers}
use Rattle.vote.specs.declared.digest.Digest.{Digest}
use Rattle.message.specs.declared.head.Head.{Head}
use Rattle.message.proofs.Views.{telling_exchanged}
use Rattle.message.specs.declared.value.Message.{Message}
use Rattle.controller.specs.declared.state.Controller.{Controller}
use Rattle.controller.specs.Step.{stepped}
use Rattle.group.specs.World.{mark, hand, store, crash, On, here, next, World, Event, confirms, after_answer, handed, after}
use Rattle.group.specs.Premises.{Meters, Released, Kept, Enough, Onward, Run}
use Rattle.group.proofs.Sent.{released_by}
use Rattle.group.proofs.Later.{continued}
use Rattle.group.proofs.Once.{OwnVote, own_vote, Once, once}

-- ---- what was released was confirmed
abbrev pub Confirmed : World → Type 0
Confirmed w = (i : ℕ) (label : RoundLabel) (d : Digest) → Released w.sent i label d → Memᴰ (mark i label) w.confirmed

module _ (s : Numbers) (meters : Meters) where
  confirmed_answered : (w : World) → Once s meters w → Confirmed w → (i : ℕ) (c : Controller) → w.up i ≡ some c → (a : Message) → Confirmed (after_answer s w i a.head (stepped s c a))
  confirmed_answered w o f i c at a j label d p =
      ⊎_elim (λ q. now (own_vote s c a j label d q)) (λ q. Memᴰ.append_right (confirms i a.head) (f j label d q))
      (released_by s (stepped s c a) w.sent j label d p)
    where
      now : OwnVote c a.head (stepped s c a).next j label d → Memᴰ (mark j label) (confirms i a.head ++ w.confirmed)
      now v =
          subst (λ (h : Head). Memᴰ (mark j label) (confirms i h ++ w.confirmed)) (sym v.by.by_floor)
          (Memᴰ.head (ap (λ (k : ℕ). mark k label) (v.sender ∙ o.own i c at) ∙ ap (mark i) v.round))

  confirmed_handed : (w : World) → Once s meters w → Confirmed w → (i : ℕ) (a : Message) (u : Option Controller) → w.up i ≡ u → Confirmed (handed s w i a u)
  confirmed_handed w o f i a none e = f
  confirmed_handed w o f i a (some c) e = confirmed_answered w o f i c e a

  confirmed_after : (w : World) → Once s meters w → Confirmed w → (e : Event) → Confirmed (after s w e)
  confirmed_after w o f (hand i a) = confirmed_handed w o f i a (w.up i) refl
  confirmed_after w o f (store i label) = f
  confirmed_after w o f (crash i) = f

  -- every label that a number voted on was confirmed to it
  pub voted_confirmed : {w : World} → Run s (Enough meters) w → Confirmed w
  voted_confirmed here = λ i label d p. absurd (Memᴰ.not-nil p.among)
  voted_confirmed (next {v} run e p) = confirmed_after v (once s meters run) (voted_confirmed run) e

  -- ---- the premises as they are worded give the weaker ones
  enough_hand : (w : World) → Confirmed w → (i : ℕ) (a : Message) → Kept meters w i a → Enough meters w i a
  enough_hand w f i a k =
      record {
        one_reading = k.one_reading;
        not_made_up = λ t. k.not_made_up (telling_exchanged a.head t);
        own_number = k.own_number;
        not_voted = λ own low e label d p. k.highest_floor own low e label (f i label d p);
      }

  enough_on : (w : World) → Confirmed w → (e : Event) → On (Kept meters) w e → On (Enough meters) w e
  enough_on w f (hand i a) k = enough_hand w f i a k
  enough_on w f (store i label) k = tt
  enough_on w f (crash i) k = tt

  pub weaker : {w : World} → Run s (Kept meters) w → Run s (Enough meters) w
  weaker here = here
  weaker (next {v} run e k) = let r = weaker run in next r e (enough_on v (voted_confirmed r) e k)

  -- the same of what comes later
  pub weaker_on : {w v : World} → Run s (Kept meters) w → Onward s (Kept meters) w v → Onward s (Enough meters) w v
  weaker_on run here = here
  weaker_on run (next {v} on e k) = let o = weaker_on run on in next o e (enough_on v (voted_confirmed (continued (weaker run) o)) e k)
