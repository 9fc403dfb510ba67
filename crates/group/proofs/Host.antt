-- HOW A HOST KEEPS THE PREMISE ON FLOORS: it stores before it confirms, and restarts a number at the highest floor that it has stored for it. Assumes nothing beyond the premises.
use Prim.Native.Nat.{ℕ, ◌≤◌}
use native.Mathlib.Omega.{arith}
use mathlib.Core.Path.{◌≡◌, refl, sym, ap, subst}
use mathlib.Core.List.Memᴰ
use mathlib.Core.List.{[], ◌∷◌, Memᴰ}
use mathlib.Core.Logic.{inl, inr, ⊎_elim}
use mathlib.Core.Option.{Option, none, some}
use Rattle.units.specs.declared.labels.RoundLabel.{RoundLabel}
use Rattle.units.specs.declared.settings.Numbers.{Numbers}
use Rattle.units.proofs.Every.{no_way, absurd_by}
use Rattle.message.specs.declared.head.Head.{Head}
use Rattle.message.specs.declared.head.Head.TheVariants.{Floor, Start}
use Rattle.message.specs.declared.value.Message.{Message}
use Rattle.message.specs.Message.{plain}
use Rattle.message.proofs.Views.{floor_seen, by_kind}
use Rattle.controller.specs.declared.state.Controller.{Controller}
use Rattle.group.specs.World.{Mark, mark, here, next, hand, store, crash, On, World, Event, confirms, handed, after}
use Rattle.group.specs.Premises.{Meters, Kept, Run}

-- what is confirmed is stored
abbrev Stored : World → Type 0
Stored w = (x : Mark) → Memᴰ x w.confirmed → Memᴰ x w.stored

-- F alone confirms
by_floor : (i : ℕ) (x : Mark) (h : Head) → Memᴰ x (confirms i h) → (label : RoundLabel) × (h ≡ Floor label) × (x ≡ mark i label)
by_floor i x h =
    by_kind (λ (k : Head). Memᴰ x (confirms i k) → (label : RoundLabel) × (k ≡ Floor label) × (x ≡ mark i label)) of (λ k q m. absurd (Memᴰ.not-nil (rw q at m))) (floor_seen h)
  where
    of : (label : RoundLabel) → Memᴰ x (mark i label ∷ []) → (l : RoundLabel) × (Floor label ≡ Floor l) × (x ≡ mark i l)
    of label m = elim (Memᴰ.cases_cons m) [ inl e ↦ (label, refl, e) | inr n ↦ absurd (Memᴰ.not-nil n) ]

module _ (s : Numbers) (meters : Meters) where
  stored_handed : (w : World) → Stored w → (i : ℕ) (a : Message) → Kept meters w i a → (u : Option Controller) → Stored (handed s w i a u)
  stored_handed w f i a k none = f
  stored_handed w f i a k (some c) = λ x m.
      ⊎_elim (λ p. let q = by_floor i x a.head p in subst (λ (y : Mark). Memᴰ y w.stored) (sym q.2) (k.stored_first q.0 q.1)) (λ p. f x p)
      (Memᴰ.append_cases (confirms i a.head) m)

  stored_after : (w : World) → Stored w → (e : Event) → On (Kept meters) w e → Stored (after s w e)
  stored_after w f (hand i a) k = stored_handed w f i a k (w.up i)
  stored_after w f (store i label) k = λ x m. Memᴰ.tail (f x m)
  stored_after w f (crash i) k = f

  -- every floor ever confirmed to a number was stored for it
  pub confirmed_stored : {w : World} → Run s (Kept meters) w → (i : ℕ) (label : RoundLabel) → Memᴰ (mark i label) w.confirmed → Memᴰ (mark i label) w.stored
  confirmed_stored run i label m = all run (mark i label) m
    where
      all : {w : World} → Run s (Kept meters) w → Stored w
      all here = λ x m. absurd (Memᴰ.not-nil m)
      all (next {v} run e k) = stored_after v (all run) e k

  -- so a restart at least at every floor that is stored for the number keeps the premises
  pub restart_kept : {w : World} → Run s (Kept meters) w → (i : ℕ) (low : RoundLabel) → ((label : RoundLabel) → Memᴰ (mark i label) w.stored → label.0 ≤ low.0)
      → Kept meters w i (plain (Start i low))
  unfolding plain
  restart_kept run i low f =
      record {
        one_reading = λ l n r q. absurd_by (cc);
        not_made_up = λ t. no_way t;
        own_number = λ o l q. cc;
        stored_first = λ l q. absurd_by (cc);
        highest_floor = λ o l q label m. let z : low ≡ l = cc in omega (arith, ap (λ (k : RoundLabel). k.0) z, f label (confirmed_stored run i label m));
      }
