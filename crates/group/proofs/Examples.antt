-- Scripts that pass the test are runs that keep the premises, and the two examples do. Assumes nothing.
use Prim.Native.Nat.{ℕ, zero, suc, ◌-◌, ◌≤◌, ◌<◌}
use native.Mathlib.Omega.{arith}
use mathlib.Core.Path.{◌≡◌, refl, sym, ap, subst, ◌∙◌}
use mathlib.Core.Bool.{Bool, true, false, ◌&&◌, ◌||◌}
use mathlib.Core.List.Memᴰ
use mathlib.Core.List.{List, [], ◌∷◌, Memᴰ}
use mathlib.Core.Logic.{◌⊎◌, inl, inr, ⊎_elim}
use mathlib.Core.Option.{none}
use lib.Dec.{eqb, leb, ltb}
use lib.ListN.{length, get_or}
use borrow.Author.Tests.{eqb-true, leb-true, ltb-true}
use Rattle.units.specs.declared.labels.RoundLabel.{RoundLabel}
use Rattle.units.specs.declared.settings.Numbers.{Numbers}
use Rattle.units.proofs.Every.{and_left, and_right, no_way}
use Rattle.message.specs.declared.head.Head.{Head}
use Rattle.message.specs.declared.head.Head.TheVariants.{Refused}
use Rattle.message.specs.declared.value.Message.{Message}
use Rattle.message.specs.Message.{plain}
use Rattle.message.specs.View.{as_reading, as_floor, is_exchanged}
use Rattle.message.proofs.Views.{reading_seen, floor_seen, start_seen, by_kind}
use Rattle.controller_laws.proofs.Ways.{same_round_lem}
use Rattle.group.specs.World.{Mark, mark, On, next, World, after}
use Rattle.group.specs.Premises.{Meters, Kept, Onward}
use Rattle.group.specs.Scripts.{Act, give, pass, keep, fall, nth, event_of, played, marked, highest, fairly, fair, all_fair}

-- ---- lists
or_cases : (a b : Bool) → (a || b) ≡ true → (a ≡ true) ⊎ (b ≡ true)
or_cases true b e = inl refl
or_cases false b e = inr e

pub at_place {ℓ} : {X : Type ℓ} (l : List X) (n : ℕ) (d : X) → n < length l → Memᴰ (get_or l n d) l
at_place [] n d h = absurd (omega arith)
at_place (x ∷ l) zero d h = Memᴰ.head refl
at_place (x ∷ l) (suc n) d h = Memᴰ.tail (at_place l n d (omega arith))

same_mark : {i j : ℕ} {l k : RoundLabel} → i ≡ j → l ≡ k → mark i l ≡ mark j k
same_mark p q = λ t. mark (p t) (q t)

marked_there : (i : ℕ) (label : RoundLabel) (l : List Mark) → marked i label l ≡ true → Memᴰ (mark i label) l
unfolding marked
marked_there i label [] e = no_way e
marked_there i label (x ∷ l) e =
    ⊎_elim
    (λ h. Memᴰ.head (sym (same_mark (eqb-true x.who i (and_left (eqb x.who i) _ h)) (same_round_lem x.floor label (eqb-true _ _ (and_right (eqb x.who i) _ h))))))
    (λ h. Memᴰ.tail (marked_there i label l h)) (or_cases (eqb x.who i && eqb x.floor.0 label.0) (marked i label l) e)

highest_above : (i : ℕ) (floor : RoundLabel) (l : List Mark) → highest i floor l ≡ true → (label : RoundLabel) → Memᴰ (mark i label) l → label.0 ≤ floor.0
unfolding highest
highest_above i floor [] e label m = absurd (Memᴰ.not-nil m)
highest_above i floor (x ∷ l) e label m =
    elim (Memᴰ.cases_cons m) [
      | inl p ↦ first (ap (λ (k : Mark). k.who) p) (ap (λ (k : Mark). k.floor.0) p) (and_left (ltb x.who i || ltb i x.who || leb x.floor.0 floor.0) (highest i floor l) e)
      | inr n ↦ highest_above i floor l (and_right (ltb x.who i || ltb i x.who || leb x.floor.0 floor.0) (highest i floor l) e) label n
    ]
  where
    first : i ≡ x.who → label.0 ≡ x.floor.0 → (ltb x.who i || ltb i x.who || leb x.floor.0 floor.0) ≡ true → label.0 ≤ floor.0
    first p q h =
        ⊎_elim
        (λ a. ⊎_elim (λ b. absurd (omega (arith, ltb-true x.who i b))) (λ b. absurd (omega (arith, ltb-true i x.who b))) (or_cases (ltb x.who i) (ltb i x.who) a))
        (λ a. omega (arith, leb-true x.floor.0 floor.0 a)) (or_cases (ltb x.who i || ltb i x.who) (leb x.floor.0 floor.0) h)

-- ---- the test is right
module _ (meters : Meters) (w : World) (i : ℕ) where
  -- what controllers send each other is not given
  unfair : (h : Head) → is_exchanged h ≡ true → fairly meters w i h ≡ true → ⊥
  unfolding fairly
  unfair h =
      by_kind (λ (k : Head). is_exchanged k ≡ true → fairly meters w i k ≡ true → ⊥) (λ v t. no_way t)
      (λ k r. by_kind (λ (k : Head). as_reading k ≡ none → is_exchanged k ≡ true → fairly meters w i k ≡ true → ⊥) (λ v r t. no_way t)
      (λ k f. by_kind (λ (k : Head). as_floor k ≡ none → as_reading k ≡ none → is_exchanged k ≡ true → fairly meters w i k ≡ true → ⊥) (λ v f r t. no_way t)
      (λ k b f r t e. no_way (sym (rw (r, f, b, t)) ∙ e)) (start_seen k) f) (floor_seen k) r) (reading_seen h)

  given : (h : Head) → fairly meters w i h ≡ true → Kept meters w i (plain h)
  unfolding plain fairly
  given h e =
      record {
        one_reading = λ l n r q. let e = eqb-true r (meters l n) (at q) in cc;
        not_made_up = λ t. absurd (unfair h t e);
        own_number = λ o l q. let e = eqb-true o i (and_left (eqb o i) _ (at q)) in cc;
        stored_first = λ l q. marked_there i l w.stored (at q);
        highest_floor = λ o l q label m. omega (arith, highest_above i l w.confirmed (and_right (eqb o i) _ (at q)) label m);
      }
    where
      at : {k : Head} → h ≡ k → fairly meters w i k ≡ true
      at q = subst (λ (k : Head). fairly meters w i k ≡ true) q e

  -- a message that was sent may be passed
  passed : (a : Message) → Memᴰ a w.sent → is_exchanged a.head ≡ true → Kept meters w i a
  passed a m e =
      record {
        one_reading = λ l n r q. no_way (sym (ap is_exchanged q) ∙ e);
        not_made_up = λ t. m;
        own_number = λ o l q. no_way (sym (ap is_exchanged q) ∙ e);
        stored_first = λ l q. no_way (sym (ap is_exchanged q) ∙ e);
        highest_floor = λ o l q. no_way (sym (ap is_exchanged q) ∙ e);
      }

-- the test is right
pub fair_keeps : (meters : Meters) (w : World) (x : Act) → fair meters w x ≡ true → On (Kept meters) w (event_of w x)
unfolding fair
fair_keeps meters w (give i head) e = given meters w i head e
fair_keeps meters w (pass i n) e =
    passed meters w i (nth w.sent n) (at_place w.sent (length w.sent - 1 - n) (plain (Refused 3)) (omega (arith, ltb-true n (length w.sent) (and_left (ltb n (length w.sent)) _ e))))
    (and_right (ltb n (length w.sent)) _ e)
fair_keeps meters w (keep i label) e = tt
fair_keeps meters w (fall i) e = tt

-- a script that passes the test leads on
pub scripted : (s : Numbers) (meters : Meters) (w v : World) (script : List Act) → Onward s (Kept meters) w v → all_fair s meters v script ≡ true → Onward s (Kept meters) w (played s v script)
unfolding played all_fair
scripted s meters w v [] run e = run
scripted s meters w v (x ∷ more) run e =
    scripted s meters w (after s v (event_of v x)) more (next run (event_of v x) (fair_keeps meters v x (and_left (fair meters v x) _ e))) (and_right (fair meters v x) _ e)
