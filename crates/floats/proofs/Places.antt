-- The sixteen places of a state and of the targets: what it means that they are in range, and that two states are the same. Assumes nothing.
use mathlib.Core.Path.{◌≡◌, sym, ◌∙◌, ap, ap₂}
use mathlib.Core.Bool.{Bool, true}
use mathlib.Core.List.{List}
use mathlib.Core.Logic.{by_cases}
use Prim.Native.Nat.{ℕ, ◌≤◌, ◌<◌}
use native.Mathlib.Omega.{arith}
use native.Mathlib.Decide.{dec_lt}
use lib.Dec.{eqb}
use lib.ListN.{length, get_or}
use lib.Seq.{ext_get_or}
use lib.Ieee.{Float, nan, binary64, fits, of_bits}
use lib.Ieee.Bits.{of_bits-fits, is_true}
use borrow.Author.Tests.{lt-ltb, le-ltb, eqb-true, eq-eqb}
use Rattle.units.specs.declared.estimate.Estimate.{Estimate}
use Rattle.units.specs.Limits.{x_top, variance_top, target_top}
use Rattle.units.specs.Every.{every}
use Rattle.units.proofs.Every.{and_left, and_right, every_at, every_all, and_both}
use Rattle.floats.specs.Bits.{nought, same_float}
use Rattle.floats.specs.Ranges.{up_to, estimate_fits, blank, no_estimate, same_estimate, estimate_place, state_at, state_fits, target_place, target_at, targets_fit, same_at, same_state}
use Rattle.floats.specs.InRange.{StateInRange, TargetsInRange}
use Rattle.floats.proofs.Limits.{range_fits, same_is, same_self}

nought_fits : fits binary64 nought ≡ true
nought_fits = is_true (fits binary64 (of_bits binary64 0)) (of_bits-fits binary64 0)

-- ---- an estimate
pub estimate_x : (e : Estimate) → estimate_fits e ≡ true → up_to x_top e.x ≡ true
unfolding estimate_fits
estimate_x e h = and_left (up_to x_top e.x) (up_to variance_top e.variance) h

pub estimate_variance : (e : Estimate) → estimate_fits e ≡ true → up_to variance_top e.variance ≡ true
unfolding estimate_fits
estimate_variance e h = and_right (up_to x_top e.x) (up_to variance_top e.variance) h

pub estimate_made : (e : Estimate) → up_to x_top e.x ≡ true → up_to variance_top e.variance ≡ true → estimate_fits e ≡ true
unfolding estimate_fits
estimate_made e p q = and_both p q

pub same_estimate_is : (a b : Estimate) → same_estimate a b ≡ true → a ≡ b
unfolding same_estimate
same_estimate_is a b h =
    let p = same_is a.x b.x (and_left (same_float a.x b.x) _ h) in
    let q = same_is a.variance b.variance (and_right (same_float a.x b.x) _ h) in
    λ i. record { x = p i; variance = q i }

same_estimate_of : (e : Estimate) → fits binary64 e.x ≡ true → fits binary64 e.variance ≡ true → same_estimate e e ≡ true
unfolding same_estimate
same_estimate_of e p q = and_both (same_self e.x p) (same_self e.variance q)

same_estimate_self : (e : Estimate) → estimate_fits e ≡ true → same_estimate e e ≡ true
same_estimate_self e h = same_estimate_of e (range_fits x_top e.x (estimate_x e h)) (range_fits variance_top e.variance (estimate_variance e h))

blank_self : same_estimate blank blank ≡ true
blank_self = same_estimate_of blank nought_fits nought_fits

-- ---- a state
pub state_length : (m : ℕ) (s : List Estimate) → state_fits m s ≡ true → length s ≡ 16
unfolding state_fits
state_length m s h = eqb-true (length s) 16 (and_left (eqb (length s) 16) (every (state_at m s) 16) h)

state_place : (m : ℕ) (s : List Estimate) (i : ℕ) → state_fits m s ≡ true → i < 16 → state_at m s i ≡ true
unfolding state_fits
state_place m s i h b = every_at (state_at m s) 16 i (and_right (eqb (length s) 16) (every (state_at m s) 16) h) b

pub state_run : (m : ℕ) (s : List Estimate) (i : ℕ) → state_fits m s ≡ true → i < m → i < 16 → estimate_fits (get_or s i no_estimate) ≡ true
state_run m s i h l b = rw (lt-ltb i m l) at (state_place m s i h b)

pub state_blank : (m : ℕ) (s : List Estimate) (i : ℕ) → state_fits m s ≡ true → m ≤ i → i < 16 → get_or s i no_estimate ≡ blank
state_blank m s i h l b = same_estimate_is (get_or s i no_estimate) blank (rw (le-ltb i m l) at (state_place m s i h b))

pub state_made : (m : ℕ) (s : List Estimate) → length s ≡ 16 → ((i : ℕ) → i < m → i < 16 → estimate_fits (get_or s i no_estimate) ≡ true)
    → ((i : ℕ) → m ≤ i → i < 16 → get_or s i no_estimate ≡ blank) → state_fits m s ≡ true
unfolding state_fits
state_made m s e run rest = and_both (eq-eqb (length s) 16 e) (every_all (state_at m s) 16 place)
  where
    place : (i : ℕ) → i < 16 → state_at m s i ≡ true
    place i b =
        by_cases (dec_lt i m) (λ l. ap (λ (t : Bool). estimate_place t (get_or s i no_estimate)) (lt-ltb i m l) ∙ run i l b)
        (λ l. let k : m ≤ i = omega arith in
        ap₂ estimate_place (le-ltb i m k) (rest i k b) ∙ blank_self)

-- IN RANGE EXACTLY WHEN each clause of document 01 holds
pub state_exact : (m : ℕ) (s : List Estimate) → (state_fits m s ≡ true → StateInRange m s) × (StateInRange m s → state_fits m s ≡ true)
state_exact m s = (
  λ h. record {
    sixteen = state_length m s h;
    estimate = λ i l b. estimate_x (get_or s i no_estimate) (state_run m s i h l b);
    variance = λ i l b. estimate_variance (get_or s i no_estimate) (state_run m s i h l b);
    none = λ i l b. state_blank m s i h l b;
  },
  λ f. state_made m s f.sixteen (λ i l b. estimate_made (get_or s i no_estimate) (f.estimate i l b) (f.variance i l b)) f.none,
)

-- ---- the targets
pub targets_length : (m : ℕ) (ts : List Float) → targets_fit m ts ≡ true → length ts ≡ 16
unfolding targets_fit
targets_length m ts h = eqb-true (length ts) 16 (and_left (eqb (length ts) 16) (every (target_at m ts) 16) h)

targets_place : (m : ℕ) (ts : List Float) (i : ℕ) → targets_fit m ts ≡ true → i < 16 → target_at m ts i ≡ true
unfolding targets_fit
targets_place m ts i h b = every_at (target_at m ts) 16 i (and_right (eqb (length ts) 16) (every (target_at m ts) 16) h) b

pub targets_run : (m : ℕ) (ts : List Float) (i : ℕ) → targets_fit m ts ≡ true → i < m → i < 16 → up_to target_top (get_or ts i nan) ≡ true
targets_run m ts i h l b = rw (lt-ltb i m l) at (targets_place m ts i h b)

pub targets_blank : (m : ℕ) (ts : List Float) (i : ℕ) → targets_fit m ts ≡ true → m ≤ i → i < 16 → get_or ts i nan ≡ nought
targets_blank m ts i h l b = same_is (get_or ts i nan) nought (rw (le-ltb i m l) at (targets_place m ts i h b))

pub targets_made : (m : ℕ) (ts : List Float) → length ts ≡ 16 → ((i : ℕ) → i < m → i < 16 → up_to target_top (get_or ts i nan) ≡ true)
    → ((i : ℕ) → m ≤ i → i < 16 → get_or ts i nan ≡ nought) → targets_fit m ts ≡ true
unfolding targets_fit
targets_made m ts e run rest = and_both (eq-eqb (length ts) 16 e) (every_all (target_at m ts) 16 place)
  where
    place : (i : ℕ) → i < 16 → target_at m ts i ≡ true
    place i b =
        by_cases (dec_lt i m) (λ l. ap (λ (t : Bool). target_place t (get_or ts i nan)) (lt-ltb i m l) ∙ run i l b)
        (λ l. let k : m ≤ i = omega arith in
        ap₂ target_place (le-ltb i m k) (rest i k b) ∙ same_self nought nought_fits)

-- IN RANGE EXACTLY WHEN each clause of document 01 holds
pub targets_exact : (m : ℕ) (ts : List Float) → (targets_fit m ts ≡ true → TargetsInRange m ts) × (TargetsInRange m ts → targets_fit m ts ≡ true)
targets_exact m ts = (
  λ h. record { sixteen = targets_length m ts h; target = λ i l b. targets_run m ts i h l b; none = λ i l b. targets_blank m ts i h l b },
  λ f. targets_made m ts f.sixteen f.target f.none,
)

-- ---- the same state
pub same_state_is : (a b : List Estimate) → length a ≡ 16 → length b ≡ 16 → same_state a b ≡ true → a ≡ b
unfolding same_state
same_state_is a b p q h =
    ext_get_or no_estimate a b (p ∙ sym q)
    (λ i l. let k : i < 16 = omega arith in same_estimate_is (get_or a i no_estimate) (get_or b i no_estimate) (every_at (same_at a b) 16 i h k))

pub same_state_self : (m : ℕ) (s : List Estimate) → state_fits m s ≡ true → same_state s s ≡ true
unfolding same_state
same_state_self m s h = every_all (same_at s s) 16 place
  where
    place : (i : ℕ) → i < 16 → same_at s s i ≡ true
    place i b =
        by_cases (dec_lt i m) (λ l. same_estimate_self (get_or s i no_estimate) (state_run m s i h l b))
        (λ l. let k : m ≤ i = omega arith in
        ap (λ (e : Estimate). same_estimate e e) (state_blank m s i h k b) ∙ blank_self)
