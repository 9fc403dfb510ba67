-- The laws of `&&` and of `every`: one place more, and what it says of each place. Assumes nothing.
use Prim.Native.Nat.{ℕ, zero, suc, ◌+◌, ◌<◌}
use native.Mathlib.Omega.{arith}
use native.Mathlib.Numerals.{add-one}
use native.Mathlib.Decide.{dec_lt}
use mathlib.Core.Path.{◌≡◌, refl, sym, ◌∙◌}
use mathlib.Core.Bool.{Bool, true, false, ◌&&◌}
use mathlib.Core.Logic.{by_cases}
use Rattle.units.specs.Every.{every}

-- what cannot be, where `cc` gives 0 ≡ 1
pub absurd_by : {A : Type 0} → ◌≡◌ {A = ℕ} 0 1 → A
absurd_by z = absurd (omega arith)

-- a test cannot hold and fail
pub no_way : {A : Type 0} → false ≡ true → A
no_way e = absurd_by (cc)

-- what a loop finds that began with a, has passed i places and passes one more
pub and_true : (a : Bool) → a ≡ (a && true)
and_true true = refl
and_true false = refl

pub every_from : (f : ℕ → Bool) (i : ℕ) (a fit r : Bool) → fit ≡ (a && every f i) → r ≡ f i → (fit && r) ≡ (a && every f (i + 1))
unfolding every
every_from f i true fit r p q = rw (add-one, p, q)
every_from f i false fit r p q = rw p

-- the same, begun with true
pub every_more : (f : ℕ → Bool) (i : ℕ) (fit r : Bool) → fit ≡ every f i → r ≡ f i → (fit && r) ≡ every f (i + 1)
every_more f i fit r p q = every_from f i true fit r p q

-- the code's `&&`: past a first test that holds the second is asked, past one that fails nothing
pub then_both : {a p r q : Bool} → a ≡ p → a ≡ true → r ≡ q → r ≡ (p && q)
then_both {p = true} e h k = k
then_both {p = false} e h k = no_way (sym e ∙ h)

pub else_both : {a p : Bool} (q : Bool) → a ≡ p → a ≡ false → a ≡ (p && q)
else_both {p = true} q e h = no_way (sym h ∙ e)
else_both {p = false} q e h = e

pub and_left : (a b : Bool) → (a && b) ≡ true → a ≡ true
and_left true b h = refl
and_left false b h = h

pub and_right : (a b : Bool) → (a && b) ≡ true → b ≡ true
and_right true b h = h
and_right false b h = no_way h

pub and_both : {a b : Bool} → a ≡ true → b ≡ true → (a && b) ≡ true
and_both p q = rw (p, q)

pub and_three : (a b c : Bool) → (a && b && c) ≡ true → (a ≡ true) × (b ≡ true) × (c ≡ true)
and_three a b c h = let k = and_left (a && b) c h in (and_left a b k, and_right a b k, and_right (a && b) c h)

pub every_at : (f : ℕ → Bool) (n i : ℕ) → every f n ≡ true → i < n → f i ≡ true
unfolding every
every_at f zero i h k = absurd (omega arith)
every_at f (suc n) i h k =
    by_cases (dec_lt i n) (λ l. every_at f n i (and_left (every f n) (f n) h) l)
    (λ l. let e : n ≡ i = omega arith in rw e at (and_right (every f n) (f n) h))

pub every_all : (f : ℕ → Bool) (n : ℕ) → ((i : ℕ) → i < n → f i ≡ true) → every f n ≡ true
unfolding every
every_all f zero h = refl
every_all f (suc n) h = rw (every_all f n (λ i k. h i (omega arith)), h n (omega arith))
