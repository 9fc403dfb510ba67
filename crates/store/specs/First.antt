-- "from the top", "in order": the least place where a test holds.
use Rattle.std.specs.Prelude.{ℕ, zero, suc, Bool, false, ◌||◌, ltb, Option, Some, None}
use Rattle.units.specs.Pick.{pick}

-- a test that holds at some place below n
unfoldable pub some : (ℕ → Bool) → ℕ → Bool
some f zero = false
some f (suc n) = some f n || f n

-- the least place below n where a test holds; n where there is none
unfoldable pub first_of : (ℕ → Bool) → ℕ → ℕ
first_of f zero = zero
first_of f (suc n) = pick (ltb (first_of f n) n) (first_of f n) (pick (f n) n (suc n))

-- what is said of that place, or else
abbrev pub at_first {ℓ} : {A : Type ℓ} → (ℕ → Bool) → ℕ → (ℕ → A) → A → A
at_first f n found none = pick (ltb (first_of f n) n) (found (first_of f n)) none

-- that place where it is one below n
abbrev pub place_below : ℕ → ℕ → Option ℕ
place_below i n = pick (ltb i n) (Some i) None
