-- The list of a function's values, place by place: how an array is said that is filled from its front.
use Rattle.std.specs.Prelude.{ℕ, zero, suc, List, [], ◌∷◌}

-- f i, f (i + 1), .. : k of them
unfoldable pub tab : {A : Type 0} → (ℕ → A) → ℕ → ℕ → List A
tab f i zero = []
tab f i (suc k) = f i ∷ tab f (suc i) k
