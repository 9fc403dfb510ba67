-- Lists made place by place.
use Rattle.std.specs.Prelude.{ℕ, zero, suc, List, [], ◌∷◌, ◌++◌}

-- f 0, f 1, .. : n of them
unfoldable pub column : {A : Type 0} → (ℕ → A) → ℕ → List A
column f zero = []
column f (suc n) = column f n ++ (f n ∷ [])

-- the lists f 0, f 1, .. one after the other, n of them
unfoldable pub joined : (ℕ → List ℕ) → ℕ → List ℕ
joined f zero = []
joined f (suc n) = joined f n ++ f n
