-- A row whose meter and day stand in an earlier row. Assumes nothing.
use Prim.Native.Nat.{ℕ}
use mathlib.Core.Path.{◌≡◌}
use mathlib.Core.Bool.{true, false}
use mathlib.Core.List.{List}
use Rattle.fields.proofs.Cases.{by_test}
use Rattle.store.specs.declared.row.Row.{Row}
use Rattle.store.specs.Repeated.{shares, place_of, stood_at}
use Rattle.store.specs.Says.{Shared}
use Rattle.store.proofs.Firsts.{never_both, some_exact}

module _ (rs : List Row) where
  -- the test is that there is such an earlier row
  pub stood_exact : (i : ℕ) → (stood_at rs i ≡ true → Shared rs i) × (Shared rs i → stood_at rs i ≡ true)
  unfolding stood_at
  stood_exact i = some_exact (λ j. shares (place_of rs j) (place_of rs i)) i

  pub stood_not : (i : ℕ) → stood_at rs i ≡ false → Shared rs i → ⊥
  stood_not i e w = never_both (stood_at rs i) ((stood_exact i).1 w) e

  pub not_stood : (i : ℕ) → (Shared rs i → ⊥) → stood_at rs i ≡ false
  not_stood i n = by_test (stood_at rs i) (λ t. absurd (n ((stood_exact i).0 t))) (λ t. t)
