-- What it says that readings are in range. Assumes nothing.
use Prim.Native.Nat.{ℕ, ◌<◌}
use mathlib.Core.Path.{◌≡◌}
use mathlib.Core.Bool.{true}
use mathlib.Core.List.{List}
use lib.Dec.{eqb}
use lib.ListN.{length}
use borrow.Author.Tests.{eqb-true, eq-eqb}
use Rattle.units.proofs.Every.{and_left, and_right, every_at, every_all}
use Rattle.message.specs.Readings.{reading_at, readings_fit}

module _ (mask : ℕ) (readings : List ℕ) where
  pub readings_length : readings_fit mask readings ≡ true → length readings ≡ 16
  unfolding readings_fit
  readings_length h = eqb-true _ _ (and_left (eqb (length readings) 16) _ h)

  pub readings_place : readings_fit mask readings ≡ true → (i : ℕ) → i < 16 → reading_at mask readings i ≡ true
  unfolding readings_fit
  readings_place h i k = every_at (reading_at mask readings) 16 i (and_right (eqb (length readings) 16) _ h) k

  pub readings_made : length readings ≡ 16 → ((i : ℕ) → i < 16 → reading_at mask readings i ≡ true) → readings_fit mask readings ≡ true
  unfolding readings_fit
  readings_made e f = rw (eq-eqb (length readings) 16 e, every_all (reading_at mask readings) 16 f)
