-- Document 01's table of quantities, clause by clause, of values handed in: what `group_fits` and `numbers_fit` are to be.
-- That they are is `group_exact` and `numbers_exact` of proofs/InRange.antt.
use Rattle.std.specs.Prelude.{ℕ, ◌≤◌, ◌<◌, ◌≡◌, get_or}
use Rattle.units.specs.declared.settings.Group.{Group}
use Rattle.units.specs.declared.settings.Numbers.{Numbers}

-- "controllers g .. 1..7", "runs m .. 1..16"
pub record GroupInRange (s : Group) : Type 0 where
  pub controllers : (1 ≤ s.g) × (s.g ≤ 7)
  pub runs : (1 ≤ s.m) × (s.m ≤ 16)

-- "q and r of the filter 1..1,000,000 each", "first variance p 1..1,000,000,000", "factor 0.9000..1.1000" held in ten-thousandths, "weight 1..1000"
pub record NumbersInRange (s : Numbers) : Type 0 where
  pub controllers : (1 ≤ s.group.g) × (s.group.g ≤ 7)
  pub runs : (1 ≤ s.group.m) × (s.group.m ≤ 16)
  pub q : (1 ≤ s.q) × (s.q ≤ 1000000)
  pub r : (1 ≤ s.r) × (s.r ≤ 1000000)
  pub p : (1 ≤ s.p) × (s.p ≤ 1000000000)
  pub factor : (i : ℕ) → i < s.group.m → (9000 ≤ get_or s.factors i 0) × (get_or s.factors i 0 ≤ 11000)
  pub weight : (i : ℕ) → i < s.group.m → (1 ≤ get_or s.weights i 0) × (get_or s.weights i 0 ≤ 1000)
  -- a place that is no run holds nothing
  pub blank : (i : ℕ) → s.group.m ≤ i → i < 16 → (get_or s.factors i 0 ≡ 0) × (get_or s.weights i 0 ≡ 0)
