-- Clause by clause, in document 01's words: a state and targets handed in as values with nothing out of range. What `state_fits` and `targets_fit` are
-- to be; that they are is `state_exact` and `targets_exact` of proofs/Places.antt.
use Rattle.std.specs.Prelude.{ℕ, ◌≤◌, ◌<◌, ◌≡◌, true, List, length, get_or, Float}
use Rattle.std.specs.Float.{nan}
use Rattle.units.specs.declared.estimate.Estimate.{Estimate}
use Rattle.floats.specs.Bits.{nought}
use Rattle.floats.specs.Ranges.{up_to, no_estimate, blank}

-- "estimate x, variance P +0..1,100,000.0, +0..1,000,000,000.0" of each of m runs; a place that is no run holds +0 and +0
pub record StateInRange (m : ℕ) (state : List Estimate) : Type 0 where
  pub sixteen : length state ≡ 16
  pub estimate : (i : ℕ) → i < m → i < 16 → up_to 1100000 (get_or state i no_estimate).x ≡ true
  pub variance : (i : ℕ) → i < m → i < 16 → up_to 1000000000 (get_or state i no_estimate).variance ≡ true
  pub none : (i : ℕ) → m ≤ i → i < 16 → get_or state i no_estimate ≡ blank

-- "target +0..17,600,000.0" of each of m runs; a place that is no run holds +0
pub record TargetsInRange (m : ℕ) (targets : List Float) : Type 0 where
  pub sixteen : length targets ≡ 16
  pub target : (i : ℕ) → i < m → i < 16 → up_to 17600000 (get_or targets i nan) ≡ true
  pub none : (i : ℕ) → m ≤ i → i < 16 → get_or targets i nan ≡ nought
