-- `group_fits` and `numbers_fit` hold exactly where each clause of document 01's table does. Assumes nothing.
use Prim.Native.Nat.{ℕ, ◌≤◌, ◌<◌}
use native.Mathlib.Omega.{arith}
use native.Mathlib.Decide.{dec_lt}
use mathlib.Core.Path.{◌≡◌, ap, ◌∙◌}
use mathlib.Core.Bool.{Bool, true, false, ◌&&◌}
use mathlib.Core.Logic.{by_cases}
use lib.Dec.{leb, eqb}
use lib.ListN.{get_or}
use borrow.Author.Tests.{leb-true, le-leb, eqb-true, eq-eqb, lt-ltb, le-ltb}
use Rattle.units.specs.declared.settings.Group.{Group}
use Rattle.units.specs.declared.settings.Numbers.{Numbers}
use Rattle.units.specs.Limits.{controllers_top, runs_top, factor_low, factor_top, weight_top, noise_top, first_top}
use Rattle.units.specs.Within.{within}
use Rattle.units.specs.Settings.{group_fits, place_fits, place_at, runs_fit, numbers_fit}
use Rattle.units.specs.InRange.{GroupInRange, NumbersInRange}
use Rattle.units.proofs.Every.{and_left, and_right, and_both, and_three, every_at, every_all}

-- low..top
pub within_range : (low top n : ℕ) → within low top n ≡ true → (low ≤ n) × (n ≤ top)
within_range low top n h = (leb-true low n (and_left (leb low n) (leb n top) h), leb-true n top (and_right (leb low n) (leb n top) h))

pub within_made : (low top n : ℕ) → (low ≤ n) × (n ≤ top) → within low top n ≡ true
within_made low top n h = and_both (le-leb low n h.0) (le-leb n top h.1)

-- ---- a group
module _ (s : Group) where
  pub group_range : group_fits s ≡ true → GroupInRange s
  unfolding group_fits
  group_range h =
      record {
        controllers = within_range 1 controllers_top s.g (and_left (within 1 controllers_top s.g) _ h);
        runs = within_range 1 runs_top s.m (and_right (within 1 controllers_top s.g) _ h);
      }

  pub group_made : GroupInRange s → group_fits s ≡ true
  unfolding group_fits
  group_made f = and_both (within_made 1 controllers_top s.g f.controllers) (within_made 1 runs_top s.m f.runs)

  -- IN RANGE EXACTLY WHEN each clause of document 01 holds
  pub group_exact : (group_fits s ≡ true → GroupInRange s) × (GroupInRange s → group_fits s ≡ true)
  group_exact = (group_range, group_made)

-- ---- the numbers of the settings
module _ (s : Numbers) where
  abbrev noise : Bool
  noise = within 1 noise_top s.q && within 1 noise_top s.r

  abbrev first : Bool
  first = within 1 first_top s.p

  -- the tests that `numbers_fit` is made of, taken apart and put together
  pub numbers_parts : numbers_fit s ≡ true → (group_fits s.group ≡ true) × (noise ≡ true) × (first ≡ true) × ((i : ℕ) → i < 16 → place_at s i ≡ true)
  unfolding numbers_fit runs_fit
  numbers_parts h =
      let k = and_three (group_fits s.group) noise first (and_left (group_fits s.group && noise && first) (runs_fit s) h) in
      (k.0, k.1, k.2, λ i b. every_at (place_at s) runs_top i (and_right (group_fits s.group && noise && first) (runs_fit s) h) b)

  pub numbers_from : group_fits s.group ≡ true → noise ≡ true → first ≡ true → ((i : ℕ) → i < 16 → place_at s i ≡ true) → numbers_fit s ≡ true
  unfolding numbers_fit runs_fit
  numbers_from g n p f = and_both (and_both (and_both g n) p) (every_all (place_at s) runs_top f)

  -- settings in range are of a group in range
  pub group_fits_lem : numbers_fit s ≡ true → group_fits s.group ≡ true
  group_fits_lem h = (numbers_parts h).0

  abbrev factor_at : ℕ → ℕ
  factor_at i = get_or s.factors i 0

  abbrev weight_at : ℕ → ℕ
  weight_at i = get_or s.weights i 0

  run_place : (i : ℕ) → place_at s i ≡ true → i < s.group.m → place_fits true (factor_at i) (weight_at i) ≡ true
  run_place i h l = rw (lt-ltb i s.group.m l) at h

  blank_place : (i : ℕ) → place_at s i ≡ true → s.group.m ≤ i → place_fits false (factor_at i) (weight_at i) ≡ true
  blank_place i h l = rw (le-ltb i s.group.m l) at h

  pub numbers_range : numbers_fit s ≡ true → NumbersInRange s
  numbers_range h =
      let k = numbers_parts h in
      let g = group_range s.group k.0 in
      let in-sixteen : (i : ℕ) → i < s.group.m → i < 16 = λ i l. omega (arith, g.runs) in
      let run : (i : ℕ) → i < s.group.m → place_fits true (factor_at i) (weight_at i) ≡ true = λ i l. run_place i (k.3 i (in-sixteen i l)) l in
      record {
        controllers = g.controllers;
        runs = g.runs;
        q = within_range 1 noise_top s.q (and_left (within 1 noise_top s.q) _ k.1);
        r = within_range 1 noise_top s.r (and_right (within 1 noise_top s.q) _ k.1);
        p = within_range 1 first_top s.p k.2;
        factor = λ i l. within_range factor_low factor_top (factor_at i) (and_left (within factor_low factor_top (factor_at i)) _ (run i l));
        weight = λ i l. within_range 1 weight_top (weight_at i) (and_right (within factor_low factor_top (factor_at i)) _ (run i l));
        blank = λ i l b.
            let z = blank_place i (k.3 i b) l in
            (eqb-true (factor_at i) 0 (and_left (eqb (factor_at i) 0) _ z), eqb-true (weight_at i) 0 (and_right (eqb (factor_at i) 0) _ z));
      }

  place_made : NumbersInRange s → (i : ℕ) → i < 16 → place_at s i ≡ true
  place_made f i b =
      by_cases (dec_lt i s.group.m)
      (λ l. ap (λ (t : Bool). place_fits t (factor_at i) (weight_at i)) (lt-ltb i s.group.m l)
      ∙ and_both (within_made factor_low factor_top (factor_at i) (f.factor i l)) (within_made 1 weight_top (weight_at i) (f.weight i l)))
      (λ n. let l : s.group.m ≤ i = omega arith in
      let z = f.blank i l b in
      ap (λ (t : Bool). place_fits t (factor_at i) (weight_at i)) (le-ltb i s.group.m l) ∙ and_both (eq-eqb (factor_at i) 0 z.0) (eq-eqb (weight_at i) 0 z.1))

  pub numbers_made : NumbersInRange s → numbers_fit s ≡ true
  numbers_made f =
      numbers_from (group_made s.group (record { controllers = f.controllers; runs = f.runs }))
      (and_both (within_made 1 noise_top s.q f.q) (within_made 1 noise_top s.r f.r)) (within_made 1 first_top s.p f.p) (place_made f)

  -- IN RANGE EXACTLY WHEN each clause of document 01 holds
  pub numbers_exact : (numbers_fit s ≡ true → NumbersInRange s) × (NumbersInRange s → numbers_fit s ≡ true)
  numbers_exact = (numbers_range, numbers_made)
