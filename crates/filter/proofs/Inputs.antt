-- What is in range of the inputs, clause by clause, the two answers of `checked`, and that everything taken stays in range. Assumes nothing.
use Rattle.std.proofs.Common.{◌≡◌, ℕ, ◌<◌, ◌≤◌, Bool, true, false, ◌&&◌, leb, List, get_or, replicate, sym, refl, ap, ◌∙◌, subst, arith, ltb-true, le-ltb, lt-ltb, eq-eqb, eqb-true, le-leb, leb-true, Result, Err, Ok}
use mathlib.Core.Logic.{by_cases}
use native.Mathlib.Decide.{dec_lt}
use Rattle.units.specs.declared.labels.RoundLabel.{RoundLabel}
use Rattle.units.specs.declared.labels.StateLabel.{StateLabel}
use Rattle.units.specs.declared.estimate.Estimate.{Estimate}
use Rattle.units.specs.declared.settings.Numbers.{Numbers}
use Rattle.units.specs.declared.refusal.Refusal.TheVariants.{Range}
use Rattle.units.specs.Labels.{before}
use Rattle.units.specs.Limits.{raw_top}
use Rattle.units.specs.Mask.{mask_end, mask_fits}
use Rattle.units.specs.Settings.{numbers_fit}
use Rattle.units.specs.Reading.{reading_place}
use Rattle.units.proofs.Every.{absurd_by, and_left, and_right, and_both, and_three, every_at, every_all}
use Rattle.units.proofs.InRange.{numbers_range, numbers_made}
use Rattle.units.proofs.Masks.{mask_end_is}
use Rattle.floats.specs.Bits.{nought}
use Rattle.floats.specs.Ranges.{state_fits}
use Rattle.floats.proofs.Places.{state_exact, targets_exact}
use Rattle.filter.specs.declared.checked.Uncomputed.{Uncomputed}
use Rattle.filter.specs.declared.compute.Computed.{Computed}
use Rattle.units.specs.Pick.{pick}
use Rattle.filter.specs.Compute.{computed}
use Rattle.filter.specs.Checked.{reading_at, readings_fit, computing_fits, checked, left}
use Rattle.filter.specs.InRange.{ComputingInRange, ComputedInRange}
use Rattle.filter.proofs.Laws.{state_range, new_total_range, given_range}

-- a run's reading is in range
pub reading_run : (m : ℕ) (readings : List ℕ) (i : ℕ) → readings_fit m readings ≡ true → i < m → i < 16 → get_or readings i 0 ≤ raw_top
unfolding readings_fit
reading_run m readings i h l b = leb-true (get_or readings i 0) raw_top (rw (lt-ltb i m l) at (every_at (reading_at m readings) 16 i h b))

-- any other place has none
reading_none : (m : ℕ) (readings : List ℕ) (i : ℕ) → readings_fit m readings ≡ true → m ≤ i → i < 16 → get_or readings i 0 ≡ 0
unfolding readings_fit
reading_none m readings i h l b = eqb-true (get_or readings i 0) 0 (rw (le-ltb i m l) at (every_at (reading_at m readings) 16 i h b))

readings_made : (m : ℕ) (readings : List ℕ) → ((i : ℕ) → i < m → get_or readings i 0 ≤ raw_top) → ((i : ℕ) → m ≤ i → i < 16 → get_or readings i 0 ≡ 0) → readings_fit m readings ≡ true
unfolding readings_fit
readings_made m readings f g = every_all (reading_at m readings) 16 place
  where
    place : (i : ℕ) → i < 16 → reading_at m readings i ≡ true
    place i b =
        by_cases (dec_lt i m) (λ l. ap (λ (t : Bool). reading_place t (get_or readings i 0)) (lt-ltb i m l) ∙ le-leb (get_or readings i 0) raw_top (f i l))
        (λ n. let l : m ≤ i = omega arith in
        ap (λ (t : Bool). reading_place t (get_or readings i 0)) (le-ltb i m l) ∙ eq-eqb (get_or readings i 0) 0 (g i l b))

module _ (label : RoundLabel) (base : StateLabel) (state : List Estimate) (s : Numbers) (chosen : ℕ) (readings : List ℕ) where
  abbrev m : ℕ
  m = s.group.m

  -- the five tests
  computing_parts : computing_fits label base state s chosen readings ≡ true
      → (numbers_fit s ≡ true) × (state_fits m state ≡ true) × (before base label ≡ true) × (mask_fits m chosen ≡ true) × (readings_fit m readings ≡ true)
  unfolding computing_fits
  computing_parts h =
      let a = and_left (numbers_fit s && state_fits m state) _ h in
      let k = and_three (before base label) (mask_fits m chosen) (readings_fit m readings) (and_right (numbers_fit s && state_fits m state) _ h) in
      (and_left (numbers_fit s) (state_fits m state) a, and_right (numbers_fit s) (state_fits m state) a, k.0, k.1, k.2)

  computing_range : computing_fits label base state s chosen readings ≡ true → ComputingInRange label base state s chosen readings
  computing_range h =
      let k = computing_parts h in
      let n = numbers_range s k.0 in
      record {
        settings = n;
        estimates = (state_exact m state).0 k.1;
        older = ltb-true base.0 label.0 k.2;
        some_run = leb-true 1 chosen (and_left (leb 1 chosen) _ k.3);
        own_runs = omega (arith, ltb-true chosen (mask_end m) (and_right (leb 1 chosen) _ k.3), mask_end_is m n.runs.1);
        reading = λ i l. reading_run m readings i k.4 l (omega (arith, n.runs));
        no_reading = λ i l b. reading_none m readings i k.4 l b;
      }

  computing_made : ComputingInRange label base state s chosen readings → computing_fits label base state s chosen readings ≡ true
  unfolding computing_fits
  computing_made f =
      let own : chosen < mask_end m = omega (arith, f.own_runs, mask_end_is m f.settings.runs.1) in
      and_both (and_both (numbers_made s f.settings) ((state_exact m state).1 f.estimates))
      (and_both (and_both (lt-ltb base.0 label.0 f.older) (and_both (le-leb 1 chosen f.some_run) (lt-ltb chosen (mask_end m) own)))
      (readings_made m readings f.reading f.no_reading))

  -- IN RANGE EXACTLY WHEN each clause of document 01 holds
  pub computing_exact : (computing_fits label base state s chosen readings ≡ true → ComputingInRange label base state s chosen readings)
      × (ComputingInRange label base state s chosen readings → computing_fits label base state s chosen readings ≡ true)
  computing_exact = (computing_range, computing_made)

  -- in range: what `computed` gives
  pub checked_in : computing_fits label base state s chosen readings ≡ true
      → (checked label base state s chosen readings ≡ Ok (computed label base state s chosen readings))
      × (left (checked label base state s chosen readings) ≡ computed label base state s chosen readings)
  unfolding checked pick
  checked_in h = rw h (refl, refl)

  -- out of range: 6, the state as it was, and every target +0
  pub checked_out : computing_fits label base state s chosen readings ≡ false
      → (checked label base state s chosen readings ≡ Err (record { why = Range; left = record { state = state; targets = replicate 16 nought } }))
      × (left (checked label base state s chosen readings) ≡ record { state = state; targets = replicate 16 nought })
  unfolding checked pick
  checked_out h = rw h (refl, refl)

  -- only what is in range is taken
  pub taken_computing : (r : Computed) → checked label base state s chosen readings ≡ Ok r → computing_fits label base state s chosen readings ≡ true
  taken_computing r h = told (computing_fits label base state s chosen readings) refl
    where
      told : (b : Bool) → computing_fits label base state s chosen readings ≡ b → computing_fits label base state s chosen readings ≡ true
      told true e = e
      told false e = absurd_by (let z : ◌≡◌ {A = Result Computed Uncomputed} (Err _) (Ok r) = sym (checked_out e).0 ∙ h in cc)

  -- and what is taken gives a state, a total and targets in range, whatever was handed in
  pub taken_range : (r : Computed) → checked label base state s chosen readings ≡ Ok r → ComputedInRange m r
  taken_range r h =
      let k = computing_parts (taken_computing r h) in
      let e : computed label base state s chosen readings ≡ r = let z : ◌≡◌ {A = Result Computed Uncomputed} (Ok (computed label base state s chosen readings)) (Ok r) = sym (checked_in (taken_computing r h)).0 ∙ h in cc in
      subst (ComputedInRange m) e
      (record {
        estimates = (state_exact m _).0 (state_range label base state s chosen readings k.1);
        total_x = new_total_range label base state s chosen readings k.0 k.1;
        given = (targets_exact m _).0 (given_range label base state s chosen readings k.0 k.1);
      })
