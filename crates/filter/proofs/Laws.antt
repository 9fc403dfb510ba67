-- What a caller goes by: ranges are kept, only the readings of the chosen runs count, and places that are no run stay. Assumes nothing.
use Rattle.std.proofs.Common.{◌≡◌, ℕ, suc, ◌+◌, ◌*◌, ◌^◌, ◌<◌, ◌≤◌, min, Bool, true, false, T, ltb, List, [], ◌∷◌, length, get_or, take, sym, refl, ap, ◌∙◌, subst, suc-le-suc, zero-le, le_trans, le_of_eq, add-zero, zero-lt-suc, zero-add, arith, lit≤, length-take, get_or-take, ltb-true, le-ltb, lt-ltb}
use lib.Ieee.{Float, nan, binary64, fits, add, lt}
use lib.Ieee.Fits.{cond-fits, add-fits, mul-fits, of_int-fits}
use Rattle.units.specs.declared.labels.RoundLabel.{RoundLabel}
use Rattle.units.specs.declared.labels.StateLabel.{StateLabel}
use Rattle.units.specs.declared.estimate.Estimate.{Estimate}
use Rattle.units.specs.declared.settings.Numbers.{Numbers}
use Rattle.units.specs.Labels.{correction}
use Rattle.units.specs.Limits.{x_top, variance_top, target_top, weight_top}
use Rattle.units.specs.Mask.{in_mask}
use Rattle.units.specs.Settings.{numbers_fit}
use Rattle.units.proofs.InRange.{numbers_range}
use Rattle.floats.specs.Bits.{nought}
use Rattle.floats.specs.Ranges.{up_to, estimate_fits, no_estimate, state_fits, targets_fit}
use Rattle.floats.proofs.Limits.{nought_range}
use Rattle.floats.proofs.Places.{estimate_x, estimate_made, state_run, state_blank, state_made, targets_made}
use Rattle.filter.specs.Run.{at_most, grown, moved, shrunk, outcome, estimate_after}
use Rattle.filter.specs.Runs.{place, run_after, runs_after}
use Rattle.filter.specs.Share.{add_all, total, sum_of, weight_sum, share, shared, targets}
use Rattle.filter.specs.Compute.{new_state, set_points, computed}
use Rattle.units.proofs.Tab.{length_tab, get_d_tab, tab_same}
use Rattle.filter.proofs.Rounding.{range_mono, add_range, limited_range, target_range}

-- ---- one run
grown_fits : (p : Float) (n q : ℕ) → T (fits binary64 (grown p n q))
unfolding grown at_most
grown_fits p n q = cond-fits binary64 (lt _ (add binary64 p _)) _ (add binary64 p _) (of_int-fits binary64 _) (add-fits binary64 p _)

outcome_fits : (e : Estimate) (n q r : ℕ) (b : Bool) (raw factor : ℕ) → estimate_fits e ≡ true → estimate_fits (estimate_after e (outcome e n q r b raw factor)) ≡ true
unfolding outcome moved shrunk
outcome_fits e n q r true raw factor h = estimate_made _ (limited_range x_top _ (lit≤ tt) (add-fits binary64 _ _)) (limited_range variance_top _ (lit≤ tt) (mul-fits binary64 _ _))
outcome_fits e n q r false raw factor h = estimate_made _ (estimate_x e h) (limited_range variance_top _ (lit≤ tt) (grown_fits e.variance n q))

outcome_same : (e : Estimate) (n q r : ℕ) (b : Bool) (raw raw' factor : ℕ) → (b ≡ true → raw ≡ raw') → outcome e n q r b raw factor ≡ outcome e n q r b raw' factor
unfolding outcome
outcome_same e n q r true raw raw' factor h = ap (λ (z : ℕ). outcome e n q r true z factor) (h refl)
outcome_same e n q r false raw raw' factor h = refl

place_same : (u : Bool) (e : Estimate) (n q r : ℕ) (b : Bool) (raw raw' factor : ℕ) → (u ≡ true → b ≡ true → raw ≡ raw') → place u e n q r b raw factor ≡ place u e n q r b raw' factor
unfolding place
place_same true e n q r b raw raw' factor h = ap (estimate_after e) (outcome_same e n q r b raw raw' factor (h refl))
place_same false e n q r b raw raw' factor h = refl

-- ---- all runs
module _ (state : List Estimate) (n : ℕ) (s : Numbers) (chosen : ℕ) (readings : List ℕ) where
  runs_at : (i : ℕ) → i < 16 → get_or (runs_after state n s chosen readings) i no_estimate ≡ run_after state n s chosen readings i
  unfolding runs_after
  runs_at i b = get_d_tab (run_after state n s chosen readings) no_estimate 0 16 i b ∙ ap (run_after state n s chosen readings) (zero-add i)

  runs_stays : (i : ℕ) → s.group.m ≤ i → i < 16 → get_or (runs_after state n s chosen readings) i no_estimate ≡ get_or state i no_estimate
  unfolding place
  runs_stays i l b =
      runs_at i b
      ∙ ap (λ (u : Bool). place u (get_or state i no_estimate) n s.q s.r (in_mask chosen i) (get_or readings i 0) (get_or s.factors i 0)) (le-ltb i s.group.m l)

  runs_runs : (i : ℕ) → i < s.group.m → i < 16 → estimate_fits (get_or state i no_estimate) ≡ true → estimate_fits (get_or (runs_after state n s chosen readings) i no_estimate) ≡ true
  unfolding place
  runs_runs i l b h =
      ap estimate_fits
      (runs_at i b
      ∙ ap (λ (u : Bool). place u (get_or state i no_estimate) n s.q s.r (in_mask chosen i) (get_or readings i 0) (get_or s.factors i 0)) (lt-ltb i s.group.m l))
      ∙ outcome_fits (get_or state i no_estimate) n s.q s.r (in_mask chosen i) (get_or readings i 0) (get_or s.factors i 0) h

  runs_length : length (runs_after state n s chosen readings) ≡ 16
  unfolding runs_after
  runs_length = length_tab (run_after state n s chosen readings) 0 16

  runs_fits : state_fits s.group.m state ≡ true → state_fits s.group.m (runs_after state n s chosen readings) ≡ true
  runs_fits h =
      state_made s.group.m (runs_after state n s chosen readings) runs_length
      (λ i l b. runs_runs i l b (state_run s.group.m state i h l b))
      (λ i l b. runs_stays i l b ∙ state_blank s.group.m state i h l b)

  runs_same : (other : List ℕ) → ((i : ℕ) → i < s.group.m → in_mask chosen i ≡ true → get_or readings i 0 ≡ get_or other i 0) → runs_after state n s chosen readings ≡ runs_after state n s chosen other
  unfolding runs_after
  runs_same other h =
      tab_same (run_after state n s chosen readings) (run_after state n s chosen other) 0 16
      (λ i. place_same (ltb i s.group.m) (get_or state i no_estimate) n s.q s.r (in_mask chosen i) (get_or readings i 0) (get_or other i 0) (get_or s.factors i 0) (λ u. h i (ltb-true i s.group.m u)))

-- ---- the total
rest : (a n : ℕ) → a + x_top + n * x_top ≡ a + suc n * x_top
rest a n = omega arith

add_all_range : (a : ℕ) (t : Float) (es : List Estimate) → a + length es * x_top ≤ 2 ^ 53 → up_to a t ≡ true → ((i : ℕ) → i < length es → up_to x_top (get_or es i no_estimate).x ≡ true) → up_to (a + length es * x_top) (add_all t es) ≡ true
unfolding add_all
add_all_range a t [] N p h = ap (λ (k : ℕ). up_to k t) (add-zero a) ∙ p
add_all_range a t (e ∷ es) N p h =
    ap (λ (k : ℕ). up_to k (add_all (add binary64 t e.x) es)) (sym (rest a (length es)))
    ∙ add_all_range (a + x_top) (add binary64 t e.x) es (le_trans (le_of_eq (rest a (length es))) N)
    (add_range a x_top t e.x (small a (length es) N) p (h 0 (zero-lt-suc (length es))))
    (λ i b. h (suc i) (suc-le-suc b))
  where
    small : (a n : ℕ) → a + suc n * x_top ≤ 2 ^ 53 → a + x_top ≤ 2 ^ 53
    small a n k = omega arith

short : (m l k : ℕ) → m ≤ 16 → k ≡ min m l → (k ≤ 16) × (k ≤ m) × (0 + k * x_top ≤ target_top) × (0 + k * x_top ≤ 2 ^ 53)
short m l k e f = (omega arith, omega arith, omega arith, omega arith)

-- at most 17,600,000
total_range : (m : ℕ) (state : List Estimate) → m ≤ 16 → state_fits m state ≡ true → up_to target_top (total m state) ≡ true
unfolding total
total_range m state M h =
    let q = short m (length state) (length (take m state)) M (length-take m state) in
    range_mono (0 + length (take m state) * x_top) target_top (add_all nought (take m state)) q.2
    (add_all_range 0 nought (take m state) q.3 (nought_range 0)
    (λ i b. let l : i < m = omega arith in
    ap (λ (v : Estimate). up_to x_top v.x) (get_or-take m state i no_estimate l)
    ∙ estimate_x (get_or state i no_estimate) (state_run m state i h l (omega arith))))

-- ---- the targets
sum_pos : (ws : List ℕ) → 0 < get_or ws 0 0 → 0 < sum_of ws
unfolding sum_of
sum_pos [] k = k
sum_pos (w ∷ ws) k = omega arith

sum_le : (ws : List ℕ) → ((i : ℕ) → i < length ws → get_or ws i 0 ≤ weight_top) → sum_of ws ≤ length ws * weight_top
unfolding sum_of
sum_le [] h = zero-le
sum_le (w ∷ ws) h = let k = h 0 (zero-lt-suc (length ws)) in let r = sum_le ws (λ i b. h (suc i) (suc-le-suc b)) in omega arith

module _ (s : Numbers) (h : numbers_fit s ≡ true) where
  abbrev m : ℕ
  m = s.group.m

  some : 0 < weight_sum m s.weights
  unfolding weight_sum
  some =
      let M = (numbers_range s h).runs.0 in
      sum_pos (take m s.weights) (subst (λ (k : ℕ). 0 < k) (sym (get_or-take m s.weights 0 0 M)) ((numbers_range s h).weight 0 M).0)

  few : weight_sum m s.weights ≤ 2 ^ 53
  unfolding weight_sum
  few =
      let q = short m (length s.weights) (length (take m s.weights)) (numbers_range s h).runs.1 (length-take m s.weights) in
      let b = sum_le (take m s.weights) (λ i l. let k : i < m = omega arith in le_trans (le_of_eq (get_or-take m s.weights i 0 k)) ((numbers_range s h).weight i k).1) in
      omega arith

  module _ (t : Float) where
    targets_at : (i : ℕ) → i < 16 → get_or (targets t s) i nan ≡ shared t m s.weights (weight_sum m s.weights) i
    unfolding targets
    targets_at i b = get_d_tab (shared t m s.weights (weight_sum m s.weights)) nan 0 16 i b ∙ ap (shared t m s.weights (weight_sum m s.weights)) (zero-add i)

    targets_length : length (targets t s) ≡ 16
    unfolding targets
    targets_length = length_tab (shared t m s.weights (weight_sum m s.weights)) 0 16

    targets_range : up_to target_top t ≡ true → targets_fit m (targets t s) ≡ true
    unfolding share
    targets_range p =
        targets_made m (targets t s) targets_length
        (λ i l b. ap (up_to target_top) (targets_at i b ∙ ap (λ (u : Bool). share u t (get_or s.weights i 0) (weight_sum m s.weights)) (lt-ltb i m l))
        ∙ target_range target_top t (get_or s.weights i 0) (weight_sum m s.weights) (le_trans ((numbers_range s h).weight i l).1 (lit≤ tt)) few some p)
        (λ i l b. targets_at i b ∙ ap (λ (u : Bool). share u t (get_or s.weights i 0) (weight_sum m s.weights)) (le-ltb i m l))

-- the targets of a state in range
set_points_range : (s : Numbers) (state : List Estimate) → numbers_fit s ≡ true → state_fits s.group.m state ≡ true → targets_fit s.group.m (set_points s state) ≡ true
unfolding set_points
set_points_range s state f h = targets_range s f (total s.group.m state) (total_range s.group.m state (numbers_range s f).runs.1 h)

-- ---- computing
module _ (label : RoundLabel) (base : StateLabel) (state : List Estimate) (s : Numbers) (chosen : ℕ) (readings : List ℕ) where
  abbrev next : List Estimate
  next = new_state label base state s chosen readings

  -- settings and a state in range give a state, a total and targets in range: no NaN, no -0, no infinity
  pub state_range : state_fits s.group.m state ≡ true → state_fits s.group.m next ≡ true
  unfolding new_state
  state_range h = runs_fits state (correction label base) s chosen readings h

  pub new_total_range : numbers_fit s ≡ true → state_fits s.group.m state ≡ true → up_to target_top (total s.group.m next) ≡ true
  new_total_range f h = total_range s.group.m next (numbers_range s f).runs.1 (state_range h)

  pub given_range : numbers_fit s ≡ true → state_fits s.group.m state ≡ true → targets_fit s.group.m (set_points s next) ≡ true
  given_range f h = set_points_range s next f (state_range h)

  -- only the readings of the chosen runs below m count
  pub computed_same : (other : List ℕ) → ((i : ℕ) → i < s.group.m → in_mask chosen i ≡ true → get_or readings i 0 ≡ get_or other i 0) → computed label base state s chosen readings ≡ computed label base state s chosen other
  unfolding new_state
  computed_same other h =
      ap (λ (k : List Estimate). record { state = k; targets = set_points s k })
      (runs_same state (correction label base) s chosen readings other h)

  -- a place at m or above is as it was
  pub computed_stays : (i : ℕ) → s.group.m ≤ i → i < 16 → get_or next i no_estimate ≡ get_or state i no_estimate
  unfolding new_state
  computed_stays i l b = runs_stays state (correction label base) s chosen readings i l b
