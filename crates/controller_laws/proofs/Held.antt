-- Readings beside their mask stay in range: one, one more, two sets put together, and those asked for. Assumes nothing.
use Prim.Native.Nat.{ℕ, ◌≤◌, ◌<◌}
use native.Mathlib.Omega.{arith}
use native.Mathlib.Decide.{ℕ_discrete}
use native.Mathlib.Nat.{zero-add}
use mathlib.Core.Path.{◌≡◌, refl, sym, ap, ap₂, subst, ◌∙◌}
use mathlib.Core.Bool.{Bool, true, false, ◌&&◌, ◌||◌, or-true, or-false}
use mathlib.Core.List.{List}
use mathlib.Core.Logic.{by_cases}
use lib.Bits.{bit_and, bit_or}
use lib.ListN.{length, get_or, set, replicate, length-set, get_or-replicate}
use lib.Seq.{get_or-set_same, get_or-set_other}
use borrow.Author.Tests.{le-leb}
use Rattle.units.specs.Limits.{raw_top}
use Rattle.units.specs.Mask.{in_mask}
use Rattle.units.specs.Reading.{reading_place}
use Rattle.units.proofs.Tab.{length_tab, get_d_tab}
use Rattle.units.proofs.Masks.{in_and, in_or}
use Rattle.message.specs.Readings.{reading_at, readings_fit}
use Rattle.message.proofs.Ranges.{readings_length, readings_place, readings_made}
use Rattle.controller.specs.Merge.{run_bit, merged_at, merged, selected}
use Rattle.controller_laws.proofs.Masks.{in_run, not_in_run}

-- a place is in range by what it holds and by whether it is in the mask
placed : {t u : Bool} {x y : ℕ} → t ≡ u → x ≡ y → reading_place u y ≡ true → reading_place t x ≡ true
placed p q h = ap₂ reading_place p q ∙ h

-- ---- one more; of none, that is one
module _ (mask : ℕ) (readings : List ℕ) (fit : readings_fit mask readings ≡ true) (run raw : ℕ) (r : run < 16) (h : raw ≤ raw_top) where
  pub more_fit : readings_fit (bit_or mask (run_bit run)) (set readings run raw) ≡ true
  more_fit = readings_made _ _ (length-set readings run raw ∙ readings_length mask readings fit) place
    where
      here : reading_at (bit_or mask (run_bit run)) (set readings run raw) run ≡ true
      here =
          placed {t = in_mask (bit_or mask (run_bit run)) run} {u = true}
          (in_or mask (run_bit run) run ∙ ap (λ (b : Bool). in_mask mask run || b) (in_run run r) ∙ or-true (in_mask mask run))
          (get_or-set_same readings run raw 0 (omega (arith, readings_length mask readings fit))) (le-leb raw raw_top h)

      place : (i : ℕ) → i < 16 → reading_at (bit_or mask (run_bit run)) (set readings run raw) i ≡ true
      place i k =
          by_cases (ℕ_discrete i run)
          (λ e. subst (λ (j : ℕ). reading_at (bit_or mask (run_bit run)) (set readings run raw) j ≡ true) (sym e) here)
          (λ n. placed (in_or mask (run_bit run) i ∙ ap (λ (b : Bool). in_mask mask i || b) (not_in_run run i r k n) ∙ or-false (in_mask mask i))
          (get_or-set_other readings run i raw 0 n) (readings_place mask readings fit i k))

-- ---- put together
pub merged_length : (mask : ℕ) (new old : List ℕ) → length (merged mask new old) ≡ 16
unfolding merged
merged_length mask new old = length_tab (λ (i : ℕ). merged_at (in_mask mask i) (get_or new i 0) (get_or old i 0)) 0 16

pub merged_place : (mask : ℕ) (new old : List ℕ) (i : ℕ) → i < 16 → get_or (merged mask new old) i 0 ≡ merged_at (in_mask mask i) (get_or new i 0) (get_or old i 0)
unfolding merged
merged_place mask new old i k =
    get_d_tab (λ (j : ℕ). merged_at (in_mask mask j) (get_or new j 0) (get_or old j 0)) 0 0 16 i k
    ∙ ap (λ (j : ℕ). merged_at (in_mask mask j) (get_or new j 0) (get_or old j 0)) (zero-add i)

-- a place of two sets: in the new one, or else as in the old one
either : (t u : Bool) (x y : ℕ) → reading_place t x ≡ true → reading_place u y ≡ true → reading_place (u || t) (merged_at t x y) ≡ true
either true true x y p q = p
either true false x y p q = p
either false true x y p q = q
either false false x y p q = q

pub merged_fit : (mask : ℕ) (new : List ℕ) → readings_fit mask new ≡ true → (held : ℕ) (old : List ℕ) → readings_fit held old ≡ true
    → readings_fit (bit_or held mask) (merged mask new old) ≡ true
merged_fit mask new p held old q =
    readings_made _ _ (merged_length mask new old)
    (λ i k. placed (in_or held mask i) (merged_place mask new old i k)
    (either (in_mask mask i) (in_mask held i) (get_or new i 0) (get_or old i 0) (readings_place mask new p i k) (readings_place held old q i k)))

-- ---- those asked for, among those held
shared : (t u : Bool) (x : ℕ) → reading_place u x ≡ true → reading_place (t && u) (merged_at (t && u) x 0) ≡ true
shared true true x p = p
shared true false x p = refl
shared false u x p = refl

pub selected_fit : (mask held : ℕ) (readings : List ℕ) → readings_fit held readings ≡ true → readings_fit (bit_and mask held) (selected (bit_and mask held) readings) ≡ true
selected_fit mask held readings h =
    readings_made _ _ (merged_length (bit_and mask held) readings (replicate 16 0))
    (λ i k. placed (in_and mask held i)
    (merged_place (bit_and mask held) readings (replicate 16 0) i k
    ∙ ap₂ (λ (t : Bool) (z : ℕ). merged_at t (get_or readings i 0) z) (in_and mask held i) (get_or-replicate 16 i 0 0 k))
    (shared (in_mask mask i) (in_mask held i) (get_or readings i 0) (readings_place held readings h i k)))
