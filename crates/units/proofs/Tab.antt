-- `tab`, the list of a function's values, and a loop that fills an array with it from the front. Assumes nothing.
use mathlib.Core.Path.{◌≡◌, refl, sym, ◌∙◌, ap, subst}
use mathlib.Core.List.{List, ◌∷◌}
use Prim.Native.Nat.{ℕ, zero, suc, ◌+◌, ◌<◌, ◌≤◌}
use native.Mathlib.Nat.{add-zero, zero-add, add-suc, suc-add, le_of_suc-le-suc, not-suc-le-zero, ne_of_lt, ne_of_gt, le_of_lt, lt_of_lt_of_le}
use native.Mathlib.Numerals.{lt-add-one}
use borrow.Author.Count.{below_none, below_more}
use lib.ListN.{length, get_or, set, length-set}
use lib.Seq.{get_or-set_same, get_or-set_other, ext_get_or}
use Rattle.units.specs.Tab.{tab}

module _ {A : Type 0} (f : ℕ → A) where
  pub length_tab : (i k : ℕ) → length (tab f i k) ≡ k
  unfolding tab
  length_tab i zero = refl
  length_tab i (suc k) = ap suc (length_tab (suc i) k)

  pub get_d_tab : (d : A) (i k j : ℕ) → j < k → get_or (tab f i k) j d ≡ f (i + j)
  unfolding tab
  get_d_tab d i zero j h = absurd (not-suc-le-zero h)
  get_d_tab d i (suc k) zero h = ap f (sym (add-zero i))
  get_d_tab d i (suc k) (suc j) h = get_d_tab d (suc i) k j (le_of_suc-le-suc h) ∙ ap f (suc-add i j ∙ sym (add-suc i j))

  pub is_tab : (d : A) (k : ℕ) (xs : List A) → length xs ≡ k → ((j : ℕ) → j < k → get_or xs j d ≡ f j) → xs ≡ tab f 0 k
  is_tab d k xs e h =
      ext_get_or d xs (tab f 0 k) (e ∙ sym (length_tab 0 k))
      (λ j b. let c : j < k = subst (λ (n : ℕ). j < n) e b in h j c ∙ sym (get_d_tab d 0 k j c ∙ ap f (zero-add j)))

  -- k places, of which those below i have f's values and the others what they had
  abbrev pub Filled : A → ℕ → List A → List A → ℕ → Type 0
  Filled d k xs₀ xs i = (length xs ≡ k) × ((j : ℕ) → j < i → get_or xs j d ≡ f j) × ((j : ℕ) → i ≤ j → get_or xs j d ≡ get_or xs₀ j d)

  pub fill_none : (d : A) (k : ℕ) (xs₀ : List A) → length xs₀ ≡ k → Filled d k xs₀ xs₀ 0
  fill_none d k xs₀ e = (e, below_none (λ (j : ℕ). get_or xs₀ j d ≡ f j), (λ j h. refl))

  pub fill_more : (d : A) (k : ℕ) (xs₀ xs : List A) (i : ℕ) (v : A) → Filled d k xs₀ xs i → i < k → v ≡ f i → Filled d k xs₀ (set xs i v) (i + 1)
  fill_more d k xs₀ xs i v h b e = (
    length-set xs i v ∙ h.0,
    below_more (λ (j : ℕ). get_or (set xs i v) j d ≡ f j) i
        (λ j c. get_or-set_other xs i j v d (ne_of_lt c) ∙ h.1 j c)
        (get_or-set_same xs i v d (subst (λ (n : ℕ). i < n) (sym h.0) b) ∙ e),
    (λ j c. get_or-set_other xs i j v d (ne_of_gt (lt_of_lt_of_le (lt-add-one i) c)) ∙ h.2 j (le_of_lt (lt_of_lt_of_le (lt-add-one i) c))),
  )

  pub fill_done : (d : A) (k : ℕ) (xs₀ xs : List A) (i : ℕ) → Filled d k xs₀ xs i → k ≤ i → xs ≡ tab f 0 k
  fill_done d k xs₀ xs i h b = is_tab d k xs h.0 (λ j c. h.1 j (lt_of_lt_of_le c b))

-- functions that agree give one list
pub tab_same : {A : Type 0} (f g : ℕ → A) (i k : ℕ) → ((j : ℕ) → f j ≡ g j) → tab f i k ≡ tab g i k
unfolding tab
tab_same f g i zero h = refl
tab_same f g i (suc k) h = λ t. h i t ∷ tab_same f g (suc i) k h t
