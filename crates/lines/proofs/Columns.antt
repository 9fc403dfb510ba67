-- Lists made place by place: their places, and a loop that fills an array with them from the front. Assumes nothing.
use Prim.Native.Nat.{ℕ, zero, suc, ◌+◌, ◌-◌, ◌/◌, ◌%◌, ◌^◌, ◌≤◌, ◌<◌}
use mathlib.Core.Path.{◌≡◌, refl, sym, ap, subst, ◌∙◌}
use mathlib.Core.List.{List, [], ◌∷◌, ◌++◌}
use native.Mathlib.Omega.{arith}
use native.Mathlib.Nat.{mod-lt}
use lib.Count.{ones, ones_cat, ones-le}
use lib.Dec.{eqb, lit<}
use lib.ListN.{length, get_or, drop, replicate, length-append, length-drop, get_or-eq_default, length-replicate, get_or-replicate, get_or-append}
use lib.Pow.{mod-pow-add, pow_mono}
use lib.Seq.{ext_get_or, get_or-append_seam, get_or-append-add, get_or-drop}
use borrow.Author.Tests.{eqb-true, eqb-false}
use Rattle.units.specs.Mask.{in_mask}
use Rattle.units.proofs.Tab.{Filled, fill_none}
use Rattle.fields.proofs.Cases.{by_test, by_lt}
use Rattle.lines.specs.Lists.{column}
use Rattle.lines.specs.Values.{tally}

module _ {A : Type 0} (f : ℕ → A) where
  pub length_column : (n : ℕ) → length (column f n) ≡ n
  unfolding column
  length_column zero = refl
  length_column (suc n) = length-append (column f n) (f n ∷ []) ∙ (let e = length_column n in omega arith)

  pub get_d_column : (d : A) (n i : ℕ) → i < n → get_or (column f n) i d ≡ f i
  unfolding column
  get_d_column d zero i h = absurd (omega arith)
  get_d_column d (suc n) i h =
      let e = length_column n in
      by_lt i n
      (λ l. let m : i < length (column f n) = omega arith in get_or-append (column f n) (f n ∷ []) d i m ∙ get_d_column d n i l)
      (λ l. let q : i ≡ length (column f n) = omega arith in let p : n ≡ i = omega arith in rw q (get_or-append_seam (column f n) (f n) [] d) ∙ ap f p)

  pub is_column : (d : A) (n : ℕ) (xs : List A) → length xs ≡ n → ((i : ℕ) → i < n → get_or xs i d ≡ f i) → xs ≡ column f n
  is_column d n xs e h =
      ext_get_or d xs (column f n) (e ∙ sym (length_column n)) (λ i l. let k : i < n = omega arith in h i k ∙ sym (get_d_column d n i k))

  -- sixteen places, of which those below i are f's and the others as they were
  abbrev pub Filling : A → A → List A → ℕ → Type 0
  Filling d rest xs i = Filled f d 16 (replicate 16 rest) xs i

  pub fill_start : (d rest : A) → Filling d rest (replicate 16 rest) 0
  fill_start d rest = fill_none f d 16 (replicate 16 rest) (length-replicate 16 rest)

  pub fill_done : (d rest : A) (xs : List A) (i : ℕ) → Filling d rest xs i → ((j : ℕ) → i ≤ j → j < 16 → f j ≡ rest) → xs ≡ column f 16
  fill_done d rest xs i w h =
      is_column d 16 xs w.0 (λ j l. by_lt j i (λ b. w.1 j b) (λ b. w.2 j b ∙ get_or-replicate 16 j rest d l ∙ sym (h j b l)))

  -- a place that stays as it was
  pub fill_kept : (d rest : A) (xs : List A) (i : ℕ) → Filling d rest xs i → i < 16 → rest ≡ f i → Filling d rest xs (i + 1)
  fill_kept d rest xs i w h e = (
    w.0,
    λ j k. by_lt j i (λ b. w.1 j b) (λ b. let q : j ≡ i = omega arith in rw q (w.2 i (omega arith) ∙ get_or-replicate 16 i rest d h ∙ e)),
    λ j k. w.2 j (omega arith),
  )

pub column_same : {A : Type 0} (f g : ℕ → A) (n : ℕ) → ((i : ℕ) → i < n → f i ≡ g i) → column f n ≡ column g n
unfolding column
column_same f g zero h = refl
column_same f g (suc n) h = rw (column_same f g n (λ i l. h i (omega arith)), h n (omega arith))

-- a list, and 0 at the places after it
pub column_padded : (cs : List ℕ) → length cs ≤ 16 → cs ++ drop (length cs) (replicate 16 0) ≡ column (λ i. get_or cs i 0) 16
column_padded cs h =
    is_column (λ i. get_or cs i 0) 0 16 (cs ++ z) (omega (arith, length-append cs z, length-drop {A = ℕ} (length cs) (replicate 16 0), length-replicate {A = ℕ} 16 0))
    (λ i l. by_lt i (length cs) (λ b. get_or-append cs z 0 i b) (λ b. let q : length cs + (i - length cs) ≡ i = omega arith in subst P q (past (i - length cs) (omega arith))))
  where
    z : List ℕ
    z = drop (length cs) (replicate 16 0)

    P : ℕ → Type 0
    P i = get_or (cs ++ z) i 0 ≡ get_or cs i 0

    past : (j : ℕ) → length cs + j < 16 → P (length cs + j)
    past j l =
        get_or-append-add cs z j 0 ∙ get_or-drop (length cs) (replicate 16 0) j 0 ∙ get_or-replicate 16 (length cs + j) 0 0 l
        ∙ sym (get_or-eq_default cs 0 {n = length cs + j} (omega arith))

-- THE BITS OF A MASK
one_bit : (n : ℕ) → n < 2 → ones n ≡ n
unfolding ones
one_bit zero h = refl
one_bit (suc zero) h = refl
one_bit (suc (suc n)) h = absurd (omega arith)

pub bits_more : (mask i : ℕ) → ones (mask % 2 ^ (i + 1)) ≡ ones (mask % 2 ^ i) + mask / 2 ^ i % 2
bits_more mask i =
    let q : i + 1 ≡ 1 + i = omega arith in
    let p : 0 < 2 ^ i = pow_mono {i = 0} {j = i} (omega arith) in
    let b : mask / 2 ^ i % 2 < 2 = mod-lt (mask / 2 ^ i) (lit< tt) in
    rw (q, mod-pow-add mask 1 i, ones_cat i (mask / 2 ^ i % 2) (mask % 2 ^ i) (mod-lt mask p), one_bit (mask / 2 ^ i % 2) b) (omega arith)

pub bits_step : (mask i : ℕ) → ones (mask % 2 ^ (i + 1)) ≡ tally (in_mask mask i) (ones (mask % 2 ^ i))
bits_step mask i =
    let b : mask / 2 ^ i % 2 < 2 = mod-lt (mask / 2 ^ i) (lit< tt) in
    bits_more mask i ∙ by_test (eqb (mask / 2 ^ i % 2) 1)
    (λ t. rw t (let e = eqb-true (mask / 2 ^ i % 2) 1 t in omega arith))
    (λ t. rw t (let e = eqb-false (mask / 2 ^ i % 2) 1 t in let z : mask / 2 ^ i % 2 ≡ 0 = by_lt (mask / 2 ^ i % 2) 1 (λ h. omega arith) (λ h. absurd (e (omega arith))) in omega arith))

pub bits_few : (mask i : ℕ) → ones (mask % 2 ^ i) ≤ i
bits_few mask i = ones-le i (mask % 2 ^ i) (mod-lt mask (pow_mono {i = 0} {j = i} (omega arith)))
