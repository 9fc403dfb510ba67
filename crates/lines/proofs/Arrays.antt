-- The arrays of R, U and S, from a message to its line's numbers and back. Assumes nothing.
use Prim.Native.Nat.{ℕ, zero, suc, ◌+◌, ◌*◌, ◌%◌, ◌^◌, ◌≤◌, ◌<◌}
use mathlib.Core.Path.{◌≡◌, refl, sym, ◌∙◌}
use mathlib.Core.List.{List, [], ◌∷◌, ◌++◌, append_assoc, append-nil}
use mathlib.Core.Bool.{Bool, true, false}
use native.Mathlib.Omega.{arith}
use native.Mathlib.Numerals.{add-one}
use native.Mathlib.Nat.{mod-eq_of_lt, add-zero}
use lib.Count.{ones}
use lib.Ieee.{Float, nan}
use lib.ListN.{length, get_or, take, drop, length-append, length-drop, get_or-append}
use lib.Seq.{take-suc, get_or-drop, get_or-append-add}
use borrow.Author.Tests.{lt-ltb, le-ltb, leb-true, le-leb, eqb-true}
use Rattle.units.specs.declared.estimate.Estimate.{Estimate}
use Rattle.units.specs.Limits.{raw_top, x_top, variance_top, target_top, label_top}
use Rattle.units.specs.Mask.{in_mask}
use Rattle.units.specs.Pick.{pick}
use Rattle.floats.specs.Bits.{bits_of, x_bits, variance_bits, target_bits}
use Rattle.floats.specs.Ranges.{no_estimate, state_fits, targets_fit}
use Rattle.floats.proofs.Limits.{x_limit, variance_limit, target_limit, limit_back, bits_range, float_back}
use Rattle.floats.proofs.Places.{estimate_x, estimate_variance, estimate_made, state_length, state_run, state_blank, state_made, targets_length, targets_run, targets_blank, targets_made}
use Rattle.message.specs.Readings.{readings_fit}
use Rattle.message.proofs.Ranges.{readings_length, readings_place, readings_made}
use Rattle.fields.proofs.Cases.{by_test, by_lt}
use Rattle.lines.specs.Lists.{column, joined}
use Rattle.lines.specs.Values.{word, tally, reading_in, estimate_in, target_in, raw_of, floats_of, target_of}
use Rattle.lines.proofs.Columns.{length_column, get_d_column, is_column, bits_step, bits_more, bits_few}

pub word_is : (n : ℕ) → n ≤ label_top → word n ≡ n
word_is n h = mod-eq_of_lt (omega arith)

-- LISTS JOINED
joined_same : (f g : ℕ → List ℕ) (n : ℕ) → ((i : ℕ) → i < n → f i ≡ g i) → joined f n ≡ joined g n
unfolding joined
joined_same f g zero h = refl
joined_same f g (suc n) h = rw (joined_same f g n (λ i l. h i (omega arith)), h n (omega arith))

-- they are the front of a list that goes on with each of them
joined_front : (f : ℕ → List ℕ) (w : ℕ → ℕ) (l : List ℕ) (n : ℕ) → w 0 ≡ 0 → ((i : ℕ) → i < n → take (w (suc i)) l ≡ take (w i) l ++ f i) → joined f n ≡ take (w n) l
unfolding joined
joined_front f w l zero z h = rw z
joined_front f w l (suc n) z h = rw (joined_front f w l n z (λ i k. h i (omega arith))) (sym (h n (omega arith)))

mono : (w : ℕ → ℕ) → ((i : ℕ) → w i ≤ w (suc i)) → (i n : ℕ) → i ≤ n → w i ≤ w n
mono w s i zero h = let q : i ≡ 0 = omega arith in rw q (omega arith)
mono w s i (suc n) h =
    by_lt i (suc n) (λ b. let x = mono w s i n (omega arith) in let y = s n in omega arith) (λ b. let q : i ≡ suc n = omega arith in rw q (omega arith))

module _ (f : ℕ → List ℕ) (w : ℕ → ℕ) (z : w 0 ≡ 0) (more : (i : ℕ) → w (suc i) ≡ w i + length (f i)) where
  joined_length : (n : ℕ) → length (joined f n) ≡ w n
  unfolding joined
  joined_length zero = sym z
  joined_length (suc n) = length-append (joined f n) (f n) ∙ (let a = joined_length n in let b = more n in omega arith)

  -- number j of list i
  list_at : (n i j : ℕ) → i < n → j < length (f i) → get_or (joined f n) (w i + j) 0 ≡ get_or (f i) j 0
  unfolding joined
  list_at zero i j h k = absurd (omega arith)
  list_at (suc n) i j h k =
      let a = joined_length n in
      by_lt i n
      (λ b. let m : w i + j < length (joined f n) = let x = mono w (λ k. let y = more k in omega arith) (suc i) n b in let y = more i in omega arith in
      get_or-append (joined f n) (f n) 0 (w i + j) m ∙ list_at n i j b k)
      (λ b. let q : i ≡ n = omega arith in rw (q, ← a) (get_or-append-add (joined f n) (f n) j 0))

  joined_at : (n i j at : ℕ) → at ≡ w i + j → i < n → j < length (f i) → get_or (joined f n) at 0 ≡ get_or (f i) j 0
  joined_at n i j at e h k = rw e (list_at n i j h k)

-- FROM NUMBERS TO ARRAYS in range
abbrev pub rank : ℕ → ℕ → ℕ
rank mask i = ones (mask % 2 ^ i)

rank_none : (mask : ℕ) → rank mask 0 ≡ 0
rank_none mask = let f = bits_few mask 0 in omega arith

pub rank_suc : (mask i : ℕ) → rank mask (suc i) ≡ tally (in_mask mask i) (rank mask i)
rank_suc mask i = rw (add-one i) at (bits_step mask i)

pub rank_mono : (mask i n : ℕ) → i ≤ n → rank mask i ≤ rank mask n
rank_mono mask i n h = mono (rank mask) (λ j. rw (← add-one j) (let a = bits_more mask j in omega arith)) i n h

pub readings_fit_lem : (mask : ℕ) (vs : List ℕ) → ((i : ℕ) → i < 16 → in_mask mask i ≡ true → get_or vs (3 + rank mask i) 0 ≤ raw_top) → readings_fit mask (column (reading_in mask vs) 16) ≡ true
readings_fit_lem mask vs h =
    readings_made mask (column (reading_in mask vs) 16) (length_column (reading_in mask vs) 16)
    (λ i l. rw (get_d_column (reading_in mask vs) 0 16 i l) (by_test (in_mask mask i)
    (λ t. rw (t, word_is (get_or vs (3 + rank mask i) 0) (let k = h i l t in omega arith)) (le-leb (get_or vs (3 + rank mask i) 0) raw_top (h i l t)))
    (λ t. rw t)))

pub estimates_fit : (n : ℕ) (vs : List ℕ) → ((i : ℕ) → i < n → i < 16 → (get_or vs (2 + 2 * i) 0 ≤ x_bits) × (get_or vs (3 + 2 * i) 0 ≤ variance_bits)) → state_fits n (column (estimate_in n vs) 16) ≡ true
unfolding pick
estimates_fit n vs h =
    state_made n (column (estimate_in n vs) 16) (length_column (estimate_in n vs) 16)
    (λ i a b. rw (get_d_column (estimate_in n vs) no_estimate 16 i b, lt-ltb i n a) (estimate_made _ (bits_range x_top x_bits x_limit _ (h i a b).0) (bits_range variance_top variance_bits variance_limit _ (h i a b).1)))
    (λ i a b. rw (get_d_column (estimate_in n vs) no_estimate 16 i b, le-ltb i n a))

pub targets_fit_lem : (n : ℕ) (vs : List ℕ) → ((i : ℕ) → i < n → i < 16 → get_or vs (4 + i) 0 ≤ target_bits) → targets_fit n (column (target_in n vs) 16) ≡ true
unfolding pick
targets_fit_lem n vs h =
    targets_made n (column (target_in n vs) 16) (length_column (target_in n vs) 16)
    (λ i a b. rw (get_d_column (target_in n vs) nan 16 i b, lt-ltb i n a) (bits_range target_top target_bits target_limit _ (h i a b)))
    (λ i a b. rw (get_d_column (target_in n vs) nan 16 i b, le-ltb i n a))

-- AND FROM THERE TO THE NUMBERS again
abbrev pub raw_at : ℕ → List ℕ → ℕ → List ℕ
raw_at mask vs i = pick (in_mask mask i) (get_or vs (3 + rank mask i) 0 ∷ []) []

abbrev pub floats_at : List ℕ → ℕ → List ℕ
floats_at vs i = get_or vs (2 + 2 * i) 0 ∷ get_or vs (3 + 2 * i) 0 ∷ []

abbrev pub target_at : List ℕ → ℕ → List ℕ
target_at vs i = get_or vs (4 + i) 0 ∷ []

pub raws_again : (mask : ℕ) (vs : List ℕ) → ((i : ℕ) → i < 16 → in_mask mask i ≡ true → get_or vs (3 + rank mask i) 0 ≤ raw_top)
    → joined (raw_of mask (column (reading_in mask vs) 16)) 16 ≡ joined (raw_at mask vs) 16
unfolding pick
raws_again mask vs h =
    joined_same (raw_of mask (column (reading_in mask vs) 16)) (raw_at mask vs) 16
    (λ i l. rw (get_d_column (reading_in mask vs) 0 16 i l) (by_test (in_mask mask i) (λ t. rw (t, word_is (get_or vs (3 + rank mask i) 0) (let k = h i l t in omega arith))) (λ t. rw t)))

pub floats_again : (n : ℕ) (vs : List ℕ) → n ≤ 16 → ((i : ℕ) → i < n → i < 16 → (get_or vs (2 + 2 * i) 0 ≤ x_bits) × (get_or vs (3 + 2 * i) 0 ≤ variance_bits))
    → joined (floats_of (column (estimate_in n vs) 16)) n ≡ joined (floats_at vs) n
unfolding pick
floats_again n vs l h =
    joined_same (floats_of (column (estimate_in n vs) 16)) (floats_at vs) n
    (λ i a. let b : i < 16 = omega arith in rw (get_d_column (estimate_in n vs) no_estimate 16 i b, lt-ltb i n a, limit_back x_top x_bits x_limit _ (h i a b).0, limit_back variance_top variance_bits variance_limit _ (h i a b).1))

pub targets_again : (n : ℕ) (vs : List ℕ) → n ≤ 16 → ((i : ℕ) → i < n → i < 16 → get_or vs (4 + i) 0 ≤ target_bits) → joined (target_of (column (target_in n vs) 16)) n ≡ joined (target_at vs) n
unfolding pick
targets_again n vs l h =
    joined_same (target_of (column (target_in n vs) 16)) (target_at vs) n
    (λ i a. let b : i < 16 = omega arith in rw (get_d_column (target_in n vs) nan 16 i b, lt-ltb i n a, limit_back target_top target_bits target_limit _ (h i a b)))

-- which are the line's own
tally_length : (b : Bool) (n m : ℕ) → tally b n ≡ n + length (pick b (m ∷ []) [])
unfolding pick
tally_length true n m = refl
tally_length false n m = sym (add-zero n)

more_taken : (k : ℕ) (vs : List ℕ) (i : ℕ) → k + i < length vs → take (suc i) (drop k vs) ≡ take i (drop k vs) ++ (get_or vs (k + i) 0 ∷ [])
more_taken k vs i h = take-suc (drop k vs) i 0 (let x = length-drop k vs in omega arith) ∙ rw (get_or-drop k vs i 0)

pub raws_front : (mask : ℕ) (vs : List ℕ) → 3 + rank mask 16 ≤ length vs → joined (raw_at mask vs) 16 ≡ take (rank mask 16) (drop 3 vs)
unfolding pick
raws_front mask vs h = joined_front (raw_at mask vs) (rank mask) (drop 3 vs) 16 (rank_none mask) (λ i l. step i l)
  where
    step : (i : ℕ) → i < 16 → take (rank mask (suc i)) (drop 3 vs) ≡ take (rank mask i) (drop 3 vs) ++ raw_at mask vs i
    step i l =
        by_test (in_mask mask i)
        (λ t. let a : rank mask (suc i) ≡ suc (rank mask i) = rw t at (rank_suc mask i) ∙ add-one (rank mask i) in
        let m = rank_mono mask (suc i) 16 (omega arith) in
        rw (a, t) (more_taken 3 vs (rank mask i) (omega arith)))
        (λ t. let a : rank mask (suc i) ≡ rank mask i = rw t at (rank_suc mask i) in rw (a, t) (sym (append-nil (take (rank mask i) (drop 3 vs)))))

pub floats_front : (n : ℕ) (vs : List ℕ) → 2 + 2 * n ≤ length vs → joined (floats_at vs) n ≡ take (2 * n) (drop 2 vs)
floats_front n vs h =
    joined_front (floats_at vs) (λ i. 2 * i) (drop 2 vs) n refl
    (λ i l.
    let q : 2 * suc i ≡ suc (suc (2 * i)) = omega arith in
    let c : 2 + suc (2 * i) ≡ 3 + 2 * i = omega arith in
    rw (q, more_taken 2 vs (suc (2 * i)) (omega arith), more_taken 2 vs (2 * i) (omega arith), c) (append_assoc (take (2 * i) (drop 2 vs)) (get_or vs (2 + 2 * i) 0 ∷ []) (get_or vs (3 + 2 * i) 0 ∷ [])))

pub targets_front : (n : ℕ) (vs : List ℕ) → 4 + n ≤ length vs → joined (target_at vs) n ≡ take n (drop 4 vs)
targets_front n vs h = joined_front (target_at vs) (λ i. i) (drop 4 vs) n refl (λ i l. more_taken 4 vs i (omega arith))

pub reading_range : (mask : ℕ) (rs : List ℕ) → readings_fit mask rs ≡ true → (i : ℕ) → i < 16 → in_mask mask i ≡ true → get_or rs i 0 ≤ raw_top
reading_range mask rs e i l t = leb-true (get_or rs i 0) raw_top (rw t at (readings_place mask rs e i l))

pub readings_back : (mask : ℕ) (rs vs : List ℕ) → readings_fit mask rs ≡ true → ((i : ℕ) → i < 16 → in_mask mask i ≡ true → get_or vs (3 + rank mask i) 0 ≡ get_or rs i 0)
    → column (reading_in mask vs) 16 ≡ rs
readings_back mask rs vs e h =
    sym (is_column (reading_in mask vs) 0 16 rs (readings_length mask rs e) (λ i l. by_test (in_mask mask i)
    (λ t. rw (t, h i l t) (sym (word_is (get_or rs i 0) (let a = reading_range mask rs e i l t in omega arith))))
    (λ t. rw t (eqb-true (get_or rs i 0) 0 (rw t at (readings_place mask rs e i l))))))

-- the numbers that an estimate or a target in range has
pub estimates_back : (n : ℕ) (es : List Estimate) (vs : List ℕ) → state_fits n es ≡ true
    → ((i : ℕ) → i < n → i < 16 → (get_or vs (2 + 2 * i) 0 ≡ bits_of (get_or es i no_estimate).x) × (get_or vs (3 + 2 * i) 0 ≡ bits_of (get_or es i no_estimate).variance))
    → column (estimate_in n vs) 16 ≡ es
unfolding pick
estimates_back n es vs e h =
    sym (is_column (estimate_in n vs) no_estimate 16 es (state_length n es e) (λ i l. by_lt i n
    (λ a. let f = state_run n es i e a l in rw (lt-ltb i n a, (h i a l).0, (h i a l).1, float_back x_top x_bits x_limit _ (estimate_x _ f), float_back variance_top variance_bits variance_limit _ (estimate_variance _ f)))
    (λ a. state_blank n es i e a l ∙ sym (rw (le-ltb i n a)))))

pub targets_back : (n : ℕ) (ts : List Float) (vs : List ℕ) → targets_fit n ts ≡ true → ((i : ℕ) → i < n → i < 16 → get_or vs (4 + i) 0 ≡ bits_of (get_or ts i nan))
    → column (target_in n vs) 16 ≡ ts
unfolding pick
targets_back n ts vs e h =
    sym (is_column (target_in n vs) nan 16 ts (targets_length n ts e) (λ i l. by_lt i n
    (λ a. rw (lt-ltb i n a, h i a l, float_back target_top target_bits target_limit _ (targets_run n ts i e a l))) (λ a. targets_blank n ts i e a l ∙ sym (rw (le-ltb i n a)))))

-- where each stands among the numbers joined
raw_length : (mask : ℕ) (rs : List ℕ) (i : ℕ) → rank mask (suc i) ≡ rank mask i + length (raw_of mask rs i)
raw_length mask rs i = rank_suc mask i ∙ tally_length (in_mask mask i) (rank mask i) (get_or rs i 0)

pub raws_length : (mask : ℕ) (rs : List ℕ) (n : ℕ) → length (joined (raw_of mask rs) n) ≡ rank mask n
raws_length mask rs n = joined_length (raw_of mask rs) (rank mask) (rank_none mask) (raw_length mask rs) n

pub raws_at : (mask : ℕ) (rs : List ℕ) (i : ℕ) → i < 16 → in_mask mask i ≡ true → get_or (joined (raw_of mask rs) 16) (rank mask i) 0 ≡ get_or rs i 0
unfolding pick
raws_at mask rs i l t = rw t at (joined_at (raw_of mask rs) (rank mask) (rank_none mask) (raw_length mask rs) 16 i 0 (rank mask i) (omega arith) l (rw t (omega arith)))

pub floats_length : (es : List Estimate) (n : ℕ) → length (joined (floats_of es) n) ≡ 2 * n
floats_length es n = joined_length (floats_of es) (λ i. 2 * i) refl (λ i. omega arith) n

pub floats_at_lem : (es : List Estimate) (n i : ℕ) → i < n → (get_or (joined (floats_of es) n) (2 * i) 0 ≡ bits_of (get_or es i no_estimate).x) × (get_or (joined (floats_of es) n) (1 + 2 * i) 0 ≡ bits_of (get_or es i no_estimate).variance)
floats_at_lem es n i l =
    let at = joined_at (floats_of es) (λ i. 2 * i) refl (λ i. omega arith) n i in
    (at 0 (2 * i) (omega arith) l (omega arith), at 1 (1 + 2 * i) (omega arith) l (omega arith))

pub targets_count : (ts : List Float) (n : ℕ) → length (joined (target_of ts) n) ≡ n
targets_count ts n = joined_length (target_of ts) (λ i. i) refl (λ i. omega arith) n

pub target_at_lem : (ts : List Float) (n i : ℕ) → i < n → get_or (joined (target_of ts) n) i 0 ≡ bits_of (get_or ts i nan)
target_at_lem ts n i l = joined_at (target_of ts) (λ i. i) refl (λ i. omega arith) n i 0 i (omega arith) l (omega arith)
