-- The laws of `some` and `first_of`: some place where a test holds, and the least. Assumes nothing.
use Prim.Native.Nat.{ℕ, zero, suc, ◌≤◌, ◌<◌}
use mathlib.Core.Path.{◌≡◌, refl, sym, ap, ◌∙◌}
use mathlib.Core.Bool.{Bool, true, false, ◌||◌, cond}
use mathlib.Core.List.{List}
use native.Mathlib.Omega.{arith}
use lib.Dec.{ltb}
use lib.ListN.{length, get_or, take}
use lib.Seq.{take-suc, get_or-take, length-take-le}
use borrow.Author.Tests.{le-ltb, lt-ltb, ltb-true, ltb-false}
use Rattle.std.proofs.Common.{Option, Some, None}
use Rattle.std.specs.List.{list_any, position_or_len}
use Rattle.std.specs.Option.{MatchOption}
use Rattle.std.proofs.lemmas.List.Recursion.{or_push}
use Rattle.std.proofs.lemmas.List.Sums.{position_or_len_is}
use Rattle.units.specs.Pick.{pick}
use Rattle.units.proofs.Every.{no_way}
use Rattle.fields.proofs.Cases.{by_test, by_lt}
use Rattle.store.specs.First.{some, first_of, place_below}

or_true : (a : Bool) → (a || true) ≡ true
or_true true = refl
or_true false = refl

-- a test cannot hold and fail
pub never_both : {A : Type 0} (b : Bool) → b ≡ true → b ≡ false → A
never_both b t u = no_way (sym u ∙ t)

module _ (f : ℕ → Bool) where
  -- A PLACE where the test holds is found
  pub some_at : (n : ℕ) → some f n ≡ true → (j : ℕ) × (j < n) × (f j ≡ true)
  unfolding some
  some_at zero = λ e. no_way e
  some_at (suc n) = by_test (some f n) (λ t. rw t (λ e. let w = some_at n t in (w.0, let l = w.1 in omega arith, w.2))) (λ t. rw t (λ e. (n, omega arith, e)))

  -- where it holds at a place below n it holds at some
  pub some_of : (n j : ℕ) → j < n → f j ≡ true → some f n ≡ true
  unfolding some
  some_of zero j h e = absurd (omega arith)
  some_of (suc n) j h e = by_lt j n (λ l. rw (some_of n j l e)) (λ l. let q : j ≡ n = omega arith in rw (rw q at e) (or_true (some f n)))

  -- it holds at some place EXACTLY WHEN there is one
  pub some_exact : (n : ℕ) → (some f n ≡ true → (j : ℕ) × (j < n) × (f j ≡ true)) × ((j : ℕ) × (j < n) × (f j ≡ true) → some f n ≡ true)
  some_exact n = (some_at n, λ w. some_of n w.0 w.1 w.2)

  -- where it holds at none it fails at each
  -- THE LEAST PLACE: no place past the end
  pub first_le : (n : ℕ) → first_of f n ≤ n
  unfolding first_of pick
  first_le zero = omega arith
  first_le (suc n) = let h = first_le n in by_test (ltb (first_of f n) n) (λ t. rw t (omega arith)) (λ t. rw t (by_test (f n) (λ u. rw u (omega arith)) (λ u. rw u (omega arith))))

  -- the test holds there
  pub first_holds : (n : ℕ) → first_of f n < n → f (first_of f n) ≡ true
  unfolding first_of pick
  first_holds zero = λ h. absurd (omega arith)
  first_holds (suc n) =
      by_test (ltb (first_of f n) n) (λ t. rw t (λ h. first_holds n (ltb-true (first_of f n) n t)))
      (λ t. rw t (by_test (f n) (λ u. rw u (λ h. u)) (λ u. rw u (λ h. absurd (omega arith)))))

  -- and at no place below it
  pub first_least : (n i : ℕ) → i < first_of f n → f i ≡ false
  unfolding first_of pick
  first_least zero i = λ h. absurd (omega arith)
  first_least (suc n) i =
      by_test (ltb (first_of f n) n) (λ t. rw t (λ h. first_least n i h))
      (λ t. let b = ltb-false (first_of f n) n t in rw t (by_test (f n) (λ u. rw u (λ h. first_least n i (omega arith)))
      (λ u. rw u (λ h. by_lt i n (λ l. first_least n i (omega arith)) (λ l. let e : i ≡ n = omega arith in rw e u)))))

  -- where there is none it holds nowhere
  pub first_never : (n : ℕ) → n ≤ first_of f n → (i : ℕ) → i < n → f i ≡ false
  first_never n h i l = first_least n i (omega arith)

  -- a place where it holds, and none below it does, is that place
  pub first_only : (n i : ℕ) → i < n → f i ≡ true → ((j : ℕ) → j < i → f j ≡ false) → first_of f n ≡ i
  first_only n i h e b =
      by_lt (first_of f n) i (λ l. never_both (f (first_of f n)) (first_holds n (omega arith)) (b (first_of f n) l))
      (λ l. by_lt i (first_of f n) (λ m. never_both (f i) e (first_least n i m)) (λ m. omega arith))

  -- where it holds nowhere there is none
  pub first_all : (n : ℕ) → ((j : ℕ) → j < n → f j ≡ false) → first_of f n ≡ n
  first_all n b =
      let k = first_le n in
      by_lt (first_of f n) n (λ l. never_both (f (first_of f n)) (first_holds n l) (b (first_of f n) l)) (λ l. omega arith)

  -- THE LEAST PLACE as a search over the places answers it
  pub place_found : (n : ℕ) (r : Option ℕ) → MatchOption r ((k : ℕ) → 0 ≤ k → k < n → f k ≡ false) (λ i. (0 ≤ i) × (i < n) × (f i ≡ true) × ((k : ℕ) → 0 ≤ k → k < i → f k ≡ false)) → r ≡ place_below (first_of f n) n
  unfolding pick
  place_found n None h = rw (first_all n (λ j l. h j (omega arith) l), le-ltb n n (omega arith))
  place_found n (Some i) h = rw (first_only n i h.1 h.2 (λ j l. h.3 j (omega arith) l), lt-ltb i n h.1)

-- TESTS THAT AGREE below n
module _ (f g : ℕ → Bool) where
  -- it holds at some place of both or of neither
  pub some_same : (n : ℕ) → ((i : ℕ) → i < n → f i ≡ g i) → some f n ≡ some g n
  unfolding some
  some_same zero h = refl
  some_same (suc n) h = rw (some_same n (λ i l. h i (omega arith)), h n (omega arith))

  -- they have the same first place
  pub first_same : (n : ℕ) → ((i : ℕ) → i < n → f i ≡ g i) → first_of f n ≡ first_of g n
  unfolding first_of
  first_same zero h = refl
  first_same (suc n) h = rw (first_same n (λ i l. h i (omega arith)), h n (omega arith))

-- THE LEAST PLACE IN A LIST, as a search over the first n of its elements answers it
module _ {A : Type 0} (p : A → Bool) (xs : List A) (d : A) where
  abbrev at : ℕ → Bool
  at j = p (get_or xs j d)

  pub place_of_all : cond (ltb (position_or_len p xs) (length xs)) (Some (position_or_len p xs)) None ≡ place_below (first_of at (length xs)) (length xs)
  unfolding pick
  place_of_all =
      let n = length xs in
      rw (position_or_len_is p xs (first_of at n) d (first_le at n) (λ k h. first_least at n k h) (first_holds at n)) (by_test (ltb (first_of at n) n) (λ t. rw t) (λ t. rw t))

pub place_taken : {A : Type 0} (p : A → Bool) (xs : List A) (d : A) (n : ℕ) → n ≤ length xs
    → cond (ltb (position_or_len p (take n xs)) (length (take n xs))) (Some (position_or_len p (take n xs))) None ≡ place_below (first_of (λ j. p (get_or xs j d)) n) n
place_taken p xs d n h =
    place_of_all p (take n xs) d
    ∙ rw (length-take-le n xs h) (ap (λ (i : ℕ). place_below i n) (first_same (λ j. p (get_or (take n xs) j d)) (λ j. p (get_or xs j d)) n (λ j l. ap p (get_or-take n xs j d l))))

-- a test that holds of one of the first n elements holds at some place below n
pub some_taken : {A : Type 0} (p : A → Bool) (xs : List A) (d : A) (n : ℕ) → n ≤ length xs → list_any p (take n xs) ≡ some (λ j. p (get_or xs j d)) n
unfolding some
some_taken p xs d zero h = refl
some_taken p xs d (suc n) h = rw (take-suc xs n d h) (or_push (list_any p) p refl (λ x l. refl) (take n xs) (get_or xs n d) ∙ ap (λ (b : Bool). b || p (get_or xs n d)) (some_taken p xs d n (omega arith)))
