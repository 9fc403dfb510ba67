-- A call at each number below n: the array that they make, and whether all say true. Assumes nothing.
use Rattle.std.proofs.Common.{◌≡◌, ℕ, zero, suc, ◌+◌, ◌<◌, ◌≤◌, Bool, List, get_or, take, refl, sym, ap, ◌∙◌, subst, add-one, zero-add, arith}
use denote.Param.Members.{Mut}
use lib.Seq.{take_all}
use mathlib.Core.Logic.{by_cases}
use native.Mathlib.Decide.{dec_lt}
use Rattle.std.specs.Fn.{Called}
use Rattle.std.specs.Array.{IsFromFnResultFrom, IsFromFnResult}
use Rattle.std.specs.List.{list_all, range_with_len}
use Rattle.std.proofs.lemmas.List.Folds.{list_all_more}
use Rattle.std.proofs.lemmas.List.FromFn.{length-range_with_len, get_or-range_with_len}
use Rattle.units.specs.Every.{every}
use Rattle.units.specs.Tab.{tab}
use Rattle.units.proofs.Every.{every_more}
use Rattle.units.proofs.Tab.{is_tab}

-- `array::from_fn` of a closure that stays as it is
module _ {F A : Type 0} (g : Mut F (ℕ × Unit {0}) A) (c : F) (f : ℕ → A) (same : (i : ℕ) (y : A) (q : F) → Called g c (i, tt) y q → (q ≡ c) × (y ≡ f i)) (d : A) (ys : List A) where
  made_from : (i n j : ℕ) → IsFromFnResultFrom g c ys i n → i ≤ j → j < i + n → get_or ys j d ≡ f j
  made_from i zero j r h k = absurd (omega arith)
  made_from i (suc n) j r h k =
      let s = same i r.1 r.0 r.3 in
      by_cases (dec_lt i j)
      (λ l. let P : F → Type 0 = λ x. IsFromFnResultFrom g x ys (i + 1) n in made_from (i + 1) n j (subst P s.0 r.4) (omega arith) (omega arith))
      (λ l. let P : ℕ → Type 0 = λ x. get_or ys x d ≡ f x in subst P (omega arith) (r.2.1 d ∙ s.1))

  pub made_at : (n : ℕ) → IsFromFnResult g c ys n → (j : ℕ) → j < n → get_or ys j d ≡ f j
  made_at n r j h = made_from 0 n j r.each (omega arith) (omega arith)

  pub made_tab : (n : ℕ) → IsFromFnResult g c ys n → ys ≡ tab f 0 n
  made_tab n r = is_tab f d n ys r.long (made_at n r)

-- `all` of the numbers below n
pub all_numbers : (test f : ℕ → Bool) (n : ℕ) → ((i : ℕ) → i < n → test i ≡ f i) → list_all test (range_with_len 0 n) ≡ every f n
unfolding every
all_numbers test f n h = ap (list_all test) (sym (take_all n (range_with_len 0 n) (omega (arith, length-range_with_len 0 n)))) ∙ upto n (omega arith)
  where
    upto : (i : ℕ) → i ≤ n → list_all test (take i (range_with_len 0 n)) ≡ every f i
    upto zero b = refl
    upto (suc i) b =
        let P : ℕ → Type 0 = λ k. list_all test (take k (range_with_len 0 n)) ≡ every f k in
        subst P (add-one i) (list_all_more test (range_with_len 0 n) i 0 (omega (arith, length-range_with_len 0 n)) ∙ every_more f i _ _ (upto i (omega arith)) (ap test (get_or-range_with_len 0 n i 0 (omega arith) ∙ zero-add i) ∙ h i (omega arith)))
