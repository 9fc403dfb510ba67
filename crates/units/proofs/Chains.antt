-- What a chain of iterators finds of all places, as `every` says it: of one array, of two beside each other, and with the place's number. Assumes nothing.
use Rattle.std.proofs.Common.{◌≡◌, ℕ, zero, suc, ◌<◌, ◌≤◌, Bool, ◌&&◌, eqb, List, length, get_or, take, map, refl, sym, ap, ◌∙◌, subst, add-one, zero-add, arith}
use Rattle.std.proofs.lemmas.List.{ext_get_or, length-map, get_or-map}
use lib.Seq.{take_all}
use borrow.Author.Tests.{eq-eqb}
use Rattle.std.specs.Fn.{Called}
use Rattle.std.specs.Iterator.{ChecksAll}
use Rattle.std.specs.Iterator.Adapters.{enumerate_source, enumerate_count, enumerate_steps, zip_first, zip_second}
use Rattle.std.specs.Slice.Iter.{iter_rest}
use denote.Param.Members.{Mut}
use denote.Ref.{Bor}
use Rattle.std.specs.declared.iter.Enumerate.{Enumerate}
use Rattle.std.specs.declared.iter.Zip.{Zip}
use Rattle.std.specs.declared.slice.Iter.{Iter}
use Rattle.std.proofs.iter.Yields.{fronts}
use Rattle.std.proofs.lemmas.Iterator.{YieldsList-from_slice, YieldsList-from_zip, zips}
use Rattle.std.proofs.lemmas.Iterator.Consumers.{YieldsList-from_enumerate}
use Rattle.std.proofs.lemmas.Iterator.Search.{all_from_yields_List}
use Rattle.std.specs.List.{list_all, enumerate_from, zip}
use Rattle.std.proofs.lemmas.List.Folds.{list_all_more}
use Rattle.std.proofs.lemmas.List.FromFn.{length-enumerate_from, get_or-enumerate_from}
use Rattle.std.proofs.lemmas.Slice.Zip.{length-zip, get_or-zip}
use Rattle.units.specs.Every.{every}
use Rattle.units.proofs.Every.{and_true, every_more}

-- of each element, where f says what the test finds at a place
all_every : {A : Type 0} (test : A → Bool) (f : ℕ → Bool) (xs : List A) (d : A) (n : ℕ) → length xs ≡ n
    → ((i : ℕ) → i < n → test (get_or xs i d) ≡ f i) → list_all test xs ≡ every f n
unfolding every
all_every test f xs d n e h = ap (list_all test) (sym (take_all n xs (omega arith))) ∙ upto n (omega arith)
  where
    upto : (i : ℕ) → i ≤ n → list_all test (take i xs) ≡ every f i
    upto zero b = refl
    upto (suc i) b =
        let P : ℕ → Type 0 = λ k. list_all test (take k xs) ≡ every f k in
        subst P (add-one i) (list_all_more test xs i d (omega arith) ∙ every_more f i _ _ (upto i (omega arith)) (h i b))

-- of each element and its place
all_placed : {A : Type 0} (test : ℕ × A → Bool) (f : ℕ → Bool) (xs : List A) (d : A) (n : ℕ) → length xs ≡ n
    → ((i : ℕ) → i < n → test (i, get_or xs i d) ≡ f i) → list_all test (enumerate_from 0 xs) ≡ every f n
all_placed test f xs d n e h =
    all_every test f (enumerate_from 0 xs) (0, d) n (length-enumerate_from 0 xs ∙ e)
    (λ i b. ap test (get_or-enumerate_from 0 xs i (0, d) (omega arith) ∙ ap (λ (k : ℕ). (k, get_or xs i d)) (zero-add i)) ∙ h i b)

module _ {A B : Type 0} (xs : List A) (ys : List B) (d : A) (z : B) (n : ℕ) (e : length xs ≡ n) (k : length ys ≡ n) where
  zipped_length : length (zip xs ys) ≡ n
  zipped_length = omega (arith, length-zip xs ys)

  zipped_at : (i : ℕ) → i < n → get_or (zip xs ys) i (d, z) ≡ (get_or xs i d, get_or ys i z)
  zipped_at i b = get_or-zip xs ys i (d, z) (omega arith) (omega arith)

  -- of each element beside another list's
  all_beside : (test : A × B → Bool) (f : ℕ → Bool) → ((i : ℕ) → i < n → test (get_or xs i d, get_or ys i z) ≡ f i) → list_all test (zip xs ys) ≡ every f n
  all_beside test f h = all_every test f (zip xs ys) (d, z) n zipped_length (λ i b. ap test (zipped_at i b) ∙ h i b)

  -- of both and their place
  all_beside_placed : (test : ℕ × (A × B) → Bool) (f : ℕ → Bool) → ((i : ℕ) → i < n → test (i, (get_or xs i d, get_or ys i z)) ≡ f i)
      → list_all test (enumerate_from 0 (zip xs ys)) ≡ every f n
  all_beside_placed test f h = all_placed test f (zip xs ys) (d, z) n zipped_length (λ i b. ap (λ p. test (i, p)) (zipped_at i b) ∙ h i b)

-- ---- the same of the calls: `xs.iter().enumerate().all(..)`
module _ {A F : Type 0} {f : F} {r : Bool} (xs : List A) (d : A) (n : ℕ) {g : Mut F ((ℕ × Bor A) × Unit {0}) Bool} {s : Enumerate (Iter A)} where
  pub placed_all : (u : Enumerate (Iter A)) (test : ℕ → A → Bool) → ChecksAll (enumerate_steps fronts) g s f r u → iter_rest (enumerate_source s) ≡ xs → enumerate_count s ≡ 0
      → ((x : ℕ × Bor A) (b : Bool) (q : F) → Called g f (x, tt) b q → (q ≡ f) × (b ≡ test x.0 x.1.now)) → length xs ≡ n → r ≡ every (λ i. test i (get_or xs i d)) n
  placed_all u test ran p z k e =
      all_from_yields_List {s = s} (λ (y : ℕ × A). test y.0 y.1) u f r ran (YieldsList-from_enumerate (YieldsList-from_slice xs p) z) k
      ∙ all_placed (λ y. test y.0 y.1) (λ i. test i (get_or xs i d)) xs d n e (λ i b. refl)

-- `xs.iter().zip(ys).all(..)`, and with `.enumerate()` before `.all(..)`
module _ {A B F : Type 0} {f : F} {r : Bool} (xs : List A) (ys : List B) (d : A) (z : B) (n : ℕ) where
  pub beside_all : {g : Mut F ((Bor A × Bor B) × Unit {0}) Bool} {s : Zip (Iter A) (Iter B)} (u : Zip (Iter A) (Iter B)) (test : A → B → Bool) → ChecksAll (zips fronts fronts) g s f r u
      → iter_rest (zip_first s) ≡ xs → iter_rest (zip_second s) ≡ ys
      → ((x : Bor A × Bor B) (b : Bool) (q : F) → Called g f (x, tt) b q → (q ≡ f) × (b ≡ test x.0.now x.1.now))
      → length xs ≡ n → length ys ≡ n → r ≡ every (λ i. test (get_or xs i d) (get_or ys i z)) n
  beside_all {s = s} u test ran p o k e l =
      all_from_yields_List {s = s} (λ (y : A × B). test y.0 y.1) u f r ran (YieldsList-from_zip (YieldsList-from_slice xs p) (YieldsList-from_slice ys o)) k
      ∙ all_beside xs ys d z n e l (λ y. test y.0 y.1) (λ i. test (get_or xs i d) (get_or ys i z)) (λ i b. refl)

  pub beside_placed_all : {g : Mut F ((ℕ × (Bor A × Bor B)) × Unit {0}) Bool} {s : Enumerate (Zip (Iter A) (Iter B))} (u : Enumerate (Zip (Iter A) (Iter B))) (test : ℕ → A → B → Bool)
      → ChecksAll (enumerate_steps (zips fronts fronts)) g s f r u → iter_rest (zip_first (enumerate_source s)) ≡ xs → iter_rest (zip_second (enumerate_source s)) ≡ ys
      → enumerate_count s ≡ 0 → ((x : ℕ × (Bor A × Bor B)) (b : Bool) (q : F) → Called g f (x, tt) b q → (q ≡ f) × (b ≡ test x.0 x.1.0.now x.1.1.now))
      → length xs ≡ n → length ys ≡ n → r ≡ every (λ i. test i (get_or xs i d) (get_or ys i z)) n
  beside_placed_all {s = s} u test ran p o c k e l =
      all_from_yields_List {s = s} (λ (y : ℕ × (A × B)). test y.0 y.1.0 y.1.1) u f r ran
      (YieldsList-from_enumerate (YieldsList-from_zip (YieldsList-from_slice xs p) (YieldsList-from_slice ys o)) c) k
      ∙ all_beside_placed xs ys d z n e l (λ y. test y.0 y.1.0 y.1.1) (λ i. test i (get_or xs i d) (get_or ys i z)) (λ i b. refl)

-- ---- where a test asks an array's length too, which its type tells
pub long_and : {A : Type 0} (xs : List A) (n : ℕ) {r t : Bool} → length xs ≡ n → r ≡ t → r ≡ (eqb (length xs) n && t)
long_and xs n e p = rw (eq-eqb (length xs) n e) p

pub and_long : {A : Type 0} (xs : List A) (n : ℕ) {r t : Bool} → length xs ≡ n → r ≡ t → r ≡ (t && eqb (length xs) n)
and_long xs n {t = t} e p = rw (eq-eqb (length xs) n e) (p ∙ and_true t)

-- ---- an array that another is mapped to has at each place what the function gives
pub by_place : {A B : Type 0} (h : A → B) (d : A) (e : B) (xs : List A) (ys : List B) (n : ℕ) → length xs ≡ n → length ys ≡ n
    → ((i : ℕ) → i < n → get_or ys i e ≡ h (get_or xs i d)) → ys ≡ map h xs
by_place h d e xs ys n a b each =
    ext_get_or e ys (map h xs) (omega (arith, length-map xs h)) (λ i lt. each i (omega arith) ∙ sym (get_or-map h xs i d e (omega arith)))
