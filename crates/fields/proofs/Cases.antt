-- Proofs by cases on a test, with its outcome, and of a number that goes on by `?`. Assumes nothing.
use Prim.Native.Nat.{ℕ, ◌≤◌, ◌<◌}
use mathlib.Core.Path.{◌≡◌, refl, ap, ◌∙◌}
use mathlib.Core.Bool.{Bool, true, false}
use lib.Dec.{ltb}
use borrow.Author.Tests.{ltb-true, ltb-false}
use Rattle.std.specs.Prelude.{Option, Some, None, Result, Ok, Err, ok_or, IsErrAnd}
use Rattle.std.proofs.lemmas.Result.{err_from_is_err_and}
use Rattle.fields.specs.declared.field.Fault.{Fault}
use Rattle.fields.specs.declared.field.Fault.TheVariants.{Form}
use Rattle.fields.specs.declared.field.Field.{Field}
use Rattle.fields.specs.Field.{value}
pub use Rattle.units.proofs.Every.{absurd_by}

pub by_test : {P : Type 0} (b : Bool) → (b ≡ true → P) → (b ≡ false → P) → P
by_test true f g = f refl
by_test false f g = g refl

pub by_lt : {P : Type 0} (a b : ℕ) → (a < b → P) → (b ≤ a → P) → P
by_lt a b f g = by_test (ltb a b) (λ e. f (ltb-true a b e)) (λ e. g (ltb-false a b e))

-- one field read as two is the same number and the same next place
pub value_same : {k i n m : ℕ} → value k i ≡ value n m → (k ≡ n) × (i ≡ m)
value_same {k = k} {i = i} {n = n} {m = m} e =
    let r : ◌≡◌ {A = Field} (record { n = k; next = i }) (record { n = n; next = m }) = cc in
    (ap (λ (f : Field). f.n) r, ap (λ (f : Field). f.next) r)

-- digits go on as their number by `ok_or(Fault::Form)?`, and out as a field's form where they say none
pub digits_on : {d : Option ℕ} {r : Result ℕ Fault} {n : ℕ} → r ≡ ok_or d Form → r ≡ Ok n → d ≡ Some n
digits_on {d = Some m} p e = cc
digits_on {d = None} p e = absurd_by (cc)

pub digits_out : {d : Option ℕ} {r : Result ℕ Fault} {x : Fault} {g z : Result Field Fault} → r ≡ ok_or d Form → r ≡ Err x → IsErrAnd g (λ y. y ≡ x) → (d ≡ None → Err Form ≡ z) → g ≡ z
digits_out {d = Some m} p e o h = absurd_by (cc)
digits_out {d = None} {g = g} p e o h = let (y, q, s) = err_from_is_err_and g o in let t : y ≡ Form = cc in q ∙ ap Err t ∙ h refl
