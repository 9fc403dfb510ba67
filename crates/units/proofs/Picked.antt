-- A definition that goes by cases: how a proof takes one of them. Assumes nothing.
use mathlib.Core.Path.{◌≡◌}
use mathlib.Core.Bool.{Bool, true, false}
use Rattle.units.specs.Pick.{pick}

module _ {A : Type 0} where
  pub by_yes : {t : Bool} {r x : A} (y : A) → t ≡ true → r ≡ x → r ≡ pick t x y
  unfolding pick
  by_yes y e h = rw e h

  pub by_no : {t : Bool} {r y : A} (x : A) → t ≡ false → r ≡ y → r ≡ pick t x y
  unfolding pick
  by_no x e h = rw e h

-- a function of a constructor, where what it is applied to is known to be that constructor
pub along : {A B : Type 0} (f : A → B) {a k : A} {r : B} → a ≡ k → r ≡ f k → r ≡ f a
along f e h = rw e h
