-- One step over a list: what is left of it; and the length of a list that is seen at some `map`. Assumes nothing.
use Prim.Native.Nat.{ℕ, ◌+◌, ◌<◌}
use native.Mathlib.Numerals.{add-one}
use mathlib.Core.Path.{◌≡◌, sym, ◌∙◌}
use mathlib.Core.List.{List, ◌∷◌, map}
use lib.ListN.{length, get_or, drop, length-map}
use lib.Seq.{drop-cons}

-- the length of an array that is a struct's field, of which a proof is told at some `map`
pub length_mapped : {A B : Type 0} (f : A → B) (l : List A) (n : ℕ) → length (map f l) ≡ n → length l ≡ n
length_mapped f l n h = sym (length-map l f) ∙ h

pub drop_step : {A : Type 0} (l : List A) (i : ℕ) (d : A) → i < length l → drop i l ≡ get_or l i d ∷ drop (i + 1) l
drop_step l i d h = rw (add-one, drop-cons l i d)
