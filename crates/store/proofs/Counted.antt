-- What the function that counts lines needs. Assumes nothing.
use Prim.Native.Nat.{ℕ}
use mathlib.Core.Path.{◌≡◌, refl}
use mathlib.Core.List.{List, [], ◌∷◌}
use Rattle.std.specs.List.{fold}
use Rattle.store.specs.declared.count.Count.{Count}
use Rattle.store.specs.Kept.{count_byte, counted_on}

-- bytes counted one after the other
pub counted_fold : (k : Count) (bytes : List ℕ) → fold count_byte k bytes ≡ counted_on k bytes
unfolding counted_on
counted_fold k [] = refl
counted_fold k (b ∷ bs) = counted_fold (count_byte k b) bs
