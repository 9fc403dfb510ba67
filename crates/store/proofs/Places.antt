-- A row of an array as the code reads it. Assumes nothing.
use Prim.Native.Nat.{ℕ, zero, suc, ◌<◌}
use mathlib.Core.Path.{◌≡◌, refl}
use mathlib.Core.List.{List, [], ◌∷◌}
use native.Mathlib.Omega.{arith}
use lib.ListN.{length, get_or}
use Rattle.message.specs.Settings.{no_certificate}
use Rattle.store.specs.declared.row.Row.{Row}
use Rattle.store.specs.Row.{no_row}

-- what an array of rows reads as past its end
abbrev pub past : Row
past = record { serial = no_certificate; day = 0; certificate = no_certificate; factor = 0 }

-- below its length the two are the same
pub row_at : (rows : List Row) (i : ℕ) → i < length rows → get_or rows i past ≡ get_or rows i no_row
row_at [] i h = absurd (omega arith)
row_at (x ∷ rows) zero h = refl
row_at (x ∷ rows) (suc i) h = row_at rows i (omega arith)
