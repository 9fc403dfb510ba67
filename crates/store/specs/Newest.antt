-- "from each meter's newest certificate not after that day"
use Rattle.std.specs.Prelude.{ℕ, ◌≤◌, ◌≡◌, Bool, true, ◌&&◌, List, [], ◌∷◌, leb, ltb}
use Rattle.units.specs.Pick.{pick}
use Rattle.message.specs.declared.certificate.Certificate.{Certificate}
use Rattle.store.specs.declared.row.Row.{Row}
use Rattle.store.specs.Repeated.{same_name}
use Rattle.store.specs.Row.{no_row}
use Rattle.store.specs.Rows.{In}

-- a certificate of the meter, not after the day, and later than the best so far
abbrev pub is_newer : Certificate → ℕ → Row → Row → Bool
is_newer serial day best row = same_name row.serial serial && leb row.day day && ltb best.day row.day

abbrev pub better : Certificate → ℕ → Row → Row → Row
better serial day best row = pick (is_newer serial day best row) row best

unfoldable pub newest_from : Certificate → ℕ → Row → List Row → Row
newest_from serial day best [] = best
newest_from serial day best (row ∷ rows) = newest_from serial day (better serial day best row) rows

-- THE NEWEST CERTIFICATE of a meter not after a day, among all of an export; no row where it has none
abbrev pub newest : Certificate → ℕ → List Row → Row
newest serial day rows = newest_from serial day no_row rows

-- WHAT IT MUST BE (`newest_exact`): in force on the day, and none in force is of a later day
pub record InForce (serial : Certificate) (day : ℕ) (rows : List Row) (row : Row) : Type 0 where
  pub listed : In row rows
  pub meter : same_name row.serial serial ≡ true
  pub begun : row.day ≤ day

pub record Newest (serial : Certificate) (day : ℕ) (rows : List Row) (row : Row) : Type 0 where
  pub inforce : InForce serial day rows row
  pub latest : (other : Row) → InForce serial day rows other → other.day ≤ row.day
