-- "the lines from the top": the certificates of an export, or the first line that is bad.
use Rattle.std.specs.Prelude.{ℕ, ◌+◌, List, [], ◌∷◌, take, Result, Ok, Err}
use Rattle.units.specs.declared.refusal.Refusal.{Refusal}
use Rattle.fields.specs.Lines.{lines_of}
use Rattle.store.specs.declared.gather.BadLine.{BadLine}
use Rattle.store.specs.declared.row.Row.{Row}
use Rattle.store.specs.Row.{Entry, RowInRange, row_of}

-- "more than 512 lines"
abbrev pub rows_top : ℕ
rows_top = 512

-- all lines as rows, or a refusal and the number of its line, from 1
pub data Rows : Type 0 where
  rows : List Row → Rows
  bad : Refusal → ℕ → Rows

-- a line before others
abbrev pub before : Row → Rows → Rows
before row (rows rs) = rows (row ∷ rs)
before row (bad why line) = bad why line

abbrev pub onwards : ℕ → Entry → Rows → Rows
onwards line (Ok row) more = before row more
onwards line (Err why) more = bad why line

-- lines of which the first has a number
unfoldable pub rows_from : ℕ → List (List ℕ) → Rows
rows_from line [] = rows []
rows_from line (l ∷ ls) = onwards line (row_of l) (rows_from (line + 1) ls)

-- THE CERTIFICATES OF AN EXPORT
abbrev pub rows_of : List ℕ → Rows
rows_of export = rows_from 1 (lines_of export)

-- the same as `gather` gives it
abbrev pub gathered_rows : Result ℕ BadLine → List Row → Rows
gathered_rows (Ok n) rs = rows (take n rs)
gathered_rows (Err e) rs = bad e.why e.line

-- a row that is one of them, and that all of them are in range
pub data In : Row → List Row → Type 0 where
  here : {row : Row} {rs : List Row} → In row (row ∷ rs)
  there : {row other : Row} {rs : List Row} → In row rs → In row (other ∷ rs)

abbrev pub AllInRange : List Row → Type 0
AllInRange rs = (row : Row) → In row rs → RowInRange row
