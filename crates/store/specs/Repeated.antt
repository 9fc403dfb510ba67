-- "two certificates of one meter share a day"
use Rattle.std.specs.Prelude.{ℕ, Bool, ◌&&◌, List, eqb, length, get_or}
use Rattle.units.specs.Every.{every}
use Rattle.units.specs.Limits.{certificate_top}
use Rattle.message.specs.declared.certificate.Certificate.{Certificate}
use Rattle.store.specs.declared.row.Row.{Row}
use Rattle.store.specs.First.{some, first_of}
use Rattle.store.specs.Row.{no_row}

-- byte for byte, case included
abbrev pub same_byte : Certificate → Certificate → ℕ → Bool
same_byte a b i = eqb (get_or a.bytes i 0) (get_or b.bytes i 0)

unfoldable pub same_name : Certificate → Certificate → Bool
same_name a b = eqb a.len b.len && every (same_byte a b) certificate_top

-- of one meter and one day
abbrev pub shares : Row → Row → Bool
shares a b = same_name a.serial b.serial && eqb a.day b.day

abbrev pub place_of : List Row → ℕ → Row
place_of rows i = get_or rows i no_row

-- a row whose meter and day stand in an earlier row
unfoldable pub stood_at : List Row → ℕ → Bool
stood_at rows i = some (λ j. shares (place_of rows j) (place_of rows i)) i

-- THE FIRST SUCH ROW, from 0; how many there are where there is none
unfoldable pub repeated_at : List Row → ℕ
repeated_at rows = first_of (stood_at rows) (length rows)
