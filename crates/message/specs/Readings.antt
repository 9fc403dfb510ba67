-- Readings by run, beside the mask of the runs that have one: sixteen places, 0 where there is none.
use Rattle.std.specs.Prelude.{ℕ, Bool, ◌&&◌, List, eqb, length, get_or}
use Rattle.units.specs.Every.{every}
use Rattle.units.specs.Limits.{runs_top}
use Rattle.units.specs.Mask.{in_mask}
use Rattle.units.specs.Reading.{reading_place}

abbrev pub reading_at : ℕ → List ℕ → ℕ → Bool
reading_at mask readings i = reading_place (in_mask mask i) (get_or readings i 0)

unfoldable pub readings_fit : ℕ → List ℕ → Bool
readings_fit mask readings = eqb (length readings) runs_top && every (reading_at mask readings) runs_top
