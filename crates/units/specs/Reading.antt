-- "raw reading, litres an hour 0..1,000,000", at a place of an array that may have none: 0 there.
use Rattle.std.specs.Prelude.{ℕ, Bool, true, false, leb, eqb}
use Rattle.units.specs.Limits.{raw_top}

abbrev pub reading_place : Bool → ℕ → Bool
reading_place true raw = leb raw raw_top
reading_place false raw = eqb raw 0
