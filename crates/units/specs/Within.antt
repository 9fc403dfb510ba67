-- A number in its range, both ends among it.
use Rattle.std.specs.Prelude.{ℕ, Bool, ◌&&◌, leb}

abbrev pub within : ℕ → ℕ → ℕ → Bool
within low top n = leb low n && leb n top
