-- "certificate (1 to 16 bytes 0x21..0x7E ..)": the bytes that can be seen.
use Rattle.std.specs.Prelude.{ℕ, Bool, ◌&&◌, leb}

abbrev pub visible : ℕ → Bool
visible b = leb 0x21 b && leb b 0x7E
