-- Floats and their bits: "A float is the 16 upper-case hex digits of its bits, in its range".
use Rattle.std.specs.Prelude.{ℕ, Bool, cond, ◌&&◌, leb, eqb, pos, Float}
use Rattle.std.specs.Float.{binary64}
use Rattle.std.specs.Float.Ieee.{fits, of_bits, of_int, to_bits}

-- a whole number as a float; exact up to 2 ^ 53
abbrev pub of_whole : ℕ → Float
of_whole n = of_int binary64 (pos n)

-- +0: the float whose bits are all 0
abbrev pub nought : Float
nought = of_bits binary64 0

-- the bits of a float; a NaN's are those of one NaN, past every limit
unfoldable pub bits_of : Float → ℕ
bits_of x = to_bits binary64 x

-- the float of bits up to those of infinity, and +0 for any other
unfoldable pub float_of : ℕ → Float
float_of b = cond (leb b 0x7ff0_0000_0000_0000) (of_bits binary64 b) nought

-- the bits of the limits of x, of the variance and of a target
abbrev pub x_bits : ℕ
x_bits = 0x4130_c8e0_0000_0000

abbrev pub variance_bits : ℕ
variance_bits = 0x41cd_cd65_0000_0000

abbrev pub target_bits : ℕ
target_bits = 0x4170_c8e0_0000_0000

-- both are floats of 64 bits, as every f64 is, and their bits are equal
unfoldable pub same_float : Float → Float → Bool
same_float x y = fits binary64 x && fits binary64 y && eqb (bits_of x) (bits_of y)
