-- What `limited` keeps, and the code's literal 1.0. Assumes nothing.
use Rattle.std.proofs.Common.{◌≡◌, true, refl}
use lib.Ieee.{Float, binary64, of_bits, of_int, lt, le}
use Rattle.floats.specs.Bits.{of_whole, nought}
use Rattle.filter.specs.Run.{limited}

pub inside : (top v : Float) → lt nought v ≡ true → le v top ≡ true → v ≡ limited top v
unfolding limited
inside top v a b = rw (a, b) refl

pub one_is : of_bits binary64 0x3ff0_0000_0000_0000 ≡ of_whole 1
unfolding of_bits of_int
one_is = refl
