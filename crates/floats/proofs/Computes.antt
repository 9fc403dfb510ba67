-- What a proof opens that has the checker compute with floats: `unfolding float_computes` is short for the names under it. Assumes nothing.
use lib.Ieee.{of_int, of_bits, to_bits, fits, lt, le, eq, add, sub, mul, div}
use Rattle.units.specs.Every.{every}
use Rattle.floats.specs.Bits.{bits_of, float_of, same_float}
use Rattle.floats.specs.Ranges.{estimate_fits, same_estimate, state_fits, targets_fit, same_state}

-- binary64 and its bits
unfoldable pub float_computes : Unit {0}
unfolding lt le eq add sub mul div of_int of_bits to_bits fits bits_of float_of same_float
float_computes = tt

-- ranges of floats
unfoldable pub range_computes : Unit {0}
unfolding every estimate_fits same_estimate state_fits targets_fit same_state
range_computes = tt
