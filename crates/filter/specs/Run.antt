-- Document 01, "Computing", for one run: binary64, one rounding an operation, in the stated order.
use Rattle.std.specs.Prelude.{ℕ, ◌*◌, Bool, true, false, cond, ◌&&◌, Float}
use Rattle.std.specs.Float.{binary64}
use Rattle.std.specs.Float.Ieee.{add, sub, mul, div, lt, le}
use Rattle.units.specs.declared.estimate.Estimate.{Estimate}
use Rattle.units.specs.Limits.{factor_scale, x_top, variance_top}
use Rattle.floats.specs.Bits.{of_whole, nought}
use Rattle.filter.specs.declared.run.Outcome.{Outcome}
use Rattle.filter.specs.declared.run.Outcome.TheVariants.{Updated, Predicted}

-- v, or the limit where v exceeds it
unfoldable pub at_most : Float → Float → Float
at_most top v = cond (lt top v) top v

-- "kept if above 0 and at most its upper limit, is the limit if above it, and is +0 in every other case"
unfoldable pub limited : Float → Float → Float
limited top v = cond (lt nought v && le v top) v (cond (lt top v) top nought)

-- "P1 = P + n × q (the product is exact), at most 1,000,000,000"
unfoldable pub grown : Float → ℕ → ℕ → Float
unfolding at_most
grown p n q = at_most (of_whole variance_top) (add binary64 p (of_whole (n * q)))

-- "z = (raw × factor in ten-thousandths, exact) / 10000"
unfoldable pub measured : ℕ → ℕ → Float
measured raw factor = div binary64 (of_whole (raw * factor)) (of_whole factor_scale)

-- "k = P1 / (P1 + r)"
unfoldable pub gain : Float → ℕ → Float
gain p1 r = div binary64 p1 (add binary64 p1 (of_whole r))

-- "x = x + k × (z - x)", held within its limits
unfoldable pub moved : Float → Float → Float → Float
unfolding limited
moved x k z = limited (of_whole x_top) (add binary64 x (mul binary64 k (sub binary64 z x)))

-- "P = (1 - k) × P1", held within its limits
unfoldable pub shrunk : Float → Float → Float
unfolding limited
shrunk k p1 = limited (of_whole variance_top) (mul binary64 (sub binary64 (of_whole 1) k) p1)

-- one run, n rounds after its state: "If the run is in the chosen mask .. Otherwise x stays and P = P1"
unfoldable pub outcome : Estimate → ℕ → ℕ → ℕ → Bool → ℕ → ℕ → Outcome
unfolding limited grown measured gain moved shrunk
outcome e n q r true raw factor =
    Updated (moved e.x (gain (grown e.variance n q) r) (measured raw factor))
    (shrunk (gain (grown e.variance n q) r) (grown e.variance n q))
outcome e n q r false raw factor = Predicted (limited (of_whole variance_top) (grown e.variance n q))

-- the values of an outcome: document 01's x and P after the round
abbrev pub estimate_after : Estimate → Outcome → Estimate
estimate_after e (Updated x p) = record { x = x; variance = p }
estimate_after e (Predicted p) = record { x = e.x; variance = p }
