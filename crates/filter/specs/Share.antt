-- "The total adds x from run 0 upward, starting at +0. The target of run i is (total × weight i) / sum of weights, or the total where that quotient exceeds it."
use Rattle.std.specs.Prelude.{ℕ, ◌+◌, Bool, true, false, List, [], ◌∷◌, take, nat_lt, slice_index, Float}
use Rattle.std.specs.Float.{binary64}
use Rattle.std.specs.Float.Ieee.{add, mul, div}
use Rattle.units.specs.declared.estimate.Estimate.{Estimate}
use Rattle.units.specs.declared.settings.Numbers.{Numbers}
use Rattle.units.specs.Limits.{runs_top}
use Rattle.floats.specs.Bits.{of_whole, nought}
use Rattle.filter.specs.Run.{at_most}
use Rattle.units.specs.Tab.{tab}

-- x of each, onto t
unfoldable pub add_all : Float → List Estimate → Float
add_all t [] = t
add_all t (e ∷ es) = add_all (add binary64 t e.x) es

-- over all m runs, chosen or not
unfoldable pub total : ℕ → List Estimate → Float
unfolding add_all
total m s = add_all nought (take m s)

unfoldable pub sum_of : List ℕ → ℕ
sum_of [] = 0
sum_of (w ∷ ws) = w + sum_of ws

unfoldable pub weight_sum : ℕ → List ℕ → ℕ
unfolding sum_of
weight_sum m weights = sum_of (take m weights)

unfoldable pub target : Float → ℕ → ℕ → Float
unfolding at_most
target t weight sum = at_most t (div binary64 (mul binary64 t (of_whole weight)) (of_whole sum))

-- a run's target; a place that is no run has +0
unfoldable pub share : Bool → Float → ℕ → ℕ → Float
unfolding target
share true t weight sum = target t weight sum
share false t weight sum = nought

abbrev pub shared : Float → ℕ → List ℕ → ℕ → ℕ → Float
shared t m weights sum i = share (nat_lt i m) t (slice_index weights i) sum

unfoldable pub targets : Float → Numbers → List Float
unfolding tab share weight_sum
targets t s = tab (shared t s.group.m s.weights (weight_sum s.group.m s.weights)) 0 runs_top
