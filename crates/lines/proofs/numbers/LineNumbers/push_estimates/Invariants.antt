-- `LineNumbers::push_estimates` meets its contract. Assumes nothing.
use mathlib.Core.Path.{◌≡◌}
use mathlib.Core.List.{◌++◌}
use Rattle.lines.specs.Lists.{joined}
use Rattle.lines.specs.Values.{floats_of}
use Rattle.lines.proofs.numbers.LineNumbers.push_estimates.Given as goal

abbrev pub invariant-loop-e : goal.invariant-loop-e
invariant-loop-e l = l.self.0 ≡ l.initial.self.0 ++ joined (floats_of l.estimates) l.e-index
