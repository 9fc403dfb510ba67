-- `LineNumbers::push_readings` meets its contract. Assumes nothing.
use mathlib.Core.Path.{◌≡◌}
use mathlib.Core.List.{◌++◌}
use Rattle.lines.specs.Lists.{joined}
use Rattle.lines.specs.Values.{raw_of}
use Rattle.lines.proofs.numbers.LineNumbers.push_readings.Given as goal

abbrev pub invariant-loop-i : goal.invariant-loop-i
invariant-loop-i l = l.self.0 ≡ l.initial.self.0 ++ joined (raw_of l.mask l.readings) l.i
