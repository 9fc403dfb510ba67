-- `LineNumbers::push_targets` meets its contract. Assumes nothing.
use mathlib.Core.Path.{◌≡◌}
use mathlib.Core.List.{◌++◌}
use Rattle.lines.specs.Lists.{joined}
use Rattle.lines.specs.Values.{target_of}
use Rattle.lines.proofs.numbers.LineNumbers.push_targets.Given as goal

abbrev pub invariant-loop-target : goal.invariant-loop-target
invariant-loop-target l = l.self.0 ≡ l.initial.self.0 ++ joined (target_of l.targets) l.target-index
