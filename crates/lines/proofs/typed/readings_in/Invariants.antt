-- `readings_in` meets its contract. Assumes nothing.
use Prim.Native.Nat.{◌+◌, ◌%◌, ◌^◌}
use mathlib.Core.Path.{◌≡◌}
use lib.Count.{ones}
use Rattle.lines.specs.Values.{reading_in}
use Rattle.lines.proofs.Columns.{Filling}
use Rattle.lines.proofs.typed.readings_in.Given as goal

abbrev pub invariant-loop-i : goal.invariant-loop-i
invariant-loop-i l = (l.at ≡ 3 + ones (l.mask % 2 ^ l.i)) × Filling (reading_in l.mask l.v) 0 0 l.out l.i
