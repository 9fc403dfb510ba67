-- `widths` meets its contract. Assumes nothing.
use Prim.Native.Nat.{◌*◌, ◌≤◌}
use mathlib.Core.Path.{◌≡◌}
use lib.ListN.{length}
use Rattle.fields.specs.Text.{tabbed}
use Rattle.lines.specs.Writing.{texts_to}
use Rattle.lines.proofs.write.widths.Given as goal

abbrev pub invariant-loop-k : goal.invariant-loop-k
invariant-loop-k l = (l.sum ≡ length (tabbed (texts_to l.kind l.numbers l.k))) × (l.sum ≤ 17 * l.k)
