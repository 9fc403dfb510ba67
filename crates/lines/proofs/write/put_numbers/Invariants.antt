-- `put_numbers` meets its contract. Assumes nothing.
use Prim.Native.Nat.{◌+◌}
use mathlib.Core.Path.{◌≡◌}
use lib.ListN.{length}
use lib.Seq.{sets}
use Rattle.fields.specs.Text.{tabbed}
use Rattle.lines.specs.Writing.{texts_to}
use Rattle.lines.proofs.write.put_numbers.Given as goal

abbrev pub invariant-loop-k : goal.invariant-loop-k
invariant-loop-k l = (l.at ≡ 1 + length (tabbed (texts_to l.kind l.numbers l.k))) × (l.buf ≡ sets l.initial.buf 1 (tabbed (texts_to l.kind l.numbers l.k)))
