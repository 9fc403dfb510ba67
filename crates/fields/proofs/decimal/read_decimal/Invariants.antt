-- `read_decimal` meets its contract: what is left of the field, after the exact number so far, says what the whole says. Assumes nothing.
use Prim.Native.Nat.{◌+◌, ◌≤◌}
use mathlib.Core.Path.{◌≡◌}
use lib.ListN.{length, drop}
use Rattle.fields.specs.Text.{field_at}
use Rattle.fields.proofs.Reading.{Reading}
use Rattle.fields.proofs.decimal.read_decimal.Given as goal

abbrev pub invariant-loop-i : goal.invariant-loop-i
invariant-loop-i l = (l.i ≤ length l.text) × (l.at + length (field_at l.text l.at) ≡ l.i + length (field_at l.text l.i)) × Reading (field_at l.text l.at) (drop l.i l.text) l.n
