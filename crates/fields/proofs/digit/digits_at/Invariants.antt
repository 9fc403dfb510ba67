-- `digits_at` meets its contract: the digits that are left, after the number so far, say what all say. Assumes nothing.
use Prim.Native.Nat.{◌+◌, ◌*◌, ◌^◌, ◌<◌}
use mathlib.Core.Path.{◌≡◌}
use lib.ListN.{drop}
use Rattle.fields.specs.Digits.{value_from, fixed_in}
use Rattle.fields.proofs.digit.digits_at.Given as goal

abbrev pub invariant-loop-b : goal.invariant-loop-b
invariant-loop-b g l = (fixed_in g.row.BASE l.k l.from l.digits ≡ value_from g.row.BASE l.n (drop l.b-index l.digits)) × (l.n < (l.from + 1) * 16 ^ l.b-index)
