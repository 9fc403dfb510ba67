-- `run_width` meets its contract. Assumes nothing.
use Prim.Native.Nat.{◌≤◌}
use native.Mathlib.Omega.{arith}
use Rattle.lines.proofs.Putting.{written_short}
use Rattle.lines.proofs.setting.run_width.Goals as goal
use Rattle.lines.proofs.setting.run_width.Goals.{After-width-last}

short : (c : After-width-last) → (c.width-first.result ≤ 16) × (c.width-third.result ≤ 16) × (c.width-last.result ≤ 16)
short c = (rw c.width-first.ensures (written_short _ _), rw c.width-third.ensures (written_short _ _), rw c.width-last.ensures (written_short _ _))

pub returns : goal.returns
returns c =
    omega (arith, short (goal.at.returns c).After-width-last, c.width-first.ensures, rw c.from.ensures at c.width-third.ensures, rw c.from-2.ensures at c.width-last.ensures)

pub overflow_add-result : goal.overflow_add-result
overflow_add-result c = omega (arith, short (goal.at.overflow_add-result c).After-width-last)

pub overflow_add-result-2 : goal.overflow_add-result-2
overflow_add-result-2 c = omega (arith, short (goal.at.overflow_add-result-2 c).After-width-last)

pub overflow_add-result-3 : goal.overflow_add-result-3
overflow_add-result-3 c = omega (arith, short (goal.at.overflow_add-result-3 c).After-width-last)

pub overflow_add-result-4 : goal.overflow_add-result-4
overflow_add-result-4 c = omega (arith, short (goal.at.overflow_add-result-4 c).After-width-last)

pub overflow_add-result-5 : goal.overflow_add-result-5
overflow_add-result-5 c = omega (arith, short (goal.at.overflow_add-result-5 c).After-width-last)

pub overflow_add-result-6 : goal.overflow_add-result-6
overflow_add-result-6 c = omega (arith, short (goal.at.overflow_add-result-6 c).After-width-last)

pub overflow_add-result-7 : goal.overflow_add-result-7
overflow_add-result-7 c = omega (arith, short (goal.at.overflow_add-result-7 c).After-width-last)
