-- `read_day` meets its contract. Assumes nothing.
use Prim.Native.Nat.{◌+◌, ◌≤◌}
use native.Mathlib.Omega.{arith}
use lib.ListN.{length}
use Rattle.fields.proofs.Cases.{digits_on, digits_out}
use Rattle.fields.proofs.Reading.{day_within, day_wrong, day_more, day_said}
use Rattle.fields.proofs.day.read_day.Goals as goal
use Rattle.fields.proofs.day.read_day.Goals.{In_ok-n}

within : (c : In_ok-n) → c.args.at + 8 ≤ length c.args.text.now
within c = day_within _ _ _ c.read_digits.ensures _ (digits_on c.ok_or.ensures.value c.in_ok-n.was)

pub returns-in_err-n : goal.returns-in_err-n
returns-in_err-n c = digits_out c.ok_or.ensures.value c.in_err-n.was c.from_residual.ensures.1 (day_wrong _ _ _ c.read_digits.ensures)

pub overflow_add-at : goal.overflow_add-at
overflow_add-at c = omega (arith, within (goal.at.overflow_add-at c).In_ok-n)

pub returns-then-not-ends_at : goal.returns-then-not-ends_at
returns-then-not-ends_at c = day_more _ _ _ c.read_digits.ensures _ (digits_on c.ok_or.ensures.value c.in_ok-n.was) _ c.ends_at.ensures c.if-not-ends_at.true

pub overflow_add-at-2 : goal.overflow_add-at-2
overflow_add-at-2 c = omega (arith, within (goal.at.overflow_add-at-2 c).In_ok-n)

pub overflow_add-at-3 : goal.overflow_add-at-3
overflow_add-at-3 c = omega (arith, within (goal.at.overflow_add-at-3 c).In_ok-n)

pub returns : goal.returns
returns c = day_said _ _ _ c.read_digits.ensures _ (digits_on c.ok_or.ensures.value c.in_ok-n.was) _ c.ends_at.ensures c.if-not-ends_at.false _ c.dated.ensures
