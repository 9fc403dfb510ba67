-- `read_hex` meets its contract. Assumes nothing.
use Prim.Native.Nat.{◌+◌, ◌≤◌}
use native.Mathlib.Omega.{arith}
use lib.ListN.{length}
use Rattle.fields.proofs.Cases.{digits_on, digits_out}
use Rattle.fields.proofs.Reading.{hex_room, hex_within, hex_wrong, hex_more, hex_said}
use Rattle.fields.proofs.hex.read_hex.Goals as goal
use Rattle.fields.proofs.hex.read_hex.Goals.{In_ok-n}

pub digits_at-requires : goal.digits_at-requires
digits_at-requires c = (omega arith, omega arith, omega (arith, hex_room c.args.k (omega arith)))

within : (c : In_ok-n) → c.args.at + c.args.k ≤ length c.args.text.now
within c = hex_within _ _ _ _ _ c.requires.0 c.digits_at.ensures (digits_on c.ok_or.ensures.value c.in_ok-n.was)

pub returns-in_err-n : goal.returns-in_err-n
returns-in_err-n c = digits_out c.ok_or.ensures.value c.in_err-n.was c.from_residual.ensures.1 (hex_wrong _ _ _ _ _ _ _ c.digits_at.ensures)

pub overflow_add-at : goal.overflow_add-at
overflow_add-at c = omega (arith, within (goal.at.overflow_add-at c).In_ok-n)

pub returns-then-not-ends_at : goal.returns-then-not-ends_at
returns-then-not-ends_at c = hex_more _ _ _ _ _ _ _ _ c.digits_at.ensures (digits_on c.ok_or.ensures.value c.in_ok-n.was) _ c.ends_at.ensures c.if-not-ends_at.true

pub overflow_add-at-2 : goal.overflow_add-at-2
overflow_add-at-2 c = omega (arith, within (goal.at.overflow_add-at-2 c).In_ok-n)

pub overflow_add-at-3 : goal.overflow_add-at-3
overflow_add-at-3 c = omega (arith, within (goal.at.overflow_add-at-3 c).In_ok-n)

pub returns : goal.returns
returns c = hex_said _ _ _ _ _ _ _ _ c.digits_at.ensures (digits_on c.ok_or.ensures.value c.in_ok-n.was) _ c.ends_at.ensures c.if-not-ends_at.false _ c.judged.ensures
