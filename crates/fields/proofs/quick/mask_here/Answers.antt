-- `mask_here` meets its contract. Assumes nothing.
use native.Mathlib.Omega.{arith}
use Rattle.fields.proofs.Cases.{digits_on, digits_out}
use Rattle.fields.proofs.Reading.{hex_within}
use Rattle.fields.proofs.Quicks.{mask_wrong, mask_said}
use Rattle.fields.proofs.quick.mask_here.Goals as goal

pub returns-in_err-n : goal.returns-in_err-n
returns-in_err-n c = digits_out c.ok_or.ensures.value c.in_err-n.was c.from_residual.ensures.1 (rw c.requires (mask_wrong _ _ _ _ _ c.digits_at.ensures))

pub overflow_add-at : goal.overflow_add-at
overflow_add-at c = let h = hex_within c.args.text.now c.args.at 4 _ _ (omega arith) c.digits_at.ensures (digits_on c.ok_or.ensures.value c.in_ok-n.was) in omega arith

pub returns : goal.returns
returns c = let l = c.args.limit in rw c.requires (mask_said _ _ l.low l.high _ c.digits_at.ensures _ (digits_on c.ok_or.ensures.value c.in_ok-n.was) _ (rw (← c.requires) c.judged.ensures))
