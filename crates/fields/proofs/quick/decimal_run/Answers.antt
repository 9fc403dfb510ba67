-- `decimal_run` meets its contract: the digits that are left, after the number so far, say what all say. Assumes nothing.
use mathlib.Core.Path.{ap, refl}
use mathlib.Core.Bool.{not}
use Rattle.fields.proofs.Quicks.{run_fits, run_stop, run_again, run_end, digit_taken}
use native.Mathlib.Omega.{arith}
use Rattle.fields.proofs.quick.decimal_run.Goals as goal

pub returns-then-not-is_digit : goal.returns-then-not-is_digit
returns-then-not-is_digit c = run_stop _ _ _ _ c.loop-end.invariant _ c.near-stop.ensures c.loop-end-test.true _ c.is_digit.ensures (ap not c.if-not-is_digit.true)

pub overflow_mul-n : goal.overflow_mul-n
overflow_mul-n c = let g = run_fits _ _ _ _ c.loop-end.invariant _ c.near-stop.ensures c.loop-end-test.true _ c.is_digit.ensures (ap not c.if-not-is_digit.false) in omega arith

pub overflow_sub-b : goal.overflow_sub-b
overflow_sub-b c = let l = c.loop-end in let d = digit_taken _ _ c.is_digit.ensures (ap not c.if-not-is_digit.false) in omega (arith, d.low)

pub overflow_add-n : goal.overflow_add-n
overflow_add-n c = let g = run_fits _ _ _ _ c.loop-end.invariant _ c.near-stop.ensures c.loop-end-test.true _ c.is_digit.ensures (ap not c.if-not-is_digit.false) in omega arith

pub loop-end-preserved : goal.loop-end-preserved
loop-end-preserved c = run_again _ _ _ _ c.loop-end.invariant _ c.near-stop.ensures c.loop-end-test.true _ c.is_digit.ensures (ap not c.if-not-is_digit.false) _ (rw c.from.ensures refl)

pub returns : goal.returns
returns c = run_end _ _ _ _ c.loop-end.invariant _ c.near-stop.ensures c.loop-end-test.false
