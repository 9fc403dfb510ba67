-- `read_decimal` meets its contract: what is left of the field, after the exact number so far, says what the whole says. Assumes nothing.
use mathlib.Core.Path.{ap, ◌≡◌, refl, sym}
use mathlib.Core.Bool.{not}
use native.Mathlib.Omega.{arith}
use lib.ListN.{length}
use Rattle.fields.proofs.Reading.{read_start, plain_within, decimal_form, decimal_value, decimal_wrong, ends_none, ends_tab, long_again, read_grown, read_kept}
use Rattle.fields.proofs.decimal.read_decimal.Goals as goal
use Rattle.fields.proofs.decimal.read_decimal.Goals.{then-n-from, else-n-from}

pub returns-then-not-is_plain : goal.returns-then-not-is_plain
returns-then-not-is_plain c = decimal_form _ _ _ _ _ c.is_plain.ensures (ap not c.if-not-is_plain.true)

pub loop-i-init : goal.loop-i-init
loop-i-init c = (plain_within _ _ _ c.is_plain.ensures (ap not c.if-not-is_plain.false), refl, read_start _ _ refl)

pub returns-then-b-eq-TAB : goal.returns-then-b-eq-TAB
returns-then-b-eq-TAB c = let l = c.loop-i in
    decimal_value _ _ _ _ _ c.is_plain.ensures (ap not c.if-not-is_plain.false) _ _ l.invariant.2 _ l.invariant.1
    (ends_tab _ _ c.loop-i-test.true c.if-b-eq-TAB.true) c.judged.ensures

pub returns-then-d-gt9 : goal.returns-then-d-gt9
returns-then-d-gt9 c = let l = c.loop-i in
    decimal_wrong _ _ _ _ _ c.is_plain.ensures (ap not c.if-not-is_plain.false) _ _ l.invariant.2
    c.loop-i-test.true c.if-b-eq-TAB.false _ c.digit-d.ensures c.if-d-gt9.true

pub loop-i-preserved : goal.loop-i-preserved
loop-i-preserved c = let l = c.loop-i in
    let h = c.loop-i-test.true in
    let n = c.if-b-eq-TAB.false in
    let e = c.digit-d.ensures in
    let w = c.if-d-gt9.false in (
      omega arith,
      long_again _ _ _ _ l.invariant.2 h n _ e _ l.invariant.1,
      elim c.if-n-from.branch [
        | then-n-from x ↦ rw x.n-is (read_grown _ _ _ _ l.invariant.2 h n _ e (omega arith) (rw c.from.ensures at x.if-n-from.true))
        | else-n-from x ↦ rw x.n-is (read_kept _ _ _ _ l.invariant.2 h n _ e (omega arith) (rw c.from.ensures at x.if-n-from.false))
      ],
    )

pub returns : goal.returns
returns c = let l = c.loop-i in
    let q : l.i ≡ length c.args.text.now = omega (arith, l.invariant.0, c.loop-i-test.false) in
    decimal_value _ _ _ _ _ c.is_plain.ensures (ap not c.if-not-is_plain.false) _ _ l.invariant.2 _ l.invariant.1
    (sym (ends_none _ _ c.loop-i-test.false)) (rw q c.judged-2.ensures)
