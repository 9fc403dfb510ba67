-- `digits_at` meets its contract: the digits that are left, after the number so far, say what all say. Assumes nothing.
use mathlib.Core.Path.{◌∙◌}
use native.Mathlib.Omega.{arith}
use Rattle.fields.proofs.Reading.{bytes_got, digits_start, digits_wrong, digits_again, digits_end, digits_short, grown_less, grown_fits}
use Rattle.fields.proofs.digit.digits_at.Goals as goal

pub returns-in_err-get : goal.returns-in_err-get
returns-in_err-get g c = let a = c.args in c.from_residual.ensures ∙ digits_short a.text.now a.at a.k g.row.BASE a.from (omega arith) (omega (arith, c.in_err-get.ensures.lookup.0))

pub returns-in_err-digits : goal.returns-in_err-digits
returns-in_err-digits g c = let a = c.args in c.from_residual-in_err-digits.ensures ∙ digits_short a.text.now a.at a.k g.row.BASE a.from (omega arith) (omega (arith, c.in_ok-get.ensures.lookup.0, c.in_err-digits.ensures.lookup.0))

pub loop-b-init : goal.loop-b-init
loop-b-init g c = (digits_start _ _ _ _ (bytes_got c.args.text.now _ _ c.args.at c.args.k c.in_ok-get.ensures.lookup.0.2 c.in_ok-digits.ensures.lookup.0.1 c.in_ok-digits.ensures.lookup.0.2).1, omega arith)

pub returns-then-d : goal.returns-then-d
returns-then-d g c =
    let l = c.loop-b in
    rw (bytes_got c.args.text.now _ _ c.args.at c.args.k c.in_ok-get.ensures.lookup.0.2 c.in_ok-digits.ensures.lookup.0.1 c.in_ok-digits.ensures.lookup.0.2).0 at (digits_wrong _ _ _ _ _ _ _ l.invariant.0 c.loop-b-test.true c.digit-d.ensures c.if-d.true)

pub overflow_mul-n : goal.overflow_mul-n
overflow_mul-n g c =
    let l = c.loop-b in
    let a = c.args in
    let p = (bytes_got c.args.text.now _ _ c.args.at c.args.k c.in_ok-get.ensures.lookup.0.2 c.in_ok-digits.ensures.lookup.0.1 c.in_ok-digits.ensures.lookup.0.2).1 in
    let f = grown_less a.from g.row.BASE l.n l.b-index c.digit-d.result (omega arith) (omega arith) l.invariant.1 in
    let h = grown_fits a.from a.k l.b-index (omega (arith, p, c.loop-b-test.true)) (omega arith) in
    omega arith

pub overflow_add-n : goal.overflow_add-n
overflow_add-n g c =
    let l = c.loop-b in
    let a = c.args in
    let p = (bytes_got c.args.text.now _ _ c.args.at c.args.k c.in_ok-get.ensures.lookup.0.2 c.in_ok-digits.ensures.lookup.0.1 c.in_ok-digits.ensures.lookup.0.2).1 in
    let f = grown_less a.from g.row.BASE l.n l.b-index c.digit-d.result (omega arith) (omega arith) l.invariant.1 in
    let h = grown_fits a.from a.k l.b-index (omega (arith, p, c.loop-b-test.true)) (omega arith) in
    omega arith

pub loop-b-preserved : goal.loop-b-preserved
loop-b-preserved g c =
    let l = c.loop-b in
    let a = c.args in (
      digits_again _ _ _ _ _ _ _ l.invariant.0 c.loop-b-test.true c.digit-d.ensures c.if-d.false,
      grown_less a.from g.row.BASE l.n l.b-index c.digit-d.result (omega arith) c.if-d.false l.invariant.1,
    )

pub returns : goal.returns
returns g c = let l = c.loop-b in rw (bytes_got c.args.text.now _ _ c.args.at c.args.k c.in_ok-get.ensures.lookup.0.2 c.in_ok-digits.ensures.lookup.0.1 c.in_ok-digits.ensures.lookup.0.2).0 at (digits_end _ _ _ _ _ _ 0 l.invariant.0 c.loop-b-test.false)
