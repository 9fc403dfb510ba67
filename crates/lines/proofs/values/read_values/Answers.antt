-- `read_values` meets its contract. Assumes nothing.
use mathlib.Core.Path.{ap, sym, ◌∙◌}
use mathlib.Core.Bool.{not}
use Rattle.lines.proofs.Stages.{enough_heads, values_few, values_rest, values_stop}
use native.Mathlib.Omega.{arith}
use borrow.Author.Tests.{not-false}
use Rattle.lines.proofs.values.read_values.Goals as goal

pub read_on-requires : goal.read_on-requires
read_on-requires c =
    let s = c in let n = c.count_of-heads.ensures in
    let e = enough_heads s.args.kind s.args.group s.args.line.fields (sym c.is_enough.ensures ∙ not-false _ (ap not c.if-not-is_enough.false)) in
    (omega arith, n.1, omega (arith, s.args.line.counted, n.0), s.requires.0, s.requires.1, s.requires.2)

pub read_rest-requires : goal.read_rest-requires
read_rest-requires c =
    let s = c in let r = c.read_on.ensures in
    let n = c.count_of-heads.ensures in let t = c.in_ok-at.was in
    let e = enough_heads s.args.kind s.args.group s.args.line.fields
    (sym c.is_enough.ensures ∙ not-false _ (ap not c.if-not-is_enough.false)) in
    (n.0, omega (arith, n.0), r.here _ t, r.rest _ t, r.long)

pub returns : goal.returns
returns c =
    let s = c in
    values_rest s.args.line.counted c.is_enough.ensures (ap not c.if-not-is_enough.false)
    c.count_of-heads.ensures.0 c.read_on.ensures c.in_ok-at.was c.read_rest.ensures

pub returns-in_err-at : goal.returns-in_err-at
returns-in_err-at c =
    values_stop c.args.line.counted c.is_enough.ensures (ap not c.if-not-is_enough.false)
    c.count_of-heads.ensures.0 c.read_on.ensures c.in_err-at.was c.from_residual.ensures.1

pub returns-then-not-is_enough : goal.returns-then-not-is_enough
returns-then-not-is_enough c = let p = c.requires in values_few c.args.line.counted c.is_enough.ensures (ap not c.if-not-is_enough.true) p.2
