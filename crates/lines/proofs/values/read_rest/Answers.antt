-- `read_rest` meets its contract. Assumes nothing.
use native.Mathlib.Omega.{arith}
use lib.ListN.{get_or}
use Rattle.lines.proofs.Rows.{count_range}
use Rattle.lines.proofs.Stages.{rest_few, rest_walked, rest_stop}
use Rattle.lines.proofs.values.read_rest.Goals as goal

pub read_on-requires : goal.read_on-requires
read_on-requires c =
    let s = c in let n = c.count_of-total.ensures in
    (omega (arith, s.requires.0, n.0, count_range s.args.kind s.args.group (get_or s.args.v.now 2 0)), n.1, omega (arith, s.args.line.counted, c.if-line-total.false), s.requires.2, s.requires.3, s.requires.4)

pub returns : goal.returns
returns c = rest_walked c.args.line.counted c.requires.0 c.count_of-total.ensures.0 c.if-line-total.false c.read_on.ensures c.in_ok-read_on.was

pub returns-in_err-read_on : goal.returns-in_err-read_on
returns-in_err-read_on c = rest_stop c.args.line.counted c.requires.0 c.count_of-total.ensures.0 c.if-line-total.false c.read_on.ensures c.in_err-read_on.was c.from_residual.ensures.1

pub returns-then-line-total : goal.returns-then-line-total
returns-then-line-total c = let p = c.requires in rest_few c.args.line.counted p.0 c.count_of-total.ensures.0 c.if-line-total.true p.4
