-- `read_on` meets its contract. Assumes nothing.
use mathlib.Core.Path.{refl}
use native.Mathlib.Omega.{arith}
use borrow.Author.Rules.{rules}
use Rattle.lines.proofs.Walking.{walk_err, walk_more, walk_end}
use Rattle.lines.proofs.values.read_on.Goals as goal

pub loop-k-init : goal.loop-k-init
loop-k-init c = record { after = omega arith; inside = search rules; room = search rules; there = search rules; long = c.requires.5; here = c.requires.3; rest = c.requires.4; same = refl }

pub loop-k-preserved : goal.loop-k-preserved
loop-k-preserved c =
    walk_more c.loop-k.invariant c.loop-k-test.true c.label_in.ensures c.limit_of-limit.ensures c.read_at.ensures c.in_ok-field.was

pub returns : goal.returns
returns c = walk_end c.loop-k.invariant c.loop-k-test.false

pub returns-in_err-field : goal.returns-in_err-field
returns-in_err-field c =
    walk_err c.loop-k.invariant c.loop-k-test.true c.label_in.ensures c.limit_of-limit.ensures c.read_at.ensures c.in_err-field.was c.from_residual.ensures.1
