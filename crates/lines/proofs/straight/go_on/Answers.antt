-- `go_on` meets its contract. Assumes nothing.
use native.Mathlib.Omega.{arith}
use Rattle.lines.proofs.Straights.{tread_more, field_on}
use Rattle.lines.proofs.straight.go_on.Goals as goal

pub loop-k-preserved : goal.loop-k-preserved
loop-k-preserved c =
    tread_more _ _ c.loop-k.invariant (omega arith) (omega arith) c.is_at.ensures c.if-not-is_at.false
    c.label_in.ensures c.limit_of-limit.ensures c.read_here.ensures (field_on c.ok.ensures.value c.in_ok-field.was)
