-- `is_enough_for` meets its contract. Assumes nothing.
use lib.ListN.{length}
use Rattle.lines.proofs.Putting.{room_sure, room_counted}
use Rattle.lines.proofs.write.is_enough_for.Goals as goal

pub returns : goal.returns
returns c = let a = c.args in let n = c.as_slice-numbers.result.now in rw (← c.as_slice-numbers.ensures.0) (room_counted a.kind n (length n) a.len _ c.widths.ensures.0)

pub returns-then-numbers-len : goal.returns-then-numbers-len
returns-then-numbers-len c = let a = c.args in let n = c.as_slice-numbers.result.now in rw (← c.as_slice-numbers.ensures.0) (room_sure a.kind n (length n) a.len c.if-numbers-len.true)
