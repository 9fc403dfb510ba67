-- `numbers_in` meets its contract. Assumes nothing.
use Rattle.lines.proofs.Rows.{count_range}
use Rattle.lines.proofs.Straights.{all_total}
use Rattle.lines.proofs.straight.numbers_in.Goals as goal

pub go_on-requires-2 : goal.go_on-requires-2
go_on-requires-2 c =
    let n = c.count_of-total.ensures in
    (rw (c.count_of-heads.ensures.0, n.0) (count_range _ _ _).0, n.1, c.go_on.ensures.0 _ c.in_ok-at.was)

pub returns : goal.returns
returns c = λ at e. all_total _ c.count_of-total.ensures.0 c.count_of-heads.ensures.0 c.go_on-2.ensures.1 (c.go_on-2.ensures.0 at e)
