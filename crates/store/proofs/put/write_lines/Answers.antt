-- `write_lines` meets its contract. Assumes nothing.
use Rattle.store.proofs.Putting.{all_put, no_room}
use Rattle.store.proofs.put.write_lines.Goals as goal

pub returns : goal.returns
returns c =
    let p = c in let r = p.put_runs-len.ensures in
    all_put _ p.requires _ r.0 _ _ _ _ r.1 c.if-buf-len.false c.put_part.ensures.1

pub returns-then-buf-len : goal.returns-then-buf-len
returns-then-buf-len c = no_room _ c.requires _ c.put_runs-len.ensures.0 _ c.if-buf-len.true
