-- `Carry::hold` meets its contract. Assumes nothing.
use Rattle.fields.proofs.Holding.{held_made, take_least}
use Rattle.fields.proofs.cut.Carry.hold.Goals as goal

pub returns : goal.returns
returns c =
    let a = c.args in
    held_made a.self a.n c.fitting.result _ a.input.now _ _ c.fitting.ensures (take_least _ _ a.input.now c.min-k.ensures) c.put_part-len.ensures.0 c.put_part-len.ensures.1
