-- Each write leaves fewer bytes, or fewer writes. Assumes nothing.
use Rattle.std.proofs.Common.{arith, rules}
use Rattle.station.proofs.Calls.{writes_less}
use Rattle.station.proofs.say.say.Goals as goal

pub loop-at-smaller : goal.loop-at-smaller
loop-at-smaller g c =
    let w = writes_less c.write_some-put.result c.args.n c.loop-at.at c.loop-at.left (search rules) (search rules) in
    omega (arith, w, c.writes_left-left.ensures, c.unwrap_or-at.ensures)
