-- What is written at the end fits the buffer. Assumes nothing.
use Rattle.std.proofs.Common.{arith, ap, ◌∙◌, length}
use Rattle.session.specs.Feeding.{last_turn}
use Rattle.session.proofs.Room.{finish_wrote, buffer_length}
use Rattle.station.proofs.close.Goals as goal

pub say-requires : goal.say-requires
say-requires g c =
    let w = finish_wrote c.args.session _ _ c.finish-fed.ensures.0 in
    let l = ap length c.finish-fed.ensures.1 ∙ buffer_length (last_turn c.args.session).text c.args.out.now in omega (arith, w, l)
