-- What is handed to the write is what the session said. Assumes nothing.
use Rattle.session.proofs.Handling.{handed, handed_some}
use Rattle.station.proofs.hand.Goals as goal

pub say-requires : goal.say-requires
say-requires g c = (handed c.args.session c.args.piece.now c.args.out.now _ _ c.handle-fed.ensures).room

pub returns : goal.returns
returns g c =
    let h = handed c.args.session c.args.piece.now c.args.out.now _ _ c.handle-fed.ensures in
    record { some = handed_some c.args.session c.args.piece.now _ _ c.handle-fed.ensures.0 c.requires.1 c.requires.0; few = h.few; calls = h.calls }
