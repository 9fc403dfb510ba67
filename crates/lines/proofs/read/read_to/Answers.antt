-- `read_to` meets its contract. Assumes nothing.
use mathlib.Core.Path.{refl}
use Rattle.lines.proofs.Straights.{straight_line, at_place}
use Rattle.lines.proofs.read.read_to.Goals as goal

pub returns-in-Some : goal.returns-in-Some
returns-in-Some c =
    let a = c.args in
    straight_line (c.requires.3 _ c.in-Some.is) refl c.requires.0 c.requires.2 (at_place a.input.now c.in-Some.at 10 _ c.is_at.ensures c.if-is_at.true) c.message_of.ensures
