-- `put_part` meets its contract. Assumes nothing.
use mathlib.Core.Path.{refl, ap}
use mathlib.Core.Bool.{not}
use Rattle.fields.proofs.Writing.{room_is, put_refused, put_done, part_copied}
use Rattle.fields.proofs.put.put_part.Goals as goal

pub returns-then-not-has_room : goal.returns-then-not-has_room
returns-then-not-has_room c = put_refused _ _ _ _ _ c.has_room.ensures refl (ap not c.if-not-has_room.true)

pub returns : goal.returns
returns c =
    let a = c.args in
    let h = room_is a.buf.now a.at a.from.now _ _ c.has_room.ensures refl (ap not c.if-not-has_room.false) in
    put_done a.buf.now _ a.at _ a.from.now h refl (part_copied a.buf.now a.from.now _ a.at h c.copy_from_slice.ensures.after)
