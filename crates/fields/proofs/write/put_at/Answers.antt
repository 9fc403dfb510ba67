-- `put_at` meets its contract. Assumes nothing.
use mathlib.Core.Path.{ap}
use mathlib.Core.Bool.{not}
use Rattle.fields.proofs.Writing.{over_limit, put_nothing, put_refused, put_digits, digits_decimal, four, mask_room, mask_put, float_room, float_put}
use borrow.Author.Rules.{rules}
use native.Mathlib.Omega.{arith}
use Rattle.fields.proofs.write.put_at.Goals as goal

pub returns-then-limit-n : goal.returns-then-limit-n
returns-then-limit-n c = put_nothing _ _ _ (search (rules, over_limit))

pub returns-then-not-has_room : goal.returns-then-not-has_room
returns-then-not-has_room c = let a = c.args in put_refused a.buf.now a.at _ _ _ c.has_room.ensures c.width-k.ensures (ap not c.if-not-has_room.true)

-- four digits and no more, whether the code counts them or says so
pub put_fixed-requires-in-Hex4-clause-room : goal.put_fixed-requires-in-Hex4-clause-room
put_fixed-requires-in-Hex4-clause-room c =
    let a = c.args in
    let room = ap not c.if-not-has_room.false in
    let z = four a.spelling a.n _ c.limit.ensures c.if-limit-n.false _ c.width-k.ensures c.in-Hex4.is _ a.at a.buf.now c.has_room.ensures room in
    let r = mask_room a.spelling a.n _ c.limit.ensures c.if-limit-n.false _ c.width-k.ensures c.in-Hex4.is _ a.at a.buf.now c.has_room.ensures room in
    omega arith

pub put_fixed-requires-in-Hex16-clause-room : goal.put_fixed-requires-in-Hex16-clause-room
put_fixed-requires-in-Hex16-clause-room c =
    let a = c.args in
    float_room a.spelling a.n _ c.limit.ensures c.if-limit-n.false _
    c.width-k.ensures c.in-Hex16.is _ a.at a.buf.now c.has_room.ensures
    (ap not c.if-not-has_room.false)

pub returns-in-Decimal : goal.returns-in-Decimal
returns-in-Decimal c = let a = c.args in
    let w = c.width-k.ensures in
    put_digits a.spelling a.n _ a.buf.now _ _ a.at _ _ c.has_room.ensures (ap not c.if-not-has_room.false) w
    (digits_decimal a.spelling a.n _ c.limit.ensures c.if-limit-n.false _ w c.in-Decimal.is)
    c.put_fixed.ensures.0 c.put_fixed.ensures.1

pub returns-in-Hex4 : goal.returns-in-Hex4
returns-in-Hex4 c =
    let a = c.args in
    let room = ap not c.if-not-has_room.false in
    let z = four a.spelling a.n _ c.limit.ensures c.if-limit-n.false _ c.width-k.ensures c.in-Hex4.is _ a.at a.buf.now c.has_room.ensures room in
    mask_put a.spelling a.n _ c.limit.ensures
    c.if-limit-n.false _ c.width-k.ensures
    c.in-Hex4.is _ a.at a.buf.now c.has_room.ensures
    room _ _ _ c.put_fixed-in-Hex4.ensures.0 c.put_fixed-in-Hex4.ensures.1 (omega arith)

pub returns-in-Hex16 : goal.returns-in-Hex16
returns-in-Hex16 c =
    let a = c.args in
    float_put a.spelling a.n _ c.limit.ensures
    c.if-limit-n.false _ c.width-k.ensures
    c.in-Hex16.is _ a.at a.buf.now c.has_room.ensures
    (ap not c.if-not-has_room.false) _ _ c.put_fixed-in-Hex16.ensures.0 c.put_fixed-in-Hex16.ensures.1
