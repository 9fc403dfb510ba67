-- `put_line` meets its contract. Assumes nothing.
use mathlib.Core.Path.{ap, refl, ◌≡◌}
use mathlib.Core.Bool.{not}
use Prim.Native.Nat.{◌+◌, ◌≤◌}
use lib.ListN.{length}
use native.Mathlib.Omega.{arith}
use Rattle.lines.proofs.Putting.{line_room, line_answer_lem, numbers_room, line_put, feed_room, room_not, room_yes}
use Rattle.fields.specs.Text.{tabbed}
use Rattle.lines.specs.Writing.{texts_to}
use Rattle.lines.proofs.write.put_line.Goals as goal

pub returns-then-not-is_enough_for : goal.returns-then-not-is_enough_for
returns-then-not-is_enough_for c =
    let a = c.args in let T = length (tabbed (texts_to a.kind a.numbers.now.0 (length a.numbers.now.0))) in
    line_room a.kind a.numbers.now.0 (2 + T) T a.buf.now refl refl (room_not _ _ _ c.is_enough_for.ensures (ap not c.if-not-is_enough_for.true))

pub bounds-buf-0 : goal.bounds-buf-0
bounds-buf-0 c =
    let a = c.args in
    let y : 2 + length (tabbed (texts_to a.kind a.numbers.now.0 (length a.numbers.now.0))) ≤ length a.buf.now = room_yes _ _ _ c.is_enough_for.ensures (ap not c.if-not-is_enough_for.false) in omega arith

pub put_numbers-end-requires : goal.put_numbers-end-requires
put_numbers-end-requires c =
    let a = c.args in let T = length (tabbed (texts_to a.kind a.numbers.now.0 (length a.numbers.now.0))) in
    rw c.as_slice.ensures.0 (numbers_room a.kind a.numbers.now.0 (2 + T) T a.buf.now refl refl (room_yes _ _ _ c.is_enough_for.ensures (ap not c.if-not-is_enough_for.false)) _)

pub bounds-buf-end : goal.bounds-buf-end
bounds-buf-end c =
    let a = c.args in
    let T = length (tabbed (texts_to a.kind a.numbers.now.0 (length a.numbers.now.0))) in let p = c.put_numbers-end in
    feed_room a.kind a.numbers.now.0 (2 + T) T a.buf.now refl refl
    (room_yes _ _ _ c.is_enough_for.ensures (ap not c.if-not-is_enough_for.false)) _ _ p.new.buf (rw c.as_slice.ensures.0 at p.ensures).0 p.auto.buf

pub overflow_add-result : goal.overflow_add-result
overflow_add-result c =
    let a = c.args in let T = length (tabbed (texts_to a.kind a.numbers.now.0 (length a.numbers.now.0))) in let p = c.put_numbers-end in
    let y : 2 + T ≤ length a.buf.now = room_yes _ _ _ c.is_enough_for.ensures (ap not c.if-not-is_enough_for.false) in
    let q : p.result ≡ 1 + T = (rw c.as_slice.ensures.0 at p.ensures).0 in omega arith

pub returns : goal.returns
returns c =
    let a = c.args in
    let T = length (tabbed (texts_to a.kind a.numbers.now.0 (length a.numbers.now.0))) in let p = c.put_numbers-end in let e : p.result + 1 ≡ 2 + T = omega (arith, (rw c.as_slice.ensures.0 at p.ensures).0) in (
      line_answer_lem a.kind a.numbers.now.0 (p.result + 1) T a.buf.now e refl
          (rw e (room_yes _ _ _ c.is_enough_for.ensures (ap not c.if-not-is_enough_for.false))),
      line_put a.kind a.numbers.now.0 (2 + T) T
          a.buf.now refl refl (room_yes _ _ _ c.is_enough_for.ensures (ap not c.if-not-is_enough_for.false)) _ _ _
          c.letter.ensures (rw c.as_slice.ensures.0 at p.ensures).0 (rw c.as_slice.ensures.0 at p.ensures).1,
    )
