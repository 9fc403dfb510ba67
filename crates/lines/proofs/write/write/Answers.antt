-- `write` meets its contract. Assumes nothing.
use mathlib.Core.Path.{ap}
use mathlib.Core.Bool.{not}
use borrow.Author.Tests.{not-true, not-false}
use Rattle.message.specs.Message.{message_fits}
use Rattle.lines.specs.Writing.{spell_line}
use Rattle.lines.proofs.Sending.{write_range, write_put, spelled}
use Rattle.lines.proofs.write.write.Goals as goal

pub returns-then-not-in_range : goal.returns-then-not-in_range
returns-then-not-in_range c = let a = c.args in write_range (message_fits a.group a.message) _ c.in_range.ensures (spell_line a.group a.message) a.buf.now (not-true _ (ap not c.if-not-in_range.true))

pub returns : goal.returns
returns c =
    let a = c.args in
    write_put (message_fits a.group a.message) _ c.in_range.ensures (spell_line a.group a.message) a.buf.now
    (not-false _ (ap not c.if-not-in_range.false)) _ _ _
    (spelled a.group a.message _ _ c.kind_is.ensures c.numbers_of-numbers.ensures) c.put_line.ensures
