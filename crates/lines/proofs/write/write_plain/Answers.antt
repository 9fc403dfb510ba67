-- `write_plain` meets its contract. Assumes nothing.
use mathlib.Core.Path.{sym, ◌∙◌}
use Rattle.units.proofs.Every.{and_three}
use Rattle.message.specs.Message.{plain}
use Rattle.lines.specs.Writing.{plain_fits, spell_line}
use Rattle.lines.proofs.Plain.{plain_test, plain_values}
use Rattle.lines.proofs.Sending.{write_range, write_put, spelled}
use Rattle.lines.proofs.write.write_plain.Goals as goal

pub returns-then-is_plain-in_range : goal.returns-then-is_plain-in_range
unfolding plain
returns-then-is_plain-in_range c =
    let a = c.args in
    let p = c.is_plain in let g = c.in_range in
    let h = c.in_range-2 in let t = c.if-is_plain-in_range.true in
    write_put (plain_fits a.group a.head) _ (plain_test a.group a.head _ _ _ p.ensures g.ensures h.ensures) (spell_line a.group (plain a.head)) a.buf.now t _ _ _
    (spelled a.group (plain a.head) _ _ c.kind_is.ensures (c.head_numbers-numbers.ensures ∙ plain_values a.group a.head (sym p.ensures ∙ (and_three p.result g.result h.result t).0)))
    c.put_line.ensures

pub returns : goal.returns
returns c =
    let a = c.args in
    write_range (plain_fits a.group a.head) _ (plain_test a.group a.head _ _ _ c.is_plain.ensures c.in_range.ensures c.in_range-2.ensures)
    (spell_line a.group (plain a.head)) a.buf.now c.if-is_plain-in_range.false
