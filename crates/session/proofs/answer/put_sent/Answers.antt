-- `put_sent` meets its contract. Assumes nothing.
use mathlib.Core.Path.{sym, ◌∙◌}
use Rattle.session.proofs.Writes.{fit_puts, plain_puts}
use Rattle.session.proofs.answer.put_sent.Goals as goal

pub returns-then-is_plain : goal.returns-then-is_plain
returns-then-is_plain c =
    let a = c.args in
    plain_puts a.numbers a.c a.head (sym c.is_plain.ensures ∙ c.if-is_plain.true) a.out.now c.or_nothing.ensures c.write_plain.ensures

pub returns : goal.returns
returns c = let a = c.args in fit_puts a.numbers a.c a.head _ c.message.ensures a.out.now c.or_nothing-2.ensures c.write.ensures
