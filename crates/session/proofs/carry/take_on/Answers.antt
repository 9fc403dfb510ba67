-- `take_on` meets its contract. Assumes nothing.
use mathlib.Core.Path.{sym, ap, ◌∙◌}
use lib.ListN.{take}
use Rattle.fields.proofs.Holding.{line_alone, line_whole}
use Rattle.lines.specs.Settling.{settle_line}
use Rattle.session.proofs.carry.take_on.Goals as goal

pub returns-then-is_empty : goal.returns-then-is_empty
returns-then-is_empty c =
    let a = c.args in
    c.take_first.ensures ∙ ap (settle_line a.settling) (sym (line_alone a.carry _ (sym c.is_empty.ensures ∙ c.if-is_empty.true)))

pub returns : goal.returns
returns c =
    let a = c.args in
    let l = c.len.ensures in
    let b = c.bytes.ensures in
    let e = sym c.is_empty.ensures ∙ c.if-is_empty.false in
    c.take_first-2.ensures ∙ ap (settle_line a.settling) ((λ i. take (l i) (b i)) ∙ sym (line_whole a.carry _ _ e c.hold-whole.ensures))
