-- `is_plain` meets its contract. Assumes nothing.
use mathlib.Core.Path.{sym, ◌∙◌}
use native.Mathlib.Omega.{arith}
use Rattle.fields.proofs.Reading.{open_within, plain_none, plain_other, plain_zero}
use Rattle.fields.proofs.decimal.is_plain.Goals as goal

pub returns-then-ends_at : goal.returns-then-ends_at
returns-then-ends_at c = plain_none _ (sym c.ends_at.ensures ∙ c.if-ends_at.true)

pub bounds-text-at : goal.bounds-text-at
bounds-text-at c = open_within _ _ (sym c.ends_at.ensures ∙ c.if-ends_at.false)

pub returns-then-text-at-ne48 : goal.returns-then-text-at-ne48
returns-then-text-at-ne48 c = let a = c.args in plain_other a.text.now a.at (sym c.ends_at.ensures ∙ c.if-ends_at.false) c.if-text-at-ne48.true

pub overflow_add-at : goal.overflow_add-at
overflow_add-at c = let a = c.args in
    let h = open_within a.text.now a.at (sym c.ends_at.ensures ∙ c.if-ends_at.false) in
    omega arith

pub returns : goal.returns
returns c = let a = c.args in
    c.ends_at-2.ensures ∙ plain_zero a.text.now a.at (sym c.ends_at.ensures ∙ c.if-ends_at.false) c.if-text-at-ne48.false
