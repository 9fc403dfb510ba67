-- `or_nothing` meets its contract. Assumes nothing.
use mathlib.Core.Path.{refl, sym, ◌∙◌}
use borrow.Author.Tests.{eq-eqb, ne_eqb}
use Rattle.units.proofs.Picked.{by_yes, by_no}
use Rattle.session.specs.Feeding.{or_nothing}
use Rattle.session.proofs.answer.or_nothing.Goals as goal

pub returns-then-answer_number-number : goal.returns-then-answer_number-number
unfolding or_nothing
returns-then-answer_number-number c = by_yes _ (eq-eqb _ _ (sym c.answer_number.ensures ∙ c.if-answer_number-number.true ∙ c.number.ensures)) refl

pub returns : goal.returns
unfolding or_nothing
returns c = by_no _ (ne_eqb _ _ (λ e. c.if-answer_number-number.false (c.answer_number.ensures ∙ e ∙ sym c.number.ensures))) refl
