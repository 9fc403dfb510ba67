-- `factor_at` meets its contract: each position by its law. Assumes nothing.
use mathlib.Core.Path.{ap}
use mathlib.Core.Bool.{not}
use native.Mathlib.Omega.{arith}
use Rattle.fields.proofs.Positions.{position_digit, position_point, position_more, position_end}
use borrow.Author.Rules.{rules}
use Rattle.fields.proofs.factor.factor_at.Goals as goal

pub returns-then-ones-gt9 : goal.returns-then-ones-gt9
returns-then-ones-gt9 c = position_digit _ _ _ _ 0 (omega arith) (omega arith) _ _ (omega arith) c.digit-ones.ensures c.if-ones-gt9.true

pub returns-then-text-at-ne-POINT : goal.returns-then-text-at-ne-POINT
returns-then-text-at-ne-POINT c = position_point _ _ _ _ (omega (arith, c.if-text-at-ne-POINT.true))

pub returns-then-tenths-gt9 : goal.returns-then-tenths-gt9
returns-then-tenths-gt9 c = position_digit _ _ _ _ 2 (omega arith) (omega arith) _ _ (omega arith) c.digit-tenths.ensures c.if-tenths-gt9.true

pub returns-then-hundredths-gt9 : goal.returns-then-hundredths-gt9
returns-then-hundredths-gt9 c = position_digit _ _ _ _ 3 (omega arith) (omega arith) _ _ (omega arith) c.digit-hundredths.ensures c.if-hundredths-gt9.true

pub returns-then-thousandths-gt9 : goal.returns-then-thousandths-gt9
returns-then-thousandths-gt9 c = position_digit _ _ _ _ 4 (omega arith) (omega arith) _ _ (omega arith) c.digit-thousandths.ensures c.if-thousandths-gt9.true

pub returns-then-last-gt9 : goal.returns-then-last-gt9
returns-then-last-gt9 c = position_digit _ _ _ _ 5 (omega arith) (omega arith) _ _ (omega arith) c.digit-last.ensures c.if-last-gt9.true

pub returns-then-not-ends_at : goal.returns-then-not-ends_at
returns-then-not-ends_at c = position_more _ _ _ _ _ c.ends_at.ensures (ap not c.if-not-ends_at.true)

pub returns : goal.returns
returns c =
    position_end _ _ _ _ _ _ _ _ _ _ c.judged.ensures _ c.ends_at.ensures (ap not c.if-not-ends_at.false) (search rules) (search rules) (search rules) (search rules)
    (search rules) (search rules) (search rules) (search rules) (search rules) (search rules) (search rules) (search rules)
