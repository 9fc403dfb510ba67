-- `whole_day` meets its contract. Assumes nothing.
use Rattle.fields.proofs.Cases.{digits_on, digits_out}
use Rattle.fields.proofs.Reading.{whole_short, whole_wrong, whole_said}
use Rattle.fields.proofs.day.whole_day.Goals as goal

pub returns-then-text-ne-DAY_DIGITS : goal.returns-then-text-ne-DAY_DIGITS
returns-then-text-ne-DAY_DIGITS c = whole_short _ c.if-text-ne-DAY_DIGITS.true

pub returns-in_err-n : goal.returns-in_err-n
returns-in_err-n c = digits_out c.ok_or.ensures.value c.in_err-n.was c.from_residual.ensures.1 (whole_wrong _ c.if-text-ne-DAY_DIGITS.false _ c.read_digits.ensures)

pub returns : goal.returns
returns c = whole_said _ c.if-text-ne-DAY_DIGITS.false _ c.read_digits.ensures _ (digits_on c.ok_or.ensures.value c.in_ok-n.was) _ c.dated.ensures
