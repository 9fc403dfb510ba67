-- `check_days` meets its contract. Assumes nothing.
use native.Mathlib.Omega.{arith}
use Rattle.store.proofs.Writing.{row_few, day_shared, days_good}
use Rattle.store.proofs.write.check_days.Goals as goal

pub overflow_add-result : goal.overflow_add-result
overflow_add-result c = omega (arith, c.requires, row_few _ _ c.repeated_at.ensures _ c.in-Some.is)

pub overflow_cast-result : goal.overflow_cast-result
overflow_cast-result c = omega (arith, c.requires, row_few _ _ c.repeated_at.ensures _ c.in-Some.is)

pub returns-in-Some : goal.returns-in-Some
returns-in-Some c = day_shared _ _ c.repeated_at.ensures _ c.in-Some.is

pub returns-in-None : goal.returns-in-None
returns-in-None c = days_good _ _ c.repeated_at.ensures c.in-None.is
