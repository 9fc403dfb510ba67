-- `check_serials` meets its contract. Assumes nothing.
use native.Mathlib.Omega.{arith}
use Rattle.store.proofs.Writing.{count_refused, serial_few, serial_refused, serials_good}
use Rattle.store.proofs.write.check_serials.Goals as goal

pub returns-then-serials-lt1 : goal.returns-then-serials-lt1
returns-then-serials-lt1 c = count_refused _ c.then-serials-lt1.either

pub overflow_cast-result : goal.overflow_cast-result
overflow_cast-result c = omega (arith, serial_few _ (c.if-serials-lt1.false, c.if-serials-gt-RUNS.false) _ c.bad_serial.ensures _ c.in-Some.is)

pub returns-in-Some : goal.returns-in-Some
returns-in-Some c = serial_refused _ (c.if-serials-lt1.false, c.if-serials-gt-RUNS.false) _ c.bad_serial.ensures _ c.in-Some.is

pub returns-in-None : goal.returns-in-None
returns-in-None c = serials_good _ (c.if-serials-lt1.false, c.if-serials-gt-RUNS.false) _ c.bad_serial.ensures c.in-None.is
