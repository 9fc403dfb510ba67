-- `put_one` meets its contract. Assumes nothing.
use Rattle.store.proofs.Putting.{one_never, one_put}
use native.Mathlib.Omega.{arith}
use Rattle.store.proofs.RunLines.{runs_top_lem}
use Rattle.store.proofs.put.put_one.Goals as goal

pub returns-in-Err : goal.returns-in-Err
returns-in-Err c = let w = c in one_never _ _ _ _ _ w.requires w.write_setting.ensures _ c.in-Err.is

pub overflow_add-i : goal.overflow_add-i
overflow_add-i c = omega (arith, runs_top_lem _ c.requires.0, c.requires.1)

pub overflow_cast-i : goal.overflow_cast-i
overflow_cast-i c = omega (arith, runs_top_lem _ c.requires.0, c.requires.1)

pub returns-in-Ok : goal.returns-in-Ok
returns-in-Ok c = one_put _ _ _ _ _ c.requires c.write_setting.ensures _ c.in-Ok.is
