-- `pick_rows` meets its contract: the first i runs have their newest rows. Assumes nothing.
use Rattle.units.proofs.Tab.{Filled}
use Rattle.store.specs.Row.{no_row}
use Rattle.store.specs.Runs.{found}
use Rattle.store.proofs.picked.pick_rows.Given as goal

abbrev pub invariant-loop-i : goal.invariant-loop-i
invariant-loop-i l = Filled (found l.serials l.day l.rows) no_row 16 l.initial.picked l.picked l.i
