-- `settings_in_force` meets its contract. Assumes nothing.
use native.Mathlib.Omega.{arith}
use Rattle.units.proofs.Scan.{length_mapped}
use Rattle.store.proofs.Writing.{run_few, force_none, force_all}
use Rattle.store.proofs.write.settings_in_force.Goals as goal

pub overflow_cast-result : goal.overflow_cast-result
overflow_cast-result c = let p = c.pick_rows-picked in omega (arith, run_few c.args.serials _ _ p.result c.requires (search (p.type_inv, length_mapped)) p.ensures _ c.lacking.ensures _ c.in-Some.is)

pub returns-in-Some : goal.returns-in-Some
returns-in-Some c = let p = c.pick_rows-picked in force_none c.args.serials _ _ p.result c.requires (search (p.type_inv, length_mapped)) p.ensures _ c.lacking.ensures _ c.in-Some.is

pub returns-in-None : goal.returns-in-None
returns-in-None c = let p = c.pick_rows-picked in force_all c.args.serials _ _ p.result c.requires (search (p.type_inv, length_mapped)) p.ensures _ c.lacking.ensures c.in-None.is _ c.settings_of.ensures
