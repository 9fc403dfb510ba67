-- `line_end` meets its contract: the place of a line feed is no further than the export's end; the check finds the others. Assumes nothing.
use native.Mathlib.Omega.{arith}
use Rattle.store.proofs.Gathering.{end_fits}
use Rattle.store.proofs.gather.line_end.Goals as goal

pub overflow_add-end : goal.overflow_add-end
overflow_add-end c = omega (arith, end_fits c.args.export.now c.args.at c.requires _ c.scan.ensures)
