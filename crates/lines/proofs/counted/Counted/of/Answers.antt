-- `Counted::of` meets its contract. Assumes nothing.
use mathlib.Core.Path.{sym}
use lib.Seq.{length-take-le}
use Rattle.fields.proofs.Scans.{scan_inside}
use Rattle.lines.proofs.Openings.{fields_are, text_tabs}
use Rattle.lines.proofs.counted.Counted.of.Goals as goal

pub slice_bounds-result-end : goal.slice_bounds-result-end
slice_bounds-result-end c = sym (length-take-le _ _ (scan_inside _ _ c.requires))

pub invariant_of-result : goal.invariant_of-result
invariant_of-result c = record { counted = fields_are _ _ (text_tabs _ _ c.requires) }
