-- No more is told than there is room for. Assumes nothing.
use Rattle.std.proofs.Common.{sym}
use lib.Seq.{length-take-le}
use Rattle.store.proofs.Telling.{told_within}
use Rattle.certificates.proofs.answer.Goals as goal

pub slice_bounds-out-end : goal.slice_bounds-out-end
slice_bounds-out-end g c = told_within _ _ _ _ _ _ _ c.answer-told.ensures

pub slice_bounds-write_all-end : goal.slice_bounds-write_all-end
slice_bounds-write_all-end g c = sym (length-take-le _ _ (told_within _ _ _ _ _ _ _ c.answer-told.ensures))
