-- Blocks are heard one after another. Assumes nothing.
use Rattle.certificates.proofs.Hearing.{hears_none, hears_more}
use Rattle.certificates.proofs.hear.Goals as goal

pub loop-left-init : goal.loop-left-init
loop-left-init g c = hears_none _ _ c.start-kept.ensures

pub loop-left-preserved-in-Ok : goal.loop-left-preserved-in-Ok
loop-left-preserved-in-Ok g c = hears_more _ _ _ _ _ _ c.loop-left.invariant c.on-kept.ensures
