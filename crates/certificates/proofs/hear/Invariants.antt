-- What is read is handed over block by block. Assumes nothing.
use Rattle.certificates.specs.Hearing.{Hears}
use Rattle.certificates.proofs.hear.Given as goal

abbrev pub invariant-loop-left : goal.invariant-loop-left
invariant-loop-left g l = Hears l.kept l.initial.held l.held
