-- `certificate_of` meets its contract. Assumes nothing.
use Rattle.lines.proofs.Settlings.{certificate_made}
use Rattle.lines.proofs.settle.certificate_of.Goals as goal

pub returns : goal.returns
returns c = let a = c.args in certificate_made a.text.now a.from a.to c.requires.0 c.requires.1 c.requires.2 c.copy_from_slice.ensures.after
