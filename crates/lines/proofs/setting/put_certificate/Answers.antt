-- `put_certificate` meets its contract. Assumes nothing.
use Rattle.lines.proofs.Runs.{tab_put}
use Rattle.lines.proofs.setting.put_certificate.Goals as goal

pub returns : goal.returns
returns c = let a = c.args in let p = c.put_part.ensures in tab_put a.buf.now a.at a.certificate.now c.requires _ _ p.0 p.1
