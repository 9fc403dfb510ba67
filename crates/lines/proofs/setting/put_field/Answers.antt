-- `put_field` meets its contract. Assumes nothing.
use Rattle.lines.proofs.Runs.{tab_put}
use Rattle.lines.proofs.setting.put_field.Goals as goal

pub returns : goal.returns
returns c = let z = c in let p = c.put_at.ensures in tab_put z.args.buf.now z.args.at _ z.requires _ _ p.0 p.1
