-- `write_setting` meets its contract. Assumes nothing.
use mathlib.Core.Path.{ap}
use mathlib.Core.Bool.{not}
use Rattle.lines.proofs.Runs.{setting_range, setting_put}
use Rattle.lines.proofs.setting.write_setting.Goals as goal

pub returns-then-not-is_setting : goal.returns-then-not-is_setting
returns-then-not-is_setting c = let a = c.args in setting_range a.settings a.k _ c.is_setting.ensures a.buf.now (ap not c.if-not-is_setting.true)

pub returns : goal.returns
returns c = let a = c.args in setting_put a.settings a.k _ c.is_setting.ensures a.buf.now (ap not c.if-not-is_setting.false) _ _ c.put_setting.ensures
