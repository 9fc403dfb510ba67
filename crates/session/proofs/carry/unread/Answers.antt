-- `unread` meets its contract. Assumes nothing.
use mathlib.Core.Path.{ap}
use Rattle.fields.specs.Text.{scanned}
use Rattle.session.proofs.carry.unread.Goals as goal

pub returns : goal.returns
unfolding scanned
returns c = ap (λ s. s.feed) c.scan.ensures
