-- `put_verdict` meets its contract. Assumes nothing.
use mathlib.Core.Path.{ap}
use Rattle.session.proofs.Writes.{puts_none, puts_same}
use Rattle.session.specs.Turn.{verdict_text}
use Rattle.session.proofs.answer.put_verdict.Goals as goal

pub returns-in-Ok : goal.returns-in-Ok
unfolding verdict_text
returns-in-Ok c = let a = c.args in puts_same a.out.now (ap verdict_text c.in-Ok.is) (puts_none a.out.now)

pub returns-in-Err : goal.returns-in-Err
unfolding verdict_text
returns-in-Err c = let a = c.args in puts_same a.out.now (ap verdict_text c.in-Err.is) c.write_refusal.ensures
