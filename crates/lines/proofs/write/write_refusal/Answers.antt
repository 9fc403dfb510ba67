-- `write_refusal` meets its contract. Assumes nothing.
use Rattle.lines.proofs.Sending.{refusal_put}
use mathlib.Core.Path.{refl}
use Rattle.lines.proofs.write.write_refusal.Goals as goal

pub returns : goal.returns
returns c = let a = c.args in refusal_put a.why _ _ a.buf.now _ _ c.number.ensures refl (rw (c.of-numbers.ensures, c.from.ensures) at c.put_line.ensures)
