-- `refused` meets its contract. Assumes nothing.
use Rattle.std.specs.Prelude.{Err}
use mathlib.Core.Path.{ap, ◌∙◌}
use Prim.Native.Nat.{ℕ}
use Rattle.message.specs.declared.value.Message.{Message}
use Rattle.message.specs.declared.head.Head.TheVariants.{Refused as HeadRefused}
use Rattle.lines.specs.declared.read.Line.{Line}
use Rattle.message.specs.Message.{plain}
use borrow.Author.Rules.{rules}
use Rattle.lines.proofs.read.refused.Statement.{statement}
use Rattle.lines.proofs.read.refused.Tie as tie

returns : tie.Need-returns
returns c = ap {B = Line} (λ (m : Message). record { verdict = Err c.before.before.args.why; message = m }) (c.plain.ensures ∙ ap (λ (n : ℕ). plain (HeadRefused n)) c.before.number.ensures)

pub refused_spec : {M : Type 1} → statement M
refused_spec = tie.close (tie.spec (search rules) (search rules) returns)
