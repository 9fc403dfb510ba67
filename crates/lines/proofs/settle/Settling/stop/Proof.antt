-- `Settling::stop` meets its contract. Assumes nothing.
use borrow.Author.Rules.{rules}
use Rattle.lines.proofs.settle.Settling.stop.Statement.{statement}
use Rattle.lines.proofs.settle.Settling.stop.Tie as tie

pub stop_spec : {M : Type 1} → statement M
stop_spec = tie.close (tie.spec (search rules) (λ c. rw c.number.ensures))
