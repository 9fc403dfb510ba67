-- `share_of` meets its contract: a run, or no run. Assumes nothing.
use Rattle.std.proofs.Common.{Bool, sym, ap, ◌∙◌}
use Rattle.filter.specs.Share.{share}
use Rattle.filter.proofs.share.share_of.Goals as goal

pub returns-then-used : goal.returns-then-used
unfolding share
returns-then-used c = c.target_of.ensures ∙ ap (λ (b : Bool). share b c.args.total c.args.weight c.args.sum) (sym c.if-used.true)

pub returns-else-used : goal.returns-else-used
unfolding share
returns-else-used c = ap (λ (b : Bool). share b c.args.total c.args.weight c.args.sum) (sym c.if-used.false)
