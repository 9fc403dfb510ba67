-- `decide` asks of `rule` that a group has at most seven controllers. Assumes nothing.
use mathlib.Core.Path.{sym, ◌∙◌}
use Rattle.vote.proofs.Facts.{groups}
use Rattle.vote.proofs.judge.decide.Goals as goal

pub rule-requires : goal.rule-requires
rule-requires c = groups c.args.v (sym c.in_range.ensures ∙ c.if-in_range.true)
