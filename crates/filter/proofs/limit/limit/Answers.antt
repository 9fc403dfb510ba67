-- `limit` meets its contract: what lies inside is kept. Assumes nothing.
use Rattle.filter.proofs.Cases.{inside}
use Rattle.filter.proofs.limit.limit.Goals as goal

pub returns-then-v-top : goal.returns-then-v-top
returns-then-v-top c = inside c.args.top c.args.v c.if-v.true c.if-v-top.true
