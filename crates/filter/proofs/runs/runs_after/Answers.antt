-- `runs_after` meets its contract: each place is as after the round. Assumes nothing.
use Rattle.std.proofs.Common.{rules}
use borrow.Author.Tests.{tests}
use Rattle.floats.specs.Ranges.{no_estimate}
use Rattle.filter.specs.Runs.{run_after, runs_after}
use Rattle.units.proofs.Counted.{made_tab}
use Rattle.filter.proofs.runs.runs_after.Goals as goal

pub returns : goal.returns
unfolding runs_after
returns c =
    made_tab _ _ (run_after c.args.state c.args.n c.args.numbers c.args.chosen c.args.readings) (λ i y q k. search (rules, tests)) no_estimate _ 16 c.from_fn.ensures.items
