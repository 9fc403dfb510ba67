-- What a proof opens that has the checker compute a round: `unfolding run_computes` is short for the names under it. Assumes nothing.
use Rattle.units.specs.Tab.{tab}
use Rattle.filter.specs.Run.{at_most, limited, grown, measured, gain, moved, shrunk, outcome}
use Rattle.filter.specs.Runs.{place, runs_after}
use Rattle.filter.specs.Share.{add_all, total, sum_of, weight_sum, target, share, targets}
use Rattle.filter.specs.Compute.{new_state, set_points}

-- one run, and all runs
unfoldable pub run_computes : Unit {0}
unfolding at_most limited grown measured gain moved shrunk outcome tab place runs_after new_state
run_computes = tt

-- total and targets
unfoldable pub share_computes : Unit {0}
unfolding add_all total sum_of weight_sum target share targets set_points
share_computes = tt
