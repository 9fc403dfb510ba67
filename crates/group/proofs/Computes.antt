-- What a proof opens that has the checker compute a run of a group: `unfolding world_computes` is short for all the names under it. Assumes nothing.
use Rattle.lines.specs.Values.{kind_is}
use Rattle.plan.specs.Readings.{in_query}
use Rattle.plan.specs.Timers.{missing_runs}
use Rattle.controller_laws.specs.Session.{estimate_bits, line}
use Rattle.controller_laws.proofs.Computes.{step_computes}
use Rattle.group.specs.World.{put}
use Rattle.group.specs.Scripts.{played, marked, highest, fairly, fair, all_fair, writable, all_writable, refusals, in_order}
use Rattle.group.specs.Examples.{steady}

-- scripts, and their test
unfoldable pub script_computes : Unit {0}
unfolding put played marked highest fairly fair all_fair refusals in_order steady
script_computes = tt

-- scripts as lines
unfoldable pub lines_computes : Unit {0}
unfolding writable all_writable kind_is estimate_bits line
lines_computes = tt

-- all of them, and what a step opens
unfoldable pub world_computes : Unit {0}
unfolding step_computes in_query missing_runs script_computes lines_computes
world_computes = tt
