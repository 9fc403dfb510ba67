-- A number of bytes is what was moved, and an error is a failure or a call to be made again. Assumes nothing.
use Rattle.std.proofs.Common.{◌<◌, length, arith, w64}
use Rattle.std.proofs.lemmas.Int.{to_z_pos}
use Rattle.station.proofs.Calls.{moved_all, moved_within, not_moved}
use Rattle.station.proofs.call.said.Goals as goal

pub returns-in-Ok-clause-few : goal.returns-in-Ok-clause-few
returns-in-Ok-clause-few c = moved_within _ _ _ c.meaning.ensures

pub returns-in-Ok-clause-came : goal.returns-in-Ok-clause-came
returns-in-Ok-clause-came c =
    let h = rw c.in-Ok.is at c.requires in
    let k : length c.args.part.now < 9223372036854775808 = omega (arith, c.well_formed) in
    rw c.in-Ok.is (moved_all c.in-Ok.n _ _ _ (to_z_pos w64 c.in-Ok.n (omega arith)) h c.meaning.ensures)

pub returns-in-Err-clause-few : goal.returns-in-Err-clause-few
returns-in-Err-clause-few c = moved_within _ _ _ c.meaning-in-Err.ensures

pub returns-in-Err-clause-failed : goal.returns-in-Err-clause-failed
returns-in-Err-clause-failed c = rw c.in-Err.is (not_moved _ _ _ c.meaning-in-Err.ensures)
