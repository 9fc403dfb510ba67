-- What a proof opens that has the checker compute a vote: `unfolding judge_computes` is short for the names under it. Assumes nothing.
use lib.Count.{ones}
use Rattle.units.specs.Every.{every}
use Rattle.units.specs.Pick.{pick}
use Rattle.units.specs.Settings.{group_fits}
use Rattle.vote.specs.Digest.{legal, same, rank, unrank, full, least}
use Rattle.vote.specs.Vote.{seat_fits, seats_fit, votes_fit, total}
use Rattle.vote.specs.Decision.{tally_of, strength_of, largest, other_than, outsider, missing_of, held_off, rival_of, ruled_at, ruled, decision, strongest_at, winning}

-- digests and votes in range
unfoldable pub digest_computes : Unit {0}
unfolding ones every pick group_fits legal same rank unrank full least seat_fits seats_fit votes_fit total
digest_computes = tt

-- the decision and the winner
unfoldable pub judge_computes : Unit {0}
unfolding tally_of strength_of largest other_than outsider missing_of held_off rival_of ruled_at ruled decision strongest_at winning
judge_computes = tt
