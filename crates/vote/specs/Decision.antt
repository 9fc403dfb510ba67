-- The decision and the winner as functions of the votes, by ranks alone. That they are what specs/Vote.antt asks is
-- `decision_exact` and `winning_exact` of proofs/Answer.antt; callers cite those and never this text.
use Rattle.std.specs.Prelude.{ℕ, ◌+◌, ◌*◌, ◌-◌, ◌%◌, ◌^◌, max, Bool, true, List, [], ◌∷◌, map, ltb, eqb, Err, None, Ok, Some}
use Rattle.units.specs.Limits.{controllers_top}
use Rattle.units.specs.Pick.{pick}
use Rattle.units.specs.declared.labels.RoundLabel.{RoundLabel}
use Rattle.units.specs.declared.refusal.Refusal.TheVariants.{Range}
use Rattle.units.specs.declared.settings.Group.{Group}
use Rattle.vote.specs.declared.votes.Seat.{Seat}
use Rattle.vote.specs.declared.votes.Votes.{Votes}
use Rattle.vote.specs.Digest.{Decision, Poll, rank, unrank, full, least}
use Rattle.vote.specs.Vote.{bit, ballot_of, rank_of, votes_fit}

-- what one vote more adds to a strength; every rank lies below it
abbrev pub seat : ℕ
seat = 2 ^ 56

-- the votes as ranks, 0 for a missing one
abbrev pub ranks_of : List Seat → List ℕ
ranks_of l = map (λ s. rank_of (ballot_of s)) l

-- how often x stands in the list
unfoldable pub tally_of : ℕ → List ℕ → ℕ
tally_of x [] = 0
tally_of x (y ∷ l) = bit (eqb y x) + tally_of x l

-- how often a vote stands there and, below that, its rank
unfoldable pub strength_of : List ℕ → ℕ → ℕ
strength_of l x = pick (eqb x 0) 0 (tally_of x l * seat + x % seat)

abbrev pub strengths : List ℕ → List ℕ
strengths l = map (strength_of l) l

unfoldable pub largest : List ℕ → ℕ
largest [] = 0
largest (x ∷ l) = max x (largest l)

-- a strength, or 0 where it is that of the rank x
unfoldable pub other_than : ℕ → ℕ → ℕ
other_than x s = pick (eqb (s % seat) x) 0 s

abbrev pub others_than : ℕ → List ℕ → List ℕ
others_than x l = map (other_than x) l

-- where nobody voted another than x, the rank that a rival is tried by: that of the full digest; where x is full, that of the least; where x is both, 0.
-- A full digest wins every tie, so against it one other is as good as any: `unseen` of proofs/Rule.antt.
unfoldable pub outsider : ℕ → RoundLabel → ℕ → ℕ
outsider m label x = pick (eqb (rank (full m label)) x) (pick (eqb (rank least) x) 0 (rank least)) (rank (full m label))

-- how many of g votes are missing
unfoldable pub missing_of : ℕ → List ℕ → ℕ
missing_of g l = g - (controllers_top - tally_of 0 l)

-- no rival, or none that catches up with all the missing votes
unfoldable pub held_off : ℕ → ℕ → ℕ → Bool
held_off rival k best = pick (eqb rival 0) true (ltb (k * seat) (best - rival))

-- among votes of the strengths l: the strongest other than x or, where there is none, the outsider
unfoldable pub rival_of : ℕ → RoundLabel → List ℕ → ℕ → ℕ
rival_of m label l x = pick (eqb (largest (others_than x l)) 0) (outsider m label x) (largest (others_than x l))

-- the strongest vote, where its rival is held off
unfoldable pub ruled_at : Group → RoundLabel → List ℕ → ℕ → Decision
ruled_at group label l best =
    pick (eqb best 0) (Ok None)
    (pick (held_off (rival_of group.m label (strengths l) (best % seat)) (missing_of group.g l) best)
    (Ok (Some (unrank (best % seat))))
    (Ok None))

unfoldable pub ruled : Group → RoundLabel → List ℕ → Decision
ruled group label l = ruled_at group label l (largest (strengths l))

unfoldable pub decision : Votes → Decision
decision v = pick (votes_fit v) (ruled v.group v.label (ranks_of v.seats)) (Err Range)

unfoldable pub strongest_at : ℕ → Poll
strongest_at best = pick (eqb best 0) (Ok None) (Ok (Some (unrank (best % seat))))

unfoldable pub winning : Votes → Poll
winning v = pick (votes_fit v) (strongest_at (largest (strengths (ranks_of v.seats)))) (Err Range)
