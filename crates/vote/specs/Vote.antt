-- Document 01's section 'The vote': counts, the winner, completions, and what it is for a set of votes to be decided.
use Rattle.std.specs.Prelude.{ℕ, ◌+◌, ◌≤◌, ◌≡◌, Bool, true, false, ◌&&◌, List, [], ◌∷◌, map, eqb, ltb, length, take, get_or, set, Err, None, Ok, Some}
use Rattle.units.specs.declared.labels.RoundLabel.{RoundLabel}
use Rattle.units.specs.declared.settings.Group.{Group}
use Rattle.units.specs.Every.{every}
use Rattle.units.specs.Labels.{round_fits}
use Rattle.units.specs.Limits.{controllers_top}
use Rattle.units.specs.Refusal.{number_of}
use Rattle.units.specs.Settings.{group_fits}
use Rattle.vote.specs.declared.digest.Digest.{Digest}
use Rattle.vote.specs.Digest.{Ballot, Decision, Poll, legal, same, Lex, rank}
use Rattle.vote.specs.declared.votes.Seat.{Seat}
use Rattle.vote.specs.declared.votes.Votes.{Votes}

abbrev pub bit : Bool → ℕ
bit true = 1
bit false = 0

-- 1 where the ballot is a vote for d
abbrev pub votes_for : Digest → Ballot → ℕ
votes_for d None = 0
votes_for d (Some e) = bit (same e d)

abbrev pub gap : Ballot → ℕ
gap None = 1
gap (Some e) = 0

unfoldable pub total : (Ballot → ℕ) → List Ballot → ℕ
total f [] = 0
total f (b ∷ s) = f b + total f s

-- how many vote for d, and how many have not voted
abbrev pub count : Digest → List Ballot → ℕ
count d s = total (votes_for d) s

abbrev pub missing : List Ballot → ℕ
missing s = total gap s

-- "The winner among up to g votes is the most common, the largest on a tie; no votes, no winner"
pub record Wins (s : List Ballot) (d : Digest) : Type 0 where
  pub voted : 1 ≤ count d s
  pub most : (e : Digest) → count e s ≤ count d s
  pub largest : (e : Digest) → count e s ≡ count d s → Lex d e → ⊥

-- "A completion gives each missing controller either no vote or any digest legal for the label"
pub data Completes (m : ℕ) (label : RoundLabel) : List Ballot → List Ballot → Type 0 where
  done : Completes m label [] []
  kept : {b : Ballot} {s t : List Ballot} → Completes m label s t → Completes m label (b ∷ s) (b ∷ t)
  filled : {d : Digest} {s t : List Ballot} → legal m label d ≡ true → Completes m label s t → Completes m label (None ∷ s) (Some d ∷ t)

-- "A set of votes is decided for a digest exactly when every completion has it as winner"
abbrev pub DecidedFor : ℕ → RoundLabel → List Ballot → Digest → Type 0
DecidedFor m label s d = (t : List Ballot) → Completes m label s t → Wins t d

-- ---- votes handed in as a value

abbrev pub ballot_of : Seat → Ballot
ballot_of s = s.ballot

abbrev pub all_ballots : Votes → List Ballot
all_ballots v = map ballot_of v.seats

-- the seats of the group
abbrev pub ballots : Votes → List Ballot
ballots v = take v.group.g (all_ballots v)

-- a seat without a vote
abbrev pub nobody : Seat
nobody = record { ballot = None }

-- one vote put in its seat
abbrev pub seated : List Seat → ℕ → Digest → List Seat
seated votes seat digest = set votes seat (record { ballot = Some digest })

-- a seat of the group holds a legal vote or none, any other seat none
unfoldable pub seat_fits : Bool → ℕ → RoundLabel → Ballot → Bool
seat_fits inside m label None = true
seat_fits inside m label (Some d) = inside && legal m label d

abbrev pub seat_at : Group → RoundLabel → List Seat → ℕ → Bool
seat_at group label seats i = seat_fits (ltb i group.g) group.m label (get_or seats i nobody).ballot

-- there are seven seats
unfoldable pub seats_fit : Group → RoundLabel → List Seat → Bool
seats_fit group label seats = eqb (length seats) controllers_top && every (seat_at group label seats) controllers_top

-- nothing is out of range
unfoldable pub votes_fit : Votes → Bool
votes_fit v = group_fits v.group && round_fits v.label && seats_fit v.group v.label v.seats

abbrev pub Decides : Votes → Digest → Type 0
Decides v d = DecidedFor v.group.m v.label (ballots v) d

-- what an answer to "what are the votes decided for?" must be, by document 01's number 6 and by the digest that it names
abbrev pub Answers : Votes → Decision → Type 0
Answers v (Err why) = (number_of why ≡ 6) × (votes_fit v ≡ false)
Answers v (Ok None) = (votes_fit v ≡ true) × ((d : Digest) → Decides v d → ⊥)
Answers v (Ok (Some d)) = (votes_fit v ≡ true) × Decides v d

-- what an answer to "who has won?" must be
abbrev pub Names : Votes → Poll → Type 0
Names v (Err why) = (number_of why ≡ 6) × (votes_fit v ≡ false)
Names v (Ok None) = (votes_fit v ≡ true) × ((d : Digest) → Wins (ballots v) d → ⊥)
Names v (Ok (Some d)) = (votes_fit v ≡ true) × Wins (ballots v) d

-- the rank of a vote, 0 where it is missing
abbrev pub rank_of : Ballot → ℕ
rank_of None = 0
rank_of (Some d) = rank d
