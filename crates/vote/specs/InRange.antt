-- Clause by clause, in document 01's words: a legal digest, and votes handed in as a value with nothing out of range. What `legal`, `seats_fit` and
-- `votes_fit` are to be; that they are is `legal_exact`, `seats_exact` and `votes_exact` of proofs/InRange.antt.
use Rattle.std.specs.Prelude.{ℕ, ◌^◌, ◌≤◌, ◌<◌, ◌≡◌, List, length, get_or, Some}
use Rattle.units.specs.declared.labels.RoundLabel.{RoundLabel}
use Rattle.units.specs.declared.settings.Group.{Group}
use Rattle.vote.specs.declared.digest.Digest.{Digest}
use Rattle.vote.specs.declared.votes.Seat.{Seat}
use Rattle.vote.specs.declared.votes.Votes.{Votes}
use Rattle.vote.specs.Vote.{nobody}

-- "it isn't 0000 and has no bit at m or above", "The state label is below the label"
pub record LegalDigest (m : ℕ) (label : RoundLabel) (d : Digest) : Type 0 where
  pub runs : m ≤ 16
  pub some_run : 1 ≤ d.mask
  pub own_runs : d.mask < 2 ^ m
  pub older : d.state.0 < label.0

-- the controller i has voted d
abbrev pub VotedAt : List Seat → ℕ → Digest → Type 0
VotedAt seats i d = (get_or seats i nobody).ballot ≡ Some d

-- there are seven seats, a vote stands in a seat of the group, and is legal for the label
pub record SeatsInRange (group : Group) (label : RoundLabel) (seats : List Seat) : Type 0 where
  pub seven : length seats ≡ 7
  pub own_seat : (i : ℕ) (d : Digest) → VotedAt seats i d → i < group.g
  pub legal_vote : (i : ℕ) (d : Digest) → VotedAt seats i d → LegalDigest group.m label d

-- "controllers g .. 1..7", "runs m .. 1..16", "round label 1..4,294,967,295", "up to g votes", each legal for the label
pub record VotesInRange (v : Votes) : Type 0 where
  pub controllers : (1 ≤ v.group.g) × (v.group.g ≤ 7)
  pub runs : (1 ≤ v.group.m) × (v.group.m ≤ 16)
  pub label : (1 ≤ v.label.0) × (v.label.0 ≤ 4294967295)
  pub seats : SeatsInRange v.group v.label v.seats
