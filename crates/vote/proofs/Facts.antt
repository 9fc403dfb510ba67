-- What it says that votes are in range: the round, legal votes, and none beyond the group. Assumes nothing.
use Rattle.std.specs.Prelude.{None, Some}
use Prim.Native.Nat.{ℕ, zero, suc, ◌+◌, ◌≤◌, ◌<◌}
use native.Mathlib.Omega.{arith}
use mathlib.Core.Path.{◌≡◌, refl, sym, ap, subst, ◌∙◌}
use mathlib.Core.Bool.{Bool, true, false}
use mathlib.Core.List.{List, [], ◌∷◌, map}
use lib.Dec.{ltb}
use lib.ListN.{length, get_or, take, drop, take-append-drop, length-drop, length-map}
use borrow.Author.Tests.{le-ltb}
use Rattle.units.specs.declared.labels.RoundLabel.{RoundLabel}
use Rattle.units.proofs.Every.{absurd_by, and_right}
use Rattle.vote.specs.declared.digest.Digest.{Digest}
use Rattle.vote.specs.Digest.{Ballot, legal}
use Rattle.vote.specs.declared.votes.Seat.{Seat}
use Rattle.vote.specs.declared.votes.Votes.{Votes}
use Rattle.vote.specs.Vote.{votes_for, gap, total, count, missing, ballot_of, all_ballots, ballots, nobody, seat_fits, seat_at, votes_fit}
use Rattle.vote.proofs.Order.{Round}
use Rattle.vote.proofs.InRange.{seats_place, votes_three, votes_range}
use Rattle.vote.proofs.Counting.{AtBallot, All, total_append}

-- ---- seats and lists of ballots

seats_from : (P : Digest → Type 0) (g : ℕ) (l : List Seat) → ((i : ℕ) → g ≤ i → i < length l → AtBallot P (get_or l i nobody).ballot) → All P (drop g (map ballot_of l))
unfolding All
seats_from P zero [] h = tt
seats_from P zero (s ∷ l) h = (h 0 (omega arith) (omega arith), seats_from P zero l (λ i a k. h (suc i) (omega arith) (omega arith)))
seats_from P (suc g) [] h = tt
seats_from P (suc g) (s ∷ l) h = seats_from P g l (λ i a k. h (suc i) (omega arith) (omega arith))

all_take : (P : Digest → Type 0) (n : ℕ) (s : List Ballot) → All P s → All P (take n s)
unfolding All
all_take P zero s h = tt
all_take P (suc n) [] h = tt
all_take P (suc n) (b ∷ s) h = (h.0, all_take P n s h.1)

-- where nobody has voted
none_count : (d : Digest) (s : List Ballot) → All (λ e. ⊥) s → count d s ≡ 0
unfolding All total
none_count d [] h = refl
none_count d (None ∷ s) h = omega (arith, none_count d s h.1)
none_count d (Some e ∷ s) h = absurd h.0

none_missing : (s : List Ballot) → All (λ e. ⊥) s → missing s ≡ length s
unfolding All total
none_missing [] h = refl
none_missing (None ∷ s) h = omega (arith, none_missing s h.1)
none_missing (Some e ∷ s) h = absurd h.0

seat_legal : (inside : Bool) (m : ℕ) (label : RoundLabel) (b : Ballot) → seat_fits inside m label b ≡ true → AtBallot (λ d. legal m label d ≡ true) b
unfolding seat_fits
seat_legal inside m label None h = tt
seat_legal inside m label (Some d) h = and_right inside (legal m label d) h

seat_beyond : (m : ℕ) (label : RoundLabel) (b : Ballot) → seat_fits false m label b ≡ true → AtBallot (λ d. ⊥) b
unfolding seat_fits
seat_beyond m label None h = tt
seat_beyond m label (Some d) h = absurd_by (cc)

-- ---- votes in range

module _ (v : Votes) (fit : votes_fit v ≡ true) where
  seven : length v.seats ≡ 7
  seven = (votes_range v fit).seats.seven

  seat_fits_lem : (i : ℕ) → i < length v.seats → seat_at v.group v.label v.seats i ≡ true
  seat_fits_lem i k = seats_place v.group v.label v.seats (votes_three v fit).2 i (omega (arith, seven))

  pub groups : v.group.g ≤ 7
  groups = (votes_range v fit).controllers.1

  pub round : Round v.group.m v.label
  round =
      let f = votes_range v fit in
      record { runs_low = f.runs.0; runs_high = f.runs.1; label_low = f.label.0; label_high = omega (arith, f.label.1) }

  pub all_legal : All (λ d. legal v.group.m v.label d ≡ true) (all_ballots v)
  all_legal = seats_from _ 0 v.seats (λ i a k. seat_legal (ltb i v.group.g) v.group.m v.label _ (seat_fits_lem i k))

  pub group_legal : All (λ d. legal v.group.m v.label d ≡ true) (ballots v)
  group_legal = all_take _ v.group.g (all_ballots v) all_legal

  beyond : All (λ d. ⊥) (drop v.group.g (all_ballots v))
  beyond =
      seats_from _ v.group.g v.seats
      (λ i a k. seat_beyond v.group.m v.label _
      (subst (λ (b : Bool). seat_fits b v.group.m v.label (get_or v.seats i nobody).ballot ≡ true) (le-ltb i v.group.g a) (seat_fits_lem i k)))

  parts : (f : Ballot → ℕ) → total f (ballots v) + total f (drop v.group.g (all_ballots v)) ≡ total f (all_ballots v)
  parts f = sym (total_append f (ballots v) (drop v.group.g (all_ballots v))) ∙ ap (total f) (take-append-drop v.group.g (all_ballots v))

  -- the seats beyond the group change no count
  pub same_count : (d : Digest) → count d (all_ballots v) ≡ count d (ballots v)
  same_count d = omega (arith, parts (votes_for d), none_count d (drop v.group.g (all_ballots v)) beyond)

  -- and are all missing
  pub more_missing : missing (all_ballots v) + v.group.g ≡ missing (ballots v) + 7
  more_missing =
      omega (arith, parts gap, none_missing (drop v.group.g (all_ballots v)) beyond, length-drop v.group.g (all_ballots v), length-map v.seats ballot_of, seven, groups)

  pub seats_seven : length (all_ballots v) ≡ 7
  seats_seven = length-map v.seats ballot_of ∙ seven
