-- `legal`, `seats_fit` and `votes_fit` hold exactly where each clause of document 01 does; and what one vote more does to seats. Assumes nothing.
use Rattle.std.specs.Prelude.{None, Some}
use Prim.Native.Nat.{ℕ, ◌≤◌, ◌<◌}
use native.Mathlib.Omega.{arith}
use native.Mathlib.Decide.{dec_lt, ℕ_discrete}
use mathlib.Core.Path.{◌≡◌, refl, sym, ap, subst, ◌∙◌}
use mathlib.Core.Bool.{Bool, true, false, ◌&&◌}
use mathlib.Core.List.{List}
use mathlib.Core.Logic.{by_cases}
use lib.Dec.{leb, ltb, eqb}
use lib.ListN.{length, get_or, replicate, length-set, get_or-replicate, get_or-eq_default}
use lib.Seq.{get_or-set_same, get_or-set_other}
use borrow.Author.Tests.{leb-true, le-leb, ltb-true, lt-ltb, eqb-true, eq-eqb}
use Rattle.units.specs.declared.labels.RoundLabel.{RoundLabel}
use Rattle.units.specs.declared.settings.Group.{Group}
use Rattle.units.specs.Labels.{before, round_fits}
use Rattle.units.specs.Limits.{controllers_top, runs_top, label_top}
use Rattle.units.specs.Mask.{mask_end, mask_fits}
use Rattle.units.specs.Settings.{group_fits}
use Rattle.units.proofs.Every.{no_way, and_left, and_right, and_both, and_three, every_at, every_all}
use Rattle.units.proofs.InRange.{within_range, within_made, group_range, group_made}
use Rattle.units.proofs.Masks.{mask_end_is}
use Rattle.vote.specs.declared.digest.Digest.{Digest}
use Rattle.vote.specs.Digest.{Ballot, legal}
use Rattle.vote.specs.declared.votes.Seat.{Seat}
use Rattle.vote.specs.declared.votes.Votes.{Votes}
use Rattle.vote.specs.Vote.{nobody, seated, seat_fits, seat_at, seats_fit, votes_fit}
use Rattle.vote.specs.InRange.{LegalDigest, VotedAt, SeatsInRange, VotesInRange}

-- ---- a digest
module _ (m : ℕ) (label : RoundLabel) (d : Digest) where
  pub legal_range : legal m label d ≡ true → LegalDigest m label d
  unfolding legal
  legal_range h =
      let k = and_three (leb m runs_top) (mask_fits m d.mask) (before d.state label) h in
      let small = leb-true m 16 k.0 in
      record {
        runs = small;
        some_run = leb-true 1 d.mask (and_left (leb 1 d.mask) _ k.1);
        own_runs = omega (arith, ltb-true d.mask (mask_end m) (and_right (leb 1 d.mask) _ k.1), mask_end_is m small);
        older = ltb-true d.state.0 label.0 k.2;
      }

  pub legal_made : LegalDigest m label d → legal m label d ≡ true
  unfolding legal
  legal_made f =
      let own : d.mask < mask_end m = omega (arith, f.own_runs, mask_end_is m f.runs) in
      and_both (and_both (le-leb m runs_top f.runs) (and_both (le-leb 1 d.mask f.some_run) (lt-ltb d.mask (mask_end m) own))) (lt-ltb d.state.0 label.0 f.older)

  -- LEGAL EXACTLY WHEN each clause of document 01 holds
  pub legal_exact : (legal m label d ≡ true → LegalDigest m label d) × (LegalDigest m label d → legal m label d ≡ true)
  legal_exact = (legal_range, legal_made)

-- ---- seats
inside_seat : (inside : Bool) (m : ℕ) (label : RoundLabel) (b : Ballot) (d : Digest) → seat_fits inside m label b ≡ true → b ≡ Some d → (inside ≡ true) × (legal m label d ≡ true)
unfolding seat_fits
inside_seat inside m label b d h e =
    let k : (inside && legal m label d) ≡ true = subst (λ (x : Ballot). seat_fits inside m label x ≡ true) e h in
    (and_left inside (legal m label d) k, and_right inside (legal m label d) k)

seat_made : (inside : Bool) (m : ℕ) (label : RoundLabel) (b : Ballot) → ((d : Digest) → b ≡ Some d → (inside ≡ true) × (legal m label d ≡ true)) → seat_fits inside m label b ≡ true
unfolding seat_fits
seat_made inside m label None h = refl
seat_made inside m label (Some d) h = let k = h d refl in and_both k.0 k.1

cast_some : (d : Digest) → None ≡ Some d → ⊥
cast_some d e = no_way (ap voted e)
  where
    voted : Ballot → Bool
    voted None = false
    voted (Some d) = true

module _ (s : Group) (label : RoundLabel) (votes : List Seat) where
  pub seats_length : seats_fit s label votes ≡ true → length votes ≡ 7
  unfolding seats_fit
  seats_length h = eqb-true _ _ (and_left (eqb (length votes) 7) _ h)

  pub seats_place : seats_fit s label votes ≡ true → (i : ℕ) → i < 7 → seat_at s label votes i ≡ true
  unfolding seats_fit
  seats_place h i k = every_at (seat_at s label votes) 7 i (and_right (eqb (length votes) 7) _ h) k

  pub seats_made : length votes ≡ 7 → ((i : ℕ) → i < 7 → seat_at s label votes i ≡ true) → seats_fit s label votes ≡ true
  unfolding seats_fit
  seats_made e f = and_both (eq-eqb (length votes) 7 e) (every_all (seat_at s label votes) 7 f)

  -- a vote stands in one of the seven seats
  voted_seven : seats_fit s label votes ≡ true → (i : ℕ) (d : Digest) → VotedAt votes i d → i < 7
  voted_seven h i d e =
      by_cases (dec_lt i 7) (λ k. k)
      (λ n. absurd (cast_some d (sym (ap (λ (x : Seat). x.ballot) (get_or-eq_default votes nobody {n = i} (omega (arith, seats_length h)))) ∙ e)))

  voted_fit : seats_fit s label votes ≡ true → (i : ℕ) (d : Digest) → VotedAt votes i d → (ltb i s.g ≡ true) × (legal s.m label d ≡ true)
  voted_fit h i d e = inside_seat (ltb i s.g) s.m label _ d (seats_place h i (voted_seven h i d e)) e

  pub seats_range : seats_fit s label votes ≡ true → SeatsInRange s label votes
  seats_range h =
      record {
        seven = seats_length h;
        own_seat = λ i d e. ltb-true i s.g (voted_fit h i d e).0;
        legal_vote = λ i d e. legal_range s.m label d (voted_fit h i d e).1;
      }

  pub range_seats : SeatsInRange s label votes → seats_fit s label votes ≡ true
  range_seats f =
      seats_made f.seven
      (λ i k. seat_made (ltb i s.g) s.m label (get_or votes i nobody).ballot
      (λ d e. (lt-ltb i s.g (f.own_seat i d e), legal_made s.m label d (f.legal_vote i d e))))

  -- IN RANGE EXACTLY WHEN each clause of document 01 holds
  pub seats_exact : (seats_fit s label votes ≡ true → SeatsInRange s label votes) × (SeatsInRange s label votes → seats_fit s label votes ≡ true)
  seats_exact = (seats_range, range_seats)

  -- one vote more
  pub seated_fit : seats_fit s label votes ≡ true → (seat : ℕ) (d : Digest) → seat < s.g → s.g ≤ 7 → legal s.m label d ≡ true → seats_fit s label (seated votes seat d) ≡ true
  unfolding seat_fits seats_fit
  seated_fit h seat d l k q = and_both (eq-eqb (length (seated votes seat d)) 7 (length-set votes seat (record { ballot = Some d }) ∙ seats_length h)) (every_all (seat_at s label (seated votes seat d)) 7 place)
    where
      here : seat_at s label (seated votes seat d) seat ≡ true
      here =
          ap (λ (v : Seat). seat_fits (ltb seat s.g) s.m label v.ballot) (get_or-set_same votes seat (record { ballot = Some d }) nobody (omega (arith, seats_length h)))
          ∙ and_both (lt-ltb seat s.g l) q

      place : (i : ℕ) → i < 7 → seat_at s label (seated votes seat d) i ≡ true
      place i b =
          by_cases (ℕ_discrete i seat) (λ e. subst (λ (j : ℕ). seat_at s label (seated votes seat d) j ≡ true) (sym e) here)
          (λ n. ap (λ (v : Seat). seat_fits (ltb i s.g) s.m label v.ballot) (get_or-set_other votes seat i (record { ballot = Some d }) nobody n) ∙ seats_place h i b)

-- no vote
pub unseated_fit : (s : Group) (label : RoundLabel) → seats_fit s label (replicate controllers_top nobody) ≡ true
unfolding seat_fits
unseated_fit s label =
    seats_made s label (replicate controllers_top nobody) refl
    (λ i k. ap (λ (v : Seat). seat_fits (ltb i s.g) s.m label v.ballot) (get_or-replicate 7 i nobody nobody k))

-- ---- votes
module _ (v : Votes) where
  pub votes_three : votes_fit v ≡ true → (group_fits v.group ≡ true) × (round_fits v.label ≡ true) × (seats_fit v.group v.label v.seats ≡ true)
  unfolding votes_fit
  votes_three h = and_three (group_fits v.group) (round_fits v.label) (seats_fit v.group v.label v.seats) h

  pub votes_made : group_fits v.group ≡ true → round_fits v.label ≡ true → seats_fit v.group v.label v.seats ≡ true → votes_fit v ≡ true
  unfolding votes_fit
  votes_made g r s = and_both (and_both g r) s

  pub votes_range : votes_fit v ≡ true → VotesInRange v
  votes_range h =
      let k = votes_three h in
      let g = group_range v.group k.0 in
      record {
        controllers = g.controllers;
        runs = g.runs;
        label = within_range 1 label_top v.label.0 k.1;
        seats = seats_range v.group v.label v.seats k.2;
      }

  pub range_votes : VotesInRange v → votes_fit v ≡ true
  range_votes f =
      votes_made (group_made v.group (record { controllers = f.controllers; runs = f.runs })) (within_made 1 label_top v.label.0 f.label)
      (range_seats v.group v.label v.seats f.seats)

  -- IN RANGE EXACTLY WHEN each clause of document 01 holds
  pub votes_exact : (votes_fit v ≡ true → VotesInRange v) × (VotesInRange v → votes_fit v ≡ true)
  votes_exact = (votes_range, range_votes)
