-- `decision` is decided exactly when every completion has the same winner, `winning` is the winner, and each question has one answer.
-- These are all that the layers above use of the vote. Assumes nothing.
use Rattle.std.specs.Prelude.{Err, None, Ok, Some}
use Prim.Native.Nat.{ℕ, ◌+◌, ◌*◌, ◌%◌, ◌≤◌, ◌<◌}
use native.Mathlib.Omega.{arith}
use native.Mathlib.Decide.{dec_le}
use mathlib.Core.Path.{◌≡◌, refl, sym, ap, subst, subst⁻¹, ◌∙◌}
use mathlib.Core.Bool.{Bool, true, false}
use mathlib.Core.List.{List, [], ◌∷◌, map, map-map}
use mathlib.Core.Logic.{⊎_elim, by_cases}
use lib.ListN.{length}
use borrow.Author.Tests.{eq-eqb, ne_eqb}
use Rattle.units.specs.declared.refusal.Refusal.TheVariants.{Range}
use Rattle.units.specs.Pick.{pick}
use Rattle.units.proofs.Every.{absurd_by}
use Rattle.units.proofs.TheNumbers.{six}
use Rattle.vote.specs.declared.digest.Digest.{Digest}
use Rattle.vote.specs.Digest.{Ballot, Decision, Poll, rank, unrank}
use Rattle.vote.specs.declared.votes.Votes.{Votes}
use Rattle.vote.specs.Vote.{total, count, missing, Wins, Decides, Answers, Names, ballot_of, all_ballots, ballots, rank_of, votes_fit}
use Rattle.vote.specs.Decision.{seat, ranks_of, strengths, largest, missing_of, held_off, rival_of, ruled_at, ruled, decision, strongest_at, winning}
use Rattle.vote.proofs.Order.{same_dec, unrank_rank, rank_below}
use Rattle.vote.proofs.Lexicographic.{lex_rank}
use Rattle.vote.proofs.Counting.{all_voted, as_it_is}
use Rattle.vote.proofs.Facts.{round, all_legal, group_legal, same_count, more_missing, seats_seven}
use Rattle.vote.proofs.Exact.{Safe, wins_unique, safe_decides, decided_safe}
use Rattle.vote.proofs.Strength.{tally_missing}
use Rattle.vote.proofs.Rule.{strongest, weaker, rank_of_strength, test_safe, test_unsafe}

missing_length : (s : List Ballot) → missing s ≤ length s
unfolding total
missing_length [] = omega arith
missing_length (None ∷ s) = omega (arith, missing_length s)
missing_length (Some d ∷ s) = omega (arith, missing_length s)

module _ (v : Votes) (fit : votes_fit v ≡ true) where
  ranks : List ℕ
  ranks = map rank_of (all_ballots v)

  ranks_are : ranks_of v.seats ≡ ranks
  unfolding ranks
  ranks_are = sym (map-map rank_of ballot_of v.seats)

  missing_is : missing_of v.group.g ranks ≡ missing (ballots v)
  unfolding ranks missing_of
  missing_is =
      omega (
        arith,
        tally_missing v.group.m v.label (round v fit) (all_ballots v) (all_legal v fit),
        missing_length (all_ballots v),
        seats_seven v fit,
        more_missing v fit,
      )

  -- what is safe among all seats is so in the group
  in_group : (k : ℕ) (d : Digest) → Safe v.group.m v.label (all_ballots v) k d → Safe v.group.m v.label (ballots v) k d
  in_group k d f =
      record {
        voted = omega (arith, f.voted, same_count v fit d);
        behind = λ e l n. omega (arith, f.behind e l n, same_count v fit d, same_count v fit e);
      }

  in_all : (k : ℕ) (d : Digest) → Safe v.group.m v.label (ballots v) k d → Safe v.group.m v.label (all_ballots v) k d
  in_all k d f =
      record {
        voted = omega (arith, f.voted, same_count v fit d);
        behind = λ e l n. omega (arith, f.behind e l n, same_count v fit d, same_count v fit e);
      }

  safe_of : (d : Digest) → Decides v d → Safe v.group.m v.label (all_ballots v) (missing (ballots v)) d
  safe_of d h = in_all (missing (ballots v)) d (decided_safe v.group.m v.label (round v fit) (ballots v) (group_legal v fit) d h)

  -- ---- no vote at all

  module _ (none : largest (strengths ranks) ≡ 0) where
    nobody_voted : (d : Digest) → 1 ≤ count d (ballots v) → ⊥
    unfolding ranks
    nobody_voted d k =
        let k' : 1 ≤ count d (all_ballots v) = omega (arith, same_count v fit d) in
        omega (arith, weaker v.group.m v.label (round v fit) (all_ballots v) (all_legal v fit) d k')

    ruled_nothing : Answers v (ruled v.group v.label ranks)
    unfolding ruled ruled_at pick
    ruled_nothing = rw (eq-eqb (largest (strengths ranks)) 0 none) (fit, λ d h. nobody_voted d (h (ballots v) (as_it_is _ _ (ballots v))).voted)

    won_nothing : Names v (strongest_at (largest (strengths ranks)))
    unfolding strongest_at pick
    won_nothing = rw (eq-eqb (largest (strengths ranks)) 0 none) (fit, λ d h. nobody_voted d h.voted)

  -- ---- the strongest vote

  module _ (d : Digest) (k : 1 ≤ count d (all_ballots v)) (top : count d (all_ballots v) * seat + rank d ≡ largest (strengths ranks)) where
    some : largest (strengths ranks) ≡ 0 → ⊥
    some z = omega arith

    first : largest (strengths ranks) % seat ≡ rank d
    unfolding ranks
    first = ap (λ (n : ℕ). n % seat) (sym top) ∙ rank_of_strength v.group.m v.label (round v fit) (all_ballots v) (all_legal v fit) d k

    named : unrank (largest (strengths ranks) % seat) ≡ d
    named = ap unrank first ∙ unrank_rank v.group.m v.label (round v fit) d (all_voted _ (all_ballots v) (all_legal v fit) d k)

    behind : (e : Digest) → 1 ≤ count e (all_ballots v) → count e (all_ballots v) * seat + rank e ≤ count d (all_ballots v) * seat + rank d
    unfolding ranks
    behind e c = omega (arith, weaker v.group.m v.label (round v fit) (all_ballots v) (all_legal v fit) e c)

    below : (e : Digest) → 1 ≤ count e (all_ballots v) → rank e < seat
    below e c = rank_below v.group.m v.label (round v fit) e (all_voted _ (all_ballots v) (all_legal v fit) e c)

    compared : (e : Digest) → (count e (ballots v) ≤ count d (ballots v)) × (count e (ballots v) ≡ count d (ballots v) → rank e ≤ rank d)
    compared e =
        let ce = same_count v fit e in
        let cd = same_count v fit d in
        by_cases (dec_le 1 (count e (all_ballots v))) (λ c. (omega (arith, behind e c, below d k), λ q. omega (arith, behind e c)))
        (λ c. (omega arith, λ q. absurd (omega arith)))

    won : Wins (ballots v) d
    won =
        record {
          voted = omega (arith, same_count v fit d);
          most = λ e. (compared e).0;
          largest = λ e q x.
              let c : 1 ≤ count e (all_ballots v) = omega (arith, same_count v fit d, same_count v fit e) in
              omega (arith, (compared e).1 q, lex_rank v.group.m v.label (round v fit) d e (all_voted _ (all_ballots v) (all_legal v fit) d k) (all_voted _ (all_ballots v) (all_legal v fit) e c) x);
        }

    won_something : Names v (strongest_at (largest (strengths ranks)))
    unfolding strongest_at pick
    won_something = rw (ne_eqb (largest (strengths ranks)) 0 some, named) (fit, won)

    abbrev Test : Bool → Type 0
    Test b = held_off (rival_of v.group.m v.label (strengths ranks) (rank d)) (missing (ballots v)) (count d (all_ballots v) * seat + rank d) ≡ b

    ruled_is : ruled v.group v.label ranks
        ≡ pick (held_off (rival_of v.group.m v.label (strengths ranks) (rank d)) (missing (ballots v)) (count d (all_ballots v) * seat + rank d)) (Ok (Some d)) (Ok None)
    unfolding ruled ruled_at pick
    ruled_is = rw (ne_eqb (largest (strengths ranks)) 0 some, named, first, missing_is, ← top)

    decided_yes : Test true → Decides v d
    unfolding ranks
    decided_yes h =
        safe_decides v.group.m v.label (round v fit) (ballots v) (group_legal v fit) d
        (in_group (missing (ballots v)) d (test_safe v.group.m v.label (round v fit) (all_ballots v) (all_legal v fit) d k (missing (ballots v)) h))

    decided_no : Test false → (e : Digest) → Decides v e → ⊥
    unfolding ranks
    decided_no h e f =
        ⊎_elim
        (λ p. test_unsafe v.group.m v.label (round v fit) (all_ballots v) (all_legal v fit) d k (missing (ballots v)) h
        (safe_of d (subst (Decides v) p f)))
        (λ n. let g = safe_of e f in
        omega (arith, behind e g.voted, g.behind d (all_voted _ (all_ballots v) (all_legal v fit) d k) (λ q. n (sym q))))
        (same_dec e d)

    ruled_something : Answers v (ruled v.group v.label ranks)
    unfolding pick
    ruled_something = subst⁻¹ (Answers v) ruled_is (told _ refl)
      where
        told : (b : Bool) → Test b → Answers v (pick b (Ok (Some d)) (Ok None))
        told true h = (fit, decided_yes h)
        told false h = (fit, decided_no h)

  ruled_exact : Answers v (ruled v.group v.label (ranks_of v.seats))
  unfolding ranks
  ruled_exact =
      subst⁻¹ (λ (l : List ℕ). Answers v (ruled v.group v.label l)) ranks_are
      (⊎_elim (λ z. ruled_nothing z) (λ q. ruled_something q.0 q.1 q.2)
      (strongest v.group.m v.label (round v fit) (all_ballots v) (all_legal v fit)))

  strongest_exact : Names v (strongest_at (largest (strengths (ranks_of v.seats))))
  unfolding ranks
  strongest_exact =
      subst⁻¹ (λ (l : List ℕ). Names v (strongest_at (largest (strengths l)))) ranks_are
      (⊎_elim (λ z. won_nothing z) (λ q. won_something q.0 q.1 q.2)
      (strongest v.group.m v.label (round v fit) (all_ballots v) (all_legal v fit)))

-- DECIDED EXACTLY WHEN: refused with 6 where something is out of range; else decided for d where every completion has d as its winner, and undecided where there is no such d
pub decision_exact : (v : Votes) → Answers v (decision v)
unfolding decision pick
decision_exact v = told (votes_fit v) refl
  where
    told : (b : Bool) → votes_fit v ≡ b → Answers v (pick b (ruled v.group v.label (ranks_of v.seats)) (Err Range))
    told true fit = ruled_exact v fit
    told false e = (refl, e)

pub winning_exact : (v : Votes) → Names v (winning v)
unfolding winning pick
winning_exact v = told (votes_fit v) refl
  where
    told : (b : Bool) → votes_fit v ≡ b → Names v (pick b (strongest_at (largest (strengths (ranks_of v.seats)))) (Err Range))
    told true fit = strongest_exact v fit
    told false e = (refl, e)

-- ---- two answers that keep the promise are equal

never : {A : Type 0} (b : Bool) → b ≡ true → b ≡ false → A
never b p q = absurd_by (cc)

module _ (v : Votes) where
  winners_one : votes_fit v ≡ true → (d e : Digest) → Wins (ballots v) d → Wins (ballots v) e → d ≡ e
  winners_one fit d e p q = wins_unique v.group.m v.label (round v fit) (ballots v) (group_legal v fit) d e p q

  pub decided_one : votes_fit v ≡ true → (d e : Digest) → Decides v d → Decides v e → d ≡ e
  decided_one fit d e p q = winners_one fit d e (p _ (as_it_is _ _ (ballots v))) (q _ (as_it_is _ _ (ballots v)))

  pub one_answer : (r t : Decision) → Answers v r → Answers v t → r ≡ t
  one_answer (Err a) (Err b) p q = ap Err (six a p.0 ∙ sym (six b q.0))
  one_answer (Err a) (Ok None) p q = never (votes_fit v) q.0 p.1
  one_answer (Err a) (Ok (Some e)) p q = never (votes_fit v) q.0 p.1
  one_answer (Ok None) (Err b) p q = never (votes_fit v) p.0 q.1
  one_answer (Ok None) (Ok None) p q = refl
  one_answer (Ok None) (Ok (Some e)) p q = absurd (p.1 e q.1)
  one_answer (Ok (Some d)) (Err b) p q = never (votes_fit v) p.0 q.1
  one_answer (Ok (Some d)) (Ok None) p q = absurd (q.1 d p.1)
  one_answer (Ok (Some d)) (Ok (Some e)) p q = ap (λ d. Ok (Some d)) (decided_one p.0 d e p.1 q.1)

  pub one_winner : (r t : Poll) → Names v r → Names v t → r ≡ t
  one_winner (Err a) (Err b) p q = ap Err (six a p.0 ∙ sym (six b q.0))
  one_winner (Err a) (Ok None) p q = never (votes_fit v) q.0 p.1
  one_winner (Err a) (Ok (Some e)) p q = never (votes_fit v) q.0 p.1
  one_winner (Ok None) (Err b) p q = never (votes_fit v) p.0 q.1
  one_winner (Ok None) (Ok None) p q = refl
  one_winner (Ok None) (Ok (Some e)) p q = absurd (p.1 e q.1)
  one_winner (Ok (Some d)) (Err b) p q = never (votes_fit v) p.0 q.1
  one_winner (Ok (Some d)) (Ok None) p q = absurd (q.1 d p.1)
  one_winner (Ok (Some d)) (Ok (Some e)) p q = ap (λ d. Ok (Some d)) (winners_one p.0 d e p.1 q.1)
