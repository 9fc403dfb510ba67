-- Ranks stand for legal votes: their tallies are the counts, and the strongest is the winner. Assumes nothing.
use Rattle.std.specs.Prelude.{None, Some}
use Prim.Native.Nat.{ℕ, ◌+◌, ◌*◌, ◌≤◌}
use native.Mathlib.Omega.{arith}
use native.Mathlib.Decide.{dec_le}
use mathlib.Core.Path.{◌≡◌, refl, ap}
use mathlib.Core.Bool.{true}
use mathlib.Core.List.{List, [], ◌∷◌, map}
use mathlib.Core.Logic.{◌⊎◌, inl, inr, ⊎_elim, by_cases}
use borrow.Author.Tests.{eq-eqb, ne_eqb}
use Rattle.units.specs.declared.labels.RoundLabel.{RoundLabel}
use Rattle.units.specs.Pick.{pick}
use Rattle.vote.specs.declared.digest.Digest.{Digest}
use Rattle.vote.specs.Digest.{Ballot, legal, rank}
use Rattle.vote.specs.Vote.{bit, votes_for, total, count, missing, rank_of}
use Rattle.vote.specs.Decision.{seat, tally_of, strength_of, largest}
use Rattle.vote.proofs.Order.{Round, same_dec, rank_injective, rank_below, least_smallest, least_some}
use Rattle.vote.proofs.Counting.{All, for_self, for_other}

module _ (m : ℕ) (label : RoundLabel) (w : Round m label) where
  pub rank_some : (d : Digest) → legal m label d ≡ true → 1 ≤ rank d
  rank_some d h = omega (arith, least_some, least_smallest m label w d h)

  -- a rank stands there as often as its digest was voted
  tally_count : (d : Digest) → legal m label d ≡ true → (s : List Ballot) → All (λ e. legal m label e ≡ true) s → tally_of (rank d) (map rank_of s) ≡ count d s
  unfolding tally_of total All
  tally_count d h [] ok = refl
  tally_count d h (None ∷ s) ok =
      omega (arith, ap bit (ne_eqb 0 (rank d) (λ z. absurd (omega (arith, rank_some d h)))), tally_count d h s ok.1)
  tally_count d h (Some e ∷ s) ok =
      ⊎_elim
      (λ p. omega (arith, ap bit (eq-eqb (rank e) (rank d) (ap rank p)), ap (λ (x : Digest). votes_for d (Some x)) p, for_self d, tally_count d h s ok.1))
      (λ n. omega (arith, ap bit (ne_eqb (rank e) (rank d) (λ z. n (rank_injective m label w e d ok.0 h z))), for_other d e n, tally_count d h s ok.1))
      (same_dec e d)

  pub tally_missing : (s : List Ballot) → All (λ e. legal m label e ≡ true) s → tally_of 0 (map rank_of s) ≡ missing s
  unfolding tally_of total All
  tally_missing [] ok = refl
  tally_missing (None ∷ s) ok = omega (arith, tally_missing s ok.1)
  tally_missing (Some e ∷ s) ok =
      omega (arith, ap bit (ne_eqb (rank e) 0 (λ z. absurd (omega (arith, rank_some e ok.0)))), tally_missing s ok.1)

  pub strength_is : (d : Digest) → legal m label d ≡ true → (s : List Ballot) → All (λ e. legal m label e ≡ true) s
      → strength_of (map rank_of s) (rank d) ≡ count d s * seat + rank d
  unfolding strength_of pick
  strength_is d h s ok =
      rw (ne_eqb (rank d) 0 (λ z. absurd (omega (arith, rank_some d h))), tally_count d h s ok)
      (omega (arith, rank_below m label w d h))

-- ---- the largest of f over the ranks of the votes

pub largest_above : (f : ℕ → ℕ) (s : List Ballot) (e : Digest) → 1 ≤ count e s → f (rank e) ≤ largest (map f (map rank_of s))
unfolding largest total
largest_above f [] e k = absurd (omega arith)
largest_above f (None ∷ s) e k = omega (arith, largest_above f s e (omega arith))
largest_above f (Some d ∷ s) e k =
    ⊎_elim (λ p. omega (arith, ap (λ (x : Digest). f (rank x)) p)) (λ n. omega (arith, largest_above f s e (omega (arith, for_other e d n)))) (same_dec d e)

-- it is 0, or that of a vote
pub largest_found : (f : ℕ → ℕ) → f 0 ≡ 0 → (s : List Ballot)
    → (largest (map f (map rank_of s)) ≡ 0) ⊎ ((d : Digest) × (1 ≤ count d s) × (f (rank d) ≡ largest (map f (map rank_of s))))
unfolding largest total
largest_found f z [] = inl refl
largest_found f z (None ∷ s) =
    ⊎_elim (λ p. inl (omega arith)) (λ q. inr (q.0, omega (arith, q.1), omega (arith, q.2))) (largest_found f z s)
largest_found f z (Some d ∷ s) =
    let self = for_self d in
    ⊎_elim (λ p. by_cases (dec_le 1 (f (rank d))) (λ k. inr (d, omega arith, omega arith)) (λ k. inl (omega arith)))
    (λ q. by_cases (dec_le (f (rank d)) (f (rank q.0))) (λ k. inr (q.0, omega (arith, q.1), omega (arith, q.2)))
    (λ k. inr (d, omega arith, omega (arith, q.2))))
    (largest_found f z s)
