-- Counts in a list of ballots and in its completions. Assumes nothing.
use Rattle.std.specs.Prelude.{None, Some}
use Prim.Native.Nat.{ℕ, ◌+◌, ◌≤◌}
use native.Mathlib.Omega.{arith}
use native.Mathlib.Decide.{dec_le}
use mathlib.Core.Path.{◌≡◌, refl, ap, subst}
use mathlib.Core.Bool.{Bool, true, false}
use mathlib.Core.List.{List, [], ◌∷◌, ◌++◌}
use mathlib.Core.Logic.{◌⊎◌, inl, inr, ⊎_elim, by_cases}
use Rattle.units.specs.declared.labels.RoundLabel.{RoundLabel}
use Rattle.vote.specs.declared.digest.Digest.{Digest}
use Rattle.vote.specs.Digest.{Ballot, legal, same}
use Rattle.vote.specs.Vote.{bit, votes_for, total, count, missing, Completes, done, kept, filled}
use Rattle.vote.proofs.Order.{same_true, same_refl, same_dec}

bit_le : (b : Bool) → bit b ≤ 1
bit_le true = omega arith
bit_le false = omega arith

pub for_self : (d : Digest) → votes_for d (Some d) ≡ 1
for_self d = ap bit (same_refl d)

pub for_other : (d e : Digest) → (e ≡ d → ⊥) → votes_for d (Some e) ≡ 0
for_other d e n = told (same e d) refl
  where
    told : (b : Bool) → same e d ≡ b → bit b ≡ 0
    told true h = absurd (n (same_true e d h))
    told false h = refl

-- ---- what holds of each vote

abbrev pub AtBallot : (Digest → Type 0) → Ballot → Type 0
AtBallot P None = Unit {0}
AtBallot P (Some d) = P d

unfoldable pub All : (Digest → Type 0) → List Ballot → Type 0
All P [] = Unit {0}
All P (b ∷ s) = AtBallot P b × All P s

pub all_voted : (P : Digest → Type 0) (s : List Ballot) → All P s → (d : Digest) → 1 ≤ count d s → P d
unfolding All total
all_voted P [] h d k = absurd (omega arith)
all_voted P (None ∷ s) h d k = all_voted P s h.1 d (omega arith)
all_voted P (Some x ∷ s) h d k =
    ⊎_elim (λ p. subst P p h.0) (λ n. all_voted P s h.1 d (omega (arith, for_other d x n))) (same_dec x d)

-- ---- completions

module _ (m : ℕ) (label : RoundLabel) where
  pub as_it_is : (s : List Ballot) → Completes m label s s
  as_it_is [] = done
  as_it_is (b ∷ s) = kept (as_it_is s)

  pub grows : {s t : List Ballot} (d : Digest) → Completes m label s t → count d s ≤ count d t
  unfolding total
  grows d done = omega arith
  grows d (kept r) = omega (arith, grows d r)
  grows d (filled h r) = omega (arith, grows d r)

  pub bounded : {s t : List Ballot} (e : Digest) → Completes m label s t → count e t ≤ count e s + missing s
  unfolding total
  bounded e done = omega arith
  bounded e (kept r) = omega (arith, bounded e r)
  bounded e (filled {d = d} h r) = omega (arith, bounded e r, bit_le (same d e))

  -- who has a vote in a completion had one before, or is legal
  pub voted_from : {s t : List Ballot} (e : Digest) → Completes m label s t → 1 ≤ count e t → (1 ≤ count e s) ⊎ (legal m label e ≡ true)
  unfolding total
  voted_from e done h = inl h
  voted_from e (kept {b = b} {s = s} {t = t} r) h =
      by_cases (dec_le 1 (count e t)) (λ k. ⊎_elim (λ q. inl (omega arith)) inr (voted_from e r k)) (λ k. inl (omega (arith, grows e r)))
  voted_from e (filled {d = d} {s = s} {t = t} l r) h =
      ⊎_elim (λ p. inr (rw p at l))
      (λ n. ⊎_elim (λ q. inl (omega arith)) inr (voted_from e r (omega (arith, for_other e d n)))) (same_dec d e)

-- every missing ballot is a vote for e
unfoldable pub fill : Digest → List Ballot → List Ballot
fill e [] = []
fill e (None ∷ s) = Some e ∷ fill e s
fill e (Some d ∷ s) = Some d ∷ fill e s

pub fill_completes : (m : ℕ) (label : RoundLabel) (e : Digest) → legal m label e ≡ true → (s : List Ballot) → Completes m label s (fill e s)
unfolding fill
fill_completes m label e h [] = done
fill_completes m label e h (None ∷ s) = filled h (fill_completes m label e h s)
fill_completes m label e h (Some d ∷ s) = kept (fill_completes m label e h s)

pub fill_count : (e : Digest) (s : List Ballot) → count e (fill e s) ≡ count e s + missing s
unfolding fill total
fill_count e [] = refl
fill_count e (None ∷ s) = omega (arith, fill_count e s, for_self e)
fill_count e (Some d ∷ s) = omega (arith, fill_count e s)

pub fill_other : (d e : Digest) → (e ≡ d → ⊥) → (s : List Ballot) → count d (fill e s) ≡ count d s
unfolding fill total
fill_other d e n [] = refl
fill_other d e n (None ∷ s) = omega (arith, fill_other d e n s, for_other d e n)
fill_other d e n (Some x ∷ s) = omega (arith, fill_other d e n s)

pub total_append : (f : Ballot → ℕ) (s t : List Ballot) → total f (s ++ t) ≡ total f s + total f t
unfolding total
total_append f [] t = omega arith
total_append f (b ∷ s) t = omega (arith, total_append f s t)
