-- What a chain over the seven ranks gives, in the words of specs/Decision.antt. Assumes nothing.
use Rattle.std.proofs.Common.{ℕ, ◌+◌, ◌≡◌, max, Bool, true, false, cond, eqb, List, [], ◌∷◌, refl, arith}
use Rattle.std.proofs.lemmas.List.Recursion.{is_count_by}
use Rattle.std.specs.List.{count_by, fold}
use Rattle.vote.specs.Vote.{bit}
use Rattle.vote.specs.Decision.{tally_of, largest}

bit_more : (b : Bool) (n : ℕ) → bit b + n ≡ cond b (1 + n) n
bit_more true n = refl
bit_more false n = omega arith

-- a tally counts
pub tally_counted : (x : ℕ) (l : List ℕ) → tally_of x l ≡ count_by (λ y. eqb y x) l
unfolding tally_of
tally_counted x l = is_count_by (tally_of x) (λ y. eqb y x) refl (λ y m. bit_more (eqb y x) (tally_of x m)) l

-- the largest of a list, from a on
pub largest_folded : (a : ℕ) (l : List ℕ) → fold (λ m x. max m x) a l ≡ max a (largest l)
unfolding largest
largest_folded a [] = omega arith
largest_folded a (x ∷ l) = omega (arith, largest_folded (max a x) l)
