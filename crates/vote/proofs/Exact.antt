-- A set of votes is decided for d exactly where d has a vote and every other legal digest, given all the missing votes, stays behind. Assumes nothing.
use Prim.Native.Nat.{ℕ, ◌+◌, ◌*◌, ◌≤◌, ◌<◌}
use native.Mathlib.Omega.{arith}
use native.Mathlib.Decide.{dec_le, dec_lt}
use native.Mathlib.Nat.{le_antisymm}
use mathlib.Core.Path.{◌≡◌, sym, ap}
use mathlib.Core.Bool.{true}
use mathlib.Core.List.{List}
use mathlib.Core.Logic.{⊎_elim, by_cases}
use Rattle.units.specs.declared.labels.RoundLabel.{RoundLabel}
use Rattle.vote.specs.Decision.{seat}
use Rattle.vote.specs.declared.digest.Digest.{Digest}
use Rattle.vote.specs.Digest.{Ballot, legal, rank}
use Rattle.vote.specs.Vote.{count, missing, Wins, Completes, DecidedFor}
use Rattle.vote.proofs.Order.{Round, same_dec, rank_injective, rank_below}
use Rattle.vote.proofs.Lexicographic.{lex_rank, not_larger}
use Rattle.vote.proofs.Counting.{All, all_voted, as_it_is, grows, bounded, voted_from, fill, fill_completes, fill_count, fill_other}

-- e with k votes more stays behind d
abbrev pub Trails : List Ballot → ℕ → Digest → Digest → Type 0
Trails s k d e = (count e s + k) * seat + rank e < count d s * seat + rank d

-- d has a vote, and no other legal digest can catch up by k votes
pub record Safe (m : ℕ) (label : RoundLabel) (s : List Ballot) (k : ℕ) (d : Digest) : Type 0 where
  pub voted : 1 ≤ count d s
  pub behind : (e : Digest) → legal m label e ≡ true → (e ≡ d → ⊥) → Trails s k d e

module _ (m : ℕ) (label : RoundLabel) (w : Round m label) (s : List Ballot) (ok : All (λ d. legal m label d ≡ true) s) where
  -- two winners are one
  pub wins_unique : (d e : Digest) → Wins s d → Wins s e → d ≡ e
  wins_unique d e p q =
      let c : count e s ≡ count d s = omega (arith, p.most e, q.most d) in
      let a = all_voted _ s ok d p.voted in
      let b = all_voted _ s ok e q.voted in
      rank_injective m label w d e a b (le_antisymm (not_larger m label w e d b a (q.largest d (sym c))) (not_larger m label w d e a b (p.largest e c)))

  module _ (d : Digest) where
    legal_after : (t : List Ballot) → Completes m label s t → (e : Digest) → 1 ≤ count e t → legal m label e ≡ true
    legal_after t r e k = ⊎_elim (λ q. all_voted _ s ok e q) (λ l. l) (voted_from m label e r k)

    leads : Safe m label s (missing s) d → (t : List Ballot) → Completes m label s t → (e : Digest)
        → (count e t ≤ count d t) × (count e t ≡ count d t → rank e ≤ rank d)
    leads h t r e =
        let gd = grows m label d r in
        let be = bounded m label e r in
        let vd = h.voted in
        by_cases (dec_le 1 (count e t))
        (λ k. ⊎_elim (λ q. (omega (arith, ap (λ (x : Digest). count x t) q), λ z. omega (arith, ap rank q)))
        (λ n. let b = h.behind e (legal_after t r e k) n in
        let rd = rank_below m label w d (all_voted _ s ok d vd) in
        (omega arith, λ q. omega arith))
        (same_dec e d))
        (λ k. (omega arith, λ q. absurd (omega arith)))

    pub safe_decides : Safe m label s (missing s) d → DecidedFor m label s d
    safe_decides h t r =
        let k : 1 ≤ count d t = omega (arith, h.voted, grows m label d r) in
        record {
          voted = k;
          most = λ e. (leads h t r e).0;
          largest = λ e q x. omega (arith, (leads h t r e).1 q, lex_rank m label w d e (legal_after t r d k) (legal_after t r e (omega arith)) x);
        }

    -- the completion in which all the missing ones vote e
    against : DecidedFor m label s d → (e : Digest) → legal m label e ≡ true → (e ≡ d → ⊥) → Trails s (missing s) d e
    against h e le n =
        let v = h (fill e s) (fill_completes m label e le s) in
        let ld = all_voted _ s ok d (h s (as_it_is m label s)).voted in
        let fe = fill_count e s in
        let fd = fill_other d e n s in
        let re = rank_below m label w e le in
        by_cases (dec_lt (count e s + missing s) (count d s)) (λ x. omega arith)
        (λ x. by_cases (dec_lt (rank e) (rank d)) (λ y. omega (arith, v.most e))
        (λ y. absurd (n (rank_injective m label w e d le ld (le_antisymm (not_larger m label w d e ld le (v.largest e (omega (arith, v.most e)))) (omega arith))))))

    pub decided_safe : DecidedFor m label s d → Safe m label s (missing s) d
    decided_safe h = record { voted = (h s (as_it_is m label s)).voted; behind = against h }
