-- Ranks are in the order of digests, `Lex` of specs/Digest: the state label, then the number of measurements, then the mask as a number. Assumes nothing.
use Prim.Native.Nat.{ℕ, ◌≤◌, ◌<◌}
use native.Mathlib.Omega.{arith}
use native.Mathlib.Decide.{dec_lt}
use mathlib.Core.Logic.{inl, inr, ⊎_elim, by_cases}
use mathlib.Core.Path.{◌≡◌, ap}
use mathlib.Core.Bool.{true}
use lib.Count.{ones, ones-le}
use Rattle.units.specs.declared.labels.RoundLabel.{RoundLabel}
use Rattle.vote.specs.declared.digest.Digest.{Digest}
use Rattle.vote.specs.Digest.{legal, Lex, rank}
use Rattle.vote.proofs.InRange.{legal_range}
use Rattle.vote.proofs.Order.{Round, mask_small, digest_path}

module _ (m : ℕ) (label : RoundLabel) (w : Round m label) where
  pub lex_rank : (d e : Digest) → legal m label d ≡ true → legal m label e ≡ true → Lex d e → rank d < rank e
  unfolding rank
  lex_rank d e p q h =
      let k = legal_range m label d p in
      let l = legal_range m label e q in
      let a = mask_small m label w d k in
      let b = mask_small m label w e l in
      ⊎_elim (λ x. omega (arith, ones-le 16 d.mask a))
      (λ x. ⊎_elim (λ y. omega arith) (λ y. omega arith) x.1) h

  pub rank_lex : (d e : Digest) → legal m label d ≡ true → legal m label e ≡ true → rank d < rank e → Lex d e
  rank_lex d e p q h =
      by_cases (dec_lt d.state.0 e.state.0) inl
      (λ x. by_cases (dec_lt e.state.0 d.state.0)
      (λ y. absurd (omega (arith, lex_rank e d q p (inl y))))
      (λ y. inr (
        omega arith,
        by_cases (dec_lt (ones d.mask) (ones e.mask)) inl
            (λ z. by_cases (dec_lt (ones e.mask) (ones d.mask))
            (λ u. absurd (omega (arith, lex_rank e d q p (inr (omega arith, inl u)))))
            (λ u. inr (
              omega arith,
              by_cases (dec_lt d.mask e.mask) (λ k. k)
                  (λ k. by_cases (dec_lt e.mask d.mask)
                  (λ l. absurd (omega (arith, lex_rank e d q p (inr (omega arith, inr (omega arith, l))))))
                  (λ l. absurd (omega (arith, ap rank (digest_path d e (omega arith) (omega arith)))))),
            ))),
      )))

  -- what is not larger has no higher rank
  pub not_larger : (d e : Digest) → legal m label d ≡ true → legal m label e ≡ true → (Lex d e → ⊥) → rank e ≤ rank d
  not_larger d e p q n = by_cases (dec_lt (rank d) (rank e)) (λ x. absurd (n (rank_lex d e p q x))) (λ x. omega arith)
