-- The laws of the order of digests: all that the layers above know of `rank`. Assumes nothing.
use Prim.Native.Nat.{ℕ, zero, suc, ◌-◌, ◌/◌, ◌%◌, ◌^◌, ◌≤◌, ◌<◌}
use native.Mathlib.Omega.{arith}
use native.Mathlib.Decide.{dec_le}
use native.Mathlib.Nat.{le_refl}
use mathlib.Core.Logic.{◌⊎◌, inl, inr, by_cases}
use mathlib.Core.Path.{◌≡◌, refl, sym, ap, ◌∙◌}
use mathlib.Core.Bool.{Bool, true, false}
use lib.Count.{ones, ones-le, ones-ones, ones_step}
use lib.Dec.{eqb}
use lib.Pow.{pow_mono}
use borrow.Author.Tests.{eqb-true, eq-eqb}
use Rattle.units.specs.declared.labels.RoundLabel.{RoundLabel}
use Rattle.units.specs.Mask.{mask_end}
use Rattle.units.proofs.Every.{absurd_by, and_left, and_right}
use Rattle.units.proofs.Masks.{mask_end_is}
use Rattle.vote.specs.declared.digest.Digest.{Digest}
use Rattle.vote.specs.Digest.{legal, same, rank, unrank, full, least}
use Rattle.vote.specs.InRange.{LegalDigest}
use Rattle.vote.specs.Decision.{seat}
use Rattle.vote.proofs.InRange.{legal_range, legal_made}

-- ---- the same digest

pub digest_path : (d e : Digest) → d.mask ≡ e.mask → d.state.0 ≡ e.state.0 → d ≡ e
digest_path d e p q = λ i. record { mask = p i; state = record { 0 = q i } }

pub same_true : (d e : Digest) → same d e ≡ true → d ≡ e
unfolding same
same_true d e h = digest_path d e (eqb-true _ _ (and_left (eqb d.mask e.mask) _ h)) (eqb-true _ _ (and_right (eqb d.mask e.mask) _ h))

pub same_refl : (d : Digest) → same d d ≡ true
unfolding same
same_refl d = rw (eq-eqb d.mask d.mask refl, eq-eqb d.state.0 d.state.0 refl)

same_false : (d e : Digest) → same d e ≡ false → d ≡ e → ⊥
same_false d e h p =
    let q : same e e ≡ false = rw p at h in
    let r : same e e ≡ true = same_refl e in
    absurd_by (cc)

pub same_dec : (d e : Digest) → (d ≡ e) ⊎ (d ≡ e → ⊥)
same_dec d e = told (same d e) refl
  where
    told : (b : Bool) → same d e ≡ b → (d ≡ e) ⊎ (d ≡ e → ⊥)
    told true h = inl (same_true d e h)
    told false h = inr (same_false d e h)

-- ---- a round, as facts

pub record Round (m : ℕ) (label : RoundLabel) : Type 0 where
  pub runs_low : 1 ≤ m
  pub runs_high : m ≤ 16
  pub label_low : 1 ≤ label.0
  pub label_high : label.0 < 2 ^ 32

module _ (m : ℕ) (label : RoundLabel) (w : Round m label) where
  pub mask_small : (d : Digest) → LegalDigest m label d → d.mask < 2 ^ 16
  mask_small d l = omega (arith, l.own_runs, pow_mono {i = m} {j = 16} w.runs_high)

  -- ---- THE LAWS OF THE ORDER

  -- a rank tells its digest
  pub unrank_rank : (d : Digest) → legal m label d ≡ true → unrank (rank d) ≡ d
  unfolding rank unrank
  unrank_rank d h =
      let l = legal_range m label d h in
      let a = mask_small d l in
      let o = ones-le 16 d.mask a in
      digest_path (unrank (rank d)) d (omega (arith, l.older, w.label_high)) (omega (arith, l.older, w.label_high))

  -- two legal digests of one rank are the same
  pub rank_injective : (d e : Digest) → legal m label d ≡ true → legal m label e ≡ true → rank d ≡ rank e → d ≡ e
  rank_injective d e p q h = sym (unrank_rank d p) ∙ ap unrank h ∙ unrank_rank e q

  -- a rank is below what one vote adds
  pub rank_below : (d : Digest) → legal m label d ≡ true → rank d < seat
  unfolding rank
  rank_below d h =
      let l = legal_range m label d h in
      omega (arith, l.older, w.label_high, mask_small d l, ones-le 16 d.mask (mask_small d l))

  pub full_legal : legal m label (full m label) ≡ true
  unfolding full
  full_legal =
      let two : 2 ^ 1 ≤ 2 ^ m = pow_mono {i = 1} {j = m} w.runs_low in
      let e = mask_end_is m w.runs_high in
      legal_made m label (full m label) (record { runs = w.runs_high; some_run = omega arith; own_runs = omega arith; older = omega (arith, w.label_low) })

  pub full_largest : (d : Digest) → legal m label d ≡ true → rank d ≤ rank (full m label)
  unfolding rank full
  full_largest d h =
      let l = legal_range m label d h in
      let e = mask_end_is m w.runs_high in
      let o : ones (mask_end m - 1) ≡ m = ap (λ (n : ℕ). ones (n - 1)) e ∙ ones-ones m in
      omega (arith, ones-le m d.mask l.own_runs, w.runs_high, l.own_runs, l.older)

  pub least_legal : legal m label least ≡ true
  unfolding least
  least_legal =
      let two : 2 ^ 1 ≤ 2 ^ m = pow_mono {i = 1} {j = m} w.runs_low in
      legal_made m label least (record { runs = w.runs_high; some_run = omega arith; own_runs = omega arith; older = omega (arith, w.label_low) })

ones_pos' : (n x : ℕ) → x ≤ n → 1 ≤ x → 1 ≤ ones x
ones_pos' zero x g h = absurd (omega arith)
ones_pos' (suc n) x g h =
    by_cases (dec_le 1 (x % 2)) (λ k. omega (arith, ones_step x))
    (λ k. omega (arith, ones_step x, ones_pos' n (x / 2) (omega arith) (omega arith)))

module _ (m : ℕ) (label : RoundLabel) (w : Round m label) where
  pub least_smallest : (d : Digest) → legal m label d ≡ true → rank least ≤ rank d
  unfolding rank least ones
  least_smallest d h =
      let l = legal_range m label d h in
      omega (arith, l.some_run, ones_pos' d.mask d.mask (le_refl d.mask) l.some_run)

pub least_some : 1 ≤ rank least
unfolding rank least ones
least_some = omega arith
