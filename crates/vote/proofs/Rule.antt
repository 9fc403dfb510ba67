-- The test that the code makes of the strongest vote is exactly that no legal digest can catch up. Assumes nothing.
use Prim.Native.Nat.{ℕ, ◌+◌, ◌*◌, ◌-◌, ◌%◌, ◌≤◌, ◌<◌}
use native.Mathlib.Omega.{arith}
use native.Mathlib.Decide.{dec_le, ℕ_discrete}
use native.Mathlib.Nat.{le_antisymm}
use mathlib.Core.Path.{◌≡◌, refl, sym, ap, ◌∙◌}
use mathlib.Core.Bool.{Bool, true, false}
use mathlib.Core.List.{List, map, map-map}
use mathlib.Core.Logic.{◌⊎◌, inl, inr, ⊎_elim, by_cases}
use lib.Dec.{eqb, ltb}
use borrow.Author.Tests.{eq-eqb, ne_eqb, eqb-true, eqb-false, ltb-true, ltb-false}
use Rattle.units.specs.declared.labels.RoundLabel.{RoundLabel}
use Rattle.units.specs.Pick.{pick}
use Rattle.units.proofs.Every.{absurd_by}
use Rattle.vote.specs.declared.digest.Digest.{Digest}
use Rattle.vote.specs.Digest.{Ballot, legal, rank, full, least}
use Rattle.vote.specs.Vote.{count, rank_of}
use Rattle.vote.specs.Decision.{seat, strength_of, strengths, largest, other_than, others_than, outsider, held_off, rival_of}
use Rattle.vote.proofs.Order.{Round, same_dec, rank_injective, rank_below, full_legal, full_largest, least_legal, least_smallest}
use Rattle.vote.proofs.Counting.{All, all_voted}
use Rattle.vote.proofs.Exact.{Trails, Safe}
use Rattle.vote.proofs.Strength.{rank_some, strength_is, largest_above, largest_found}

pub held_yes : (r k best : ℕ) → held_off r k best ≡ true → (r ≡ 0) ⊎ (k * seat < best - r)
unfolding held_off pick
held_yes r k best = told (eqb r 0) refl
  where
    told : (b : Bool) → eqb r 0 ≡ b → pick b true (ltb (k * seat) (best - r)) ≡ true → (r ≡ 0) ⊎ (k * seat < best - r)
    told true e h = inl (eqb-true r 0 e)
    told false e h = inr (ltb-true _ _ h)

pub held_no : (r k best : ℕ) → held_off r k best ≡ false → (1 ≤ r) × (best - r ≤ k * seat)
unfolding held_off pick
held_no r k best = told (eqb r 0) refl
  where
    told : (b : Bool) → eqb r 0 ≡ b → pick b true (ltb (k * seat) (best - r)) ≡ false → (1 ≤ r) × (best - r ≤ k * seat)
    told true e h = absurd_by (cc)
    told false e h = let n = eqb-false r 0 e in (omega arith, ltb-false _ _ h)

module _ (m : ℕ) (label : RoundLabel) (w : Round m label) (s : List Ballot) (ok : All (λ d. legal m label d ≡ true) s) where
  abbrev ranks : List ℕ
  ranks = map rank_of s

  -- ---- the strongest vote

  pub strongest : (largest (strengths ranks) ≡ 0) ⊎ ((d : Digest) × (1 ≤ count d s) × (count d s * seat + rank d ≡ largest (strengths ranks)))
  unfolding strength_of pick
  strongest =
      ⊎_elim inl (λ q. inr (q.0, q.1, sym (strength_is m label w q.0 (all_voted _ s ok q.0 q.1) s ok) ∙ q.2)) (largest_found (strength_of ranks) refl s)

  pub weaker : (e : Digest) → 1 ≤ count e s → count e s * seat + rank e ≤ largest (strengths ranks)
  weaker e k = omega (arith, largest_above (strength_of ranks) s e k, strength_is m label w e (all_voted _ s ok e k) s ok)

  module _ (d : Digest) (v : 1 ≤ count d s) where
    own : legal m label d ≡ true
    own = all_voted _ s ok d v

    pub rank_of_strength : (count d s * seat + rank d) % seat ≡ rank d
    rank_of_strength = omega (arith, rank_below m label w d own)

    -- ---- the other votes

    other : ℕ → ℕ
    other y = other_than (rank d) (strength_of ranks y)

    others_are : others_than (rank d) (strengths ranks) ≡ map other ranks
    unfolding other
    others_are = map-map (other_than (rank d)) (strength_of ranks) ranks

    other_none : other 0 ≡ 0
    unfolding other other_than strength_of pick
    other_none = told (eqb 0 (rank d))
      where
        told : (b : Bool) → ◌≡◌ {A = ℕ} (pick b 0 0) 0
        told true = refl
        told false = refl

    other_is : (e : Digest) → legal m label e ≡ true → (e ≡ d → ⊥) → other (rank e) ≡ count e s * seat + rank e
    unfolding other other_than pick
    other_is e l n =
        let q = strength_is m label w e l s ok in
        let r : (count e s * seat + rank e) % seat ≡ rank e = omega (arith, rank_below m label w e l) in
        rw (q, r, ne_eqb (rank e) (rank d) (λ z. n (rank_injective m label w e d l own z)))

    other_self : other (rank d) ≡ 0
    unfolding other other_than pick
    other_self = rw (strength_is m label w d own s ok, rank_of_strength, eq-eqb (rank d) (rank d) refl)

    -- the strongest other vote: 0, or that of a vote for another
    other_found : (largest (map other ranks) ≡ 0)
        ⊎ ((x : Digest) × (1 ≤ count x s) × (x ≡ d → ⊥) × (count x s * seat + rank x ≡ largest (map other ranks)))
    other_found =
        ⊎_elim inl
        (λ q. ⊎_elim (λ p. inl (sym q.2 ∙ ap (λ (x : Digest). other (rank x)) p ∙ other_self))
        (λ n. inr (q.0, q.1, n, sym (other_is q.0 (all_voted _ s ok q.0 q.1) n) ∙ q.2))
        (same_dec q.0 d))
        (largest_found other other_none s)

    other_above : (e : Digest) → 1 ≤ count e s → (e ≡ d → ⊥) → count e s * seat + rank e ≤ largest (map other ranks)
    other_above e k n = omega (arith, largest_above other s e k, other_is e (all_voted _ s ok e k) n)

    -- ---- the rival

    rival_voted : (x : Digest) → 1 ≤ count x s → (x ≡ d → ⊥) → count x s * seat + rank x ≡ largest (map other ranks)
        → rival_of m label (strengths ranks) (rank d) ≡ count x s * seat + rank x
    unfolding rival_of pick
    rival_voted x k n e =
        let z : largest (map other ranks) ≡ 0 → ⊥ = λ z. omega (arith, k) in
        rw (others_are, ne_eqb (largest (map other ranks)) 0 z) (sym e)

    rival_outside : largest (map other ranks) ≡ 0 → rival_of m label (strengths ranks) (rank d) ≡ outsider m label (rank d)
    unfolding rival_of pick
    rival_outside z = rw (others_are, eq-eqb (largest (map other ranks)) 0 z)

    outsider_full : (rank (full m label) ≡ rank d → ⊥) → outsider m label (rank d) ≡ rank (full m label)
    unfolding outsider pick
    outsider_full n = rw (ne_eqb _ _ n)

    outsider_least : rank (full m label) ≡ rank d → (rank least ≡ rank d → ⊥) → outsider m label (rank d) ≡ rank least
    unfolding outsider pick
    outsider_least p n = rw (eq-eqb _ _ p, ne_eqb _ _ n)

    outsider_none : rank (full m label) ≡ rank d → rank least ≡ rank d → outsider m label (rank d) ≡ 0
    unfolding outsider pick
    outsider_none p q = rw (eq-eqb _ _ p, eq-eqb _ _ q)

    differs : (e : Digest) → (rank e ≡ rank d → ⊥) → e ≡ d → ⊥
    differs e n p = n (ap rank p)

    -- ---- the test

    module _ (k : ℕ) where
      abbrev best : ℕ
      best = count d s * seat + rank d

      abbrev Test : Bool → Type 0
      Test b = held_off (rival_of m label (strengths ranks) (rank d)) k best ≡ b

      beaten : Test true → (r : ℕ) → 1 ≤ r → rival_of m label (strengths ranks) (rank d) ≡ r → k * seat < best - r
      beaten h r some e = ⊎_elim (λ z. absurd (omega arith)) (λ q. omega arith) (held_yes (rival_of m label (strengths ranks) (rank d)) k best h)

      -- nobody voted another: an unseen digest is held off by the full one, or by the least one
      unseen : Test true → largest (map other ranks) ≡ 0 → (e : Digest) → legal m label e ≡ true → (e ≡ d → ⊥) → count e s ≡ 0 → Trails s k d e
      unseen h z e l n none =
          let top = full_largest m label w e l in
          let low = least_smallest m label w e l in
          let small = rank_below m label w d own in
          let apart : rank e ≡ rank d → ⊥ = λ q. n (rank_injective m label w e d l own q) in
          by_cases (ℕ_discrete (rank (full m label)) (rank d))
          (λ p. by_cases (ℕ_discrete (rank least) (rank d))
          (λ q. absurd (apart (le_antisymm (omega arith) (omega arith))))
          (λ q. let b = beaten h (rank least) (rank_some m label w least (least_legal m label w)) (rival_outside z ∙ outsider_least p q) in
          by_cases (dec_le k (count d s)) (λ x. omega arith) (λ x. absurd (omega arith))))
          (λ p. let b = beaten h (rank (full m label)) (rank_some m label w (full m label) (full_legal m label w)) (rival_outside z ∙ outsider_full p) in omega arith)

      pub test_safe : Test true → Safe m label s k d
      test_safe h =
          record {
            voted = v;
            behind = λ e l n.
                by_cases (dec_le 1 (count e s))
                (λ c. ⊎_elim (λ z. absurd (omega (arith, other_above e c n)))
                (λ x. let b = beaten h (count x.0 s * seat + rank x.0) (omega (arith, x.1)) (rival_voted x.0 x.1 x.2 x.3) in
                omega (arith, other_above e c n, x.3)) other_found)
                (λ c. ⊎_elim (λ z. unseen h z e l n (omega arith))
                (λ x. let b = beaten h (count x.0 s * seat + rank x.0) (omega (arith, x.1)) (rival_voted x.0 x.1 x.2 x.3) in
                omega (arith, x.1, rank_below m label w e l)) other_found);
          }

      -- one that could catch up
      caught : Safe m label s k d → (x : Digest) → legal m label x ≡ true → (x ≡ d → ⊥) → (r : ℕ) → r ≤ count x s * seat + rank x
          → rival_of m label (strengths ranks) (rank d) ≡ r → Test false → ⊥
      caught f x l n r le e h = omega (arith, f.behind x l n, held_no (rival_of m label (strengths ranks) (rank d)) k best h)

      pub test_unsafe : Test false → Safe m label s k d → ⊥
      test_unsafe h f =
          ⊎_elim
          (λ z. by_cases (ℕ_discrete (rank (full m label)) (rank d))
          (λ p. by_cases (ℕ_discrete (rank least) (rank d))
          (λ q. omega (arith, held_no (rival_of m label (strengths ranks) (rank d)) k best h, rival_outside z ∙ outsider_none p q))
          (λ q. caught f least (least_legal m label w) (differs least q) (rank least) (omega arith) (rival_outside z ∙ outsider_least p q) h))
          (λ p. caught f (full m label) (full_legal m label w) (differs (full m label) p) (rank (full m label)) (omega arith) (rival_outside z ∙ outsider_full p) h))
          (λ x. caught f x.0 (all_voted _ s ok x.0 x.1) x.2 (count x.0 s * seat + rank x.0) (omega arith) (rival_voted x.0 x.1 x.2 x.3) h)
          other_found
