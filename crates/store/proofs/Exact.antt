-- THE NEWEST CERTIFICATE is in force and none in force is of a later day; names are the same exactly when they are equal. Assumes nothing.
use Prim.Native.Nat.{ℕ, ◌≤◌, ◌<◌}
use mathlib.Core.Path.{◌≡◌, refl, sym, ap, subst, ◌∙◌}
use mathlib.Core.Bool.{true, false}
use mathlib.Core.List.{List, [], ◌∷◌}
use mathlib.Core.Logic.{◌⊎◌, inl, inr}
use native.Mathlib.Nat.{le_trans, le_of_eq, le_refl}
use native.Mathlib.Omega.{arith}
use lib.Dec.{eqb, ltb}
use lib.ListN.{length, get_or}
use lib.Seq.{ext_get_or}
use borrow.Author.Tests.{ltb-true, ltb-false, leb-true, le-leb, eqb-true, eq-eqb}
use Rattle.units.specs.Pick.{pick}
use Rattle.units.proofs.Every.{and_left, and_right, and_both, and_three, every_at, every_all}
use Rattle.message.specs.declared.certificate.Certificate.{Certificate}
use Rattle.fields.proofs.Cases.{by_test, by_lt}
use Rattle.fields.proofs.Dates.{date_within}
use Rattle.store.specs.declared.row.Row.{Row}
use Rattle.store.specs.Newest.{is_newer, better, newest_from, newest, InForce, Newest}
use Rattle.store.specs.Repeated.{same_byte, same_name, place_of}
use Rattle.store.specs.Row.{no_row, RowInRange}
use Rattle.store.specs.Rows.{In, here, there, AllInRange}
use Rattle.store.specs.Says.{Shared}
use Rattle.store.proofs.Rows.{in_place}

-- ---- NAMES: the same length, and the same sixteen bytes
abbrev Same : Certificate → Certificate → Type 0
Same a b = (a.len ≡ b.len) × ((i : ℕ) → i < 16 → get_or a.bytes i 0 ≡ get_or b.bytes i 0)

same_parts : (a b : Certificate) → same_name a b ≡ true → Same a b
unfolding same_name
same_parts a b e =
    (eqb-true a.len b.len (and_left _ _ e), λ i h. eqb-true (get_or a.bytes i 0) (get_or b.bytes i 0) (every_at (same_byte a b) 16 i (and_right (eqb a.len b.len) _ e) h))

same_made : (a b : Certificate) → Same a b → same_name a b ≡ true
unfolding same_name
same_made a b p = and_both (eq-eqb a.len b.len p.0) (every_all (same_byte a b) 16 (λ i h. eq-eqb (get_or a.bytes i 0) (get_or b.bytes i 0) (p.1 i h)))

-- two that are the same as a third
same_both : (a b c : Certificate) → same_name a c ≡ true → same_name b c ≡ true → same_name a b ≡ true
same_both a b c p q =
    let x = same_parts a c p in let y = same_parts b c q in
    same_made a b (x.0 ∙ sym y.0, λ i h. x.1 i h ∙ sym (y.1 i h))

-- BYTE FOR BYTE: the same exactly when they are equal
pub same_exact : (a b : Certificate) → length a.bytes ≡ 16 → length b.bytes ≡ 16 → (same_name a b ≡ true → a ≡ b) × (a ≡ b → same_name a b ≡ true)
same_exact a b l k = (
  λ e.
      let p = same_parts a b e in
      let q : a.bytes ≡ b.bytes = ext_get_or 0 a.bytes b.bytes (l ∙ sym k) (λ i h. p.1 i (omega arith)) in
      rw (← p.0, ← q),
  λ e. same_made a b (ap (λ (c : Certificate). c.len) e, λ i h. ap (λ (c : Certificate). get_or c.bytes i 0) e),
)

-- ---- THE NEWEST
-- the day of a row in range is no 0
pub all_dated : (rs : List Row) → AllInRange rs → (row : Row) → In row rs → row.day ≡ 0 → ⊥
all_dated rs r row p e = let d = (date_within row.day (r row p).day).0 in absurd (omega arith)

module _ (s : Certificate) (d : ℕ) where
  -- what a newer row is: of the meter, not after the day, and later
  newer : (b r : Row) → is_newer s d b r ≡ true → (same_name r.serial s ≡ true) × (r.day ≤ d) × (b.day < r.day)
  newer b r t = let p = and_three _ _ _ t in (p.0, leb-true r.day d p.1, ltb-true b.day r.day p.2)

  took : (b r : Row) → is_newer s d b r ≡ true → better s d b r ≡ r
  unfolding pick
  took b r t = rw t

  kept : (b r : Row) → is_newer s d b r ≡ false → better s d b r ≡ b
  unfolding pick
  kept b r t = rw t

  better_ge : (b r : Row) → b.day ≤ (better s d b r).day
  better_ge b r =
      by_test (is_newer s d b r)
      (λ t. let l = (newer b r t).2 in let e = ap (λ (x : Row). x.day) (took b r t) in omega arith)
      (λ t. le_of_eq (ap (λ (x : Row). x.day) (sym (kept b r t))))

  better_covers : (b r : Row) → same_name r.serial s ≡ true → r.day ≤ d → r.day ≤ (better s d b r).day
  better_covers b r m h =
      by_test (ltb b.day r.day)
      (λ t. le_of_eq (ap (λ (x : Row). x.day) (sym (took b r (rw (m, le-leb r.day d h, t))))))
      (λ t. le_trans (ltb-false b.day r.day t) (better_ge b r))

  grows : (b : Row) (rs : List Row) → b.day ≤ (newest_from s d b rs).day
  unfolding newest_from
  grows b [] = le_refl b.day
  grows b (r ∷ rs) = le_trans (better_ge b r) (grows (better s d b r) rs)

  covers : (b q : Row) (rs : List Row) → In q rs → same_name q.serial s ≡ true → q.day ≤ d → q.day ≤ (newest_from s d b rs).day
  unfolding newest_from
  covers b q [] x m h = elim x [ ]
  covers b q (r ∷ rs) here m h = le_trans (better_covers b r m h) (grows (better s d b r) rs)
  covers b q (r ∷ rs) (there i) m h = covers (better s d b r) q rs i m h

  -- it is what it was, or one of the rows
  from : (b : Row) (rs : List Row) → (newest_from s d b rs ≡ b) ⊎ InForce s d rs (newest_from s d b rs)
  unfolding newest_from
  from b [] = inl refl
  from b (r ∷ rs) = go (from (better s d b r) rs)
    where
      first : newest_from s d (better s d b r) rs ≡ better s d b r → is_newer s d b r ≡ true → InForce s d (r ∷ rs) (newest_from s d (better s d b r) rs)
      first e t =
          let p = newer b r t in subst (InForce s d (r ∷ rs)) (sym (e ∙ took b r t)) (record { listed = here; meter = p.0; begun = p.1 })

      go : (newest_from s d (better s d b r) rs ≡ better s d b r) ⊎ InForce s d rs (newest_from s d (better s d b r) rs)
          → (newest_from s d (better s d b r) rs ≡ b) ⊎ InForce s d (r ∷ rs) (newest_from s d (better s d b r) rs)
      go (inr i) = inr (record { listed = there i.listed; meter = i.meter; begun = i.begun })
      go (inl e) = by_test (is_newer s d b r) (λ t. inr (first e t)) (λ t. inl (e ∙ kept b r t))

  -- one is found: it is the newest
  pub newest_found : (rs : List Row) → ((newest s d rs).day ≡ 0 → ⊥) → Newest s d rs (newest s d rs)
  newest_found rs n = go (from no_row rs)
    where
      go : (newest s d rs ≡ no_row) ⊎ InForce s d rs (newest s d rs) → Newest s d rs (newest s d rs)
      go (inl e) = absurd (n (ap (λ (x : Row). x.day) e))
      go (inr i) = record { inforce = i; latest = λ q j. covers no_row q rs j.listed j.meter j.begun }

  -- none is found: none is in force
  pub newest_none : (rs : List Row) → ((row : Row) → In row rs → row.day ≡ 0 → ⊥) → (newest s d rs).day ≡ 0 → (row : Row) → InForce s d rs row → ⊥
  newest_none rs n e row j = let h = covers no_row row rs j.listed j.meter j.begun in n row j.listed (omega arith)

  -- THERE IS NONE EXACTLY WHEN none is in force; else it is in force, and none in force is of a later day
  pub newest_exact : (rs : List Row) → AllInRange rs
      → ((newest s d rs).day ≡ 0 → (row : Row) → InForce s d rs row → ⊥) × (((row : Row) → InForce s d rs row → ⊥) → (newest s d rs).day ≡ 0) × (((newest s d rs).day ≡ 0 → ⊥) → Newest s d rs (newest s d rs))
  newest_exact rs r = (
    newest_none rs (all_dated rs r),
    λ n. by_lt 0 (newest s d rs).day (λ l. absurd (n (newest s d rs) (newest_found rs (λ e. absurd (omega arith))).inforce)) (λ l. omega arith),
    newest_found rs,
  )

  -- one of the rows, so in range
  pub found_in_range : (rs : List Row) → AllInRange rs → ((newest s d rs).day ≡ 0 → ⊥) → RowInRange (newest s d rs)
  found_in_range rs r n = r (newest s d rs) (newest_found rs n).inforce.listed

  -- where no two rows of a meter share a day THERE IS ONE NEWEST
  module _ (rs : List Row) (apart : (i : ℕ) → i < length rs → Shared rs i → ⊥) where
    not_before : (i j : ℕ) → i < j → j < length rs → same_name (place_of rs i).serial s ≡ true → same_name (place_of rs j).serial s ≡ true → (place_of rs i).day ≡ (place_of rs j).day → ⊥
    not_before i j h l p q e =
        apart j l (i, h, and_both (same_both (place_of rs i).serial (place_of rs j).serial s p q) (eq-eqb (place_of rs i).day (place_of rs j).day e))

    -- two newest rows are one row
    pub newest_one : (a b : Row) → Newest s d rs a → Newest s d rs b → a ≡ b
    newest_one a b x y =
        let p = in_place x.inforce.listed in
        let q = in_place y.inforce.listed in
        let e : a.day ≡ b.day = let u = y.latest a x.inforce in let v = x.latest b y.inforce in omega arith in
        let ma = subst (λ (r : Row). same_name r.serial s ≡ true) (sym p.2) x.inforce.meter in
        let mb = subst (λ (r : Row). same_name r.serial s ≡ true) (sym q.2) y.inforce.meter in
        let day : (place_of rs p.0).day ≡ (place_of rs q.0).day = ap (λ (r : Row). r.day) p.2 ∙ e ∙ sym (ap (λ (r : Row). r.day) q.2) in
        by_lt p.0 q.0 (λ h. absurd (not_before p.0 q.0 h q.1 ma mb day))
        (λ h. by_lt q.0 p.0 (λ k. absurd (not_before q.0 p.0 k p.1 mb ma (sym day)))
        (λ k. let z : p.0 ≡ q.0 = omega arith in sym p.2 ∙ ap (place_of rs) z ∙ q.2))
