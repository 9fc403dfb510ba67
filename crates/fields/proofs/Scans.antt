-- The laws of a line's scan, and the steps of its loop. Assumes nothing.
use Prim.Native.Nat.{ℕ, ◌+◌, ◌≤◌, ◌<◌}
use mathlib.Core.Path.{◌≡◌, ap}
use mathlib.Core.List.{List, [], ◌∷◌, ◌++◌}
use native.Mathlib.Omega.{arith}
use native.Mathlib.Numerals.{add-one}
use lib.ListN.{length, get_or, drop, drop_of_length-le}
use lib.Seq.{drop-cons}
use lib.Dec.{eqb}
use borrow.Author.Tests.{eq-eqb, ne_eqb, eqb-true}
use Rattle.fields.specs.Text.{until, tabs_in, scanned}
use Rattle.fields.specs.declared.text.Scan.{Scan}
use Rattle.fields.proofs.Cases.{by_test}
use Rattle.fields.proofs.Texts.{until_short}

pub scan_within : (line : List ℕ) → (scanned line).feed ≤ length line
unfolding scanned
scan_within line = until_short 10 line

pub scan_inside : (line : List ℕ) (c : Scan) → c ≡ scanned line → c.feed ≤ length line
scan_inside line c e = rw e (scan_within line)

-- where the first line feed is the last byte, the line is what stands before it, and it
pub feed_last : (cs : List ℕ) → length (until 10 cs) + 1 ≡ length cs → cs ≡ until 10 cs ++ (10 ∷ [])
unfolding until
feed_last [] = λ h. absurd (omega arith)
feed_last (c ∷ cs) =
    by_test (eqb c 10)
    (λ t. rw t (λ h. one c cs (eqb-true c 10 t) (omega arith)))
    (λ t. rw t (λ h. ap (λ (l : List ℕ). c ∷ l) (feed_last cs (omega arith))))
  where
    one : (c : ℕ) (cs : List ℕ) → c ≡ 10 → length cs ≡ 0 → c ∷ cs ≡ 10 ∷ []
    one c [] e h = rw e
    one c (d ∷ cs) e h = absurd (omega arith)

-- THE LOOP: what is passed and what is left make the whole
pub record Passed (line : List ℕ) (i tabs : ℕ) : Type 0 where
  pub few : tabs ≤ i
  pub here : i ≤ length line
  pub counted : tabs_in (until 10 line) ≡ tabs + tabs_in (until 10 (drop i line))
  pub placed : length (until 10 line) ≡ i + length (until 10 (drop i line))

scan_is : (line : List ℕ) (i tabs : ℕ) → Passed line i tabs → until 10 (drop i line) ≡ [] → record { tabs = tabs; feed = i } ≡ scanned line
unfolding scanned tabs_in
scan_is line i tabs p e =
    let a = rw e at p.counted in
    let b = rw e at p.placed in
    let a' : tabs ≡ tabs_in (until 10 line) = omega arith in
    let b' : i ≡ length (until 10 line) = omega arith in
    rw (← a', ← b')

pub scan_feed : (line : List ℕ) (i tabs : ℕ) → Passed line i tabs → i < length line → get_or line i 0 ≡ 10 → record { tabs = tabs; feed = i } ≡ scanned line
unfolding until
scan_feed line i tabs p h e = scan_is line i tabs p (rw (drop-cons line i 0 h, eq-eqb (get_or line i 0) 10 e))

pub scan_end : (line : List ℕ) (i tabs : ℕ) → Passed line i tabs → length line ≤ i → record { tabs = tabs; feed = length line } ≡ scanned line
unfolding until
scan_end line i tabs p h =
    let q : i ≡ length line = let k = p.here in omega arith in
    rw q at (scan_is line i tabs p (rw (drop_of_length-le line h)))

module _ (line : List ℕ) (i tabs : ℕ) (p : Passed line i tabs) (h : i < length line) (n : get_or line i 0 ≡ 10 → ⊥) where
  until_next : until 10 (drop i line) ≡ get_or line i 0 ∷ until 10 (drop (i + 1) line)
  unfolding until
  until_next = rw (add-one, drop-cons line i 0 h, ne_eqb (get_or line i 0) 10 n)

  pub scan_tab : get_or line i 0 ≡ 9 → Passed line (i + 1) (tabs + 1)
  unfolding tabs_in
  scan_tab e =
      let a = rw (until_next, eq-eqb (get_or line i 0) 9 e) at p.counted in
      let b = rw until_next at p.placed in
      record { few = omega arith; here = omega arith; counted = omega arith; placed = omega arith }

  pub scan_other : (get_or line i 0 ≡ 9 → ⊥) → Passed line (i + 1) tabs
  unfolding tabs_in
  scan_other e =
      let a = rw (until_next, ne_eqb (get_or line i 0) 9 e) at p.counted in
      let b = rw until_next at p.placed in
      record { few = omega arith; here = omega arith; counted = omega arith; placed = omega arith }
