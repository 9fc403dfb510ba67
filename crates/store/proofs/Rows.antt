-- THE LINES OF AN EXPORT: they are rows exactly when each line is one, and else the first that is none is told. Assumes nothing.
use Prim.Native.Nat.{ℕ, zero, suc, ◌+◌, ◌<◌}
use mathlib.Core.Path.{◌≡◌, refl, sym, ap, subst, ◌∙◌}
use mathlib.Core.List.{List, [], ◌∷◌}
use native.Mathlib.Omega.{arith}
use lib.ListN.{length, get_or}
use Rattle.units.specs.declared.refusal.Refusal.{Refusal}
use Rattle.std.proofs.Common.{true, Ok, Err, is_ok}
use Rattle.fields.specs.Lines.{lines_of}
use Rattle.fields.proofs.Cases.{absurd_by}
use Rattle.store.specs.declared.row.Row.{Row}
use Rattle.store.specs.Row.{Entry, no_row, RowInRange, row_of}
use Rattle.store.specs.Rows.{Rows, rows, bad, before, onwards, rows_from, rows_of, In, here, there, AllInRange}
use Rattle.store.specs.Says.{AllRows, Listed}
use Rattle.store.proofs.RowTrip.{row_only}

-- A ROW AMONG OTHERS has a place
pub in_place : {row : Row} {rs : List Row} → In row rs → (i : ℕ) × (i < length rs) × (get_or rs i no_row ≡ row)
in_place here = (0, omega arith, refl)
in_place (there w) = let p = in_place w in let h = p.1 in (suc p.0, omega arith, p.2)

-- THE FIRST BAD LINE, at a place from 0
pub record BadLine (ls : List (List ℕ)) (i : ℕ) (why : Refusal) : Type 0 where
  pub within : i < length ls
  pub earlier : (j : ℕ) → j < i → is_ok (row_of (get_or ls j [])) ≡ true
  pub refused : row_of (get_or ls i []) ≡ Err why

-- a line that is a row
some_row : (x : Entry) → is_ok x ≡ true → (row : Row) × (x ≡ Ok row)
some_row (Ok row) e = (row, refl)
some_row (Err why) e = absurd_by (cc)

-- a place below one more is the first or comes after it
from_first : (P : ℕ → Type 0) (n : ℕ) → P 0 → ((i : ℕ) → i < n → P (suc i)) → (i : ℕ) → i < suc n → P i
from_first P n p h zero b = p
from_first P n p h (suc i) b = h i (omega arith)

-- one line before others
before_rows : (x : Row) (m : Rows) (rs : List Row) → before x m ≡ rows rs → (more : List Row) × (m ≡ rows more) × (rs ≡ x ∷ more)
before_rows x (rows more) rs e = (more, refl, cc)
before_rows x (bad why n) rs e = absurd_by (cc)

before_bad : (x : Row) (m : Rows) (why : Refusal) (n : ℕ) → before x m ≡ bad why n → m ≡ bad why n
before_bad x (rows more) why n e = absurd_by (cc)
before_bad x (bad w k) why n e = e

module _ (l : List ℕ) (ls : List (List ℕ)) where
  all_more : (rs more : List Row) (x : Row) → row_of l ≡ Ok x → AllRows ls more → rs ≡ x ∷ more → AllRows (l ∷ ls) rs
  all_more rs more x v w e = rw e record { long = ap suc w.long; row = from_first (λ i. row_of (get_or (l ∷ ls) i []) ≡ Ok (get_or (x ∷ more) i no_row)) (length ls) v w.row }

  rows_step : (k : ℕ) (rs : List Row) → ((more : List Row) → rows_from (k + 1) ls ≡ rows more → AllRows ls more) → (v : Entry) → row_of l ≡ v → onwards k v (rows_from (k + 1) ls) ≡ rows rs
      → AllRows (l ∷ ls) rs
  rows_step k rs go (Ok x) v e = let b = before_rows x (rows_from (k + 1) ls) rs e in all_more rs b.0 x v (go b.0 b.1) b.2
  rows_step k rs go (Err why) v e = absurd_by (cc)

  bad_step : (k n : ℕ) (why : Refusal) → (rows_from (k + 1) ls ≡ bad why n → (i : ℕ) × (n ≡ i + (k + 1)) × BadLine ls i why) → (v : Entry) → row_of l ≡ v
      → onwards k v (rows_from (k + 1) ls) ≡ bad why n → (i : ℕ) × (n ≡ i + k) × BadLine (l ∷ ls) i why
  bad_step k n why go (Ok x) v e =
      let b = go (before_bad x (rows_from (k + 1) ls) why n e) in
      let q = b.1 in
      let h = b.2.within in (
        suc b.0,
        omega arith,
        record {
          within = omega arith;
          earlier = from_first (λ i. is_ok (row_of (get_or (l ∷ ls) i [])) ≡ true) b.0 (ap is_ok v) b.2.earlier;
          refused = b.2.refused;
        },
      )
  bad_step k n why go (Err w) v e =
      let q : k ≡ n = cc in
      let u : w ≡ why = cc in
      (0, omega arith, record { within = omega arith; earlier = λ j h. absurd (omega arith); refused = v ∙ ap Err u })

rows_only : (k : ℕ) (ls : List (List ℕ)) (rs : List Row) → rows_from k ls ≡ rows rs → AllRows ls rs
unfolding rows_from
rows_only k [] rs e = let q : [] ≡ rs = cc in rw (← q) record { long = refl; row = λ i h. absurd (omega arith) }
rows_only k (l ∷ ls) rs e = rows_step l ls k rs (rows_only (k + 1) ls) (row_of l) refl e

bad_only : (k n : ℕ) (why : Refusal) (ls : List (List ℕ)) → rows_from k ls ≡ bad why n → (i : ℕ) × (n ≡ i + k) × BadLine ls i why
unfolding rows_from
bad_only k n why [] e = absurd_by (cc)
bad_only k n why (l ∷ ls) e = bad_step l ls k n why (bad_only (k + 1) n why ls) (row_of l) refl e

rows_made : (k : ℕ) (ls : List (List ℕ)) (rs : List Row) → AllRows ls rs → rows_from k ls ≡ rows rs
unfolding rows_from
rows_made k [] [] w = refl
rows_made k [] (r ∷ rs) w = let e = w.long in absurd (omega arith)
rows_made k (l ∷ ls) [] w = let e = w.long in absurd (omega arith)
rows_made k (l ∷ ls) (r ∷ rs) w =
    let more = rows_made (k + 1) ls rs (record { long = let e = w.long in omega arith; row = λ i h. w.row (suc i) (omega arith) }) in
    rw (w.row 0 (omega arith), more)

bad_made : (k : ℕ) (why : Refusal) (ls : List (List ℕ)) (i : ℕ) → BadLine ls i why → rows_from k ls ≡ bad why (i + k)
unfolding rows_from
bad_made k why [] i w = let h = w.within in absurd (omega arith)
bad_made k why (l ∷ ls) zero w = let z : k ≡ 0 + k = omega arith in rw w.refused (ap (bad why) z)
bad_made k why (l ∷ ls) (suc i) w =
    let h = w.within in
    let z : i + (k + 1) ≡ suc i + k = omega arith in
    let more = bad_made (k + 1) why ls i (record { within = omega arith; earlier = λ j b. w.earlier (suc j) (omega arith); refused = w.refused }) in
    rw ((some_row (row_of l) (w.earlier 0 (omega arith))).1, more, z)

-- THE LAW, with lines numbered from k: all of them are rows exactly when each is
pub rows_exact : (k : ℕ) (ls : List (List ℕ)) (rs : List Row) → (rows_from k ls ≡ rows rs → AllRows ls rs) × (AllRows ls rs → rows_from k ls ≡ rows rs)
rows_exact k ls rs = (rows_only k ls rs, rows_made k ls rs)

-- THE LAW: a bad line is told exactly when it is the first
pub bad_exact : (k : ℕ) (ls : List (List ℕ)) (why : Refusal) (n : ℕ) → (rows_from k ls ≡ bad why n → (i : ℕ) × (n ≡ i + k) × BadLine ls i why) × ((i : ℕ) → n ≡ i + k → BadLine ls i why → rows_from k ls ≡ bad why n)
bad_exact k ls why n = (bad_only k n why ls, λ i e w. bad_made k why ls i w ∙ ap (bad why) (sym e))

-- EVERY ROW OF AN EXPORT is in range
pub rows_in_range : (export : List ℕ) (rs : List Row) → rows_of export ≡ rows rs → AllInRange rs
rows_in_range export rs e row w =
    let ls = lines_of export in
    let a = rows_only 1 ls rs e in
    let p = in_place w in
    let h : p.0 < length ls = subst (λ (n : ℕ). p.0 < n) a.long p.1 in
    subst RowInRange p.2 (row_only (get_or ls p.0 []) (get_or rs p.0 no_row) (a.row p.0 h)).0

pub listed_in_range : (export : List ℕ) (rs : List Row) → Listed export rs → AllInRange rs
listed_in_range export rs l = rows_in_range export rs ((rows_exact 1 (lines_of export) rs).1 l.rows)
