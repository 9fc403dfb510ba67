-- What the functions that look through rows need. Assumes nothing.
use Prim.Native.Nat.{ℕ, ◌≤◌, ◌<◌}
use mathlib.Core.Path.{◌≡◌, refl, sym, ap, ◌∙◌}
use mathlib.Core.Bool.{Bool, true, false, ◌&&◌}
use mathlib.Core.List.{List, [], ◌∷◌}
use native.Mathlib.Omega.{arith}
use lib.Dec.{eqb, leb, ltb}
use lib.ListN.{length, get_or, take}
use Rattle.std.proofs.Common.{ext_get_or}
use borrow.Author.Tests.{eq-eqb, ne_eqb, eqb-true}
use Rattle.std.specs.Cmp.Lexicographic.{pointwise}
use Rattle.std.specs.List.{fold, list_any}
use Rattle.std.proofs.lemmas.Bool.Decides.{same_from_decides, Decides-eqb}
use Rattle.std.proofs.lemmas.Slice.Eq.{slice_eq-Decides}
use Rattle.units.specs.Every.{every}
use Rattle.units.specs.Pick.{pick}
use Rattle.units.proofs.Every.{every_at, every_all}
use Rattle.message.specs.declared.certificate.Certificate.{Certificate}
use Rattle.store.specs.declared.row.Row.{Row}
use Rattle.store.specs.Newest.{better, newest_from}
use Rattle.store.specs.Repeated.{same_name, shares, place_of, stood_at}
use Rattle.store.specs.Row.{no_row}
use Rattle.store.specs.Runs.{is_blank}
use Rattle.store.proofs.Firsts.{some_taken}
use Rattle.store.proofs.Places.{past, row_at}

-- TWO NAMES: sixteen bytes that are the same lists are the same byte for byte
bytes_same : (xs ys : List ℕ) → length xs ≡ 16 → length ys ≡ 16 → pointwise eqb xs ys ≡ every (λ i. eqb (get_or xs i 0) (get_or ys i 0)) 16
bytes_same xs ys a b =
    let same : ℕ → Bool = λ i. eqb (get_or xs i 0) (get_or ys i 0) in
    same_from_decides (pointwise eqb xs ys) (every same 16) (slice_eq-Decides Decides-eqb xs ys _ refl)
    (λ e. ext_get_or 0 xs ys (a ∙ sym b) (λ i l. eqb-true (get_or xs i 0) (get_or ys i 0) (every_at same 16 i e (omega arith))), λ q. every_all same 16 (λ i l. rw q (eq-eqb (get_or ys i 0) (get_or ys i 0) refl)))

pub names_same : (a b : Certificate) (r : Bool) → length a.bytes ≡ 16 → length b.bytes ≡ 16 → r ≡ (eqb a.len b.len && pointwise eqb a.bytes b.bytes) → r ≡ same_name a b
unfolding same_name
names_same a b r x y q = q ∙ ap (◌&&◌ (eqb a.len b.len)) (bytes_same a.bytes b.bytes x y)

-- two rows: on different days, and on one
pub days_differ : (a b : Row) → (a.day ≡ b.day → ⊥) → false ≡ shares a b
days_differ a b n = rw (ne_eqb a.day b.day n) (sym (and_none (same_name a.serial b.serial)))
  where
    and_none : (t : Bool) → (t && false) ≡ false
    and_none true = refl
    and_none false = refl

pub days_same : (a b : Row) (same : Bool) → a.day ≡ b.day → same ≡ same_name a.serial b.serial → same ≡ shares a b
days_same a b same e q = rw (eq-eqb a.day b.day e, q) (sym (and_all (same_name a.serial b.serial)))
  where
    and_all : (t : Bool) → (t && true) ≡ t
    and_all true = refl
    and_all false = refl

-- ROW i's METER AND DAY in an earlier row
pub stood_any : (rows : List Row) (i : ℕ) → i < length rows → list_any (λ x. shares x (get_or rows i past)) (take i rows) ≡ stood_at rows i
unfolding stood_at
stood_any rows i h = rw (row_at rows i h) (some_taken (λ x. shares x (place_of rows i)) rows no_row i (omega arith))

-- THE NEWEST of rows, one after the other
module _ (s : Certificate) (d : ℕ) where
  pub newest_fold : (b : Row) (rs : List Row) → fold (better s d) b rs ≡ newest_from s d b rs
  unfolding newest_from
  newest_fold b [] = refl
  newest_fold b (r ∷ rs) = newest_fold (better s d b r) rs

  -- a row that is newer
  pub is_newer_lem : (b r : Row) (t : Bool) → t ≡ same_name r.serial s → (t && leb r.day d && ltb b.day r.day) ≡ true → r ≡ better s d b r
  unfolding pick
  is_newer_lem b r t e h = rw (← e, h)

-- A ROW that was found, or none
module _ (rows : List Row) (m i : ℕ) (l : length rows ≡ 16) (k : m ≤ 16) (h : i < m) where
  -- no row
  pub is_blank_lem : (get_or rows i past).day ≡ 0 → is_blank (get_or rows i no_row) ≡ true
  is_blank_lem e = rw (← row_at rows i (omega arith)) (eq-eqb (get_or rows i past).day 0 e)
