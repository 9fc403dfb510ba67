-- A COUNT OF LINES, byte by byte, is the number of lines, up to 513. Assumes nothing.
use Prim.Native.Nat.{ℕ, suc, ◌+◌, ◌≤◌, ◌<◌, min}
use native.Mathlib.Omega.{arith}
use mathlib.Core.Path.{◌≡◌, refl, sym, ◌∙◌}
use mathlib.Core.Bool.{Bool, true, false, not}
use mathlib.Core.List.{List, [], ◌∷◌, ◌++◌, append_assoc, append-nil}
use lib.Dec.{eqb, leb}
use lib.ListN.{length}
use borrow.Author.Tests.{leb-true, leb-false}
use Rattle.units.specs.Pick.{pick}
use Rattle.fields.specs.Lines.{lines_of, onto}
use Rattle.fields.specs.Text.{line_feed}
use Rattle.fields.proofs.Cases.{by_test}
use Rattle.store.specs.declared.count.Count.{Count}
use Rattle.store.specs.Kept.{Counts, count_byte, count_start, counted_on, is_open, more_lines}
use Rattle.store.specs.Rows.{rows_top}

-- a byte onto the front of lines begins no line, where there is one
onto_onto : (a b : ℕ) (ls : List (List ℕ)) → length (onto a (onto b ls)) ≡ length (onto b ls)
onto_onto a b [] = refl
onto_onto a b (l ∷ ls) = refl

onto_lines : (a b : ℕ) (bs : List ℕ) → length (onto a (lines_of (b ∷ bs))) ≡ length (lines_of (b ∷ bs))
unfolding lines_of pick
onto_lines a b bs = by_test (eqb b line_feed) (λ e. rw e) (λ e. rw e (onto_onto a b (lines_of bs)))

byte_line : (b : ℕ) → length (lines_of (b ∷ [])) ≡ 1
unfolding lines_of pick
byte_line b = by_test (eqb b line_feed) (λ e. rw e) (λ e. rw e)

-- the number of lines of two bytes and more
lines_first : (a b : ℕ) (bs : List ℕ) → length (lines_of (a ∷ b ∷ bs)) ≡ pick (eqb a line_feed) (suc (length (lines_of (b ∷ bs)))) (length (lines_of (b ∷ bs)))
unfolding lines_of pick
lines_first a b bs = by_test (eqb a line_feed) (λ e. rw e) (λ e. rw e (onto_lines a b bs))

-- a further byte begins a line, but within one
abbrev further : Bool → ℕ → ℕ
further o n = pick o n (suc n)

picked_suc : (f o : Bool) (n : ℕ) → pick f (suc (further o n)) (further o n) ≡ further o (pick f (suc n) n)
unfolding pick
picked_suc true true n = refl
picked_suc true false n = refl
picked_suc false true n = refl
picked_suc false false n = refl

picked_not : (f : Bool) → pick f 2 1 ≡ further (not f) 1
unfolding pick
picked_not true = refl
picked_not false = refl

lines_more : (s : List ℕ) (b : ℕ) → length (lines_of (s ++ (b ∷ []))) ≡ further (is_open s) (length (lines_of s))
unfolding is_open lines_of pick
lines_more [] b = byte_line b
lines_more (a ∷ []) b = lines_first a b [] ∙ rw (byte_line b, byte_line a) (picked_not (eqb a line_feed))
lines_more (a ∷ c ∷ cs) b =
    lines_first a c (cs ++ (b ∷ []))
    ∙ rw (lines_more (c ∷ cs) b, lines_first a c cs) (picked_suc (eqb a line_feed) (is_open (c ∷ cs)) (length (lines_of (c ∷ cs))))

open_more : (s : List ℕ) (b : ℕ) → is_open (s ++ (b ∷ [])) ≡ not (eqb b line_feed)
unfolding is_open
open_more [] b = refl
open_more (a ∷ []) b = refl
open_more (a ∷ c ∷ cs) b = open_more (c ∷ cs) b

-- the same up to 513
more_most : (n : ℕ) → more_lines (min (rows_top + 1) n) ≡ min (rows_top + 1) (suc n)
unfolding pick
more_most n =
    by_test (leb (min (rows_top + 1) n) rows_top)
    (λ e. rw e (let h = leb-true (min (rows_top + 1) n) rows_top e in omega arith))
    (λ e. rw e (let h = leb-false (min (rows_top + 1) n) rows_top e in omega arith))

further_most : (o : Bool) (n : ℕ) → pick o (min (rows_top + 1) n) (more_lines (min (rows_top + 1) n)) ≡ min (rows_top + 1) (further o n)
unfolding pick
further_most true n = refl
further_most false n = more_most n

-- NOTHING COUNTED
pub counts_start : Counts count_start []
unfolding lines_of is_open
counts_start = record { lines = refl; within = refl }

-- A BYTE AND MORE BYTES COUNTED
counts_byte : (k : Count) (s : List ℕ) (b : ℕ) → Counts k s → Counts (count_byte k b) (s ++ (b ∷ []))
counts_byte k s b h =
    record {
      lines = rw (h.lines, h.within, lines_more s b) (further_most (is_open s) (length (lines_of s)));
      within = sym (open_more s b);
    }

pub counts_on : {k : Count} {s : List ℕ} (t : List ℕ) → Counts k s → Counts (counted_on k t) (s ++ t)
unfolding counted_on
counts_on {s = s} [] h = rw (append-nil s) h
counts_on {k = k} {s = s} (b ∷ t) h = rw (append_assoc s (b ∷ []) t) at (counts_on {k = count_byte k b} {s = s ++ (b ∷ [])} t (counts_byte k s b h))

-- a count is above 512 exactly when the lines are
module _ {k : Count} {export : List ℕ} (h : Counts k export) where
  pub counts_many : rows_top < k.lines → rows_top < length (lines_of export)
  counts_many m = let n = h.lines in omega arith

  pub counts_few : k.lines ≤ rows_top → length (lines_of export) ≤ rows_top
  counts_few m = let n = h.lines in omega arith

-- as `write_runs` counts
pub count_many : (export : List ℕ) → rows_top < (counted_on count_start export).lines → rows_top < length (lines_of export)
count_many export = counts_many (counts_on export counts_start)

pub count_few : (export : List ℕ) → (counted_on count_start export).lines ≤ rows_top → length (lines_of export) ≤ rows_top
count_few export = counts_few (counts_on export counts_start)
