-- The checks of `write_runs` one after the other: where one refuses, and where it goes on. Assumes nothing.
use Prim.Native.Nat.{ℕ, ◌+◌, ◌≤◌, ◌<◌}
use mathlib.Core.Path.{◌≡◌, ap, ◌∙◌}
use mathlib.Core.Bool.{true, false}
use mathlib.Core.List.{List}
use lib.ListN.{length}
use borrow.Author.Tests.{lt-ltb, le-ltb, le-leb, lt-leb}
use Rattle.units.specs.declared.refusal.Refusal.{Refusal}
use Rattle.units.specs.declared.refusal.Refusal.TheVariants.{Form as NoForm, Range as NoRange, SameDay, NoneInForce, Full}
use Rattle.units.specs.Pick.{pick}
use Rattle.units.specs.Within.{within}
use Rattle.units.proofs.InRange.{within_range}
use Rattle.fields.specs.Day.{day_in}
use Rattle.fields.specs.Lines.{lines_of}
use Rattle.store.specs.declared.row.Row.{Row}
use Rattle.store.specs.declared.stored.Place.TheVariants.{Nowhere, Line, Count, Run}
use Rattle.store.specs.declared.stored.Serials.{Serials}
use Rattle.store.specs.First.{first_of}
use Rattle.store.specs.Repeated.{repeated_at}
use Rattle.store.specs.Rows.{rows, bad, rows_of}
use Rattle.store.specs.Runs.{found, is_blank, text_of}
use Rattle.store.specs.Stored.{Stored, Outcome, says, no, in_force, apart, bad_serial, named, on_day, outcome_of, answer_in, buffer_in}
use Rattle.fields.proofs.Cases.{by_test}
use Rattle.store.proofs.Firsts.{first_same}

-- what a function answers and leaves in the buffer, as an outcome has it
abbrev pub Tells : Outcome → Stored → List ℕ → List ℕ → Type 0
Tells o answer buf end = (answer ≡ answer_in o buf) × (end ≡ buffer_in o buf)

pub tells_on : (o p : Outcome) (answer : Stored) (buf end : List ℕ) → o ≡ p → Tells p answer buf end → Tells o answer buf end
tells_on o p answer buf end e t = rw e t

-- 18, or the K lines
module _ (s : Serials) (day : ℕ) (rs : List Row) (row : ℕ → Row) (same : (i : ℕ) → i < s.m → row i ≡ found s day rs i) (run : ℕ) (e : run ≡ first_of (λ i. is_blank (row i)) s.m) where
  run_is : run ≡ first_of (λ i. is_blank (found s day rs i)) s.m
  run_is = e ∙ first_same (λ i. is_blank (row i)) (λ i. is_blank (found s day rs i)) s.m (λ i h. ap is_blank (same i h))

  pub force_no : run < s.m → in_force s day rs ≡ no NoneInForce (Run run)
  unfolding in_force pick
  force_no h = rw (← run_is, lt-ltb run s.m h)

  pub force_yes : s.m ≤ run → in_force s day rs ≡ says (text_of s.m (found s day rs))
  unfolding in_force pick
  force_yes h = rw (← run_is, le-ltb run s.m h)

-- 17
module _ (s : Serials) (day : ℕ) (rs : List Row) (row : ℕ) (e : row ≡ repeated_at rs) where
  pub apart_no : row < length rs → apart s day rs ≡ no SameDay (Line (row + 1))
  unfolding apart pick
  apart_no h = rw (← e, lt-ltb row (length rs) h)

  pub apart_yes : length rs ≤ row → apart s day rs ≡ in_force s day rs
  unfolding apart pick
  apart_yes h = rw (← e, le-ltb row (length rs) h)

-- a number that is not 1 to 16
pub not_within : (m : ℕ) → ((1 ≤ m) × (m ≤ 16) → ⊥) → within 1 16 m ≡ false
not_within m n = by_test (within 1 16 m) (λ t. absurd (n (within_range 1 16 m t))) (λ t. t)

-- 6 and 5 for the serials
module _ (s : Serials) (day : ℕ) (rs : List Row) where
  module _ (run : ℕ) (e : run ≡ first_of (bad_serial s) s.m) (w : within 1 16 s.m ≡ true) where
    pub named_no : run < s.m → named s day rs ≡ no NoForm (Run run)
    unfolding named pick
    named_no h = rw (w, ← e, lt-ltb run s.m h)

    pub named_yes : s.m ≤ run → named s day rs ≡ apart s day rs
    unfolding named pick
    named_yes h = rw (w, ← e, le-ltb run s.m h)

  pub named_many : within 1 16 s.m ≡ false → named s day rs ≡ no NoRange Count
  unfolding named pick
  named_many w = rw w

-- 19 and the lines
module _ (export day : List ℕ) (s : Serials) where
  pub full_no : 512 < length (lines_of export) → outcome_of export day s ≡ no Full Nowhere
  unfolding outcome_of pick
  full_no h = rw (lt-leb (length (lines_of export)) 512 h)

  module _ (few : length (lines_of export) ≤ 512) where
    pub lines_bad : (why : Refusal) (line : ℕ) → rows_of export ≡ bad why line → outcome_of export day s ≡ no why (Line line)
    unfolding outcome_of pick
    lines_bad why line e = rw (le-leb (length (lines_of export)) 512 few, e)

    pub lines_good : (rs : List Row) → rows_of export ≡ rows rs → outcome_of export day s ≡ on_day s rs (day_in 0 day)
    unfolding outcome_of pick
    lines_good rs e = rw (le-leb (length (lines_of export)) 512 few, e)
