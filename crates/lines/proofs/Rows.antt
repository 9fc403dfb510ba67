-- The table's definitions at a kind or quantity that is known, and what holds of every row. Assumes nothing.
use Prim.Native.Nat.{ℕ, ◌+◌, ◌≤◌, ◌<◌, ◌%◌}
use mathlib.Core.Path.{◌≡◌, refl, sym, ap, ◌∙◌}
use mathlib.Core.Bool.{true, false}
use native.Mathlib.Omega.{arith}
use native.Mathlib.Nat.{mod-lt}
use lib.Count.{ones, ones-le}
use lib.Dec.{eqb, lit<}
use Rattle.units.specs.declared.settings.Group.{Group}
use Rattle.units.specs.Pick.{pick}
use Rattle.fields.proofs.Cases.{by_test, absurd_by}
use Rattle.lines.specs.declared.kind.Kind.{Kind}
use Rattle.lines.specs.declared.kind.Kind.TheVariants.{Reading, Query, Reply, Advert, Update, Vote, Setpoints, Due, CollectingEnds, VotingEnds, Floor, Start, Refused, Sizes, Filter, Run}
use Rattle.lines.specs.declared.table.Quantity.{Quantity}
use Rattle.fields.specs.declared.spelling.Limit.{Limit}
use Rattle.lines.specs.Table.{letter_of, quantity_at, limit_for, limit_of, count_of}

pub limit_at : {q k : Quantity} (s : Group) (given : ℕ) {r : Limit} → q ≡ k → r ≡ limit_for k s given → r ≡ limit_for q s given
limit_at s given e h = rw e h

pub few_bits : (mask : ℕ) → ones (mask % 65536) ≤ 16
few_bits mask = ones-le 16 (mask % 65536) (mod-lt mask (lit< tt))

-- EVERY ROW: a letter above all that is no letter; only R's count goes by a mask; only K's first two ranges go by what is given
pub record Row (k : Kind) : Type 0 where
  pub letter : 46 ≤ letter_of k
  pub count : (s : Group) (mask : ℕ) → count_of k s mask ≡ pick (eqb (letter_of k) 82) (3 + ones (mask % 65536)) (count_of k s 0)
  pub heads : (s : Group) → count_of k s 0 ≤ 34
  pub early : eqb (letter_of k) 75 ≡ false → (s : Group) (given : ℕ) → (limit_of k 0 s given ≡ limit_of k 0 s 0) × (limit_of k 1 s given ≡ limit_of k 1 s 0)

pub row_of : (k : Kind) → Row k
unfolding pick count_of ones quantity_at limit_for
row_of Reading = record { letter = omega arith; count = λ s mask. refl; heads = λ s. omega arith; early = λ e s given. (refl, refl) }
row_of Query = record { letter = omega arith; count = λ s mask. refl; heads = λ s. omega arith; early = λ e s given. (refl, refl) }
row_of Reply = record { letter = omega arith; count = λ s mask. refl; heads = λ s. omega arith; early = λ e s given. (refl, refl) }
row_of Advert = record { letter = omega arith; count = λ s mask. refl; heads = λ s. omega arith; early = λ e s given. (refl, refl) }
row_of Update = record { letter = omega arith; count = λ s mask. refl; heads = λ s. omega arith; early = λ e s given. (refl, refl) }
row_of Vote = record { letter = omega arith; count = λ s mask. refl; heads = λ s. omega arith; early = λ e s given. (refl, refl) }
row_of Setpoints = record { letter = omega arith; count = λ s mask. refl; heads = λ s. omega arith; early = λ e s given. (refl, refl) }
row_of Due = record { letter = omega arith; count = λ s mask. refl; heads = λ s. omega arith; early = λ e s given. (refl, refl) }
row_of CollectingEnds = record { letter = omega arith; count = λ s mask. refl; heads = λ s. omega arith; early = λ e s given. (refl, refl) }
row_of VotingEnds = record { letter = omega arith; count = λ s mask. refl; heads = λ s. omega arith; early = λ e s given. (refl, refl) }
row_of Floor = record { letter = omega arith; count = λ s mask. refl; heads = λ s. omega arith; early = λ e s given. (refl, refl) }
row_of Start = record { letter = omega arith; count = λ s mask. refl; heads = λ s. omega arith; early = λ e s given. (refl, refl) }
row_of Refused = record { letter = omega arith; count = λ s mask. refl; heads = λ s. omega arith; early = λ e s given. (refl, refl) }
row_of Sizes = record { letter = omega arith; count = λ s mask. refl; heads = λ s. omega arith; early = λ e s given. (refl, refl) }
row_of Filter = record { letter = omega arith; count = λ s mask. refl; heads = λ s. omega arith; early = λ e s given. (refl, refl) }
row_of Run = record { letter = omega arith; count = λ s mask. refl; heads = λ s. omega arith; early = λ e s given. absurd_by (cc) }

reply_heads : (k : Kind) (s : Group) → eqb (letter_of k) 82 ≡ true → count_of k s 0 ≡ 3
unfolding pick ones
reply_heads k s t = rw t at ((row_of k).count s 0)

pub count_any : (k : Kind) (s : Group) (a b : ℕ) → eqb (letter_of k) 82 ≡ false → count_of k s a ≡ count_of k s b
unfolding pick
count_any k s a b t = (rw t at ((row_of k).count s a)) ∙ sym (rw t at ((row_of k).count s b))

pub count_range : (k : Kind) (s : Group) (mask : ℕ) → (count_of k s 0 ≤ count_of k s mask) × (count_of k s mask ≤ 34)
unfolding pick
count_range k s mask =
    let b = (row_of k).heads s in
    by_test (eqb (letter_of k) 82) (λ t. let a = rw t at ((row_of k).count s mask) in let c = reply_heads k s t in let d = few_bits mask in omega arith)
    (λ t. let a = count_any k s mask 0 t in omega arith)

-- so a count stays where R's mask does, which is among its first three numbers
pub count_same : (k : Kind) (s : Group) (a b : ℕ) → (2 < count_of k s 0 → a ≡ b) → count_of k s a ≡ count_of k s b
count_same k s a b h = by_test (eqb (letter_of k) 82) (λ t. let c = reply_heads k s t in ap (count_of k s) (h (omega arith))) (λ t. count_any k s a b t)
