-- What is held of a line: what the code of `cut` and its callers need. Assumes nothing.
use Prim.Native.Nat.{ℕ, ◌+◌, ◌-◌, ◌≤◌, ◌<◌, min}
use mathlib.Core.Path.{◌≡◌, refl, sym, ap, ◌∙◌}
use mathlib.Core.Bool.{true, false}
use mathlib.Core.List.{List}
use native.Mathlib.Omega.{arith}
use lib.ListN.{length, take, length-take}
use lib.Seq.{take_all, take-length, take-take}
use lib.Dec.{eqb}
use borrow.Author.Tests.{lt-ltb, le-ltb, eq-eqb, ne_eqb}
use Rattle.units.specs.Pick.{pick}
use Rattle.units.proofs.Picked.{by_yes, by_no}
use Rattle.fields.specs.declared.cut.Carry.{Carry}
use Rattle.fields.specs.Cut.{carry_top, cut_at, fitting, held_with, line_in}
use Rattle.fields.specs.Lines.{feed_at}
use Rattle.fields.specs.Put.{put, put_end}
use Rattle.fields.specs.Text.{line_feed}
use Rattle.fields.proofs.Cases.{by_lt}
use Rattle.fields.proofs.Texts.{until_short}

-- how many more bytes are held
fitting_all : (len n : ℕ) → n < carry_top - len → n ≡ fitting len n
unfolding fitting
fitting_all len n h = by_yes _ (lt-ltb n (carry_top - len) h) refl

fitting_some : (len n : ℕ) → carry_top - len ≤ n → carry_top - len ≡ fitting len n
unfolding fitting
fitting_some len n h = by_no _ (le-ltb n (carry_top - len) h) refl

pub fitting_least : (len n m r : ℕ) → m ≡ carry_top - len → r ≡ min n m → r ≡ fitting len n
fitting_least len n m r e q =
    by_lt n (carry_top - len) (λ h. let z : r ≡ n = omega arith in z ∙ fitting_all len n h)
    (λ h. let z : r ≡ carry_top - len = omega arith in z ∙ fitting_some len n h)

fitting_take : (len n : ℕ) (l : List ℕ) → take (fitting len n) l ≡ take (carry_top - len) (take n l)
fitting_take len n l = by_lt n (carry_top - len)
    (λ h. ap (λ k. take k l) (sym (fitting_all len n h)) ∙ sym (take_all (carry_top - len) (take n l) (let t = length-take n l in omega arith)))
    (λ h. ap (λ k. take k l) (sym (fitting_some len n h)) ∙ sym (take-take (carry_top - len) n l h))

pub take_least : (m k : ℕ) (l : List ℕ) → k ≡ min m (length l) → take k l ≡ take m l
take_least m k l e =
    by_lt m (length l) (λ h. let z : k ≡ m = omega arith in rw z)
    (λ h. take_all k l (omega arith) ∙ sym (take_all m l h))

-- the carry after more bytes
pub held_made : (k : Carry) (n m r : ℕ) (input s b : List ℕ) → m ≡ fitting k.len n → s ≡ take m input → r ≡ put_end k.bytes k.len s → b ≡ put k.bytes k.len s
    → record { len = r; bytes = b } ≡ held_with k (take n input)
unfolding held_with
held_made k n m r input s b e t p q = let u = t ∙ ap (λ j. take j input) e ∙ fitting_take k.len n input in rw (p, q, u)

-- the line that ends
pub line_alone : (k : Carry) (more : List ℕ) → eqb k.len 0 ≡ true → line_in k more ≡ more
unfolding line_in pick
line_alone k more e = rw e

pub line_whole : (k w : Carry) (more : List ℕ) → eqb k.len 0 ≡ false → w ≡ held_with k more → line_in k more ≡ take w.len w.bytes
unfolding line_in pick
line_whole k w more e h = rw (e, h)

-- the place of the first line feed is not past the input
pub feed_within : (input : List ℕ) (n : ℕ) → n ≡ feed_at input → n ≤ length input
feed_within input n e = let a = until_short line_feed input in omega arith

-- a piece without a line feed, and one with it
module _ (k w : Carry) (piece : List ℕ) (n : ℕ) (e : n ≡ feed_at piece) where
  pub cut_none_made : n ≡ length piece → w ≡ held_with k (take n piece) → record { carry = w; took = n; ended = false } ≡ cut_at k piece
  unfolding cut_at
  cut_none_made z h = by_yes _ (eq-eqb (feed_at piece) (length piece) (sym e ∙ z)) (rw (h, z, take-length piece))

  pub cut_made : (n ≡ length piece → ⊥) → w ≡ held_with k (take (n + 1) piece) → record { carry = w; took = n + 1; ended = true } ≡ cut_at k piece
  unfolding cut_at
  cut_made z h = by_no _ (ne_eqb (feed_at piece) (length piece) (λ q. z (e ∙ q))) (rw (h, e))
