-- What the functions need that make a message of a line's numbers. Assumes nothing.
use Prim.Native.Nat.{ℕ, ◌+◌, ◌*◌, ◌%◌, ◌^◌}
use mathlib.Core.Path.{◌≡◌, refl, ◌∙◌}
use mathlib.Core.List.{List}
use mathlib.Core.Bool.{Bool, true, false, ◌&&◌}
use native.Mathlib.Omega.{arith}
use lib.Count.{ones}
use lib.Ieee.{Float}
use lib.Dec.{eqb}
use lib.ListN.{get_or}
use borrow.Author.Tests.{le-ltb, eqb-true}
use Rattle.units.specs.declared.estimate.Estimate.{Estimate}
use Rattle.units.specs.declared.settings.Group.{Group}
use Rattle.units.specs.Mask.{in_mask}
use Rattle.units.specs.Pick.{pick}
use Rattle.floats.specs.Bits.{nought}
use Rattle.floats.specs.Ranges.{blank}
use Rattle.message.specs.declared.head.Head.{Head}
use Rattle.message.specs.declared.head.Carried.{Carried}
use Rattle.message.specs.declared.value.Message.{Message}
use Rattle.message.specs.Head.{carried}
use Rattle.message.specs.Message.{plain}
use Rattle.units.proofs.Every.{and_three}
use Rattle.units.proofs.Masks.{no_run}
use Rattle.lines.specs.declared.kind.Kind.{Kind}
use Rattle.lines.specs.Lists.{column}
use Rattle.lines.specs.Values.{word, head_of, reading_in, estimate_in, target_in, message_with, message_of}
use Rattle.lines.proofs.Columns.{column_same, fill_start, fill_done, bits_step}

-- READINGS
pub no_readings : (mask : ℕ) (v : List ℕ) (j : ℕ) → mask ≡ 0 → reading_in mask v j ≡ 0
no_readings mask v j e = rw (e, no_run j)

-- one place more: a number that counts is taken and passed
module _ (mask : ℕ) (v : List ℕ) (i : ℕ) {at : ℕ} (ae : at ≡ 3 + ones (mask % 2 ^ i)) {b : Bool} (be : b ≡ in_mask mask i) where
  pub raw_here : b ≡ true → (word (get_or v at 0) ≡ reading_in mask v i) × (at + 1 ≡ 3 + ones (mask % 2 ^ (i + 1)))
  raw_here t = (rw (← be, t, ae), rw (bits_step mask i, ← be, t) (omega arith))

  pub raw_not : b ≡ false → (0 ≡ reading_in mask v i) × (at ≡ 3 + ones (mask % 2 ^ (i + 1)))
  raw_not t = (rw (← be, t), rw (bits_step mask i, ← be, t) ae)

-- THE WHOLE
pub message_made : (s : Group) (head h : Head) (c : Carried) (v readings : List ℕ) (estimates : List Estimate) (targets : List Float)
    → head ≡ h → c ≡ carried s head → readings ≡ column (reading_in c.readings v) 16 → estimates ≡ column (estimate_in c.estimates v) 16
    → targets ≡ column (target_in c.targets v) 16 → ◌≡◌ {A = Message} (record { head = head; readings = readings; estimates = estimates; targets = targets }) (message_with s h v)
unfolding message_with
message_made s head h c v readings estimates targets he ce p q r = rw (p, q, r, ce, he)

-- a head that carries nothing stands alone
pub plain_made : (s : Group) (head h : Head) (c : Carried) (v : List ℕ) (m : Message) → head ≡ h → c ≡ carried s head → (eqb c.readings 0 && eqb c.estimates 0 && eqb c.targets 0) ≡ true → m ≡ plain head → m ≡ message_with s h v
unfolding plain pick
plain_made s head h c v m he ce t me =
    let z = and_three (eqb c.readings 0) (eqb c.estimates 0) (eqb c.targets 0) t in
    me
    ∙ message_made s head h c v _ _ _ he ce
    (fill_done _ 0 0 _ 0 (fill_start (reading_in c.readings v) 0 0) (λ j i l. no_readings c.readings v j (eqb-true c.readings 0 z.0)))
    (fill_done _ blank blank _ 0 (fill_start (estimate_in c.estimates v) blank blank) (λ j i l. rw (eqb-true c.estimates 0 z.1, le-ltb j 0 (omega arith))))
    (fill_done _ nought nought _ 0 (fill_start (target_in c.targets v) nought nought) (λ j i l. rw (eqb-true c.targets 0 z.2, le-ltb j 0 (omega arith))))

-- a message depends on each number, and on nothing else of their list
arrays_same : (s : Group) (a : Head) (v w : List ℕ) → ((i : ℕ) → get_or v i 0 ≡ get_or w i 0) → message_with s a v ≡ message_with s a w
unfolding message_with
arrays_same s a v w h =
    message_made s a a (carried s a) w _ _ _ refl refl
    (column_same (reading_in (carried s a).readings v) (reading_in (carried s a).readings w) 16 (λ i l. rw (h (3 + ones ((carried s a).readings % 2 ^ i)))))
    (column_same (estimate_in (carried s a).estimates v) (estimate_in (carried s a).estimates w) 16 (λ i l. rw (h (2 + 2 * i), h (3 + 2 * i))))
    (column_same (target_in (carried s a).targets v) (target_in (carried s a).targets w) 16 (λ i l. rw (h (4 + i))))

pub message_same : (s : Group) (kind : Kind) (v w : List ℕ) → ((i : ℕ) → get_or v i 0 ≡ get_or w i 0) → message_of s kind v ≡ message_of s kind w
message_same s kind v w h = rw (h 0, h 1, h 2, h 3) (arrays_same s (head_of kind (get_or w 0 0) (get_or w 1 0) (get_or w 2 0) (get_or w 3 0)) v w h)
