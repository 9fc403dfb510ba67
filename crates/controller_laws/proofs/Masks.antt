-- The mask of one run, `run_bit`: which run it has, and its number. Assumes nothing.
use Prim.Native.Nat.{ℕ, suc, ◌+◌, ◌*◌, ◌-◌, ◌/◌, ◌%◌, ◌^◌, ◌≤◌, ◌<◌}
use native.Mathlib.Omega.{arith}
use native.Mathlib.Nat.{one-mul, pow-suc}
use mathlib.Core.Path.{◌≡◌, sym, ap, ◌∙◌}
use mathlib.Core.Bool.{true, false}
use lib.Bits.{bit_and, bit_or, and_high, or_add_and}
use lib.Pow.{pow_pos, pow-lt}
use borrow.Author.Tests.{lt-leb, eqb-true}
use Rattle.units.specs.Mask.{in_mask, mask_end}
use Rattle.units.specs.Pick.{pick}
use Rattle.units.proofs.Masks.{mask_end_is, in_power, not_in_power}
use Rattle.controller.specs.Merge.{run_bit}

run_bit_is : (run : ℕ) → run < 16 → run_bit run ≡ 2 ^ run
unfolding run_bit pick
run_bit_is run h = rw (lt-leb 16 run h)

pub in_run : (run : ℕ) → run < 16 → in_mask (run_bit run) run ≡ true
in_run run h = ap (λ (n : ℕ). in_mask n run) (run_bit_is run h) ∙ in_power run h

pub not_in_run : (run i : ℕ) → run < 16 → i < 16 → (i ≡ run → ⊥) → in_mask (run_bit run) i ≡ false
not_in_run run i h k n = ap (λ (r : ℕ). in_mask r i) (run_bit_is run h) ∙ not_in_power run i h k n

-- ---- as numbers
pub run_bit_low : (run : ℕ) → run < 16 → 1 ≤ run_bit run
run_bit_low run h = omega (arith, run_bit_is run h, pow_pos run)

pub run_bit_below : (run m : ℕ) → run < m → m ≤ 16 → run_bit run < mask_end m
run_bit_below run m h k = omega (arith, run_bit_is run (omega arith), mask_end_is m k, pow-lt {i = run} {j = m} h)

-- a run that a mask has already
pub or_run : (mask run : ℕ) → run < 16 → in_mask mask run ≡ true → bit_or mask (run_bit run) ≡ mask
or_run mask run small h =
    let e : mask / 2 ^ run % 2 ≡ 1 = eqb-true _ _ h in
    let k : 1 + run ≡ suc run = omega arith in
    let d : 2 ^ (1 + run) ≡ 2 ^ run * 2 = ap (λ (n : ℕ). 2 ^ n) k ∙ pow-suc 2 run in
    let p : 2 ^ (1 + run) - 2 ^ run ≡ 2 ^ run = omega (arith, d) in
    let q : bit_and mask (2 ^ run) ≡ 2 ^ run = ap (bit_and mask) (sym p) ∙ and_high mask 1 run ∙ ap (λ (n : ℕ). n * 2 ^ run) e ∙ one-mul (2 ^ run) in
    ap (bit_or mask) (run_bit_is run small) ∙ omega (arith, or_add_and mask (2 ^ run), q)
