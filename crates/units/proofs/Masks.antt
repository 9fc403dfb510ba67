-- Masks as the code makes them, as numbers, and bit by bit: of two masks together, of what they share, and of one run. Assumes nothing.
use Prim.Native.Nat.{ℕ, zero, suc, ◌*◌, ◌/◌, ◌%◌, ◌^◌, ◌≤◌, ◌<◌, min}
use native.Mathlib.Nat.{div-eq_of_lt, lt_of_lt_of_le, zero-div}
use mathlib.Core.Bool.{Bool, true, false, not, cond, ◌&&◌, ◌||◌}
use lib.Bits.{bit_and, bit_or, and_shr, or_shr, and_mod, or_mod, and_le_r, or_add_and, or_lt}
use lib.Dec.{ltb, eqb}
use borrow.Author.Tests.{eq-eqb, ne_eqb, not-true, le-ltb}
use native.Mathlib.Omega.{arith}
use mathlib.Core.Path.{◌≡◌, refl, sym, ap, ◌∙◌}
use lib.Pow.{pow_mono}
use Rattle.units.specs.Every.{every}
use Rattle.units.specs.Mask.{in_mask, mask_end}
use Rattle.units.proofs.Every.{every_at}

-- of m runs there are 2 ^ m masks
pub mask_end_is : (m : ℕ) → m ≤ 16 → mask_end m ≡ 2 ^ m
mask_end_is m h = let e : min m 16 ≡ m = omega arith in ap (λ (n : ℕ). 2 ^ n) e

pub mask_end_full : (m : ℕ) → 16 ≤ m → mask_end m ≡ 65536
mask_end_full m h = let e : min m 16 ≡ 16 = omega arith in ap (λ (n : ℕ). 2 ^ n) e

pub some_mask : (m : ℕ) → 1 ≤ mask_end m
some_mask m = pow_mono {i = 0} {j = min m 16} (omega arith)

-- the empty mask has no run
pub no_run : (i : ℕ) → in_mask 0 i ≡ false
no_run i = rw (zero-div (2 ^ i))

-- a mask has no bit at 32 or above
pub no_bit : (mask i : ℕ) → mask < 2 ^ 32 → 32 ≤ i → ltb i 32 ≡ in_mask mask i
no_bit mask i h k =
    let z : mask / 2 ^ i ≡ 0 = div-eq_of_lt (lt_of_lt_of_le h (pow_mono {i = 32} {j = i} k)) in
    le-ltb i 32 k ∙ sym (ap (λ (n : ℕ). eqb (n % 2) 1) z)

-- the code's 1 << m
pub shifted : (m : ℕ) → m ≤ 16 → (1 * 2 ^ m) % 2 ^ 32 ≡ mask_end m
shifted m h = omega (arith, pow_mono {i = m} {j = 16} h, mask_end_is m h)

-- ---- one bit
and_digit : (x y : ℕ) → x < 2 → y < 2 → eqb (bit_and x y) 1 ≡ (eqb x 1 && eqb y 1)
and_digit zero y p q = refl
and_digit (suc zero) zero p q = refl
and_digit (suc zero) (suc zero) p q = refl
and_digit (suc zero) (suc (suc y)) p q = absurd (omega arith)
and_digit (suc (suc x)) y p q = absurd (omega arith)

or_digit : (x y : ℕ) → x < 2 → y < 2 → eqb (bit_or x y) 1 ≡ (eqb x 1 || eqb y 1)
or_digit zero y p q = refl
or_digit (suc zero) zero p q = refl
or_digit (suc zero) (suc zero) p q = refl
or_digit (suc zero) (suc (suc y)) p q = absurd (omega arith)
or_digit (suc (suc x)) y p q = absurd (omega arith)

pub in_and : (a b i : ℕ) → in_mask (bit_and a b) i ≡ (in_mask a i && in_mask b i)
in_and a b i =
    ap (λ (n : ℕ). eqb (n % 2) 1) (and_shr a b i) ∙ ap (λ (n : ℕ). eqb n 1) (and_mod (a / 2 ^ i) (b / 2 ^ i) 1)
    ∙ and_digit (a / 2 ^ i % 2) (b / 2 ^ i % 2) (omega arith) (omega arith)

pub in_or : (a b i : ℕ) → in_mask (bit_or a b) i ≡ (in_mask a i || in_mask b i)
in_or a b i =
    ap (λ (n : ℕ). eqb (n % 2) 1) (or_shr a b i) ∙ ap (λ (n : ℕ). eqb n 1) (or_mod (a / 2 ^ i) (b / 2 ^ i) 1)
    ∙ or_digit (a / 2 ^ i % 2) (b / 2 ^ i % 2) (omega arith) (omega arith)

-- ---- one run, by a test over all pairs of runs
single : ℕ → ℕ → Bool
single run i = cond (eqb i run) (in_mask (2 ^ run) i) (not (in_mask (2 ^ run) i))

all_single : every (λ (run : ℕ). every (single run) 16) 16 ≡ true
unfolding every single
all_single = refl

single_at : (run i : ℕ) → run < 16 → i < 16 → single run i ≡ true
single_at run i r k = every_at (single run) 16 i (every_at (λ (n : ℕ). every (single n) 16) 16 run all_single r) k

-- the mask of one run has that run
pub in_power : (run : ℕ) → run < 16 → in_mask (2 ^ run) run ≡ true
unfolding single
in_power run h = rw (eq-eqb run run refl) at (single_at run run h h)

-- and no other
pub not_in_power : (run i : ℕ) → run < 16 → i < 16 → (i ≡ run → ⊥) → in_mask (2 ^ run) i ≡ false
unfolding single
not_in_power run i h k n = not-true _ (rw (ne_eqb i run n) at (single_at run i h k))

-- ---- two masks as numbers
pub or_above : (a b : ℕ) → a ≤ bit_or a b
or_above a b = omega (arith, or_add_and a b, and_le_r a b)

pub or_below : (m a b : ℕ) → m ≤ 16 → a < mask_end m → b < mask_end m → bit_or a b < mask_end m
or_below m a b k p q =
    let e = mask_end_is m k in
    let p' : a < 2 ^ m = omega arith in
    let q' : b < 2 ^ m = omega arith in
    omega (arith, or_lt m a b p' q')
