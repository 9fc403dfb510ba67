-- The limits of document 01 and their bits: a float is in its range exactly when its bits are at most the limit's, and it goes to its bits and back. Assumes nothing.
use mathlib.Core.Path.{◌≡◌, refl, sym, ◌∙◌, ap, subst}
use mathlib.Core.Bool.{Bool, true, false, not, ◌&&◌, true≢false}
use Prim.Native.Nat.{ℕ, ◌*◌, ◌^◌, ◌≤◌, ◌<◌, zero-le}
use native.Mathlib.Nat.{mod-eq_of_lt, le_trans, le_of_eq, mul-one, mul-le-mul_right}
use native.Mathlib.Omega.{arith}
use lib.Dec.{T, leb, ltb, eqb, lit<, lit≤}
use lib.IntN.{pos}
use lib.Ieee.{Float, nan, inf, fin, binary64, up, down, fits, of_bits, of_int, to_bits, nan_bits, is_nan, eq}
use lib.Ieee.Bits.{of_bits-to_bits, to_bits-of_bits, of_bits-fits, nan_bits_is, nan_bits_above, is_true}
use lib.Ieee.Exact.{HasValue}
use lib.Ieee.Fits.{down_pos, of_int-fits}
use borrow.Author.Tests.{le-leb, lt-leb, leb-true, le-ltb, eqb-true, eq-eqb}
use Rattle.units.specs.Limits.{x_top, variance_top, target_top}
use Rattle.units.proofs.Every.{and_left, and_right}
use Rattle.floats.specs.Bits.{of_whole, nought, bits_of, float_of, x_bits, variance_bits, target_bits, same_float}
use Rattle.floats.specs.Ranges.{up_to}
use Rattle.floats.proofs.Encoding.{bits_value, unique, whole_value}

-- L are the bits of the limit n
pub record Limit (n L : ℕ) : Type 0 where
  pub exact : n ≤ 2 ^ 53
  pub at : bits_of (of_whole n) ≡ L
  pub finite : L < 0x7ff0_0000_0000_0000

pub x_limit : Limit x_top x_bits
unfolding bits_of to_bits of_int
x_limit = record { exact = lit≤ tt; at = refl; finite = lit< tt }

pub variance_limit : Limit variance_top variance_bits
unfolding bits_of to_bits of_int
variance_limit = record { exact = lit≤ tt; at = refl; finite = lit< tt }

pub target_limit : Limit target_top target_bits
unfolding bits_of to_bits of_int
target_limit = record { exact = lit≤ tt; at = refl; finite = lit< tt }

-- the code's literals, which have their bits
pub x_top_lem : of_bits binary64 x_bits ≡ of_whole x_top
unfolding of_bits of_int
x_top_lem = refl

pub variance_top_lem : of_bits binary64 variance_bits ≡ of_whole variance_top
unfolding of_bits of_int
variance_top_lem = refl

-- what is in a range is a float of 64 bits
pub range_fits : (n : ℕ) (v : Float) → up_to n v ≡ true → fits binary64 v ≡ true
range_fits n nan h = absurd (true≢false (sym h))
range_fits n (inf s) h = absurd (true≢false (sym h))
range_fits n (fin s m e) h = and_left (fits binary64 (fin s m e)) _ h

pub true_t : {b : Bool} → b ≡ true → T b
true_t h = subst T (sym h) tt

-- "in its range exactly when its bits are at most the limit's bits"
pub bits_test : (n L : ℕ) → Limit n L → (v : Float) → fits binary64 v ≡ true → leb (bits_of v) L ≡ up_to n v
unfolding bits_of
bits_test n L l v f = bits_value n L l.exact l.at l.finite v (true_t f)

-- the same of the bits that the code has found
pub found_test : {n L : ℕ} → Limit n L → (v : Float) {b : ℕ} → b ≡ bits_of v → fits binary64 v ≡ true → leb b L ≡ up_to n v
found_test {n} {L} l v e f = ap (λ (b : ℕ). leb b L) e ∙ bits_test n L l v f

pub range_bits : (n L : ℕ) → Limit n L → (v : Float) → up_to n v ≡ true → bits_of v ≤ L
range_bits n L l v h = leb-true _ _ (bits_test n L l v (range_fits n v h) ∙ h)

-- bits up to infinity's are no NaN's
no_nan : (b : ℕ) → b ≤ 0x7ff0_0000_0000_0000 → nan_bits binary64 b ≡ false
no_nan b h =
    let l : b < 9223372036854775808 = omega arith in
    nan_bits_above binary64 b ∙ ap (ltb 9218868437227405312) (mod-eq_of_lt l) ∙ le-ltb 9218868437227405312 b h

pub no_nan_bits : (b : ℕ) → b ≤ 0x7ff0_0000_0000_0000 → T (not (nan_bits binary64 b))
no_nan_bits b h = rw (no_nan b h) tt

pub float_low : (b : ℕ) → b ≤ 0x7ff0_0000_0000_0000 → of_bits binary64 b ≡ float_of b
unfolding float_of
float_low b h = rw (le-leb b 0x7ff0_0000_0000_0000 h)

pub float_high : (b : ℕ) → 0x7ff0_0000_0000_0000 < b → nought ≡ float_of b
unfolding float_of
float_high b h = rw (lt-leb b 0x7ff0_0000_0000_0000 h)

-- from bits to the float and back
bits_back : (b : ℕ) → b ≤ 0x7ff0_0000_0000_0000 → bits_of (float_of b) ≡ b
unfolding bits_of
bits_back b h =
    ap (to_bits binary64) (sym (float_low b h))
    ∙ to_bits-of_bits binary64 b (omega arith) (subst (λ (t : Bool). T (not t)) (nan_bits_is binary64 b) (no_nan_bits b h))

pub bits_range : (n L : ℕ) → Limit n L → (b : ℕ) → b ≤ L → up_to n (float_of b) ≡ true
bits_range n L l b h =
    let k : b ≤ 0x7ff0_0000_0000_0000 = omega (arith, l.finite) in
    sym (bits_test n L l (float_of b) (ap (fits binary64) (sym (float_low b k)) ∙ is_true (fits binary64 (of_bits binary64 b)) (of_bits-fits binary64 b)))
    ∙ ap (λ (c : ℕ). leb c L) (bits_back b k) ∙ le-leb b L h

pub limit_back : (n L : ℕ) → Limit n L → (b : ℕ) → b ≤ L → bits_of (float_of b) ≡ b
limit_back n L l b h = bits_back b (omega (arith, l.finite))

-- from a float in range to its bits and back
pub float_back : (n L : ℕ) → Limit n L → (v : Float) → up_to n v ≡ true → float_of (bits_of v) ≡ v
unfolding bits_of
float_back n L l v h =
    let k : to_bits binary64 v ≤ 0x7ff0_0000_0000_0000 = omega (arith, range_bits n L l v h, l.finite) in
    sym (float_low (to_bits binary64 v) k) ∙ of_bits-to_bits binary64 v (true_t (range_fits n v h))

-- equal bits are equal floats, and the other way round
pub same_is : (x y : Float) → same_float x y ≡ true → x ≡ y
unfolding same_float bits_of
same_is x y h =
    let f = and_left (fits binary64 x && fits binary64 y) _ h in
    sym (of_bits-to_bits binary64 x (true_t (and_left (fits binary64 x) _ f)))
    ∙ ap (of_bits binary64) (eqb-true _ _ (and_right (fits binary64 x && fits binary64 y) _ h))
    ∙ of_bits-to_bits binary64 y (true_t (and_right (fits binary64 x) _ f))

pub same_test : (x y : Float) → fits binary64 x ≡ true → fits binary64 y ≡ true → eqb (bits_of x) (bits_of y) ≡ same_float x y
unfolding same_float
same_test x y f g = rw (f, g)

pub same_self : (x : Float) → fits binary64 x ≡ true → same_float x x ≡ true
same_self x f = sym (same_test x x f f) ∙ eq-eqb (bits_of x) (bits_of x) refl

-- of floats in range, equal values are one float, and so have equal bits
pub equal_value : (j k : ℕ) (x y : Float) → up_to j x ≡ true → up_to k y ≡ true → eq x y ≡ true → x ≡ y
unfolding eq
equal_value j k nan y p q h = absurd (true≢false (sym p))
equal_value j k (inf s) y p q h = absurd (true≢false (sym p))
equal_value j k (fin true m e) y p q h = absurd (true≢false (sym (and_right (fits binary64 (fin true m e)) false p)))
equal_value j k (fin false m e) nan p q h = absurd (true≢false (sym q))
equal_value j k (fin false m e) (inf s) p q h = absurd (true≢false (sym q))
equal_value j k (fin false m e) (fin true n d) p q h = absurd (true≢false (sym (and_right (fits binary64 (fin true n d)) false q)))
equal_value j k (fin false m e) (fin false n d) p q h =
    unique (fin false m e) (fin false n d) (m * up e) (down e) (down_pos e) (true_t (range_fits j _ p)) (true_t (range_fits k _ q)) (refl, refl)
    (refl, sym (eqb-true (m * up e * down d) (n * up d * down e) (and_left (eqb (m * up e * down d) (n * up d * down e)) _ h)))

-- a whole number up to the limit is in range
value_range : (n k : ℕ) (v : Float) → n ≤ k → HasValue v false n 1 → fits binary64 v ≡ true → up_to k v ≡ true
value_range n k nan l h f = absurd h
value_range n k (inf s) l h f = absurd h
value_range n k (fin true m e) l h f = absurd (true≢false h.0)
value_range n k (fin false m e) l h f =
    ap (λ (b : Bool). b && leb (m * up e) (k * down e)) f
    ∙ le-leb (m * up e) (k * down e) (le_trans (le_of_eq (sym (mul-one (m * up e)) ∙ h.1)) (mul-le-mul_right (down e) l))

pub whole_range : (n k : ℕ) → n ≤ k → n ≤ 2 ^ 53 → up_to k (of_whole n) ≡ true
whole_range n k l h = value_range n k (of_whole n) l (whole_value n h) (is_true (fits binary64 (of_whole n)) (of_int-fits binary64 (pos n)))

nought_is : nought ≡ of_whole 0
unfolding of_bits of_int
nought_is = refl

pub nought_range : (n : ℕ) → up_to n nought ≡ true
nought_range n = ap (up_to n) nought_is ∙ whole_range 0 n zero-le zero-le

-- a NaN's bits
pub nan_bits_lem : (v : Float) → is_nan v ≡ true → 0x7ff8_0000_0000_0000 ≡ bits_of v
unfolding is_nan bits_of to_bits
nan_bits_lem nan h = refl
nan_bits_lem (inf s) h = absurd (true≢false (sym h))
nan_bits_lem (fin s m e) h = absurd (true≢false (sym h))
