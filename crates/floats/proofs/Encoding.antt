-- A float without its sign, in smallest values, has bits that grow with it: so a limit on values is a limit on bits. Assumes nothing.
use mathlib.Core.Path.{◌≡◌, refl, sym, ◌∙◌, ap, subst}
use mathlib.Core.Logic.{◌⊎◌, inl, inr}
use mathlib.Core.Bool.{Bool, true, false, not, ◌&&◌, true≢false}
use Prim.Native.Nat.{ℕ, ◌+◌, ◌-◌, ◌*◌, ◌/◌, ◌^◌, ◌≤◌, ◌<◌, zero-le}
use native.Mathlib.Nat.{le_trans, le_of_eq, le_of_lt, le_antisymm, lt_of_le_of_lt, div-one, eq-or-lt_of_le, mul_right_comm, mul-le-mul_right, le-div_iff_mul-le, mul-div_cancel, zero-add, add-le-add, le_refl}
use native.Mathlib.Omega.{arith}
use lib.IntN.{ℤ, pos}
use lib.Dec.{T, leb, leb→le, le→leb, nleb→lt, lit≤}
use lib.Pow.{pow_pos, pow-add}
use lib.Ieee.{Float, nan, inf, fin, binary64, up, down, size, fits, of_int, of_bits, to_bits}
use lib.Ieee.Digits.{size-lt, size-le, size_reaches}
use lib.Ieee.Fits.{kept-lt, down_pos, of_int-fits}
use lib.Ieee.Exact.{HasValue}
use lib.Ieee.Back.{round_whole}
use lib.Ieee.Nearest.{div_mono, div_same}
use lib.Ieee.Bits.{of_bits-to_bits, is_true}
use borrow.Author.Tests.{lt-leb}
use Rattle.floats.specs.Bits.{of_whole}
use Rattle.floats.specs.Ranges.{up_to}

-- the bits of a magnitude of n smallest values
abbrev enc : ℕ → ℕ
enc n = (size n - 53) * 4503599627370496 + n / 2 ^ (size n - 53)

over : (j k a b : ℕ) → j < k → a < 2 ^ 53 → 2 ^ 52 ≤ b → j * 4503599627370496 + a ≤ k * 4503599627370496 + b
over j k a b h p q = omega arith

deep : (z : ℕ) → 0 < z - 53 → 52 + (z - 53) < z
deep z h = omega arith

fewer : (x y : ℕ) → x ≤ y → x - 53 ≤ y - 53
fewer x y h = omega arith

enc_mono : (a b : ℕ) → a ≤ b → enc a ≤ enc b
enc_mono a b h = go (eq-or-lt_of_le (fewer (size a) (size b) (size-le a (size b) (lt_of_le_of_lt h (size-lt b)))))
  where
    go : (size a - 53 ≡ size b - 53) ⊎ (size a - 53 < size b - 53) → enc a ≤ enc b
    go (inl e) =
        subst (λ (k : ℕ). k * 4503599627370496 + a / 2 ^ k ≤ enc b) (sym e)
        (add-le-add (le_refl ((size b - 53) * 4503599627370496)) (div_mono a (2 ^ (size b - 53)) b (2 ^ (size b - 53)) (pow_pos (size b - 53)) (pow_pos (size b - 53)) (mul-le-mul_right (2 ^ (size b - 53)) h)))
    go (inr l) =
        let k = size b - 53 in
        over (size a - 53) k (a / 2 ^ (size a - 53)) (b / 2 ^ k) l (kept-lt 53 a)
        ((le-div_iff_mul-le (pow_pos k)).1 (le_trans (le_of_eq (sym (pow-add 2 52 k))) (size_reaches b (52 + k) (deep (size b) (lt_of_le_of_lt zero-le l)))))

-- the magnitude in smallest values
abbrev mag : ℕ → ℤ → ℕ
mag m e = m * up e * 2 ^ 1074 / down e

pos_bits : (m : ℕ) (e : ℤ) → to_bits binary64 (fin false m e) ≡ enc (mag m e)
unfolding to_bits
pos_bits m e = ap (λ (k : ℕ). k + mag m e / 2 ^ (size (mag m e) - 53)) (zero-add ((size (mag m e) - 53) * 4503599627370496))

mag_le : (n m : ℕ) (e : ℤ) → m * up e ≤ n * down e → mag m e ≤ n * 2 ^ 1074
mag_le n m e h =
    le_trans (div_mono (m * up e * 2 ^ 1074) (down e) (n * 2 ^ 1074 * down e) (down e) (down_pos e) (down_pos e)
    (mul-le-mul_right (down e) (le_trans (mul-le-mul_right (2 ^ 1074) h) (le_of_eq (mul_right_comm n (down e) (2 ^ 1074))))))
    (le_of_eq (mul-div_cancel (n * 2 ^ 1074) (down_pos e)))

mag_ge : (n m : ℕ) (e : ℤ) → n * down e ≤ m * up e → n * 2 ^ 1074 ≤ mag m e
mag_ge n m e h = (le-div_iff_mul-le (down_pos e)).1 (le_trans (le_of_eq (mul_right_comm n (2 ^ 1074) (down e))) (mul-le-mul_right (2 ^ 1074) h))

-- the bits of a value that is a fraction a / c
val_bits : (x : Float) (a c : ℕ) → 0 < c → HasValue x false a c → to_bits binary64 x ≡ enc (a * 2 ^ 1074 / c)
val_bits nan a c C h = absurd h
val_bits (inf s) a c C h = absurd h
val_bits (fin true m e) a c C h = absurd (true≢false h.0)
val_bits (fin false m e) a c C h =
    pos_bits m e
    ∙ ap enc (div_same (m * up e * 2 ^ 1074) (down e) (a * 2 ^ 1074) c (down_pos e) C
    (mul_right_comm (m * up e) (2 ^ 1074) c ∙ ap (λ (z : ℕ). z * 2 ^ 1074) h.1 ∙ mul_right_comm a (down e) (2 ^ 1074)))

-- two floats that equal one fraction are one
pub unique : (x y : Float) (a c : ℕ) → 0 < c → T (fits binary64 x) → T (fits binary64 y) → HasValue x false a c → HasValue y false a c → x ≡ y
unique x y a c C p q h k =
    sym (of_bits-to_bits binary64 x p) ∙ ap (of_bits binary64) (val_bits x a c C h ∙ sym (val_bits y a c C k)) ∙ of_bits-to_bits binary64 y q

-- a whole number is exact up to 2 ^ 53
pub whole_value : (n : ℕ) → n ≤ 2 ^ 53 → HasValue (of_whole n) false n 1
unfolding of_int
whole_value n h = round_whole binary64 false n h

bool_iff : (a b : Bool) → (T a → T b) → (T b → T a) → a ≡ b
bool_iff true true f g = refl
bool_iff true false f g = absurd (f tt)
bool_iff false true f g = absurd (g tt)
bool_iff false false f g = refl

-- past infinity's bits there is no float in a range
high : (L b : ℕ) → L < 0x7ff0_0000_0000_0000 → 0x7ff0_0000_0000_0000 ≤ b → leb b L ≡ false
high L b h k = let l : L < b = omega arith in lt-leb b L l

big : (x y : ℕ) → 0x7ff0_0000_0000_0000 ≤ 9223372036854775808 + x + y
big x y = omega arith

inf_high : (s : Bool) → 0x7ff0_0000_0000_0000 ≤ to_bits binary64 (inf s)
unfolding to_bits
inf_high true = lit≤ tt
inf_high false = lit≤ tt

nan_high : 0x7ff0_0000_0000_0000 ≤ to_bits binary64 nan
unfolding to_bits
nan_high = lit≤ tt

neg_high : (m : ℕ) (e : ℤ) → 0x7ff0_0000_0000_0000 ≤ to_bits binary64 (fin true m e)
unfolding to_bits
neg_high m e = big ((size (mag m e) - 53) * 4503599627370496) (mag m e / 2 ^ (size (mag m e) - 53))

module _ (n L : ℕ) (N : n ≤ 2 ^ 53) (at : to_bits binary64 (of_whole n) ≡ L) (small : L < 0x7ff0_0000_0000_0000) where
  limit_enc : enc (n * 2 ^ 1074) ≡ L
  limit_enc = sym (val_bits (of_whole n) n 1 (omega arith) (whole_value n N) ∙ ap enc (div-one (n * 2 ^ 1074))) ∙ at

  finite_bits : (m : ℕ) (e : ℤ) → T (fits binary64 (fin false m e)) → leb (to_bits binary64 (fin false m e)) L ≡ leb (m * up e) (n * down e)
  finite_bits m e f = bool_iff _ _ (λ t. tested t (leb (m * up e) (n * down e)) (nleb→lt (m * up e) (n * down e))) (λ t. le→leb _ L (le_trans (le_of_eq (pos_bits m e)) (le_trans (enc_mono (mag m e) (n * 2 ^ 1074) (mag_le n m e (leb→le (m * up e) (n * down e) t))) (le_of_eq limit_enc))))
    where
      v : Float
      v = fin false m e

      clash : (x y : ℕ) → y < x → x * 1 ≡ y → ⊥
      clash x y k p = omega arith

      -- a float with the limit's bits is the limit
      at_limit : to_bits binary64 v ≡ L → HasValue v false n 1
      at_limit l =
          subst (λ (w : Float). HasValue w false n 1)
          (sym (of_bits-to_bits binary64 (of_whole n) (of_int-fits binary64 (pos n))) ∙ ap (of_bits binary64) (at ∙ sym l) ∙ of_bits-to_bits binary64 v f)
          (whole_value n N)

      tested : T (leb (to_bits binary64 v) L) → (t : Bool) → (T (not t) → n * down e < m * up e) → T t
      tested h true g = tt
      tested h false g =
          let l : to_bits binary64 v ≡ L = le_antisymm (leb→le _ L h) (le_trans (le_of_eq (sym limit_enc)) (le_trans (enc_mono (n * 2 ^ 1074) (mag m e) (mag_ge n m e (le_of_lt (g tt)))) (le_of_eq (sym (pos_bits m e))))) in
          absurd (clash (m * up e) (n * down e) (g tt) (at_limit l).1)

  -- the range on bits is the range on values
  pub bits_value : (v : Float) → T (fits binary64 v) → leb (to_bits binary64 v) L ≡ up_to n v
  bits_value nan f = high L _ small nan_high
  bits_value (inf s) f = high L _ small (inf_high s)
  bits_value (fin true m e) f = high L _ small (neg_high m e) ∙ sym (ap (λ (b : Bool). b && false) (is_true (fits binary64 (fin true m e)) f))
  bits_value (fin false m e) f = finite_bits m e f ∙ sym (ap (λ (b : Bool). b && leb (m * up e) (n * down e)) (is_true (fits binary64 (fin false m e)) f))
