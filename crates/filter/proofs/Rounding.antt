-- Ranges through the roundings: what is limited, a sum and a target stay in +0 and their limit. Assumes nothing.
use Rattle.std.proofs.Common.{◌≡◌, ℕ, suc, ◌+◌, ◌*◌, ◌^◌, ◌<◌, ◌≤◌, Bool, true, false, cond, not, ◌&&◌, ◌||◌, T, eqb, ltb, leb, ℤ, pos, sym, ap, ◌∙◌, subst, true≢false, le_trans, le_of_eq, le_of_lt, add-le-add, mul-le-mul_right, mul_assoc, mul_comm, add-mul, mul-pos, zero-mul, mul-one, mul_right_comm, le_of_mul-le-mul_right, arith, lit<, le→leb, eqb→eq, ltb→lt, leb→le, nltb→le}
use lib.Ieee.{Float, nan, inf, fin, binary64, prec, emax, low, up, down, fits, round, units, odd, add, mul, div, lt, le, of_bits}
use lib.Ieee.Fits.{and_l, and_r, and_i, down_pos, round_is, cond-fits, add-fits, div-fits, of_int-fits}
use lib.Ieee.Exact.{HasValue, odd_sign}
use lib.Ieee.Back.{round_whole}
use lib.Ieee.Bits.{is_true, of_bits-fits}
use lib.Ieee.Order.{round_mono}
use Rattle.floats.specs.Bits.{of_whole, nought}
use Rattle.floats.specs.Ranges.{up_to}
use Rattle.floats.proofs.Encoding.{whole_value}
use Rattle.floats.proofs.Limits.{range_fits, nought_range, true_t}
use Rattle.filter.specs.Run.{limited, at_most}
use Rattle.filter.specs.Share.{target}

-- the range on values alone: `up_to` without the test that the value is a float of 64 bits
abbrev not_above : ℕ → Float → Bool
not_above n nan = false
not_above n (inf s) = false
not_above n (fin s m e) = not s && leb (m * up e) (n * down e)

out : (n : ℕ) (v : Float) → up_to n v ≡ true → T (not_above n v)
out n nan h = absurd (true≢false (sym h))
out n (inf s) h = absurd (true≢false (sym h))
out n (fin s m e) h = and_r (fits binary64 (fin s m e)) (not s && leb (m * up e) (n * down e)) (true_t h)

into : (n : ℕ) (v : Float) → T (fits binary64 v) → T (not_above n v) → up_to n v ≡ true
into n nan f h = absurd h
into n (inf s) f h = absurd h
into n (fin s m e) f h = is_true _ (and_i (fits binary64 (fin s m e)) (not s && leb (m * up e) (n * down e)) f h)

nought_within : (n : ℕ) → T (not_above n nought)
nought_within n = out n nought (nought_range n)

-- not NaN and its sign clear, an infinity included
abbrev plus : Float → Bool
plus nan = false
plus (inf s) = not s
plus (fin s m e) = not s

plus_of_value : (x : Float) (a c : ℕ) → HasValue x false a c → T (plus x)
plus_of_value nan a c h = absurd h
plus_of_value (inf s) a c h = absurd h
plus_of_value (fin true m e) a c h = absurd (true≢false h.0)
plus_of_value (fin false m e) a c h = tt

within_of_value : (x : Float) (n : ℕ) → HasValue x false n 1 → T (not_above n x)
within_of_value nan n h = absurd h
within_of_value (inf s) n h = absurd h
within_of_value (fin true m e) n h = absurd (true≢false h.0)
within_of_value (fin false m e) n h = le→leb (m * up e) (n * down e) (le_of_eq (sym (mul-one (m * up e)) ∙ h.1))

within_mono : (n k : ℕ) (x : Float) → n ≤ k → T (not_above n x) → T (not_above k x)
within_mono n k nan l h = absurd h
within_mono n k (inf s) l h = absurd h
within_mono n k (fin s m e) l h =
    and_i (not s) (leb (m * up e) (k * down e)) (and_l (not s) (leb (m * up e) (n * down e)) h)
    (le→leb (m * up e) (k * down e) (le_trans (leb→le (m * up e) (n * down e) (and_r (not s) (leb (m * up e) (n * down e)) h)) (mul-le-mul_right (down e) l)))

lt_or_eq : (a b : ℕ) (t : Bool) → T (ltb a b || (eqb a b && t)) → a ≤ b
lt_or_eq a b t h = go (ltb a b) (ltb→lt a b) h
  where
    go : (x : Bool) → (T x → a < b) → T (x || (eqb a b && t)) → a ≤ b
    go true f u = le_of_lt (f tt)
    go false f u = le_of_eq (eqb→eq a b (and_l (eqb a b) t u))

cross : (x k n E D : ℕ) → 0 < D → x * D ≤ k * E → k ≡ n * D → x ≤ n * E
cross x k n E D P h e = le_of_mul-le-mul_right (le_trans h (le_of_eq (ap (λ (z : ℕ). z * E) e ∙ mul_right_comm n D E))) P

-- at most a value that is the whole number n
le_within : (x y : Float) (n : ℕ) → HasValue y false n 1 → T (plus x) → T (le x y) → T (not_above n x)
unfolding le
le_within nan y n q p h = absurd p
le_within (inf true) y n q p h = absurd p
le_within (inf false) nan n q p h = absurd q
le_within (inf false) (inf t) n q p h = absurd q
le_within (inf false) (fin t k d) n q p h = absurd h
le_within (fin true m e) y n q p h = absurd p
le_within (fin false m e) nan n q p h = absurd q
le_within (fin false m e) (inf t) n q p h = absurd q
le_within (fin false m e) (fin true k d) n q p h = absurd (true≢false q.0)
le_within (fin false m e) (fin false k d) n q p h =
    le→leb (m * up e) (n * down e)
    (cross (m * up e) (k * up d) n (down e) (down d) (down_pos d) (lt_or_eq (m * up e * down d) (k * up d * down e) true h) (sym (mul-one (k * up d)) ∙ q.1))

-- ---- rounding keeps the sign and the range
units_plus : (q k : ℕ) → T (plus (units binary64 false q k))
unfolding units
units_plus q k = go (ltb (q * 2 ^ k) (2 ^ (low binary64 + suc (emax binary64))))
  where
    go : (b : Bool) → T (plus (cond b (odd (suc (prec binary64)) false q k (low binary64)) (inf false)))
    go true = plus_of_value (odd (suc (prec binary64)) false q k (low binary64)) (q * 2 ^ k) (2 ^ low binary64) (odd_sign (suc (prec binary64)) false q k (low binary64))
    go false = tt

round_plus : (a c : ℕ) → T (plus (round binary64 false a c))
round_plus a c = subst (λ (z : Float). T (plus z)) (sym (round_is binary64 false a c)) (units_plus _ _)

round_within : (a c n : ℕ) → 0 < c → n ≤ 2 ^ 53 → a ≤ n * c → T (not_above n (round binary64 false a c))
round_within a c n C N h =
    le_within (round binary64 false a c) (round binary64 false n 1) n (round_whole binary64 false n N) (round_plus a c)
    (round_mono binary64 a c n 1 C (lit< tt) (le_trans (le_of_eq (mul-one a)) h))

-- ---- a whole number, and what is limited by one
whole_within : (n : ℕ) → n ≤ 2 ^ 53 → T (not_above n (of_whole n))
whole_within n h = within_of_value (of_whole n) n (whole_value n h)

above_nought : (v : Float) → T (lt nought v) → T (plus v)
unfolding lt of_bits
above_nought nan h = absurd h
above_nought (inf s) h = h
above_nought (fin true m e) h = absurd h
above_nought (fin false m e) h = tt

limited_within : (n : ℕ) → n ≤ 2 ^ 53 → (v : Float) → T (not_above n (limited (of_whole n) v))
unfolding limited
limited_within n h v = go (lt nought v && le v (of_whole n)) (lt (of_whole n) v) (λ t. le_within v (of_whole n) n (whole_value n h) (above_nought v (and_l (lt nought v) (le v (of_whole n)) t)) (and_r (lt nought v) (le v (of_whole n)) t))
  where
    go : (b c : Bool) → (T b → T (not_above n v)) → T (not_above n (cond b v (cond c (of_whole n) nought)))
    go true c f = f tt
    go false true f = whole_within n h
    go false false f = nought_within n

-- ---- a sum
sum_arith : (a b E D x y : ℕ) → x ≤ a * E → y ≤ b * D → x * D + y * E ≤ (a + b) * (E * D)
sum_arith a b E D x y h k =
    le_trans (add-le-add (mul-le-mul_right D h) (mul-le-mul_right E k))
    (le_of_eq (sym (add-mul a b (E * D) ∙ ap (λ (z : ℕ). z + b * (E * D)) (sym (mul_assoc a E D)) ∙ ap (λ (z : ℕ). a * E * D + z) (ap (λ (z : ℕ). b * z) (mul_comm E D) ∙ sym (mul_assoc b D E)))))

add_within : (a b : ℕ) (x y : Float) → a + b ≤ 2 ^ 53 → T (not_above a x) → T (not_above b y) → T (not_above (a + b) (add binary64 x y))
unfolding add
add_within a b nan y N p q = absurd p
add_within a b (inf s) y N p q = absurd p
add_within a b (fin true m e) y N p q = absurd p
add_within a b (fin false m e) nan N p q = absurd q
add_within a b (fin false m e) (inf t) N p q = absurd q
add_within a b (fin false m e) (fin true n d) N p q = absurd q
add_within a b (fin false m e) (fin false n d) N p q =
    round_within (m * up e * down d + n * up d * down e) (down e * down d) (a + b) (mul-pos (down_pos e) (down_pos d)) N
    (sum_arith a b (down e) (down d) (m * up e) (n * up d) (leb→le (m * up e) (a * down e) p) (leb→le (n * up d) (b * down d) q))

-- ---- a target
mul_plus : (k : ℕ) (t w : Float) (n : ℕ) → T (not_above k t) → HasValue w false n 1 → T (plus (mul binary64 t w))
unfolding mul
mul_plus k nan w n p q = absurd p
mul_plus k (inf s) w n p q = absurd p
mul_plus k (fin true m e) w n p q = absurd p
mul_plus k (fin false m e) nan n p q = absurd q
mul_plus k (fin false m e) (inf t) n p q = absurd q
mul_plus k (fin false m e) (fin true j d) n p q = absurd (true≢false q.0)
mul_plus k (fin false m e) (fin false j d) n p q = round_plus (m * up e * (j * up d)) (down e * down d)

-- a quotient by a whole number above 0
div_plus : (t w : Float) (n : ℕ) → T (plus t) → 0 < n → HasValue w false n 1 → T (plus (div binary64 t w))
unfolding div
div_plus nan w n p N q = absurd p
div_plus (inf true) w n p N q = absurd p
div_plus (inf false) nan n p N q = absurd q
div_plus (inf false) (inf t) n p N q = absurd q
div_plus (inf false) (fin true j d) n p N q = absurd (true≢false q.0)
div_plus (inf false) (fin false j d) n p N q = tt
div_plus (fin true m e) w n p N q = absurd p
div_plus (fin false m e) nan n p N q = absurd q
div_plus (fin false m e) (inf t) n p N q = absurd q
div_plus (fin false m e) (fin true j d) n p N q = absurd (true≢false q.0)
div_plus (fin false m e) (fin false j d) n p N q = go (eqb j 0) (λ t. none j d n N (eqb→eq j 0 t) q.1)
  where
    none : (j : ℕ) (d : ℤ) (n : ℕ) → 0 < n → j ≡ 0 → j * up d * 1 ≡ n * down d → ⊥
    none j d n N z g = clash (n * down d) (mul-pos N (down_pos d)) (sym g ∙ ap (λ (x : ℕ). x * up d * 1) z ∙ ap (λ (x : ℕ). x * 1) (zero-mul (up d)) ∙ zero-mul 1)
      where
        clash : (x : ℕ) → 0 < x → x ≡ 0 → ⊥
        clash x a b = omega arith

    go : (b : Bool) → (T b → ⊥) → T (plus (cond b (cond (eqb m 0) nan (inf false)) (round binary64 false (m * up e * down d) (j * up d * down e))))
    go true f = absurd (f tt)
    go false f = round_plus (m * up e * down d) (j * up d * down e)

-- a value with its sign clear that does not exceed a value in range is in range
not_above_lem : (k : ℕ) (t v : Float) → T (not_above k t) → T (plus v) → T (not (lt t v)) → T (not_above k v)
unfolding lt
not_above_lem k nan v p q h = absurd p
not_above_lem k (inf s) v p q h = absurd p
not_above_lem k (fin true m e) v p q h = absurd p
not_above_lem k (fin false m e) nan p q h = absurd q
not_above_lem k (fin false m e) (inf true) p q h = absurd q
not_above_lem k (fin false m e) (inf false) p q h = absurd h
not_above_lem k (fin false m e) (fin true n d) p q h = absurd q
not_above_lem k (fin false m e) (fin false n d) p q h =
    le→leb (n * up d) (k * down d)
    (le_of_mul-le-mul_right
    (le_trans (nltb→le (m * up e * down d) (n * up d * down e) h)
    (le_trans (mul-le-mul_right (down d) (leb→le (m * up e) (k * down e) p)) (le_of_eq (mul_right_comm k (down e) (down d)))))
    (down_pos e))

limited_fits : (top v : Float) → T (fits binary64 top) → T (fits binary64 v) → T (fits binary64 (limited top v))
unfolding limited
limited_fits top v p q = cond-fits binary64 (lt nought v && le v top) v (cond (lt top v) top nought) q (cond-fits binary64 (lt top v) top nought p (of_bits-fits binary64 0))

target_fits : (t : Float) (w sum : ℕ) → T (fits binary64 t) → T (fits binary64 (target t w sum))
unfolding target at_most
target_fits t w sum f = cond-fits binary64 (lt t (div binary64 (mul binary64 t (of_whole w)) (of_whole sum))) t (div binary64 (mul binary64 t (of_whole w)) (of_whole sum)) f (div-fits binary64 (mul binary64 t (of_whole w)) (of_whole sum))

-- each target of a total in +0 .. k is in +0 .. k, where the sum of the weights is not 0
target_within : (k : ℕ) (t : Float) (w sum : ℕ) → w ≤ 2 ^ 53 → sum ≤ 2 ^ 53 → 0 < sum → T (not_above k t) → T (not_above k (target t w sum))
unfolding target at_most
target_within k t w sum W S P h = go (lt t q) (λ z. not_above_lem k t q h (div_plus (mul binary64 t (of_whole w)) (of_whole sum) sum (mul_plus k t (of_whole w) w h (whole_value w W)) P (whole_value sum S)) z)
  where
    q : Float
    q = div binary64 (mul binary64 t (of_whole w)) (of_whole sum)

    go : (b : Bool) → (T (not b) → T (not_above k q)) → T (not_above k (cond b t q))
    go true f = h
    go false f = f tt

-- ---- the same of `up_to`
pub range_mono : (n k : ℕ) (v : Float) → n ≤ k → up_to n v ≡ true → up_to k v ≡ true
range_mono n k v l h = into k v (true_t (range_fits n v h)) (within_mono n k v l (out n v h))

pub add_range : (a b : ℕ) (x y : Float) → a + b ≤ 2 ^ 53 → up_to a x ≡ true → up_to b y ≡ true → up_to (a + b) (add binary64 x y) ≡ true
add_range a b x y N p q = into (a + b) (add binary64 x y) (add-fits binary64 x y) (add_within a b x y N (out a x p) (out b y q))

-- whatever is held notAbove a limit is in range
pub limited_range : (n : ℕ) (v : Float) → n ≤ 2 ^ 53 → T (fits binary64 v) → up_to n (limited (of_whole n) v) ≡ true
limited_range n v N f = into n (limited (of_whole n) v) held (limited_within n N v)
  where
    held : T (fits binary64 (limited (of_whole n) v))
    held = limited_fits (of_whole n) v (of_int-fits binary64 (pos n)) f

-- each target of a total in range is in range, where the sum of the weights is not 0
pub target_range : (k : ℕ) (t : Float) (w sum : ℕ) → w ≤ 2 ^ 53 → sum ≤ 2 ^ 53 → 0 < sum → up_to k t ≡ true → up_to k (target t w sum) ≡ true
target_range k t w sum W S P h = into k (target t w sum) (target_fits t w sum (true_t (range_fits k t h))) (target_within k t w sum W S P (out k t h))
