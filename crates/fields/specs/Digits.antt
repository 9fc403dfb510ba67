-- Digits, the numbers that they say, and the digits of a number.
use Rattle.std.specs.Prelude.{ℕ, zero, suc, ◌+◌, ◌-◌, ◌*◌, ◌/◌, ◌%◌, ◌^◌, ◌≤◌, ◌<◌, ◌≡◌, List, [], ◌∷◌, ◌++◌, Bool, true, false, ◌&&◌, length, take, drop, leb, ltb, eqb, Option, Some, None}

abbrev pub pick : {A : Type 0} → Bool → A → A → A
pick true a b = a
pick false a b = b

-- the value of a decimal or upper-case hex digit, 16 of any other byte
unfoldable pub digit_of : ℕ → ℕ
digit_of b = pick (ltb b 48) 16 (pick (ltb b 58) (b - 48) (pick (ltb b 65) 16 (pick (ltb b 71) (b - 55) 16)))

-- the byte of a digit
unfoldable pub char_of : ℕ → ℕ
char_of d = pick (ltb d 10) (48 + d) (55 + d)

-- the number that bytes say as digits to a base, after digits that say n; none where one is no digit
unfoldable pub value_from : ℕ → ℕ → List ℕ → Option ℕ
value_from base n [] = Some n
value_from base n (c ∷ cs) = pick (ltb (digit_of c) base) (value_from base (n * base + digit_of c) cs) None

-- the same of exactly k bytes
unfoldable pub fixed_in : ℕ → ℕ → ℕ → List ℕ → Option ℕ
fixed_in base k n cs = pick (eqb (length cs) k) (value_from base n cs) None

-- n in k digits to a base
unfoldable pub fixed : ℕ → ℕ → ℕ → List ℕ
fixed base zero n = []
fixed base (suc k) n = fixed base k (n / base) ++ (char_of (n % base) ∷ [])

-- n in at most k decimal digits, with no leading zero but 0 itself
unfoldable pub decimal_in : ℕ → ℕ → List ℕ
decimal_in zero n = []
decimal_in (suc k) n = pick (ltb n 10) (char_of n ∷ []) (decimal_in k (n / 10) ++ (char_of (n % 10) ∷ []))

unfoldable pub decimal : ℕ → List ℕ
decimal n = decimal_in (suc n) n

-- the decimal digits that bytes start with, k at the most
unfoldable pub digits_of : ℕ → List ℕ → List ℕ
digits_of zero cs = []
digits_of (suc k) [] = []
digits_of (suc k) (c ∷ cs) = pick (ltb (digit_of c) 10) (c ∷ digits_of k cs) []

unfoldable pub all_digits : List ℕ → Bool
all_digits [] = true
all_digits (c ∷ cs) = ltb (digit_of c) 10 && all_digits cs

-- A FIXED NUMBER OF DIGITS: what exactly n decimal digits at a place say, whatever comes after them; n is 1 to 16, which 64 bits always carry
unfoldable pub digits_at : List ℕ → ℕ → ℕ → Option ℕ
digits_at text at n = pick (leb 1 n && leb n 16) (fixed_in 10 n 0 (take n (drop at text))) None

-- that n digits stand at a place, 1 to 16 of them, and that their number is v: `digits_only` and `digits_read` of proofs/Numbers.antt say that this is what is accepted
pub record ReadDigits (text : List ℕ) (at n v : ℕ) : Type 0 where
  pub least : 1 ≤ n
  pub most : n ≤ 16
  pub below : v < 10 ^ n
  pub bytes : take n (drop at text) ≡ fixed 10 n v
