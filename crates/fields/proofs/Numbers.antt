-- The laws of digits: what is read is what is spelled. Assumes nothing.
use Prim.Native.Nat.{ℕ, zero, suc, ◌+◌, ◌-◌, ◌*◌, ◌/◌, ◌%◌, ◌^◌, ◌≤◌, ◌<◌}
use mathlib.Core.Path.{◌≡◌, refl, sym, ap, ◌∙◌}
use mathlib.Core.List.{List, [], ◌∷◌, ◌++◌}
use mathlib.Core.Bool.{Bool, true, false, ◌&&◌}
use native.Mathlib.Omega.{arith}
use native.Mathlib.Nat.{pow-suc, pow-zero, div-lt_iff_lt-mul, div-add-mod', div-div-eq-div-mul, div-one, mod-lt, mod-eq_of_lt, mul_comm, mul-le-mul_right}
use lib.Arith.{digits_div, digits_mod}
use lib.ListN.{length, take, drop, length-append, length-drop}
use lib.Seq.{length-take-le}
use lib.Dec.{leb, ltb, eqb, lit<, lit≤}
use borrow.Author.Tests.{lt-ltb, le-ltb, ltb-true, eq-eqb, ne_eqb, eqb-true, leb-true, le-leb}
use Rattle.std.specs.Prelude.{Option, Some, None}
use Rattle.units.proofs.Every.{and_left, and_right}
use Rattle.fields.specs.Digits.{pick, digit_of, char_of, value_from, fixed_in, fixed, decimal_in, decimal, all_digits, digits_at, ReadDigits}
use Rattle.fields.specs.Field.{plain, decimal_said}
use Rattle.fields.proofs.Cases.{by_test, by_lt, absurd_by}

-- A DIGIT AND ITS BYTE
char_digit : (c : ℕ) → digit_of c < 16 → char_of (digit_of c) ≡ c
unfolding digit_of char_of
char_digit c =
    by_lt c 48 (λ h. rw (lt-ltb c 48 h) (λ k. absurd (omega arith)))
    (λ h1. rw (le-ltb c 48 h1) (by_lt c 58
    (λ h. rw (lt-ltb c 58 h) (λ k. let d : c - 48 < 10 = omega arith in rw (lt-ltb (c - 48) 10 d) (omega arith)))
    (λ h2. rw (le-ltb c 58 h2) (by_lt c 65 (λ h. rw (lt-ltb c 65 h) (λ k. absurd (omega arith)))
    (λ h3. rw (le-ltb c 65 h3) (by_lt c 71
    (λ h. rw (lt-ltb c 71 h) (λ k. let d : 10 ≤ c - 55 = omega arith in rw (le-ltb (c - 55) 10 d) (omega arith)))
    (λ h4. rw (le-ltb c 71 h4) (λ k. absurd (omega arith)))))))))

digit_char : (d : ℕ) → d < 16 → digit_of (char_of d) ≡ d
unfolding digit_of char_of
digit_char d k =
    by_lt d 10
    (λ h. let a : 48 ≤ 48 + d = omega arith in let b : 48 + d < 58 = omega arith in rw (lt-ltb d 10 h, le-ltb (48 + d) 48 a, lt-ltb (48 + d) 58 b) (omega arith))
    (λ h.
    let a : 48 ≤ 55 + d = omega arith in let b : 58 ≤ 55 + d = omega arith in let e : 65 ≤ 55 + d = omega arith in let f : 55 + d < 71 = omega arith in
    rw (le-ltb d 10 h, le-ltb (55 + d) 48 a, le-ltb (55 + d) 58 b, le-ltb (55 + d) 65 e, lt-ltb (55 + d) 71 f) (omega arith))

-- the bytes below 48, tab and line feed and the point among them, are no digits
pub digit_above : (c : ℕ) → digit_of c < 16 → 48 ≤ c
unfolding digit_of
digit_above c = by_lt c 48 (λ h. rw (lt-ltb c 48 h) (λ k. absurd (omega arith))) (λ h k. h)

pub char_above : (d : ℕ) → 48 ≤ char_of d
unfolding char_of
char_above d = by_lt d 10 (λ h. rw (lt-ltb d 10 h) (omega arith)) (λ h. rw (le-ltb d 10 h) (omega arith))

-- ONE DIGIT MORE, AT THE END
data Snoc : List ℕ → Type 0 where
  nil : Snoc []
  add : {xs : List ℕ} → Snoc xs → (c : ℕ) → Snoc (xs ++ (c ∷ []))

snoc_cons : (x : ℕ) {xs : List ℕ} → Snoc xs → Snoc (x ∷ xs)
snoc_cons x nil = add nil x
snoc_cons x (add v c) = add (snoc_cons x v) c

snoc : (xs : List ℕ) → Snoc xs
snoc [] = nil
snoc (x ∷ xs) = snoc_cons x (snoc xs)

abbrev after : ℕ → Option ℕ → ℕ → Option ℕ
after base (Some h) c = pick (ltb (digit_of c) base) (Some (h * base + digit_of c)) None
after base None c = None

value_snoc : (base a : ℕ) (xs : List ℕ) (c : ℕ) → value_from base a (xs ++ (c ∷ [])) ≡ after base (value_from base a xs) c
unfolding value_from
value_snoc base a [] c = refl
value_snoc base a (x ∷ xs) c =
    by_test (ltb (digit_of x) base) (λ e. rw e (value_snoc base (a * base + digit_of x) xs c)) (λ e. rw e)

after_value : (base : ℕ) (p : Option ℕ) (c n : ℕ) → after base p c ≡ Some n → (h : ℕ) × (p ≡ Some h) × (digit_of c < base) × (n ≡ h * base + digit_of c)
after_value base (Some h) c n =
    by_test (ltb (digit_of c) base)
    (λ t. rw t (λ e. (h, refl, ltb-true (digit_of c) base t, cc)))
    (λ t. rw t (λ e. absurd_by (cc)))
after_value base None c n = λ e. absurd_by (cc)

-- FIXED WIDTH
pub fixed_length : (base k n : ℕ) → length (fixed base k n) ≡ k
unfolding fixed
fixed_length base zero n = refl
fixed_length base (suc k) n = length-append (fixed base k (n / base)) _ ∙ (let e = fixed_length base k (n / base) in omega arith)

fixed_value : (base k n : ℕ) → 0 < base → base ≤ 16 → n < base ^ k → value_from base 0 (fixed base k n) ≡ Some n
unfolding fixed value_from
fixed_value base zero n p q h = ap Some (let e = pow-zero base in omega arith)
fixed_value base (suc k) n p q h =
    let m = mod-lt n p in
    let l : n % base < 16 = omega arith in
    let s : n < base ^ k * base = rw (pow-suc base k) at h in
    rw (value_snoc base 0 (fixed base k (n / base)) (char_of (n % base)), fixed_value base k (n / base) p q ((div-lt_iff_lt-mul p).1 s), digit_char (n % base) l, lt-ltb (n % base) base m) (ap Some (div-add-mod' n base))

pub fixed_read : (base k n : ℕ) → 0 < base → base ≤ 16 → n < base ^ k → fixed_in base k 0 (fixed base k n) ≡ Some n
unfolding fixed_in
fixed_read base k n p q h = rw (eq-eqb (length (fixed base k n)) k (fixed_length base k n)) (fixed_value base k n p q h)

fixed_snoc : (base : ℕ) → base ≤ 16 → {cs : List ℕ} → Snoc cs → (k n : ℕ) → length cs ≡ k → value_from base 0 cs ≡ Some n → cs ≡ fixed base k n
unfolding fixed
fixed_snoc base q nil zero n l e = refl
fixed_snoc base q nil (suc k) n l e = absurd (omega arith)
fixed_snoc base q (add {xs = xs} v c) zero n l e = absurd (let a = length-append xs (c ∷ []) in omega arith)
fixed_snoc base q (add {xs = xs} v c) (suc k) n l e =
    let a = length-append xs (c ∷ []) in
    let lx : length xs ≡ k = omega arith in
    let (h, p, d, m) = after_value base (value_from base 0 xs) c n (sym (value_snoc base 0 xs c) ∙ e) in
    let d16 : digit_of c < 16 = omega arith in
    rw (m, digits_div h d, digits_mod h d, char_digit c d16, ← fixed_snoc base q v k h lx p)

pub fixed_only : (base k : ℕ) (cs : List ℕ) (n : ℕ) → base ≤ 16 → fixed_in base k 0 cs ≡ Some n → cs ≡ fixed base k n
unfolding fixed_in
fixed_only base k cs n q =
    by_test (eqb (length cs) k)
    (λ t. rw t (λ e. fixed_snoc base q (snoc cs) k n (eqb-true (length cs) k t) e))
    (λ t. rw t (λ e. absurd_by (cc)))

fixed_below : (base : ℕ) {cs : List ℕ} → Snoc cs → (k n : ℕ) → length cs ≡ k → value_from base 0 cs ≡ Some n → n < base ^ k
unfolding value_from
fixed_below base nil zero n l e = let z : 0 ≡ n = cc in let p = pow-zero base in omega arith
fixed_below base nil (suc k) n l e = absurd (omega arith)
fixed_below base (add {xs = xs} v c) zero n l e = absurd (let a = length-append xs (c ∷ []) in omega arith)
fixed_below base (add {xs = xs} v c) (suc k) n l e =
    let a = length-append xs (c ∷ []) in
    let (h, p, d, m) = after_value base (value_from base 0 xs) c n (sym (value_snoc base 0 xs c) ∙ e) in
    let r : suc h ≤ base ^ k = fixed_below base v k h (omega arith) p in
    let t : suc h * base ≤ base ^ k * base = mul-le-mul_right base r in
    rw (pow-suc base k) (omega arith)

-- the first digit of k + 1 stands before the last k
pub fixed_top : (base k n : ℕ) → 0 < base → n < base ^ suc k → fixed base (suc k) n ≡ char_of (n / base ^ k) ∷ fixed base k n
unfolding fixed
fixed_top base zero n p h =
    let l : n < base = let e = rw (pow-suc base 0, pow-zero base) at h in omega arith in
    rw (mod-eq_of_lt l, pow-zero base, div-one n)
fixed_top base (suc k) n p h =
    let s : n < base ^ suc k * base = rw (pow-suc base (suc k)) at h in
    let d : n / base / base ^ k ≡ n / base ^ suc k = div-div-eq-div-mul n base (base ^ k) ∙ ap (λ (m : ℕ). n / m) (mul_comm base (base ^ k) ∙ sym (pow-suc base k)) in
    rw (fixed_top base k (n / base) p ((div-lt_iff_lt-mul p).1 s), d)

-- DECIMAL
dec_small : (k n : ℕ) → n < 10 → decimal_in (suc k) n ≡ char_of n ∷ []
unfolding decimal_in
dec_small k n h = rw (lt-ltb n 10 h)

dec_large : (k n : ℕ) → 10 ≤ n → decimal_in (suc k) n ≡ decimal_in k (n / 10) ++ (char_of (n % 10) ∷ [])
unfolding decimal_in
dec_large k n h = rw (le-ltb n 10 h)

dec_fuel : (k l n : ℕ) → n < k → n < l → decimal_in k n ≡ decimal_in l n
dec_fuel zero l n a b = absurd (omega arith)
dec_fuel (suc k) zero n a b = absurd (omega arith)
dec_fuel (suc k) (suc l) n a b =
    by_lt n 10 (λ h. dec_small k n h ∙ sym (dec_small l n h))
    (λ h. dec_large k n h ∙ ap (λ (xs : List ℕ). xs ++ (char_of (n % 10) ∷ [])) (dec_fuel k l (n / 10) (omega arith) (omega arith)) ∙ sym (dec_large l n h))

pub decimal_small : (n : ℕ) → n < 10 → decimal n ≡ char_of n ∷ []
unfolding decimal
decimal_small n h = dec_small n n h

pub decimal_large : (n : ℕ) → 10 ≤ n → decimal n ≡ decimal (n / 10) ++ (char_of (n % 10) ∷ [])
unfolding decimal
decimal_large n h = dec_large n n h ∙ ap (λ (xs : List ℕ). xs ++ (char_of (n % 10) ∷ [])) (dec_fuel n (suc (n / 10)) (n / 10) (omega arith) (omega arith))

-- the first digit is there and is no zero
abbrev lead : List ℕ → Bool
lead [] = false
lead (c ∷ cs) = pick (eqb c 48) false true

lead_append : (xs ys : List ℕ) → lead xs ≡ true → lead (xs ++ ys) ≡ true
lead_append [] ys h = absurd_by (cc)
lead_append (x ∷ xs) ys h = h

lead_plain : (xs : List ℕ) → lead xs ≡ true → plain xs ≡ true
unfolding plain
lead_plain [] h = h
lead_plain (x ∷ []) h = refl
lead_plain (x ∷ y ∷ xs) h = h

char_lead : (n : ℕ) → 0 < n → n < 10 → lead (char_of n ∷ []) ≡ true
unfolding char_of
char_lead n p h = rw (lt-ltb n 10 h, ne_eqb (48 + n) 48 (omega arith))

dec_lead : (k n : ℕ) → 0 < n → n < k → lead (decimal_in k n) ≡ true
dec_lead zero n p h = absurd (omega arith)
dec_lead (suc k) n p h =
    by_lt n 10 (λ s. rw (dec_small k n s) (char_lead n p s))
    (λ s. rw (dec_large k n s) (lead_append (decimal_in k (n / 10)) _ (dec_lead k (n / 10) (omega arith) (omega arith))))

dec_plain : (k n : ℕ) → n < k → plain (decimal_in k n) ≡ true
unfolding plain
dec_plain zero n h = absurd (omega arith)
dec_plain (suc k) n h = by_lt n 10 (λ s. rw (dec_small k n s)) (λ s. lead_plain (decimal_in (suc k) n) (dec_lead (suc k) n (omega arith) h))

dec_value : (k n : ℕ) → n < k → value_from 10 0 (decimal_in k n) ≡ Some n
unfolding value_from
dec_value zero n h = absurd (omega arith)
dec_value (suc k) n h =
    by_lt n 10
    (λ s. let l : n < 16 = omega arith in rw (dec_small k n s, digit_char n l, lt-ltb n 10 s) (ap Some (omega arith)))
    (λ s.
    let m : n % 10 < 10 = omega arith in
    let l : n % 10 < 16 = omega arith in
    rw (dec_large k n s, value_snoc 10 0 (decimal_in k (n / 10)) (char_of (n % 10)), dec_value k (n / 10) (omega arith), digit_char (n % 10) l, lt-ltb (n % 10) 10 m) (ap Some (omega arith)))

pub decimal_read : (n : ℕ) → decimal_said (decimal n) ≡ Some n
unfolding decimal decimal_said
decimal_read n = rw (dec_plain (suc n) n (omega arith)) (dec_value (suc n) n (omega arith))

value_least : (a : ℕ) (xs : List ℕ) (n : ℕ) → value_from 10 a xs ≡ Some n → a ≤ n
unfolding value_from
value_least a [] n = λ e. let z : a ≡ n = cc in omega arith
value_least a (x ∷ xs) n =
    by_test (ltb (digit_of x) 10)
    (λ t. rw t (λ e. let r = value_least (a * 10 + digit_of x) xs n e in omega arith))
    (λ t. rw t (λ e. absurd_by (cc)))

digit_zero : (c : ℕ) → digit_of c ≡ 0 → c ≡ 48
unfolding char_of
digit_zero c e = sym (char_digit c (omega arith)) ∙ ap char_of e

lead_value : (xs : List ℕ) (n : ℕ) → lead xs ≡ true → value_from 10 0 xs ≡ Some n → 0 < n
unfolding value_from
lead_value [] n h e = absurd_by (cc)
lead_value (x ∷ xs) n h e =
    by_test (ltb (digit_of x) 10)
    (λ t.
    let r = value_least (0 * 10 + digit_of x) xs n (rw t at e) in
    by_lt 0 (digit_of x) (λ p. omega arith)
    (λ p. let q = digit_zero x (omega arith) in let f = rw (eq-eqb x 48 q) at h in absurd_by (cc)))
    (λ t. let f = rw t at e in absurd_by (cc))

more_lead : (y : ℕ) (ys : List ℕ) (c : ℕ) → plain (y ∷ ys ++ (c ∷ [])) ≡ true → lead (y ∷ ys) ≡ true
unfolding plain
more_lead y [] c h = h
more_lead y (z ∷ zs) c h = h

dec_more : (c n : ℕ) (ys : List ℕ) → (h : ℕ) × (value_from 10 0 ys ≡ Some h) × (digit_of c < 10) × (n ≡ h * 10 + digit_of c)
    → plain (ys ++ (c ∷ [])) ≡ true → ((m : ℕ) → plain ys ≡ true → value_from 10 0 ys ≡ Some m → ys ≡ decimal m)
    → ys ++ (c ∷ []) ≡ decimal n
unfolding value_from
dec_more c n [] (h, w, d, m) q ih =
    let hz : 0 ≡ h = cc in
    let nd : n ≡ digit_of c = omega arith in
    let d16 : digit_of c < 16 = omega arith in
    rw (nd, decimal_small (digit_of c) d, char_digit c d16)
dec_more c n (y ∷ ys) (h, w, d, m) q ih =
    let l : lead (y ∷ ys) ≡ true = more_lead y ys c q in
    let pos = lead_value (y ∷ ys) h l w in
    let d16 : digit_of c < 16 = omega arith in
    let big : 10 ≤ n = omega arith in
    let qd : n / 10 ≡ h = omega arith in
    let md : n % 10 ≡ digit_of c = omega arith in
    rw (decimal_large n big, qd, md, char_digit c d16, ← ih h (lead_plain (y ∷ ys) l) w)

dec_snoc : {cs : List ℕ} → Snoc cs → (n : ℕ) → plain cs ≡ true → value_from 10 0 cs ≡ Some n → cs ≡ decimal n
unfolding plain
dec_snoc nil n p e = absurd_by (cc)
dec_snoc (add {xs = xs} v c) n p e =
    dec_more c n xs (after_value 10 (value_from 10 0 xs) c n (sym (value_snoc 10 0 xs c) ∙ e)) p (λ m a b. dec_snoc v m a b)

pub decimal_only : (cs : List ℕ) (n : ℕ) → decimal_said cs ≡ Some n → cs ≡ decimal n
unfolding decimal_said
decimal_only cs n =
    by_test (plain cs)
    (λ t. rw t (λ e. dec_snoc (snoc cs) n t e))
    (λ t. rw t (λ e. absurd_by (cc)))

-- a decimal is as many digits as it has
said_value : (cs : List ℕ) (n : ℕ) → decimal_said cs ≡ Some n → value_from 10 0 cs ≡ Some n
unfolding decimal_said
said_value cs n = by_test (plain cs) (λ t. rw t (λ e. e)) (λ t. rw t (λ e. absurd_by (cc)))

pub decimal_fixed : (n : ℕ) → decimal n ≡ fixed 10 (length (decimal n)) n
decimal_fixed n = fixed_snoc 10 (lit≤ tt) (snoc (decimal n)) (length (decimal n)) n refl (said_value (decimal n) n (decimal_read n))

-- HOW LONG A DECIMAL IS
pub decimal_below : (n : ℕ) → n < 10 ^ length (decimal n)
decimal_below n = fixed_below 10 (snoc (decimal n)) (length (decimal n)) n refl (said_value (decimal n) n (decimal_read n))

dec_long : (k n i : ℕ) → n < 10 ^ suc i → 10 ≤ n → ((j : ℕ) → n / 10 < 10 ^ suc j → length (decimal_in k (n / 10)) ≤ suc j) → length (decimal_in k (n / 10) ++ (char_of (n % 10) ∷ [])) ≤ suc i
dec_long k n zero a b ih = absurd (omega arith)
dec_long k n (suc i) a b ih =
    let p : n < 10 ^ suc i * 10 = rw (pow-suc 10 (suc i)) at a in
    let r = ih i ((div-lt_iff_lt-mul (lit< tt)).1 p) in
    let l = length-append (decimal_in k (n / 10)) (char_of (n % 10) ∷ []) in
    omega arith

dec_short : (k j n : ℕ) → n < 10 ^ suc j → length (decimal_in k n) ≤ suc j
unfolding decimal_in
dec_short zero j n h = omega arith
dec_short (suc k) j n h =
    by_lt n 10 (λ s. rw (dec_small k n s) (omega arith))
    (λ s. rw (dec_large k n s) (dec_long k n j h s (λ i p. dec_short k i (n / 10) p)))

pub decimal_short : (j n : ℕ) → n < 10 ^ suc j → length (decimal n) ≤ suc j
unfolding decimal
decimal_short j n h = dec_short (suc n) j n h

-- A FIXED NUMBER OF DIGITS AT A PLACE: what is accepted are n digits, and the number is theirs
pub digits_only : (text : List ℕ) (at n v : ℕ) → digits_at text at n ≡ Some v → ReadDigits text at n v
unfolding digits_at fixed_in
digits_only text at n v =
    by_test (leb 1 n && leb n 16)
    (λ t. rw t (by_test (eqb (length (take n (drop at text))) n)
    (λ l. rw l (λ e.
    let k = eqb-true (length (take n (drop at text))) n l in
    record {
      least = leb-true 1 n (and_left (leb 1 n) (leb n 16) t);
      most = leb-true n 16 (and_right (leb 1 n) (leb n 16) t);
      below = fixed_below 10 (snoc (take n (drop at text))) n v k e;
      bytes = fixed_snoc 10 (lit≤ tt) (snoc (take n (drop at text))) n v k e;
    }))
    (λ l. rw l (λ e. absurd_by (cc)))))
    (λ t. rw t (λ e. absurd_by (cc)))

-- n digits are accepted as their number
pub digits_read : (text : List ℕ) (at n v : ℕ) → ReadDigits text at n v → digits_at text at n ≡ Some v
unfolding digits_at
digits_read text at n v r = rw (le-leb 1 n r.least, le-leb n 16 r.most, r.bytes) (fixed_read 10 n v (lit< tt) (lit≤ tt) r.below)

digits_value : (a : ℕ) (cs : List ℕ) → all_digits cs ≡ true → (v : ℕ) × (value_from 10 a cs ≡ Some v)
unfolding all_digits value_from
digits_value a [] e = (a, refl)
digits_value a (c ∷ cs) e = rw (and_left (ltb (digit_of c) 10) (all_digits cs) e) (digits_value (a * 10 + digit_of c) cs (and_right (ltb (digit_of c) 10) (all_digits cs) e))

-- whatever n digits they are
pub digits_any : (text : List ℕ) (at n : ℕ) → 1 ≤ n → n ≤ 16 → at + n ≤ length text → all_digits (take n (drop at text)) ≡ true → (v : ℕ) × (digits_at text at n ≡ Some v)
unfolding digits_at fixed_in
digits_any text at n l m k e =
    let t : length (take n (drop at text)) ≡ n = length-take-le n (drop at text) (let d = length-drop at text in omega arith) in
    rw (le-leb 1 n l, le-leb n 16 m, eq-eqb (length (take n (drop at text))) n t) (digits_value 0 (take n (drop at text)) e)
