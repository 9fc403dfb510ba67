-- THE LAWS OF A FIELD, for every spelling: what is accepted is spelled in the one way, and what is spelled so is read back. Assumes nothing.
use Prim.Native.Nat.{ℕ, zero, suc, ◌+◌, ◌*◌, ◌/◌, ◌%◌, ◌≤◌, ◌<◌}
use mathlib.Core.Path.{◌≡◌, refl, sym, ap, ◌∙◌}
use mathlib.Core.List.{List, [], ◌∷◌, ◌++◌}
use mathlib.Core.Bool.{true, ◌&&◌}
use native.Mathlib.Omega.{arith}
use lib.ListN.{length, get_or, drop, length-append}
use lib.Dec.{eqb, leb, ltb, lit<, lit≤}
use borrow.Author.Tests.{eqb-true, ne_eqb, leb-true, le-leb}
use Rattle.std.specs.Prelude.{Option, Some, None, Err}
use Rattle.units.specs.Limits.{factor_digits, factor_low, factor_top}
use Rattle.units.proofs.Every.{and_left, and_right}
use Rattle.fields.specs.Digits.{char_of, fixed_in, fixed, decimal_in, decimal, digit_of, value_from}
use Rattle.fields.specs.Text.{lacks, ends, field_at, next_at, until}
use Rattle.fields.specs.Field.{value, point, factor_said, said_by, pointed, spelled, limit, fits, judge, read_field, read_at}
use Rattle.fields.specs.declared.field.Fault.TheVariants.{Form, Range}
use Rattle.fields.specs.declared.spelling.Spelling.{Spelling}
use Rattle.fields.specs.declared.spelling.Spelling.TheVariants.{Decimal, Hex4, Hex16, Factor}
use Rattle.fields.proofs.Cases.{by_test, by_lt, absurd_by, value_same}
use Rattle.fields.proofs.Numbers.{char_above, fixed_length, fixed_read, fixed_only, decimal_small, decimal_large, decimal_read, decimal_only, decimal_short}
use Rattle.fields.proofs.Texts.{lacks_append, first_is}

-- FACTORS
factor_only : (cs : List ℕ) (n : ℕ) → factor_said cs ≡ Some n → cs ≡ pointed (fixed 10 (suc factor_digits) n)
unfolding factor_said pointed
factor_only [] n = λ e. absurd_by (cc)
factor_only (c ∷ []) n = λ e. absurd_by (cc)
factor_only (c ∷ p ∷ cs) n =
    by_test (eqb p 46)
    (λ t. rw t (λ e. rw (← fixed_only 10 (suc factor_digits) (c ∷ cs) n (lit≤ tt) e, eqb-true p 46 t)))
    (λ t. rw t (λ e. absurd_by (cc)))

factor_pointed : (cs : List ℕ) (k : ℕ) → length cs ≡ suc k → factor_said (pointed cs) ≡ fixed_in 10 (suc factor_digits) 0 cs
unfolding factor_said pointed
factor_pointed [] k e = absurd (omega arith)
factor_pointed (c ∷ cs) k e = refl

-- THE EXACT NUMBER
spelled_only : (sp : Spelling) (cs : List ℕ) (n : ℕ) → said_by sp cs ≡ Some n → cs ≡ spelled sp n
unfolding said_by spelled
spelled_only Decimal cs n e = decimal_only cs n e
spelled_only Hex4 cs n e = fixed_only 16 4 cs n (lit≤ tt) e
spelled_only Hex16 cs n e = fixed_only 16 16 cs n (lit≤ tt) e
spelled_only Factor cs n e = factor_only cs n e

spelled_read : (sp : Spelling) (n : ℕ) → n ≤ limit sp → said_by sp (spelled sp n) ≡ Some n
unfolding said_by spelled
spelled_read Decimal n h = decimal_read n
spelled_read Hex4 n h = fixed_read 16 4 n (lit< tt) (lit≤ tt) (omega arith)
spelled_read Hex16 n h = fixed_read 16 16 n (lit< tt) (lit≤ tt) (omega arith)
spelled_read Factor n h =
    factor_pointed (fixed 10 (suc factor_digits) n) factor_digits (fixed_length 10 (suc factor_digits) n)
    ∙ fixed_read 10 (suc factor_digits) n (lit< tt) (lit≤ tt) (omega arith)

-- THE RANGE
pub record InRange (sp : Spelling) (low high n : ℕ) : Type 0 where
  pub least : low ≤ n
  pub most : n ≤ high
  pub can : n ≤ limit sp

pub fits_range : (sp : Spelling) (low high n : ℕ) → fits sp low high n ≡ true → InRange sp low high n
unfolding fits
fits_range sp low high n e =
    let l = and_left (leb low n && leb n high) (leb n (limit sp)) e in
    record {
      least = leb-true low n (and_left (leb low n) (leb n high) l);
      most = leb-true n high (and_right (leb low n) (leb n high) l);
      can = leb-true n (limit sp) (and_right (leb low n && leb n high) (leb n (limit sp)) e);
    }

pub range_fits : (sp : Spelling) (low high n : ℕ) → InRange sp low high n → fits sp low high n ≡ true
unfolding fits
range_fits sp low high n i = rw (le-leb low n i.least, le-leb n high i.most, le-leb n (limit sp) i.can)

-- THE TWO LAWS
pub record Accepted (sp : Spelling) (low high next : ℕ) (cs : List ℕ) (n m : ℕ) : Type 0 where
  pub spelt : cs ≡ spelled sp n
  pub inside : fits sp low high n ≡ true
  pub after : m ≡ next

judge_only : (sp : Spelling) (low high next : ℕ) (cs : List ℕ) (d : Option ℕ) (n m : ℕ) → said_by sp cs ≡ d → judge sp low high next d ≡ value n m → Accepted sp low high next cs n m
unfolding judge
judge_only sp low high next cs (Some k) n m p =
    by_test (fits sp low high k)
    (λ t. rw t (λ e.
    let (q, o) = value_same e in
    record { spelt = rw q at (spelled_only sp cs k p); inside = rw q at t; after = sym o }))
    (λ t. rw t (λ e. absurd_by (cc)))
judge_only sp low high next cs None n m p = λ e. absurd_by (cc)

-- whatever is accepted as n is the one spelling of n, and in range
pub field_only : (sp : Spelling) (low high next : ℕ) (cs : List ℕ) (n m : ℕ) → read_field sp low high next cs ≡ value n m → Accepted sp low high next cs n m
unfolding read_field
field_only sp low high next cs n m e = judge_only sp low high next cs (said_by sp cs) n m refl e

-- the spelling of every number in range is read as that number
pub field_read : (sp : Spelling) (low high next n : ℕ) → fits sp low high n ≡ true → read_field sp low high next (spelled sp n) ≡ value n next
unfolding read_field judge
field_read sp low high next n f = rw (spelled_read sp n (fits_range sp low high n f).can, f)

-- THE BYTES OF A SPELLING
char_lacks : (b d : ℕ) → b < 46 → lacks b (char_of d ∷ []) ≡ true
unfolding lacks
char_lacks b d h = let a = char_above d in rw (ne_eqb (char_of d) b (omega arith))

fixed_lacks : (b base k n : ℕ) → b < 46 → lacks b (fixed base k n) ≡ true
unfolding fixed lacks
fixed_lacks b base zero n h = refl
fixed_lacks b base (suc k) n h = lacks_append b (fixed base k (n / base)) _ (fixed_lacks b base k (n / base) h) (char_lacks b (n % base) h)

decimal_lacks : (b k n : ℕ) → b < 46 → lacks b (decimal_in k n) ≡ true
unfolding decimal_in lacks
decimal_lacks b zero n h = refl
decimal_lacks b (suc k) n h =
    by_test (ltb n 10) (λ t. rw t (char_lacks b n h))
    (λ t. rw t (lacks_append b (decimal_in k (n / 10)) _ (decimal_lacks b k (n / 10) h) (char_lacks b (n % 10) h)))

pointed_lacks : (b : ℕ) (cs : List ℕ) → b < 46 → lacks b cs ≡ true → lacks b (pointed cs) ≡ true
unfolding pointed lacks
pointed_lacks b [] h = λ e. e
pointed_lacks b (c ∷ cs) h =
    by_test (eqb c b) (λ t. rw t (λ e. e)) (λ t. rw (t, ne_eqb 46 b (omega arith)) (λ e. e))

-- no byte below the point: no tab and no line feed
pub spelled_lacks : (b : ℕ) (sp : Spelling) (n : ℕ) → b < 46 → lacks b (spelled sp n) ≡ true
unfolding spelled decimal
spelled_lacks b Decimal n h = decimal_lacks b (suc n) n h
spelled_lacks b Hex4 n h = fixed_lacks b 16 4 n h
spelled_lacks b Hex16 n h = fixed_lacks b 16 16 n h
spelled_lacks b Factor n h = pointed_lacks b (fixed 10 (suc factor_digits) n) h (fixed_lacks b 10 (suc factor_digits) n h)

pub pointed_long : (cs : List ℕ) (k : ℕ) → length cs ≡ suc k → length (pointed cs) ≡ suc (suc k)
unfolding pointed
pointed_long [] k e = absurd (omega arith)
pointed_long (c ∷ cs) k e = ap suc e

decimal_some : (n : ℕ) → 0 < length (decimal n)
decimal_some n =
    by_lt n 10 (λ h. rw (decimal_small n h) (omega arith))
    (λ h. rw (decimal_large n h) (let l = length-append (decimal (n / 10)) (char_of (n % 10) ∷ []) in omega arith))

-- the most bytes that a spelling takes
abbrev pub longest : Spelling → ℕ
longest Decimal = 10
longest Hex4 = 4
longest Hex16 = 16
longest Factor = 2 + factor_digits

pub longest_short : (sp : Spelling) → longest sp ≤ 16
longest_short Decimal = lit≤ tt
longest_short Hex4 = lit≤ tt
longest_short Hex16 = lit≤ tt
longest_short Factor = lit≤ tt

pub spelled_some : (sp : Spelling) (n : ℕ) → 0 < length (spelled sp n)
unfolding spelled
spelled_some Decimal n = decimal_some n
spelled_some Hex4 n = let l = fixed_length 16 4 n in omega arith
spelled_some Hex16 n = let l = fixed_length 16 16 n in omega arith
spelled_some Factor n = let l = pointed_long (fixed 10 (suc factor_digits) n) factor_digits (fixed_length 10 (suc factor_digits) n) in omega arith

pub spelled_short : (sp : Spelling) (n : ℕ) → n ≤ limit sp → length (spelled sp n) ≤ longest sp
unfolding spelled
spelled_short Decimal n h = decimal_short 9 n (omega arith)
spelled_short Hex4 n h = let l = fixed_length 16 4 n in omega arith
spelled_short Hex16 n h = let l = fixed_length 16 16 n in omega arith
spelled_short Factor n h = let l = pointed_long (fixed 10 (suc factor_digits) n) factor_digits (fixed_length 10 (suc factor_digits) n) in omega arith

-- AT A PLACE OF A TEXT
pub read_only : (text : List ℕ) (at : ℕ) (sp : Spelling) (low high n next : ℕ) → read_at text at sp low high ≡ value n next → Accepted sp low high (next_at text at) (field_at text at) n next
unfolding read_at
read_only text at sp low high n next e = field_only sp low high (next_at text at) (field_at text at) n next e

-- a spelling before a tab or the end is read whole, and the next field starts one past it
pub read_back : (text : List ℕ) (at : ℕ) (sp : Spelling) (low high n : ℕ) (rest : List ℕ) → drop at text ≡ spelled sp n ++ rest → ends rest ≡ true → fits sp low high n ≡ true
    → read_at text at sp low high ≡ value n (at + length (spelled sp n) + 1)
unfolding read_at
read_back text at sp low high n rest d r f =
    rw (d, first_is (spelled sp n) rest (spelled_lacks 9 sp n (lit< tt)) r) (field_read sp low high (at + length (spelled sp n) + 1) n f)

-- "1.0047 is read, 1.00 is refused. It is held as 10047."
pub read_factors : (read_at (49 ∷ 46 ∷ 48 ∷ 48 ∷ 52 ∷ 55 ∷ []) 0 Factor factor_low factor_top ≡ value 10047 7) × (read_at (49 ∷ 46 ∷ 48 ∷ 48 ∷ []) 0 Factor factor_low factor_top ≡ Err Form)
unfolding read_at read_field judge fits said_by factor_said fixed_in value_from digit_of until
read_factors = (refl, refl)

-- 1.0047 ON PAPER (docs/FACTOR.md): what stands at each position, and the number formed of it as `factor_at` does
abbrev pub paper : List ℕ
paper = 49 ∷ 46 ∷ 48 ∷ 48 ∷ 52 ∷ 55 ∷ []

pub paper_factor : (digit_of (get_or paper 0 0) ≡ 1) × (get_or paper 1 0 ≡ point) × (digit_of (get_or paper 2 0) ≡ 0) × (digit_of (get_or paper 3 0) ≡ 0) × (digit_of (get_or paper 4 0) ≡ 4)
    × (digit_of (get_or paper 5 0) ≡ 7) × (ends (drop 6 paper) ≡ true)
    × (10000 * digit_of (get_or paper 0 0) + 1000 * digit_of (get_or paper 2 0) + 100 * digit_of (get_or paper 3 0) + 10 * digit_of (get_or paper 4 0) + digit_of (get_or paper 5 0) ≡ 10047)
unfolding digit_of ends
paper_factor = (refl, refl, refl, refl, refl, refl, refl, refl)

-- 1.00 before a tab, 1.0o47 and 1.00470 for their form, 1.1001 for its range; a tab and the letter are no digits
pub paper_refused : (digit_of 9 ≡ 16) × (read_at (49 ∷ 46 ∷ 48 ∷ 48 ∷ 9 ∷ 49 ∷ []) 0 Factor factor_low factor_top ≡ Err Form)
    × (digit_of 111 ≡ 16) × (read_at (49 ∷ 46 ∷ 48 ∷ 111 ∷ 52 ∷ 55 ∷ []) 0 Factor factor_low factor_top ≡ Err Form)
    × (read_at (49 ∷ 46 ∷ 48 ∷ 48 ∷ 52 ∷ 55 ∷ 48 ∷ []) 0 Factor factor_low factor_top ≡ Err Form) × (read_at (49 ∷ 46 ∷ 49 ∷ 48 ∷ 48 ∷ 49 ∷ []) 0 Factor factor_low factor_top ≡ Err Range)
unfolding read_at read_field judge fits said_by factor_said fixed_in value_from digit_of until
paper_refused = (refl, refl, refl, refl, refl, refl)
