-- What the functions that read a field need, over plain lists and numbers. Assumes nothing.
use Prim.Native.Nat.{ℕ, ◌+◌, ◌-◌, ◌*◌, ◌^◌, ◌≤◌, ◌<◌}
use mathlib.Core.Path.{◌≡◌, refl, sym, ap, ◌∙◌}
use mathlib.Core.List.{List, [], ◌∷◌, ◌++◌, append-nil}
use mathlib.Core.Bool.{Bool, true, false, not, ◌&&◌}
use native.Mathlib.Omega.{arith}
use native.Mathlib.Numerals.{add-one}
use native.Mathlib.Nat.{pow-suc, pow-le-pow_right, mul-le-mul_left, mul_assoc}
use lib.ListN.{length, get_or, take, drop, length-append, length-take, length-drop, drop_of_length-le, take-append-drop}
use lib.Seq.{drop-cons, drop-drop, take_all, length-take-le}
use lib.Dec.{eqb, ltb, leb, lit<}
use borrow.Author.Tests.{lt-ltb, le-ltb, ltb-true, eq-eqb, ne_eqb, eqb-true, eqb-false, lt-leb, not-true, not-false}
use Rattle.std.specs.Prelude.{slice_range, Option, Some, None, Result, Err}
use Rattle.units.specs.Limits.{label_top}
use Rattle.units.proofs.Every.{and_left, and_right}
use Rattle.fields.specs.Digits.{pick, digit_of, digits_at, value_from, fixed_in}
use Rattle.fields.specs.Text.{until, first_field, lacks, ends, starts, field_at, next_at}
use Rattle.fields.specs.Field.{plain, decimal_said, said_by, fits, judge, read_field, read_at}
use Rattle.fields.specs.Day.{day_judged, day_in, day_at}
use Rattle.fields.specs.declared.field.Fault.{Fault}
use Rattle.fields.specs.declared.field.Field.{Field}
use Rattle.fields.specs.declared.field.Fault.TheVariants.{Form}
use Rattle.fields.specs.declared.spelling.Spelling.{Spelling}
use Rattle.fields.specs.declared.spelling.Spelling.TheVariants.{Decimal, Hex4, Hex16}
use Rattle.fields.proofs.Cases.{by_test, by_lt, absurd_by}
use Rattle.fields.proofs.Numbers.{digit_above}
use Rattle.fields.proofs.Texts.{until_take, until_append, first_none, first_some, field_next}

-- `ends_at`, `is_at`
pub ends_none : (text : List ℕ) (at : ℕ) → length text ≤ at → true ≡ ends (drop at text)
unfolding ends
ends_none text at h = rw (drop_of_length-le text h)

pub ends_some : (text : List ℕ) (at : ℕ) → at < length text → eqb (get_or text at 0) 9 ≡ ends (drop at text)
unfolding ends
ends_some text at h = rw (drop-cons text at 0 h)

pub starts_none : (text : List ℕ) (at b : ℕ) → length text ≤ at → false ≡ starts b (drop at text)
unfolding starts
starts_none text at b h = rw (drop_of_length-le text h)

pub starts_some : (text : List ℕ) (at b : ℕ) → at < length text → eqb (get_or text at 0) b ≡ starts b (drop at text)
unfolding starts
starts_some text at b h = rw (drop-cons text at 0 h)

-- `is_plain`
pub open_within : (text : List ℕ) (at : ℕ) → ends (drop at text) ≡ false → at < length text
open_within text at e = by_lt at (length text) (λ h. h) (λ h. let z = ends_none text at h in absurd_by (cc))

pub plain_none : (cs : List ℕ) → ends cs ≡ true → false ≡ plain (first_field cs)
unfolding plain
plain_none cs e = rw (first_none cs e)

plain_tail : (c : ℕ) (cs : List ℕ) → (c ≡ 48 → ⊥) → true ≡ plain (c ∷ cs)
unfolding plain
plain_tail c [] n = refl
plain_tail c (d ∷ cs) n = rw (ne_eqb c 48 n)

plain_nought : (cs : List ℕ) → ends cs ≡ plain (48 ∷ first_field cs)
unfolding plain until ends
plain_nought [] = refl
plain_nought (d ∷ cs) = by_test (eqb d 9) (λ t. rw t) (λ t. rw t)

module _ (text : List ℕ) (at : ℕ) (e : ends (drop at text) ≡ false) where
  first_open : field_at text at ≡ get_or text at 0 ∷ field_at text (at + 1)
  first_open =
      let h = open_within text at e in
      field_next text at h (eqb-false (get_or text at 0) 9 (ends_some text at h ∙ e))

  pub plain_other : (get_or text at 0 ≡ 48 → ⊥) → true ≡ plain (field_at text at)
  plain_other n = rw first_open (plain_tail (get_or text at 0) (field_at text (at + 1)) n)

  pub plain_zero : get_or text at 0 ≡ 48 → ends (drop (at + 1) text) ≡ plain (field_at text at)
  plain_zero z = rw (first_open, z) (plain_nought (drop (at + 1) text))

-- `digits_at`
value_cons : (base n : ℕ) (f : List ℕ) (i : ℕ) → i < length f → value_from base n (drop i f) ≡ pick (ltb (digit_of (get_or f i 0)) base) (value_from base (n * base + digit_of (get_or f i 0)) (drop (i + 1) f)) None
unfolding value_from
value_cons base n f i h = rw (add-one, drop-cons f i 0 h)

-- the k bytes from a place on
pub bytes_long : (text : List ℕ) (at k : ℕ) → at + k ≤ length text → length (take k (drop at text)) ≡ k
bytes_long text at k h = simp (length-take, length-drop) (omega arith)

pub bytes_got : (text g d : List ℕ) (at k : ℕ) → g ≡ slice_range text at (length text) → k ≤ length g → d ≡ slice_range g 0 k → (d ≡ take k (drop at text)) × (length d ≡ k)
bytes_got text g d at k p h q =
    let r : g ≡ drop at text = p ∙ take_all (length text - at) (drop at text) (let z = length-drop at text in omega arith) in
    let z : k - 0 ≡ k = omega arith in
    let s : d ≡ take k g = rw z at q in
    (s ∙ ap (take k) r, ap length s ∙ length-take-le k g h)

-- k bytes, gone over from the first
module _ (f : List ℕ) (k base from : ℕ) where
  pub digits_start : length f ≡ k → fixed_in base k from f ≡ value_from base from (drop 0 f)
  unfolding fixed_in
  digits_start l = rw (eq-eqb (length f) k l)

  module _ (n i d : ℕ) (inv : fixed_in base k from f ≡ value_from base n (drop i f)) where
    digits_step : i < length f → d ≡ digit_of (get_or f i 0) → fixed_in base k from f ≡ pick (ltb d base) (value_from base (n * base + d) (drop (i + 1) f)) None
    digits_step h e = inv ∙ value_cons base n f i h ∙ rw (← e)

    pub digits_wrong : i < length f → d ≡ digit_of (get_or f i 0) → base ≤ d → None ≡ fixed_in base k from f
    digits_wrong h e w = sym (digits_step h e ∙ rw (le-ltb d base w))

    pub digits_again : i < length f → d ≡ digit_of (get_or f i 0) → d < base → fixed_in base k from f ≡ value_from base (n * base + d) (drop (i + 1) f)
    digits_again h e w = digits_step h e ∙ rw (lt-ltb d base w)

    pub digits_end : length f ≤ i → Some n ≡ fixed_in base k from f
    unfolding value_from
    digits_end h = sym (inv ∙ rw (drop_of_length-le f {i = i} h))

pub digits_short : (text : List ℕ) (at k base from : ℕ) → 0 < k → length text < at + k → None ≡ fixed_in base k from (take k (drop at text))
unfolding fixed_in
digits_short text at k base from p h =
    let l : length (take k (drop at text)) < k = simp (length-take, length-drop) (omega arith) in
    rw (ne_eqb (length (take k (drop at text))) k (omega arith))

-- the number stays below what k digits can say
pub grown_less : (from base n i d : ℕ) → base ≤ 16 → d < base → n < (from + 1) * 16 ^ i → n * base + d < (from + 1) * 16 ^ (i + 1)
grown_less from base n i d b l h =
    let m = mul-le-mul_left n b in
    let e : (from + 1) * 16 ^ (i + 1) ≡ (from + 1) * 16 ^ i * 16 = rw (add-one i, pow-suc 16 i) (sym (mul_assoc (from + 1) (16 ^ i) 16)) in
    rw e (omega arith)

pub grown_fits : (from k i : ℕ) → i < k → (from + 1) * 16 ^ k ≤ 2 ^ 64 → (from + 1) * 16 ^ (i + 1) ≤ 2 ^ 64
grown_fits from k i h f =
    let p : 16 ^ (i + 1) ≤ 16 ^ k = pow-le-pow_right (lit< tt) (omega arith) in
    let m = mul-le-mul_left (from + 1) p in
    omega arith

-- FIXED WIDTH: the k bytes from a place on, and the field there
digits_lack : (base n m : ℕ) (cs : List ℕ) → base ≤ 16 → value_from base n cs ≡ Some m → lacks 9 cs ≡ true
unfolding value_from lacks
digits_lack base n m [] b = λ e. refl
digits_lack base n m (c ∷ cs) b =
    by_test (ltb (digit_of c) base)
    (λ t. rw t (λ e.
    let l = ltb-true (digit_of c) base t in
    let a = digit_above c (omega arith) in
    rw (ne_eqb c 9 (omega arith)) (digits_lack base (n * base + digit_of c) m cs b e)))
    (λ t. rw t (λ e. absurd_by (cc)))

fixed_said : (base k n m : ℕ) (cs : List ℕ) → fixed_in base k n cs ≡ Some m → (length cs ≡ k) × (value_from base n cs ≡ Some m)
unfolding fixed_in
fixed_said base k n m cs = by_test (eqb (length cs) k) (λ t. rw t (λ e. (eqb-true (length cs) k t, e))) (λ t. rw t (λ e. absurd_by (cc)))

pub said_within : (text : List ℕ) (at base k n m : ℕ) → 0 < k → fixed_in base k n (take k (drop at text)) ≡ Some m → at + k ≤ length text
said_within text at base k n m p e =
    let l = simp (length-take, length-drop) at (fixed_said base k n m (take k (drop at text)) e).0 in
    omega arith

module _ (base k n : ℕ) (cs : List ℕ) (b : base ≤ 16) where
  field_wrong : fixed_in base k n (take k cs) ≡ None → fixed_in base k n (first_field cs) ≡ None
  unfolding fixed_in
  field_wrong e =
      by_test (eqb (length (first_field cs)) k)
      (λ t. let q : take k cs ≡ first_field cs = rw (eqb-true (length (first_field cs)) k t) at (until_take 9 cs) in rw q at e)
      (λ t. rw t)

  module _ (m : ℕ) (e : fixed_in base k n (take k cs) ≡ Some m) where
    first_joined : first_field cs ≡ take k cs ++ first_field (drop k cs)
    first_joined =
        ap first_field (sym (take-append-drop k cs))
        ∙ until_append 9 (take k cs) (drop k cs) (digits_lack base n m (take k cs) b (fixed_said base k n m (take k cs) e).1)

    first_long : length (first_field cs) ≡ k + length (first_field (drop k cs))
    first_long = rw first_joined (length-append (take k cs) (first_field (drop k cs)) ∙ rw (fixed_said base k n m (take k cs) e).0)

    field_long : ends (drop k cs) ≡ true → length (first_field cs) ≡ k
    field_long t = first_long ∙ rw (first_none (drop k cs) t) (omega arith)

    field_said : ends (drop k cs) ≡ true → fixed_in base k n (first_field cs) ≡ Some m
    field_said t = rw (first_joined, first_none (drop k cs) t, append-nil (take k cs)) e

    field_more : ends (drop k cs) ≡ false → fixed_in base k n (first_field cs) ≡ None
    unfolding fixed_in
    field_more t =
        let s = first_some (drop k cs) t in
        let l = first_long in
        rw (ne_eqb (length (first_field cs)) k (omega arith))

-- `read_hex`
pub hex_room : (k : ℕ) → k ≤ 16 → 16 ^ k ≤ 2 ^ 64
hex_room k h = let p = pow-le-pow_right {n = 16} (lit< tt) {i = k} {j = 16} h in omega arith

pub hex_within : (text : List ℕ) (at k n : ℕ) (d : Option ℕ) → 0 < k → d ≡ fixed_in 16 k 0 (take k (drop at text)) → d ≡ Some n → at + k ≤ length text
hex_within text at k n d p q e = said_within text at 16 k 0 n p (sym q ∙ e)

pub judged_wrong : (sp : Spelling) (low high next : ℕ) (d : Option ℕ) → d ≡ None → Err Form ≡ judge sp low high next d
unfolding judge
judged_wrong sp low high next d e = rw e

module _ (text : List ℕ) (at k : ℕ) (sp : Spelling) (low high : ℕ) where
  pub hex_wrong : (d : Option ℕ) → d ≡ fixed_in 16 k 0 (take k (drop at text)) → d ≡ None → Err Form ≡ judge sp low high (next_at text at) (fixed_in 16 k 0 (field_at text at))
  hex_wrong d p e = judged_wrong sp low high (next_at text at) _ (field_wrong 16 k 0 (drop at text) (omega arith) (sym p ∙ e))

  module _ (d : Option ℕ) (n : ℕ) (p : d ≡ fixed_in 16 k 0 (take k (drop at text))) (e : d ≡ Some n) (b : Bool) (q : b ≡ ends (drop (at + k) text)) where
    pub hex_more : b ≡ false → Err Form ≡ judge sp low high (next_at text at) (fixed_in 16 k 0 (field_at text at))
    hex_more t = judged_wrong sp low high (next_at text at) _ (field_more 16 k 0 (drop at text) (omega arith) n (sym p ∙ e) (rw (drop-drop k at text) (sym q ∙ t)))

    pub hex_said : b ≡ true → (r : Result Field Fault) → r ≡ judge sp low high (at + k + 1) (Some n) → r ≡ judge sp low high (next_at text at) (fixed_in 16 k 0 (field_at text at))
    hex_said t r j =
        let s : ends (drop k (drop at text)) ≡ true = rw (drop-drop k at text) (sym q ∙ t) in
        let l = field_long 16 k 0 (drop at text) (omega arith) n (sym p ∙ e) s in
        rw (l, field_said 16 k 0 (drop at text) (omega arith) n (sym p ∙ e) s) j

-- `read_decimal`: m is what the code holds, which no longer grows past the limit
pub record Reading (f cs : List ℕ) (m : ℕ) : Type 0 where
  pub exact : ℕ
  pub says : value_from 10 0 f ≡ value_from 10 exact (first_field cs)
  pub least : m ≤ exact
  pub same : m ≤ label_top → m ≡ exact

pub read_start : (f cs : List ℕ) → f ≡ first_field cs → Reading f cs 0
read_start f cs e = record { exact = 0; says = ap (value_from 10 0) e; least = omega arith; same = λ h. refl }

and_false : (a b : Bool) → (a && b && false) ≡ false
and_false true true = refl
and_false true false = refl
and_false false b = refl

judge_near : (low high next m n : ℕ) → m ≤ n → (m ≤ label_top → m ≡ n) → judge Decimal low high next (Some m) ≡ judge Decimal low high next (Some n)
unfolding judge fits
judge_near low high next m n l s =
    by_lt label_top m
    (λ h. let k : label_top < n = omega arith in rw (lt-leb m label_top h, lt-leb n label_top k, and_false (leb low m) (leb m high), and_false (leb low n) (leb n high)))
    (λ h. rw (s h))

pub plain_within : (text : List ℕ) (at : ℕ) (b : Bool) → b ≡ plain (field_at text at) → not b ≡ false → at ≤ length text
unfolding plain until
plain_within text at b p t =
    by_lt (length text) at (λ h. let q = p ∙ ap (λ (cs : List ℕ). plain (first_field cs)) (drop_of_length-le text {i = at} (omega arith)) in let u = not-false b t in absurd_by (cc)) (λ h. h)

pub ends_tab : (text : List ℕ) (i : ℕ) → i < length text → get_or text i 0 ≡ 9 → ends (drop i text) ≡ true
ends_tab text i h e = sym (ends_some text i h) ∙ eq-eqb (get_or text i 0) 9 e

pub decimal_form : (text : List ℕ) (at low high : ℕ) (b : Bool) → b ≡ plain (field_at text at) → not b ≡ true → Err Form ≡ read_at text at Decimal low high
unfolding read_at read_field said_by decimal_said
decimal_form text at low high b p t = judged_wrong Decimal low high (next_at text at) _ (rw (← p, not-true b t))

module _ (text f : List ℕ) (m i : ℕ) (r : Reading f (drop i text) m) (h : i < length text) (n : get_or text i 0 ≡ 9 → ⊥) (d : ℕ) (e : d ≡ digit_of (get_or text i 0)) where
  value_next : value_from 10 r.exact (field_at text i) ≡ pick (ltb d 10) (value_from 10 (r.exact * 10 + d) (field_at text (i + 1))) None
  unfolding value_from
  value_next = rw (field_next text i h n, ← e)

  pub long_again : (k : ℕ) → k ≡ i + length (field_at text i) → k ≡ i + 1 + length (field_at text (i + 1))
  long_again k l = let q = ap length (field_next text i h n) in omega arith

  module _ (w : d < 10) where
    says_next : value_from 10 0 f ≡ value_from 10 (r.exact * 10 + d) (field_at text (i + 1))
    says_next = r.says ∙ value_next ∙ rw (lt-ltb d 10 w)

    pub read_grown : m ≤ label_top → Reading f (drop (i + 1) text) (m * 10 + d)
    read_grown k = let s = r.same k in record { exact = r.exact * 10 + d; says = says_next; least = omega arith; same = λ x. omega arith }

    pub read_kept : label_top < m → Reading f (drop (i + 1) text) m
    read_kept k = let s = r.least in record { exact = r.exact * 10 + d; says = says_next; least = omega arith; same = λ x. absurd (omega arith) }

module _ (text : List ℕ) (at low high : ℕ) (b : Bool) (p : b ≡ plain (field_at text at)) (t : not b ≡ false) (m i : ℕ) (r : Reading (field_at text at) (drop i text) m) where
  decimal_is : decimal_said (field_at text at) ≡ value_from 10 r.exact (field_at text i)
  unfolding decimal_said
  decimal_is = rw (← p, not-false b t) r.says

  pub decimal_value : (g : Result Field Fault) → at + length (field_at text at) ≡ i + length (field_at text i) → ends (drop i text) ≡ true → g ≡ judge Decimal low high (i + 1) (Some m) → g ≡ read_at text at Decimal low high
  unfolding read_at read_field said_by value_from
  decimal_value g long e j =
      let n = first_none (drop i text) e in
      let l : length (field_at text i) ≡ 0 = ap length n in
      let q : at + length (field_at text at) + 1 ≡ i + 1 = omega arith in
      rw (q, decimal_is, n) (j ∙ judge_near low high (i + 1) m r.exact r.least r.same)

  pub decimal_wrong : i < length text → (get_or text i 0 ≡ 9 → ⊥) → (d : ℕ) → d ≡ digit_of (get_or text i 0) → 9 < d → Err Form ≡ read_at text at Decimal low high
  unfolding read_at read_field said_by
  decimal_wrong h n d e w =
      judged_wrong Decimal low high (next_at text at) _ (decimal_is ∙ value_next text (field_at text at) m i r h n d e ∙ rw (le-ltb d 10 (omega arith)))

-- `read_at`
module _ (text : List ℕ) (at low high : ℕ) (sp : Spelling) (r : Result Field Fault) where
  pub read_hex4 : sp ≡ Hex4 → r ≡ judge sp low high (next_at text at) (fixed_in 16 4 0 (field_at text at)) → r ≡ read_at text at sp low high
  unfolding read_at read_field said_by
  read_hex4 e j = j ∙ rw e

  pub read_hex16 : sp ≡ Hex16 → r ≡ judge sp low high (next_at text at) (fixed_in 16 16 0 (field_at text at)) → r ≡ read_at text at sp low high
  unfolding read_at read_field said_by
  read_hex16 e j = j ∙ rw e

-- `digit`
pub digit_low : (b : ℕ) → b < 48 → 16 ≡ digit_of b
unfolding digit_of
digit_low b h = rw (lt-ltb b 48 h)

pub digit_high : (b : ℕ) → 70 < b → 16 ≡ digit_of b
unfolding digit_of
digit_high b h =
    let h1 : 48 ≤ b = omega arith in let h2 : 58 ≤ b = omega arith in let h3 : 65 ≤ b = omega arith in let h4 : 71 ≤ b = omega arith in
    rw (le-ltb b 48 h1, le-ltb b 58 h2, le-ltb b 65 h3, le-ltb b 71 h4)

pub digit_gap : (b : ℕ) → (ltb 57 b && ltb b 65) ≡ true → 16 ≡ digit_of b
unfolding digit_of
digit_gap b e =
    let h = ltb-true 57 b (and_left (ltb 57 b) (ltb b 65) e) in
    let h1 : 48 ≤ b = omega arith in let h2 : 58 ≤ b = omega arith in
    rw (le-ltb b 48 h1, le-ltb b 58 h2, and_right (ltb 57 b) (ltb b 65) e)

pub digit_decimal : (b : ℕ) → 48 ≤ b → b < 58 → b - 48 ≡ digit_of b
unfolding digit_of
digit_decimal b h k = rw (le-ltb b 48 h, lt-ltb b 58 k)

pub digit_letter : (b : ℕ) → b ≤ 70 → 58 ≤ b → (ltb 57 b && ltb b 65) ≡ false → b - 55 ≡ digit_of b
unfolding digit_of
digit_letter b h k e =
    let h1 : 48 ≤ b = omega arith in let h2 : 57 < b = omega arith in let h3 : b < 71 = omega arith in
    rw (le-ltb b 48 h1, le-ltb b 58 k, rw (lt-ltb 57 b h2) at e, lt-ltb b 71 h3)

-- `read_day` and `whole_day`: eight digits
eight : (text : List ℕ) (at : ℕ) → digits_at text at 8 ≡ fixed_in 10 8 0 (take 8 (drop at text))
unfolding digits_at
eight text at = refl

day_form : (next : ℕ) (d : Option ℕ) → d ≡ None → Err Form ≡ day_judged next d
unfolding day_judged
day_form next d e = rw e

module _ (text : List ℕ) (at : ℕ) (d : Option ℕ) (p : d ≡ digits_at text at 8) where
  q : d ≡ fixed_in 10 8 0 (take 8 (drop at text))
  q = p ∙ eight text at

  pub day_within : (n : ℕ) → d ≡ Some n → at + 8 ≤ length text
  day_within n e = said_within text at 10 8 0 n (lit< tt) (sym q ∙ e)

  pub day_wrong : d ≡ None → Err Form ≡ day_at text at
  unfolding day_in
  day_wrong e = day_form (next_at text at) _ (field_wrong 10 8 0 (drop at text) (omega arith) (sym q ∙ e))

  module _ (n : ℕ) (e : d ≡ Some n) (b : Bool) (z : b ≡ ends (drop (at + 8) text)) where
    pub day_more : b ≡ false → Err Form ≡ day_at text at
    unfolding day_in
    day_more t = day_form (next_at text at) _ (field_more 10 8 0 (drop at text) (omega arith) n (sym q ∙ e) (rw (drop-drop 8 at text) (sym z ∙ t)))

    pub day_said : b ≡ true → (r : Result Field Fault) → r ≡ day_judged (at + 8 + 1) (Some n) → r ≡ day_at text at
    unfolding day_in
    day_said t r j =
        let s : ends (drop 8 (drop at text)) ≡ true = rw (drop-drop 8 at text) (sym z ∙ t) in
        let l = field_long 10 8 0 (drop at text) (omega arith) n (sym q ∙ e) s in
        rw (l, field_said 10 8 0 (drop at text) (omega arith) n (sym q ∙ e) s) j

pub whole_short : (text : List ℕ) → (length text ≡ 8 → ⊥) → Err Form ≡ day_in 0 text
unfolding day_in fixed_in
whole_short text h = day_form 0 _ (rw (ne_eqb (length text) 8 h))

module _ (text : List ℕ) (l : length text ≡ 8) (d : Option ℕ) (p : d ≡ digits_at text 0 8) where
  all : d ≡ fixed_in 10 8 0 text
  all = p ∙ eight text 0 ∙ ap (fixed_in 10 8 0) (take_all 8 text (omega arith))

  pub whole_wrong : d ≡ None → Err Form ≡ day_in 0 text
  unfolding day_in
  whole_wrong e = day_form 0 _ (sym all ∙ e)

  pub whole_said : (n : ℕ) → d ≡ Some n → (r : Result Field Fault) → r ≡ day_judged 0 (Some n) → r ≡ day_in 0 text
  unfolding day_in
  whole_said n e r j = j ∙ ap (day_judged 0) (sym e ∙ all)
