-- What the functions need that read a number where its spelling stands. Assumes nothing.
use Prim.Native.Nat.{ℕ, zero, suc, ◌+◌, ◌-◌, ◌*◌, ◌%◌, ◌^◌, ◌≤◌, ◌<◌, min, max}
use mathlib.Core.Path.{◌≡◌, refl, sym, ap, ◌∙◌}
use mathlib.Core.List.{List, [], ◌∷◌}
use mathlib.Core.Bool.{Bool, true, false, not, ◌&&◌}
use native.Mathlib.Omega.{arith}
use native.Mathlib.Numerals.{add-one}
use lib.ListN.{length, get_or, take, drop, length-take, length-drop, drop_of_length-le}
use lib.Seq.{drop-cons, take_all}
use lib.Dec.{eqb, ltb, leb}
use borrow.Author.Tests.{lt-ltb, le-ltb, ltb-true, ltb-false, eq-eqb, ne_eqb, eqb-true, eqb-false, le-leb, lt-leb, not-true, not-false}
use Rattle.std.specs.Prelude.{Option, Some, None, Result, Err}
use Rattle.std.specs.Array.{IsFirstChunk}
use Rattle.units.proofs.Every.{and_left, and_right}
use Rattle.fields.specs.Digits.{pick, digit_of, value_from, fixed_in, digits_of}
use Rattle.fields.specs.Text.{until}
use Rattle.fields.specs.Field.{plain, decimal_said, factor_said, said_by, judge, read_field, start_of, read_here}
use Rattle.fields.specs.declared.field.Fault.{Fault}
use Rattle.fields.specs.declared.field.Field.{Field}
use Rattle.fields.specs.declared.field.Fault.TheVariants.{Form}
use Rattle.fields.specs.declared.spelling.Spelling.{Spelling}
use Rattle.fields.specs.declared.spelling.Spelling.TheVariants.{Decimal, Hex4, Hex16, Factor}
use Rattle.fields.proofs.Cases.{by_test, by_lt}
use Rattle.fields.proofs.Reading.{digit_low, digit_high, digit_gap, digit_decimal, digit_letter, digits_short, bytes_long, digits_start, digits_again, digits_wrong, digits_end, said_within, grown_less, grown_fits}

-- `is_digit`
digit_past : (b : ℕ) → 58 ≤ b → 10 ≤ digit_of b
digit_past b h =
    by_lt 70 b (λ k. let e = digit_high b k in omega arith)
    (λ k. let g : 57 < b = omega arith in by_lt b 65
    (λ m. let e = digit_gap b (rw (lt-ltb 57 b g, lt-ltb b 65 m)) in omega arith)
    (λ m. let e = digit_letter b k h (rw (lt-ltb 57 b g, le-ltb b 65 m)) in omega arith))

pub digit_test : (b : ℕ) → (leb 48 b && leb b 57) ≡ ltb (digit_of b) 10
digit_test b =
    by_lt b 48 (λ h. let e = digit_low b h in let l : 10 ≤ digit_of b = omega arith in rw (lt-leb 48 b h, le-ltb (digit_of b) 10 l))
    (λ h. by_lt b 58 (λ k. let e = digit_decimal b h k in let l : digit_of b < 10 = omega arith in let m : b ≤ 57 = omega arith in rw (le-leb 48 b h, le-leb b 57 m, lt-ltb (digit_of b) 10 l))
    (λ k. let l = digit_past b k in let m : 57 < b = omega arith in rw (le-leb 48 b h, lt-leb b 57 m, le-ltb (digit_of b) 10 l)))

-- a byte that passed the test, and its value
pub record Decimals (b : ℕ) : Type 0 where
  pub low : 48 ≤ b
  pub value : b - 48 ≡ digit_of b
  pub small : digit_of b < 10

pub digit_taken : (b : ℕ) (t : Bool) → t ≡ ltb (digit_of b) 10 → not t ≡ false → Decimals b
digit_taken b t e n =
    let s = ltb-true (digit_of b) 10 (sym e ∙ not-false t n) in
    by_lt b 48 (λ h. let d = digit_low b h in absurd (omega arith))
    (λ h. by_lt b 58 (λ k. record { low = h; value = digit_decimal b h k; small = s }) (λ k. let d = digit_past b k in absurd (omega arith)))

-- the larger of two
pub larger_second : (a b : ℕ) → a < b → b ≡ pick (ltb a b) b a
larger_second a b h = rw (lt-ltb a b h)

pub larger_first : (a b : ℕ) → b ≤ a → a ≡ pick (ltb a b) b a
larger_first a b h = rw (le-ltb a b h)

-- `decimal_run`: what is left of the digits, after the number so far, says what all say
pub record Running (text : List ℕ) (at n i : ℕ) : Type 0 where
  pub after : at ≤ i
  pub near : i ≤ at + 16
  pub inside : i ≤ length text
  pub less : n < (0 + 1) * 16 ^ (i - at)
  pub says : value_from 10 0 (digits_of 16 (drop at text)) ≡ value_from 10 n (digits_of (at + 16 - i) (drop i text))
  pub long : at + length (digits_of 16 (drop at text)) ≡ i + length (digits_of (at + 16 - i) (drop i text))

digits_none : (k : ℕ) → digits_of k [] ≡ []
unfolding digits_of
digits_none zero = refl
digits_none (suc k) = refl

abbrev pub Run : List ℕ → ℕ → ℕ → ℕ → Type 0
Run text at n end = (end ≡ at + length (digits_of 16 (drop at text))) × (value_from 10 0 (digits_of 16 (drop at text)) ≡ Some n)

module _ (text : List ℕ) (at n i : ℕ) (r : Running text at n i) where
  run_is : digits_of (at + 16 - i) (drop i text) ≡ [] → Run text at n i
  unfolding value_from
  run_is e = (let l = r.long in let z : length (digits_of (at + 16 - i) (drop i text)) ≡ 0 = ap length e in omega arith, r.says ∙ rw e)

  pub run_end : (stop : ℕ) → stop ≡ min (length text) (at + 16) → stop ≤ i → Run text at n stop
  unfolding digits_of
  run_end stop s h =
      let q : i ≡ stop = let a = r.near in let b = r.inside in omega arith in
      rw q at (
      by_lt i (length text)
      (λ l. run_is (let z : at + 16 - i ≡ 0 = omega arith in rw z))
      (λ l. run_is (rw (drop_of_length-le text {i = i} l) (digits_none (at + 16 - i)))))

  module _ (stop : ℕ) (s : stop ≡ min (length text) (at + 16)) (h : i < stop) (t : Bool) (te : t ≡ ltb (digit_of (get_or text i 0)) 10) where
    more : at + 16 - i ≡ suc (at + 16 - (i + 1))
    more = omega arith

    within : i < length text
    within = omega arith

    pub run_stop : not t ≡ true → Run text at n i
    unfolding digits_of
    run_stop e = run_is (rw (more, drop-cons text i 0 within, ← te, not-true t e))

    digits_next : not t ≡ false → digits_of (at + 16 - i) (drop i text) ≡ get_or text i 0 ∷ digits_of (at + 16 - (i + 1)) (drop (i + 1) text)
    unfolding digits_of
    digits_next e = rw (more, drop-cons text i 0 within, ← te, not-false t e, add-one i)

    pub run_fits : not t ≡ false → n * 10 + (get_or text i 0 - 48) < 2 ^ 64
    run_fits e =
        let d = digit_taken (get_or text i 0) t te e in
        let g = grown_less 0 10 n (i - at) (digit_of (get_or text i 0)) (omega arith) d.small r.less in
        let f = grown_fits 0 16 (i - at) (let a = r.after in omega arith) (omega arith) in
        let v = d.value in
        omega arith

    pub run_again : not t ≡ false → (m : ℕ) → m ≡ n * 10 + (get_or text i 0 - 48) → Running text at m (i + 1)
    unfolding value_from
    run_again e m me =
        let d = digit_taken (get_or text i 0) t te e in
        let a = r.after in
        let g = digits_next e in
        let q : i + 1 - at ≡ i - at + 1 = omega arith in
        let w : m ≡ n * 10 + digit_of (get_or text i 0) = let v = d.value in omega arith in
        record {
          after = omega arith;
          near = omega arith;
          inside = omega arith;
          less = rw (q, w) (grown_less 0 10 n (i - at) (digit_of (get_or text i 0)) (omega arith) d.small r.less);
          says = r.says ∙ rw (g, lt-ltb (digit_of (get_or text i 0)) 10 d.small, ← w);
          long = let l = r.long in let z = ap length g in omega arith;
        }

-- `decimal_here`
here_wrong : (text : List ℕ) (at : ℕ) (sp : Spelling) (low high : ℕ) → said_by sp (start_of sp (drop at text)) ≡ None → Err Form ≡ read_here text at sp low high
unfolding read_here read_field judge
here_wrong text at sp low high e = rw e

here_said : (text : List ℕ) (at : ℕ) (sp : Spelling) (low high n end : ℕ) (r : Result Field Fault) → end ≡ at + length (start_of sp (drop at text)) → said_by sp (start_of sp (drop at text)) ≡ Some n
    → r ≡ judge sp low high end (Some n) → r ≡ read_here text at sp low high
unfolding read_here read_field
here_said text at sp low high n end r l e j = rw (← l, e) j

digits_head : (k : ℕ) (cs : List ℕ) → 0 < length (digits_of k cs) → get_or (digits_of k cs) 0 0 ≡ get_or cs 0 0
unfolding digits_of
digits_head zero cs = λ h. absurd (omega arith)
digits_head (suc k) [] = λ h. absurd (omega arith)
digits_head (suc k) (c ∷ cs) = by_test (ltb (digit_of c) 10) (λ t. rw t (λ h. refl)) (λ t. rw t (λ h. absurd (omega arith)))

plain_not : (f : List ℕ) → length f ≡ 0 → plain f ≡ false
unfolding plain
plain_not [] h = refl
plain_not (c ∷ f) h = absurd (omega arith)

plain_led : (f : List ℕ) → get_or f 0 0 ≡ 48 → 1 < length f → plain f ≡ false
unfolding plain
plain_led [] e h = absurd (omega arith)
plain_led (c ∷ []) e h = absurd (omega arith)
plain_led (c ∷ d ∷ f) e h = rw (eq-eqb c 48 e)

plain_short : (f : List ℕ) → length f ≡ 1 → plain f ≡ true
unfolding plain
plain_short [] h = absurd (omega arith)
plain_short (c ∷ []) h = refl
plain_short (c ∷ d ∷ f) h = absurd (omega arith)

plain_open : (f : List ℕ) → 0 < length f → (get_or f 0 0 ≡ 48 → ⊥) → plain f ≡ true
unfolding plain
plain_open [] h n = absurd (omega arith)
plain_open (c ∷ []) h n = refl
plain_open (c ∷ d ∷ f) h n = rw (ne_eqb c 48 n)

drop_head : (text : List ℕ) (at : ℕ) → at < length text → get_or (drop at text) 0 0 ≡ get_or text at 0
drop_head text at h = rw (drop-cons text at 0 h)

module _ (text : List ℕ) (at n end low high : ℕ) (run : Run text at n end) where
  digits_short_text : at < end → at < length text
  digits_short_text h = by_lt at (length text) (λ l. l) (λ l. let z = ap {B = ℕ} (λ (cs : List ℕ). length (digits_of 16 cs)) (drop_of_length-le text {i = at} l) in let q = ap length (digits_none 16) in absurd (omega (arith, run.0)))

  pub here_empty : end ≡ at → Err Form ≡ read_here text at Decimal low high
  unfolding start_of said_by decimal_said
  here_empty e = here_wrong text at Decimal low high (let l : length (digits_of 16 (drop at text)) ≡ 0 = omega (arith, run.0) in rw (plain_not (digits_of 16 (drop at text)) l))

  module _ (ne : end ≡ at → ⊥) where
    some : 0 < length (digits_of 16 (drop at text))
    some = omega (arith, run.0)

    pub here_open : at < length text
    here_open = digits_short_text (omega (arith, run.0))

    head_is : get_or (digits_of 16 (drop at text)) 0 0 ≡ get_or text at 0
    head_is = digits_head 16 (drop at text) some ∙ drop_head text at here_open

    pub here_led : (eqb (get_or text at 0) 48 && ltb (at + 1) end) ≡ true → Err Form ≡ read_here text at Decimal low high
    unfolding start_of said_by decimal_said
    here_led e =
        let a = eqb-true (get_or text at 0) 48 (and_left (eqb (get_or text at 0) 48) (ltb (at + 1) end) e) in
        let b = ltb-true (at + 1) end (and_right (eqb (get_or text at 0) 48) (ltb (at + 1) end) e) in
        let l : 1 < length (digits_of 16 (drop at text)) = omega (arith, run.0) in
        here_wrong text at Decimal low high (rw (plain_led (digits_of 16 (drop at text)) (head_is ∙ a) l))

    plain_is : (eqb (get_or text at 0) 48 && ltb (at + 1) end) ≡ false → plain (digits_of 16 (drop at text)) ≡ true
    plain_is e =
        by_test (eqb (get_or text at 0) 48)
        (λ t. let k = ltb-false (at + 1) end (rw t at e) in plain_short (digits_of 16 (drop at text)) (let s = some in omega (arith, run.0)))
        (λ t. plain_open (digits_of 16 (drop at text)) some (λ z. eqb-false (get_or text at 0) 48 t (sym head_is ∙ z)))

    pub here_decimal : (r : Result Field Fault) → (eqb (get_or text at 0) 48 && ltb (at + 1) end) ≡ false → r ≡ judge Decimal low high end (Some n) → r ≡ read_here text at Decimal low high
    unfolding start_of said_by decimal_said
    here_decimal r e j = here_said text at Decimal low high n end r run.0 (rw (plain_is e) run.1) j

-- `float_here`
pub sixteen_are : (text f : List ℕ) (at : ℕ) → at ≤ length text → IsFirstChunk (take (length text - at) (drop at text)) f 16 → (f ≡ take 16 (drop at text)) × (at + 16 ≤ length text)
sixteen_are text f at h c =
    let l = length-drop at text in
    let q = take_all (length text - at) (drop at text) (omega arith) in
    (c.same ∙ ap (take 16) q, let e = rw q at c.enough in omega arith)

-- f are the sixteen bytes
pub record Sixteen (f : List ℕ) (n worst i : ℕ) : Type 0 where
  pub long : length f ≡ 16
  pub less : n < (0 + 1) * 16 ^ i
  pub good : worst < 16 → fixed_in 16 16 0 f ≡ value_from 16 n (drop i f)
  pub bad : 16 ≤ worst → None ≡ fixed_in 16 16 0 f

pub sixteen_start : (text f : List ℕ) (at : ℕ) → (f ≡ take 16 (drop at text)) × (at + 16 ≤ length text) → Sixteen f 0 0 0
sixteen_start text f at p =
    let l : length f ≡ 16 = ap length p.0 ∙ bytes_long text at 16 p.1 in
    record { long = l; less = omega arith; good = λ w. digits_start f 16 16 0 l; bad = λ w. absurd (omega arith) }

module _ (f : List ℕ) (n worst i : ℕ) (x : Sixteen f n worst i) (h : i < 16) (d : ℕ) (e : d ≡ digit_of (get_or f i 0)) where
  pub sixteen_less : n * 16 + d % 16 < (0 + 1) * 16 ^ (i + 1)
  sixteen_less = grown_less 0 16 n i (d % 16) (omega arith) (omega arith) x.less

  pub sixteen_more : (w : ℕ) → w ≡ max worst d → Sixteen f (n * 16 + d % 16) w (i + 1)
  sixteen_more w we =
      let l = x.long in
      record {
        long = x.long;
        less = sixteen_less;
        good = λ z.
            let m : d % 16 ≡ d = omega arith in
            rw m (digits_again f 16 16 0 n i d (x.good (omega arith)) (omega arith) e (omega arith));
        bad = λ z. by_lt worst 16 (λ k. digits_wrong f 16 16 0 n i d (x.good k) (omega arith) e (omega arith)) (λ k. x.bad k);
      }

pub float_short : (text : List ℕ) (at low high : ℕ) → at ≤ length text → length (take (length text - at) (drop at text)) < 16 → Err Form ≡ read_here text at Hex16 low high
unfolding start_of said_by
float_short text at low high a h =
    let l = simp (length-take, length-drop) at h in
    here_wrong text at Hex16 low high (sym (digits_short text at 16 16 0 (omega arith) (omega arith)))

module _ (text f : List ℕ) (at : ℕ) (p : (f ≡ take 16 (drop at text)) × (at + 16 ≤ length text)) (n worst i low high : ℕ) (x : Sixteen f n worst i) (h : 16 ≤ i) where
  pub float_wrong : 15 < worst → Err Form ≡ read_here text at Hex16 low high
  unfolding start_of said_by
  float_wrong w = here_wrong text at Hex16 low high (sym (rw p.0 at (x.bad (omega arith))))

  pub float_said : worst ≤ 15 → (r : Result Field Fault) → r ≡ judge Hex16 low high (at + 16) (Some n) → r ≡ read_here text at Hex16 low high
  unfolding start_of said_by
  float_said w r j =
      let l : at + 16 ≡ at + length (take 16 (drop at text)) = let k = p.1 in simp (length-take, length-drop) (omega arith) in
      let g = let k = x.long in digits_end f 16 16 0 n i 0 (x.good (omega arith)) (omega arith) in
      here_said text at Hex16 low high n (at + 16) r l (sym (rw p.0 at g)) j

-- `mask_here`
module _ (text : List ℕ) (at low high : ℕ) (d : Option ℕ) (p : d ≡ fixed_in 16 4 0 (take 4 (drop at text))) where
  pub mask_wrong : d ≡ None → Err Form ≡ read_here text at Hex4 low high
  unfolding start_of said_by
  mask_wrong e = here_wrong text at Hex4 low high (sym p ∙ e)

  mask_within : (n : ℕ) → d ≡ Some n → at + 4 ≤ length text
  mask_within n e = said_within text at 16 4 0 n (omega arith) (sym p ∙ e)

  pub mask_said : (n : ℕ) → d ≡ Some n → (r : Result Field Fault) → r ≡ judge Hex4 low high (at + 4) (Some n) → r ≡ read_here text at Hex4 low high
  unfolding start_of said_by
  mask_said n e r j =
      let k = mask_within n e in
      let l : at + 4 ≡ at + length (take 4 (drop at text)) = simp (length-take, length-drop) (omega arith) in
      here_said text at Hex4 low high n (at + 4) r l (sym p ∙ e) j

-- `read_here`
start_none : (sp : Spelling) → said_by sp (start_of sp []) ≡ None
unfolding said_by start_of decimal_said digits_of plain fixed_in factor_said until
start_none Decimal = refl
start_none Hex4 = refl
start_none Hex16 = refl
start_none Factor = refl

pub here_past : (text : List ℕ) (at : ℕ) (sp : Spelling) (low high : ℕ) → length text < at → Err Form ≡ read_here text at sp low high
here_past text at sp low high h = here_wrong text at sp low high (rw (drop_of_length-le text {i = at} (omega arith)) (start_none sp))

pub here_factor : (text : List ℕ) (at low high : ℕ) (sp : Spelling) → sp ≡ Factor → Err Form ≡ read_here text at sp low high
unfolding start_of said_by factor_said
here_factor text at low high sp e = rw e (here_wrong text at Factor low high refl)
