-- `read_factor`: a factor's six bytes, one position after the other, and the field's end. A position that is not as it should be refuses the field whatever stands at the others. Assumes nothing.
use Prim.Native.Nat.{ℕ, zero, suc, ◌+◌, ◌*◌, ◌≤◌, ◌<◌}
use mathlib.Core.Path.{◌≡◌, refl, sym, ap, ◌∙◌}
use mathlib.Core.List.{List, [], ◌∷◌, ◌++◌}
use mathlib.Core.Bool.{Bool, true, false, not}
use native.Mathlib.Omega.{arith}
use lib.ListN.{length, get_or, drop, length-drop}
use lib.Seq.{drop-drop}
use lib.Dec.{eqb, ltb, leb}
use borrow.Author.Tests.{lt-ltb, le-ltb, ne_eqb, eqb-true, eqb-false, leb-false, not-true, not-false}
use Rattle.std.specs.Prelude.{Option, Some, None, Result, Err}
use Rattle.units.specs.Limits.{factor_digits}
use Rattle.units.proofs.Scan.{drop_step}
use Rattle.fields.specs.Digits.{pick, digit_of, value_from, fixed_in}
use Rattle.fields.specs.Text.{lacks, ends, field_at, next_at}
use Rattle.fields.specs.Field.{factor_said, said_by, judge, read_field, read_at}
use Rattle.fields.specs.declared.field.Fault.{Fault}
use Rattle.fields.specs.declared.field.Field.{Field}
use Rattle.fields.specs.declared.field.Fault.TheVariants.{Form}
use Rattle.fields.specs.declared.spelling.Spelling.TheVariants.{Factor}
use Rattle.fields.proofs.Cases.{by_test, absurd_by}
use Rattle.fields.proofs.Numbers.{digit_above}
use Rattle.fields.proofs.Texts.{until_short, first_is, first_ends, field_byte}
use Rattle.fields.proofs.Reading.{judged_wrong}

-- A FIELD THAT IS NO FACTOR
either_wrong : (b : Bool) → pick {A = Option ℕ} b None None ≡ None
either_wrong true = refl
either_wrong false = refl

value_wrong : (n : ℕ) (cs : List ℕ) (i : ℕ) → i < length cs → 9 < digit_of (get_or cs i 0) → value_from 10 n cs ≡ None
unfolding value_from
value_wrong n [] i h w = absurd (omega arith)
value_wrong n (c ∷ cs) zero h w = rw (le-ltb (digit_of c) 10 w)
value_wrong n (c ∷ cs) (suc i) h w = rw (value_wrong (n * 10 + digit_of c) cs i (omega arith) w) (either_wrong (ltb (digit_of c) 10))

-- not six bytes
said_other : (f : List ℕ) → (length f ≡ 6 → ⊥) → factor_said f ≡ None
unfolding factor_said fixed_in
said_other [] h = refl
said_other (c ∷ []) h = refl
said_other (c ∷ p ∷ g) h = rw (ne_eqb (length (c ∷ g)) (suc factor_digits) (λ e. h (omega arith))) (either_wrong (eqb p 46))

-- no digit at a position other than 1
among_wrong : (c p : ℕ) (g : List ℕ) (i : ℕ) → i < length (c ∷ g) → 9 < digit_of (get_or (c ∷ g) i 0) → factor_said (c ∷ p ∷ g) ≡ None
unfolding factor_said fixed_in
among_wrong c p g i h w = rw (value_wrong 0 (c ∷ g) i h w, either_wrong (eqb (length (c ∷ g)) (suc factor_digits))) (either_wrong (eqb p 46))

said_digit : (f : List ℕ) (k : ℕ) → k < length f → (k ≡ 1 → ⊥) → 9 < digit_of (get_or f k 0) → factor_said f ≡ None
unfolding factor_said
said_digit [] k h n w = refl
said_digit (c ∷ []) k h n w = refl
said_digit (c ∷ p ∷ g) zero h n w = among_wrong c p g 0 (omega arith) w
said_digit (c ∷ p ∷ g) (suc zero) h n w = absurd (n refl)
said_digit (c ∷ p ∷ g) (suc (suc j)) h n w = among_wrong c p g (suc j) (omega arith) w

-- no point at position 1
said_point : (f : List ℕ) → (get_or f 1 0 ≡ 46 → ⊥) → factor_said f ≡ None
unfolding factor_said
said_point [] n = refl
said_point (c ∷ []) n = refl
said_point (c ∷ p ∷ g) n = rw (ne_eqb p 46 n)

-- AT A PLACE OF A TEXT
module _ (text : List ℕ) (at low high : ℕ) where
  refused : factor_said (field_at text at) ≡ None → Err Form ≡ read_at text at Factor low high
  unfolding read_at read_field said_by
  refused e = judged_wrong Factor low high (next_at text at) _ e

  -- a field of other than six bytes is refused
  by_six : (length (field_at text at) ≡ 6 → factor_said (field_at text at) ≡ None) → Err Form ≡ read_at text at Factor low high
  by_six f = refused (by_test (eqb (length (field_at text at)) 6) (λ t. f (eqb-true (length (field_at text at)) 6 t)) (λ t. said_other (field_at text at) (eqb-false (length (field_at text at)) 6 t)))

  -- too few bytes are left
  pub position_none : (b : Bool) → b ≡ leb (at + 6) (length text) → not b ≡ true → Err Form ≡ read_at text at Factor low high
  position_none b e t =
      let h : length text < at + 6 = leb-false (at + 6) (length text) (sym e ∙ not-true b t) in
      let s = until_short 9 (drop at text) in
      let l = length-drop at text in
      refused (said_other (field_at text at) (omega arith))

  -- positions 0 and 2 to 5: no digit
  pub position_digit : (k : ℕ) → k < 6 → (k ≡ 1 → ⊥) → (place d : ℕ) → place ≡ at + k → d ≡ digit_of (get_or text place 0) → 9 < d → Err Form ≡ read_at text at Factor low high
  position_digit k h n place d p e w = by_six (λ s. said_digit (field_at text at) k (omega arith) n (let b = field_byte text at k (omega arith) in rw (b, ← p, ← e) w))

  -- position 1: not the point
  pub position_point : (get_or text (at + 1) 0 ≡ 46 → ⊥) → Err Form ≡ read_at text at Factor low high
  position_point n = by_six (λ s. said_point (field_at text at) (let b = field_byte text at 1 (omega arith) in rw b n))

  -- position 6: the field goes on
  pub position_more : (z : Bool) → z ≡ ends (drop (at + 6) text) → not z ≡ true → Err Form ≡ read_at text at Factor low high
  position_more z e u =
      by_six (λ s. let a = first_ends (drop at text) in
      let b : ends (drop (at + 6) text) ≡ true = rw (s, drop-drop 6 at text) at a in
      absurd_by (cc))

-- SIX BYTES AS THEY SHOULD BE: the number that they say is the sum that `factor_at` forms, and the next field starts at position 7
no_tab : (c d : ℕ) → d ≡ digit_of c → d ≤ 9 → eqb c 9 ≡ false
no_tab c d e h = let a = digit_above c (omega arith) in ne_eqb c 9 (omega arith)

module _ (a b c d e ones tenths hundredths thousandths last : ℕ) (o : ones ≡ digit_of a) (O : ones ≤ 9) (t : tenths ≡ digit_of b) (T : tenths ≤ 9) (h : hundredths ≡ digit_of c) (H : hundredths ≤ 9)
    (m : thousandths ≡ digit_of d) (M : thousandths ≤ 9) (l : last ≡ digit_of e) (L : last ≤ 9) where
  six_lack : lacks 9 (a ∷ 46 ∷ b ∷ c ∷ d ∷ e ∷ []) ≡ true
  unfolding lacks
  six_lack = rw (no_tab a ones o O, no_tab b tenths t T, no_tab c hundredths h H, no_tab d thousandths m M, no_tab e last l L)

  six_said : factor_said (a ∷ 46 ∷ b ∷ c ∷ d ∷ e ∷ []) ≡ Some (10000 * ones + 1000 * tenths + 100 * hundredths + 10 * thousandths + last)
  unfolding factor_said fixed_in value_from
  six_said =
      let n : ((((0 * 10 + ones) * 10 + tenths) * 10 + hundredths) * 10 + thousandths) * 10 + last ≡ 10000 * ones + 1000 * tenths + 100 * hundredths + 10 * thousandths + last = omega arith in
      rw (← o, lt-ltb ones 10 (omega arith), ← t, lt-ltb tenths 10 (omega arith), ← h, lt-ltb hundredths 10 (omega arith), ← m, lt-ltb thousandths 10 (omega arith), ← l, lt-ltb last 10 (omega arith), n)

six_bytes : (text : List ℕ) (at : ℕ) → at + 6 ≤ length text
    → drop at text ≡ (get_or text at 0 ∷ get_or text (at + 1) 0 ∷ get_or text (at + 2) 0 ∷ get_or text (at + 3) 0 ∷ get_or text (at + 4) 0 ∷ get_or text (at + 5) 0 ∷ []) ++ drop (at + 6) text
six_bytes text at room =
    let a : at + 1 + 1 ≡ at + 2 = omega arith in
    let b : at + 2 + 1 ≡ at + 3 = omega arith in
    let c : at + 3 + 1 ≡ at + 4 = omega arith in
    let d : at + 4 + 1 ≡ at + 5 = omega arith in
    let e : at + 5 + 1 ≡ at + 6 = omega arith in
    rw (
      drop_step text at 0 (omega arith),
      drop_step text (at + 1) 0 (omega arith),
      a,
      drop_step text (at + 2) 0 (omega arith),
      b,
      drop_step text (at + 3) 0 (omega arith),
      c,
      drop_step text (at + 4) 0 (omega arith),
      d,
      drop_step text (at + 5) 0 (omega arith),
      e,
    )

pub position_end : (text : List ℕ) (at low high ones tenths hundredths thousandths last : ℕ) (r : Result Field Fault)
    → r ≡ judge Factor low high (at + 7) (Some (10000 * ones + 1000 * tenths + 100 * hundredths + 10 * thousandths + last))
    → (z : Bool) → z ≡ ends (drop (at + 6) text) → not z ≡ false
    → at + 6 ≤ length text
    → ones ≡ digit_of (get_or text at 0) → ones ≤ 9
    → get_or text (at + 1) 0 ≡ 46
    → tenths ≡ digit_of (get_or text (at + 2) 0) → tenths ≤ 9
    → hundredths ≡ digit_of (get_or text (at + 3) 0) → hundredths ≤ 9
    → thousandths ≡ digit_of (get_or text (at + 4) 0) → thousandths ≤ 9
    → last ≡ digit_of (get_or text (at + 5) 0) → last ≤ 9
    → r ≡ read_at text at Factor low high
unfolding read_at read_field said_by
position_end text at low high ones tenths hundredths thousandths last r j z e u room o O p t T h H m M l L =
    let s = six_lack _ _ _ _ _ _ _ _ _ _ o O t T h H m M l L in
    let n = six_said _ _ _ _ _ _ _ _ _ _ o O t T h H m M l L in
    let f : field_at text at ≡ get_or text at 0 ∷ 46 ∷ get_or text (at + 2) 0 ∷ get_or text (at + 3) 0 ∷ get_or text (at + 4) 0 ∷ get_or text (at + 5) 0 ∷ [] =
    rw (six_bytes text at room, p) (first_is _ (drop (at + 6) text) s (sym e ∙ not-false z u)) in
    let x = ap length f in
    let q : next_at text at ≡ at + 7 = omega arith in
    rw (q, f, n) j
