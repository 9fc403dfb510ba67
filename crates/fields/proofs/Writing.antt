-- What the functions that write a number need, over plain lists and numbers. Assumes nothing.
use Prim.Native.Nat.{ℕ, zero, suc, ◌+◌, ◌-◌, ◌*◌, ◌/◌, ◌%◌, ◌^◌, ◌≤◌, ◌<◌, max}
use native.Mathlib.Nat.{pow-suc, pow-le-pow_right}
use mathlib.Core.Path.{◌≡◌, refl, sym, ap, ◌∙◌}
use mathlib.Core.List.{List, [], ◌∷◌, ◌++◌, append_assoc}
use mathlib.Core.Bool.{Bool, true, false, not}
use native.Mathlib.Omega.{arith}
use lib.ListN.{length, take, drop, set}
use lib.Seq.{sets, sets-eq, drop-drop}
use borrow.Rule.Slice.PartMut.{post_of, put_mid}
use lib.Dec.{leb, lit<}
use borrow.Author.Tests.{le-leb, lt-leb, leb-true, leb-false, not-true, not-false}
use Rattle.units.specs.Limits.{factor_digits, factor_scale}
use Rattle.fields.specs.Digits.{char_of, fixed, decimal}
use Rattle.fields.specs.Field.{pointed, spelled, limit}
use Rattle.fields.specs.Put.{put, put_end, written}
use Rattle.fields.specs.declared.spelling.Spelling.{Spelling}
use Rattle.fields.specs.declared.spelling.Spelling.TheVariants.{Decimal, Hex4, Hex16, Factor}
use Rattle.fields.proofs.Cases.{by_lt}
use Rattle.fields.proofs.Numbers.{fixed_length, fixed_top, decimal_small, decimal_below, decimal_short, decimal_fixed}
use Rattle.fields.proofs.Spellings.{pointed_long}
use Rattle.fields.proofs.Puts.{set_sets, put_room, end_room, put_none, end_none, put_empty, end_empty, written_is, written_none}

-- `has_room`
pub room_none : (len at k : ℕ) → len < at → false ≡ leb (at + k) len
room_none len at k h = let l : len < at + k = omega arith in rw (lt-leb (at + k) len l)

pub room_some : (len at k : ℕ) → at ≤ len → leb k (len - at) ≡ leb (at + k) len
room_some len at k h =
    by_lt len (at + k)
    (λ l. let m : len - at < k = omega arith in rw (lt-leb (at + k) len l, lt-leb k (len - at) m))
    (λ l. let m : k ≤ len - at = omega arith in rw (le-leb (at + k) len l, le-leb k (len - at) m))

-- PUTTING s: with room, the run of stores; with none, nothing
module _ (l : List ℕ) (at : ℕ) (s : List ℕ) (b : Bool) (k : ℕ) (e : b ≡ leb (at + k) (length l)) (q : k ≡ length s) where
  pub room_is : not b ≡ false → at + length s ≤ length l
  room_is t = let h = leb-true (at + k) (length l) (sym e ∙ not-false b t) in omega arith

  none_is : not b ≡ true → length l < at + length s
  none_is t = let h = leb-false (at + k) (length l) (sym e ∙ not-true b t) in omega arith

  pub put_refused : not b ≡ true → (at ≡ put_end l at s) × (l ≡ put l at s)
  put_refused t = (sym (end_none l at s (none_is t)), sym (put_none l at s (none_is t)))

pub put_done : (l d : List ℕ) (at r : ℕ) (s : List ℕ) → at + length s ≤ length l → r ≡ at + length s → d ≡ sets l at s → (r ≡ put_end l at s) × (d ≡ put l at s)
put_done l d at r s h p q = (p ∙ sym (end_room l at s h), q ∙ sym (put_room l at s h))

pub put_nothing : (l : List ℕ) (at : ℕ) (s : List ℕ) → s ≡ [] → (at ≡ put_end l at s) × (l ≡ put l at s)
put_nothing l at s e = rw e (sym (end_empty l at), sym (put_empty l at))

-- `put_part`: the part of the buffer that s is copied over
pub part_copied : (l s w : List ℕ) (at : ℕ) → at + length s ≤ length l → w ≡ s → put_mid at (at + length s - at) l w ≡ sets l at s
part_copied l s w at h e = rw (e, sets-eq s l at h) (rest ∙ sym (append_assoc (take at l) s (drop (at + length s) l)))
  where
    past : post_of at (at + length s - at) l ≡ drop (at + length s) l
    past = drop-drop (at + length s - at) at l ∙ ap (λ (k : ℕ). drop k l) (let z : at + (at + length s - at) ≡ at + length s = omega arith in z)

    rest : put_mid at (at + length s - at) l s ≡ take at l ++ (s ++ drop (at + length s) l)
    rest = ap (λ (v : List ℕ). take at l ++ (s ++ v)) past

-- `decimal_width`: by the power of ten that n reaches
pub width_power : (n m r : ℕ) → m ≡ max n 1 → 10 ^ r ≤ m → m < 10 * 10 ^ r → r + 1 ≡ length (decimal n)
width_power n m r e l h =
    let s : n < 10 ^ suc r = let p = pow-suc 10 r in omega arith in
    let a = decimal_short r n s in
    by_lt r (length (decimal n)) (λ g. omega arith) (λ g.
    let b = decimal_below n in
    let p = pow-le-pow_right {n = 10} (lit< tt) {i = length (decimal n)} {j = r} g in
    let q : n ≡ 0 = omega arith in
    let d : length (decimal n) ≡ 1 = ap {B = ℕ} length (decimal_small n (omega arith)) in
    let u = pow-le-pow_right {n = 10} (lit< tt) {i = 1} {j = r} (omega arith) in
    absurd (omega arith))

-- `put_fixed`: b is l with the last digits of n put, and left of n are m and its i places
pub record Left (base k n : ℕ) (l : List ℕ) (at : ℕ) (b : List ℕ) (i m : ℕ) : Type 0 where
  pub tail : List ℕ
  pub whole : fixed base k n ≡ fixed base i m ++ tail
  pub done : b ≡ sets l (at + i) tail

fixed_less : (base j m : ℕ) (tail : List ℕ) → 0 < j → fixed base j m ++ tail ≡ fixed base (j - 1) (m / base) ++ (char_of (m % base) ∷ tail)
unfolding fixed
fixed_less base zero m tail h = absurd (omega arith)
fixed_less base (suc j) m tail h =
    let q : suc j - 1 ≡ j = omega arith in
    rw q (append_assoc (fixed base j (m / base)) (char_of (m % base) ∷ []) tail)

module _ (base k n : ℕ) (l : List ℕ) (at : ℕ) (b : List ℕ) (i m : ℕ) (w : Left base k n l at b i m) where
  pub left_again : 0 < i → (c : ℕ) → c ≡ char_of (m % base) → Left base k n l at (set b (at + (i - 1)) c) (i - 1) (m / base)
  left_again h c e =
      let z : at + i ≡ suc (at + (i - 1)) = omega arith in
      record {
        tail = c ∷ w.tail;
        whole = rw e (w.whole ∙ fixed_less base i m w.tail h);
        done = rw w.done (set_sets w.tail l (at + (i - 1)) (at + i) c (omega arith) ∙ ap (λ (x : ℕ). sets (set l (at + (i - 1)) c) x w.tail) z);
      }

  pub left_end : i ≤ 0 → b ≡ sets l at (fixed base k n)
  unfolding fixed
  left_end h =
      let z : i ≡ 0 = omega arith in
      let q : at + i ≡ at = omega arith in
      let f : fixed base k n ≡ w.tail = w.whole ∙ rw z in
      rw (f, ← q) w.done

-- `width`: m is the limit
module _ (sp : Spelling) (n m : ℕ) (lim : m ≡ limit sp) where
  pub over_limit : m < n → written sp n ≡ []
  over_limit h = written_none sp n (omega arith)

  pub width_none : m < n → 0 ≡ length (written sp n)
  width_none h = rw (over_limit h)

  written_here : n ≤ m → written sp n ≡ spelled sp n
  written_here h = written_is sp n (omega arith)

  pub width_decimal : (r : ℕ) → n ≤ m → sp ≡ Decimal → r ≡ length (decimal n) → r ≡ length (written sp n)
  unfolding spelled
  width_decimal r h e q = rw (written_here h, e) q

  pub width_hex4 : n ≤ m → sp ≡ Hex4 → 4 ≡ length (written sp n)
  unfolding spelled
  width_hex4 h e = rw (written_here h, e) (sym (fixed_length 16 4 n))

  pub width_hex16 : n ≤ m → sp ≡ Hex16 → 16 ≡ length (written sp n)
  unfolding spelled
  width_hex16 h e = rw (written_here h, e) (sym (fixed_length 16 16 n))

  pub width_factor : n ≤ m → sp ≡ Factor → 2 + factor_digits ≡ length (written sp n)
  unfolding spelled
  width_factor h e = rw (written_here h, e) (sym (pointed_long (fixed 10 (suc factor_digits) n) factor_digits (fixed_length 10 (suc factor_digits) n)))

  -- `put_at`: the k digits that a spelling is
  module _ (h : n ≤ m) (k : ℕ) (q : k ≡ length (written sp n)) where
    pub digits_decimal : sp ≡ Decimal → fixed 10 k n ≡ written sp n
    unfolding spelled
    digits_decimal e = rw (q, written_here h, e) (sym (decimal_fixed n))

    pub digits_hex4 : sp ≡ Hex4 → fixed 16 k n ≡ written sp n
    unfolding spelled
    digits_hex4 e = rw (q, written_here h, e, fixed_length 16 4 n)

    digits_hex16 : sp ≡ Hex16 → fixed 16 k n ≡ written sp n
    unfolding spelled
    digits_hex16 e = rw (q, written_here h, e, fixed_length 16 16 n)

pub room_here : (b : Bool) (at k len : ℕ) → b ≡ leb (at + k) len → not b ≡ false → at + k ≤ len
room_here b at k len e t = leb-true (at + k) len (sym e ∙ not-false b t)

pub put_digits : (sp : Spelling) (n : ℕ) (b : Bool) (l d f : List ℕ) (at k r : ℕ) → b ≡ leb (at + k) (length l) → not b ≡ false → k ≡ length (written sp n) → f ≡ written sp n → r ≡ at + k → d ≡ sets l at f
    → (r ≡ put_end l at (written sp n)) × (d ≡ put l at (written sp n))
put_digits sp n b l d f at k r e t q g p s =
    put_done l d at r (written sp n) (room_is l at (written sp n) b k e q t) (omega arith) (s ∙ rw g)

-- digits of one width w: there is room for them, and j of them are the spelling where j is w
module _ (sp : Spelling) (n w k : ℕ) (q : k ≡ length (written sp n)) (z : k ≡ w) (b : Bool) (at : ℕ) (l : List ℕ) (be : b ≡ leb (at + k) (length l)) (t : not b ≡ false) where
  wide_room : at + w ≤ length l
  wide_room = let r = room_here b at k (length l) be t in omega arith

  wide_put : fixed 16 k n ≡ written sp n → (j : ℕ) (d : List ℕ) (r : ℕ) → r ≡ at + j → d ≡ sets l at (fixed 16 j n) → j ≡ w → (r ≡ put_end l at (written sp n)) × (d ≡ put l at (written sp n))
  wide_put g j d r p s f =
      let y : j ≡ k = f ∙ sym z in
      put_digits sp n b l d (fixed 16 j n) at k r be t q (ap (λ (x : ℕ). fixed 16 x n) y ∙ g) (omega arith) s

-- a mask's digits are four
module _ (sp : Spelling) (n m : ℕ) (lim : m ≡ limit sp) (h : n ≤ m) (k : ℕ) (q : k ≡ length (written sp n)) (e : sp ≡ Hex4) (b : Bool) (at : ℕ) (l : List ℕ) (be : b ≡ leb (at + k) (length l)) (t : not b ≡ false) where
  pub four : k ≡ 4
  four = q ∙ sym (width_hex4 sp n m lim h e)

  pub mask_room : at + 4 ≤ length l
  mask_room = wide_room sp n 4 k q four b at l be t

  pub mask_put : (j : ℕ) (d : List ℕ) (r : ℕ) → r ≡ at + j → d ≡ sets l at (fixed 16 j n) → j ≡ 4 → (r ≡ put_end l at (written sp n)) × (d ≡ put l at (written sp n))
  mask_put = wide_put sp n 4 k q four b at l be t (digits_hex4 sp n m lim h k q e)

-- a float's digits are sixteen
module _ (sp : Spelling) (n m : ℕ) (lim : m ≡ limit sp) (h : n ≤ m) (k : ℕ) (q : k ≡ length (written sp n)) (e : sp ≡ Hex16) (b : Bool) (at : ℕ) (l : List ℕ) (be : b ≡ leb (at + k) (length l)) (t : not b ≡ false) where
  sixteen : k ≡ 16
  sixteen = q ∙ sym (width_hex16 sp n m lim h e)

  pub float_room : at + 16 ≤ length l
  float_room = wide_room sp n 16 k q sixteen b at l be t

  pub float_put : (d : List ℕ) (r : ℕ) → r ≡ at + 16 → d ≡ sets l at (fixed 16 16 n) → (r ≡ put_end l at (written sp n)) × (d ≡ put l at (written sp n))
  float_put d r p s = wide_put sp n 16 k q sixteen b at l be t (digits_hex16 sp n m lim h k q e) 16 d r p s refl

pub put_same : (sp tp : Spelling) (n : ℕ) (l d : List ℕ) (at r : ℕ) → sp ≡ tp → (r ≡ put_end l at (written tp n)) × (d ≡ put l at (written tp n)) → (r ≡ put_end l at (written sp n)) × (d ≡ put l at (written sp n))
put_same sp tp n l d at r e p = rw e p

-- `put_factor`
factor_parts : (n : ℕ) → n ≤ limit Factor → spelled Factor n ≡ char_of (n / factor_scale) ∷ 46 ∷ fixed 10 factor_digits n
unfolding spelled pointed
factor_parts n h = rw (fixed_top 10 factor_digits n (lit< tt) (omega arith))

pub factor_over : (l : List ℕ) (at n : ℕ) → 9 < n / factor_scale → (at ≡ put_end l at (written Factor n)) × (l ≡ put l at (written Factor n))
factor_over l at n h = put_nothing l at (written Factor n) (written_none Factor n (omega arith))

module _ (l : List ℕ) (at n : ℕ) (w : n / factor_scale ≤ 9) (b : Bool) (e : b ≡ leb (at + (2 + factor_digits)) (length l)) where
  factor_wide : 2 + factor_digits ≡ length (written Factor n)
  factor_wide = width_factor Factor n (limit Factor) refl (omega arith) refl

  pub factor_none : not b ≡ true → (at ≡ put_end l at (written Factor n)) × (l ≡ put l at (written Factor n))
  factor_none t = put_refused l at (written Factor n) b (2 + factor_digits) e factor_wide t

  pub factor_put : not b ≡ false → (c r : ℕ) (d : List ℕ) → c ≡ char_of (n / factor_scale) → r ≡ at + 2 + factor_digits → d ≡ sets (set (set l at c) (at + 1) 46) (at + 2) (fixed 10 factor_digits n)
      → (r ≡ put_end l at (written Factor n)) × (d ≡ put l at (written Factor n))
  factor_put t c r d p q g =
      let k = factor_wide in
      let one : at + 1 ≡ suc at = omega arith in
      let two : at + 2 ≡ suc (suc at) = omega arith in
      let s : written Factor n ≡ c ∷ 46 ∷ fixed 10 factor_digits n = written_is Factor n (omega arith) ∙ factor_parts n (omega arith) ∙ rw p in
      put_done l d at r (written Factor n) (room_is l at (written Factor n) b (2 + factor_digits) e k t) (omega arith) (g ∙ rw (s, one, two))
