-- "at most 307,201 bytes of the export are kept, which is enough": where an export has at most 512 lines, its first 307,201 bytes lead to the same answer. Assumes nothing.
use Prim.Native.Nat.{ℕ, zero, suc, ◌+◌, ◌-◌, ◌*◌, ◌≤◌, ◌<◌}
use native.Mathlib.Omega.{arith}
use mathlib.Core.Path.{◌≡◌, refl, sym, ap, subst, ◌∙◌}
use mathlib.Core.Bool.{true, false}
use mathlib.Core.List.{List, [], ◌∷◌, ◌++◌}
use lib.Dec.{eqb}
use lib.ListN.{length, take, drop, length-take}
use lib.Seq.{take_all, take-nil, take-take, take-append-add}
use borrow.Author.Tests.{le-leb, lt-leb}
use Rattle.units.specs.declared.refusal.Refusal.TheVariants.{Long}
use Rattle.units.specs.Limits.{line_top}
use Rattle.units.specs.Pick.{pick}
use Rattle.units.proofs.Every.{no_way}
use Rattle.fields.specs.Lines.{feed_at, lines_of, onto}
use Rattle.fields.specs.Text.{line_feed, until, lacks}
use Rattle.fields.proofs.Cases.{by_test, by_lt}
use Rattle.fields.proofs.Lines.{feed_split, lines_feed}
use Rattle.fields.proofs.Texts.{until_lacks}
use Rattle.store.specs.declared.stored.Serials.{Serials}
use Rattle.store.specs.Kept.{keep_top}
use Rattle.store.specs.Row.{row_of}
use Rattle.store.specs.Rows.{bad, rows_from, rows_top}
use Rattle.store.specs.Stored.{outcome_of}

-- no more lines in the first bytes
onto_less : (b : ℕ) (ls ms : List (List ℕ)) → length ls ≤ length ms → length (onto b ls) ≤ length (onto b ms)
onto_less b [] [] h = omega arith
onto_less b [] (m ∷ ms) h = omega arith
onto_less b (l ∷ ls) [] h = omega arith
onto_less b (l ∷ ls) (m ∷ ms) h = h

pub lines_less : (n : ℕ) (bytes : List ℕ) → length (lines_of (take n bytes)) ≤ length (lines_of bytes)
unfolding lines_of pick
lines_less zero bytes = omega arith
lines_less (suc n) [] = omega arith
lines_less (suc n) (b ∷ bs) =
    by_test (eqb b line_feed)
    (λ e. rw e (let h = lines_less n bs in omega arith))
    (λ e. rw e (onto_less b (lines_of (take n bs)) (lines_of bs) (lines_less n bs)))

some_line : (b : ℕ) (bs : List ℕ) → 0 < length (lines_of (b ∷ bs))
unfolding lines_of pick
some_line b bs = by_test (eqb b line_feed) (λ e. rw e (omega arith)) (λ e. rw e (onto_less b [] (lines_of bs) (omega arith)))

-- the first line
abbrev top_line : List (List ℕ) → List ℕ
top_line [] = []
top_line (l ∷ ls) = l

first_onto : (b : ℕ) (ls : List (List ℕ)) → length (top_line (onto b ls)) ≡ suc (length (top_line ls))
first_onto b [] = refl
first_onto b (l ∷ ls) = refl

-- one that goes on past n bytes
first_long : (n : ℕ) (bytes : List ℕ) → lacks line_feed (take n bytes) ≡ true → n < length bytes → n < length (top_line (lines_of bytes))
unfolding lines_of lacks pick
first_long n [] = λ e h. absurd (omega arith)
first_long zero (b ∷ bs) = λ e h. by_test (eqb b line_feed) (λ t. rw t (omega arith)) (λ t. rw t (let z = first_onto b (lines_of bs) in omega arith))
first_long (suc n) (b ∷ bs) =
    by_test (eqb b line_feed)
    (λ t. rw t (λ e h. no_way e))
    (λ t. rw t (λ e h. let z = first_onto b (lines_of bs) in let r = first_long n bs e (omega arith) in omega arith))

-- is refused as too long
rows_first : (k : ℕ) (ls : List (List ℕ)) → line_top < length (top_line ls) → rows_from k ls ≡ bad Long k
unfolding rows_from row_of pick
rows_first k [] h = absurd (omega arith)
rows_first k (l ∷ ls) h = rw (lt-leb (length l) line_top h)

rows_long : (k : ℕ) (bytes : List ℕ) → lacks line_feed (take line_top bytes) ≡ true → line_top < length bytes → rows_from k (lines_of bytes) ≡ bad Long k
rows_long k bytes e h = rows_first k (lines_of bytes) (first_long line_top bytes e h)

-- one that ends within n bytes
first_short : (n : ℕ) (bytes : List ℕ) → lacks line_feed (take n bytes) ≡ false → (feed_at bytes < n) × (feed_at bytes ≡ length bytes → ⊥)
unfolding lacks until pick
first_short zero bytes = λ e. no_way (sym e)
first_short (suc n) [] = λ e. no_way (sym e)
first_short (suc n) (b ∷ bs) =
    by_test (eqb b line_feed)
    (λ t. rw t (λ e. (omega arith, λ z. absurd (omega arith))))
    (λ t. rw t (λ e. let r = first_short n bs e in (omega arith, λ z. r.1 (omega arith))))

-- goes off the front of both
module _ (u rest : List ℕ) (e : lacks line_feed u ≡ true) where
  lines_after : (n : ℕ) → lines_of (take (length u + suc n) (u ++ (line_feed ∷ rest))) ≡ (u ++ (line_feed ∷ [])) ∷ lines_of (take n rest)
  lines_after n = ap lines_of (take-append-add u (line_feed ∷ rest) (suc n)) ∙ lines_feed u (take n rest) e

  rows_off : (n k : ℕ) → rows_from (k + 1) (lines_of (take n rest)) ≡ rows_from (k + 1) (lines_of rest) → rows_from k (lines_of (take (length u + suc n) (u ++ (line_feed ∷ rest)))) ≡ rows_from k (lines_of (u ++ (line_feed ∷ rest)))
  unfolding rows_from
  rows_off n k h = rw (lines_after n, lines_feed u rest e, h)

-- THE SAME ROWS, OR THE SAME REFUSAL, from enough bytes
abbrev Same : ℕ → ℕ → List ℕ → Type 0
Same most k bytes = rows_from k (lines_of (take most bytes)) ≡ rows_from k (lines_of bytes)

both_long : (most k : ℕ) (bytes : List ℕ) → line_top < most → line_top < length bytes → lacks line_feed (take line_top bytes) ≡ true → Same most k bytes
both_long most k bytes h g t =
    let n = length-take most bytes in
    rows_long k (take most bytes) (rw (take-take line_top most bytes (omega arith)) t) (omega arith) ∙ sym (rows_long k bytes t g)

line_gone : (n most k : ℕ) (bytes : List ℕ) → line_top * suc n + 1 ≤ most → length (lines_of bytes) ≤ suc n → (feed_at bytes < line_top) × (feed_at bytes ≡ length bytes → ⊥)
    → ((most k : ℕ) (bytes : List ℕ) → line_top * n + 1 ≤ most → length (lines_of bytes) ≤ n → Same most k bytes) → Same most k bytes
line_gone n most k bytes h l f more =
    let u = until line_feed bytes in
    let rest = drop (feed_at bytes + 1) bytes in
    let e = feed_split bytes f.1 in
    let t = until_lacks line_feed bytes in
    let after = most - (length u + 1) in
    let m : length u + suc after ≡ most = omega (arith, f.0) in
    let z : length (lines_of bytes) ≡ suc (length (lines_of rest)) = ap (λ (s : List ℕ). length (lines_of s)) e ∙ ap {B = ℕ} (λ (ls : List (List ℕ)). length ls) (lines_feed u rest t) in
    subst (λ (s : List ℕ). Same most k s) (sym e)
    (subst (λ (j : ℕ). Same j k (u ++ (line_feed ∷ rest))) m (rows_off u rest t after k (more after (k + 1) rest (omega (arith, f.0)) (omega arith))))

rows_same : (n most k : ℕ) (bytes : List ℕ) → line_top * n + 1 ≤ most → length (lines_of bytes) ≤ n → Same most k bytes
rows_same zero most k [] h l = ap (λ (s : List ℕ). rows_from k (lines_of s)) (take-nil most)
rows_same zero most k (b ∷ bs) h l = absurd (let z = some_line b bs in omega arith)
rows_same (suc n) most k bytes h l =
    by_lt line_top (length bytes)
    (λ g. by_test (lacks line_feed (take line_top bytes)) (λ t. both_long most k bytes (omega arith) g t) (λ t. line_gone n most k bytes h l (first_short line_top bytes t) (rows_same n)))
    (λ g. ap (λ (s : List ℕ). rows_from k (lines_of s)) (take_all most bytes (omega arith)))

-- THE SAME ANSWER
pub store_enough : (export day : List ℕ) (s : Serials) → length (lines_of export) ≤ rows_top → outcome_of (take keep_top export) day s ≡ outcome_of export day s
unfolding outcome_of pick
store_enough export day s h =
    let l = lines_less keep_top export in
    rw (le-leb (length (lines_of (take keep_top export))) rows_top (omega arith), le-leb (length (lines_of export)) rows_top h, rows_same rows_top keep_top 1 export (omega arith) h)
