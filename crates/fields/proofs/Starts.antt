-- THE LAW OF A NUMBER READ WHERE IT STANDS: its one spelling stands there, and it is in range. Assumes nothing.
use Prim.Native.Nat.{ℕ, zero, suc, ◌+◌, ◌≤◌}
use mathlib.Core.Path.{◌≡◌, refl, ap, ◌∙◌}
use mathlib.Core.List.{List, [], ◌∷◌, ◌++◌}
use mathlib.Core.Bool.{true}
use native.Mathlib.Omega.{arith}
use lib.ListN.{length, take, drop, length-append, length-drop}
use lib.Seq.{drop-drop}
use lib.Dec.{ltb}
use Rattle.fields.specs.Digits.{digit_of, digits_of}
use Rattle.fields.specs.Field.{value, spelled, fits, start_of, read_here}
use Rattle.fields.specs.declared.spelling.Spelling.{Spelling}
use Rattle.fields.specs.declared.spelling.Spelling.TheVariants.{Decimal, Hex4, Hex16, Factor}
use Rattle.fields.proofs.Cases.{by_test}
use Rattle.fields.proofs.Spellings.{field_only, spelled_some}

digits_prefix : (k : ℕ) (cs : List ℕ) → cs ≡ digits_of k cs ++ drop (length (digits_of k cs)) cs
unfolding digits_of
digits_prefix zero cs = refl
digits_prefix (suc k) [] = refl
digits_prefix (suc k) (c ∷ cs) = by_test (ltb (digit_of c) 10) (λ t. rw t (ap (λ (l : List ℕ). c ∷ l) (digits_prefix k cs))) (λ t. rw t)

take_prefix : (k : ℕ) (cs : List ℕ) → cs ≡ take k cs ++ drop (length (take k cs)) cs
take_prefix zero cs = refl
take_prefix (suc k) [] = refl
take_prefix (suc k) (c ∷ cs) = ap (λ (l : List ℕ). c ∷ l) (take_prefix k cs)

start_prefix : (sp : Spelling) (cs : List ℕ) → cs ≡ start_of sp cs ++ drop (length (start_of sp cs)) cs
unfolding start_of
start_prefix Decimal cs = digits_prefix 16 cs
start_prefix Hex4 cs = take_prefix 4 cs
start_prefix Hex16 cs = take_prefix 16 cs
start_prefix Factor cs = refl

pub record Stands (text : List ℕ) (at : ℕ) (sp : Spelling) (low high n next : ℕ) : Type 0 where
  pub bytes : drop at text ≡ spelled sp n ++ drop next text
  pub inside : fits sp low high n ≡ true
  pub after : next ≡ at + length (spelled sp n)
  pub within : next ≤ length text

pub here_only : (text : List ℕ) (at : ℕ) (sp : Spelling) (low high n next : ℕ) → read_here text at sp low high ≡ value n next → Stands text at sp low high n next
unfolding read_here
here_only text at sp low high n next e =
    let o = field_only sp low high (at + length (start_of sp (drop at text))) (start_of sp (drop at text)) n next e in
    let q : next ≡ at + length (spelled sp n) = o.after ∙ ap (λ (l : List ℕ). at + length l) o.spelt in
    let b : drop at text ≡ spelled sp n ++ drop (length (spelled sp n)) (drop at text) = rw o.spelt at (start_prefix sp (drop at text)) in
    let d : drop (length (spelled sp n)) (drop at text) ≡ drop next text = drop-drop (length (spelled sp n)) at text ∙ rw q in
    record {
      bytes = b ∙ ap (λ (l : List ℕ). spelled sp n ++ l) d;
      inside = o.inside;
      after = q;
      within =
          let s = spelled_some sp n in
          let l = ap {B = ℕ} (λ (x : List ℕ). length x) b in
          let m = length-append (spelled sp n) (drop (length (spelled sp n)) (drop at text)) in
          let k = length-drop at text in
          omega arith;
    }
