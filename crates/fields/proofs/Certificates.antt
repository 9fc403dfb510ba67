-- The laws of certificates, and the steps of the loop that reads one. Assumes nothing.
use Prim.Native.Nat.{ℕ, ◌+◌, ◌-◌, ◌≤◌, ◌<◌}
use mathlib.Core.Path.{◌≡◌, refl, sym, ap, ◌∙◌}
use mathlib.Core.List.{List, [], ◌∷◌}
use mathlib.Core.Bool.{Bool, true, false, ◌&&◌}
use native.Mathlib.Omega.{arith}
use lib.ListN.{length, drop, length-drop, drop_of_length-le}
use lib.Seq.{drop-drop, take_all}
use lib.Dec.{eqb, leb}
use borrow.Author.Tests.{ne_eqb, leb-true}
use Rattle.std.specs.Prelude.{slice_range, Some, None, take_while}
use Rattle.std.specs.Bool.{then_some}
use Rattle.std.proofs.lemmas.List.Sums.{take_while-cons}
use Rattle.units.specs.Bytes.{visible}
use Rattle.units.proofs.Every.{and_left, and_right}
use Rattle.fields.specs.Digits.{pick}
use Rattle.fields.specs.Text.{lacks, ends, until, first_field, field_at}
use Rattle.fields.specs.Certificate.{all_visible, is_certificate, certificate_at}
use Rattle.fields.proofs.Cases.{by_test, absurd_by}

-- THE LAWS: what is accepted is a certificate, and every certificate is accepted where it stands
pub certificate_only : (text : List ℕ) (at end : ℕ) → certificate_at text at ≡ Some end → (is_certificate (field_at text at) ≡ true) × (end ≡ at + length (field_at text at))
unfolding certificate_at
certificate_only text at end = by_test (is_certificate (field_at text at)) (λ t. rw t (λ e. (refl, cc))) (λ t. rw t (λ e. absurd_by (cc)))

visible_lacks : (b : ℕ) (cs : List ℕ) → b < 0x21 → all_visible cs ≡ true → lacks b cs ≡ true
unfolding all_visible lacks
visible_lacks b [] h e = refl
visible_lacks b (c ∷ cs) h e =
    let v = and_left (visible c) (all_visible cs) e in
    let l = leb-true 0x21 c (and_left (leb 0x21 c) (leb c 0x7E) v) in
    rw (ne_eqb c b (omega arith)) (visible_lacks b cs h (and_right (visible c) (all_visible cs) e))

-- it holds no tab and no line feed, and has 1 to 16 bytes
pub certificate_lacks : (b : ℕ) (cs : List ℕ) → b < 0x21 → is_certificate cs ≡ true → lacks b cs ≡ true
unfolding is_certificate
certificate_lacks b cs h e = visible_lacks b cs h (and_right (leb 1 (length cs) && leb (length cs) 16) (all_visible cs) e)

pub certificate_long : (cs : List ℕ) → is_certificate cs ≡ true → (1 ≤ length cs) × (length cs ≤ 16)
unfolding is_certificate
certificate_long cs e =
    let l = and_left (leb 1 (length cs) && leb (length cs) 16) (all_visible cs) e in
    (leb-true 1 (length cs) (and_left (leb 1 (length cs)) (leb (length cs) 16) l), leb-true (length cs) 16 (and_right (leb 1 (length cs)) (leb (length cs) 16) l))

-- THE VISIBLE BYTES that a text starts with are its first field where a field ends after them, and else the field has one that is not
not_tab : (c : ℕ) → visible c ≡ true → eqb c 9 ≡ false
not_tab c v = let l = leb-true 0x21 c (and_left (leb 0x21 c) (leb c 0x7E) v) in ne_eqb c 9 (omega arith)

shown_all : (cs : List ℕ) → all_visible (take_while visible cs) ≡ true
unfolding all_visible
shown_all [] = refl
shown_all (c ∷ cs) = by_test (visible c) (λ v. rw (take_while-cons visible c cs, v) (rw v (shown_all cs))) (λ v. rw (take_while-cons visible c cs, v))

shown_field : (cs : List ℕ) → ends (drop (length (take_while visible cs)) cs) ≡ true → first_field cs ≡ take_while visible cs
unfolding until ends
shown_field [] = λ e. refl
shown_field (c ∷ cs) =
    by_test (visible c)
    (λ v. rw (take_while-cons visible c cs, v, not_tab c v) (λ e. ap (λ (l : List ℕ). c ∷ l) (shown_field cs e)))
    (λ v. rw (take_while-cons visible c cs, v) (λ e. let z : eqb c 9 ≡ true = e in rw z))

shown_not : (cs : List ℕ) → ends (drop (length (take_while visible cs)) cs) ≡ false → all_visible (first_field cs) ≡ false
unfolding until ends all_visible
shown_not [] = λ e. let z : true ≡ false = e in absurd_by (cc)
shown_not (c ∷ cs) =
    by_test (visible c)
    (λ v. rw (take_while-cons visible c cs, v, not_tab c v) (λ e. rw v (shown_not cs e)))
    (λ v. rw (take_while-cons visible c cs, v) (λ e. let z : eqb c 9 ≡ false = e in rw (z, v)))

-- `certificate_end`
pub certificate_past : (text : List ℕ) (at : ℕ) → length text < at → None ≡ certificate_at text at
unfolding certificate_at is_certificate until
certificate_past text at h = rw (drop_of_length-le text {i = at} (omega arith))

some_picked : (b : Bool) (n : ℕ) → then_some b n ≡ pick b (Some n) None
some_picked true n = refl
some_picked false n = refl

and_false : (a : Bool) → (a && false) ≡ false
and_false true = refl
and_false false = refl

module _ (text g : List ℕ) (at n : ℕ) (q : g ≡ slice_range text at (length text)) (e : n ≡ length (take_while visible g)) where
  rest_is : g ≡ drop at text
  rest_is = q ∙ take_all (length text - at) (drop at text) (let z = length-drop at text in omega arith)

  shown_long : n ≡ length (take_while visible (drop at text))
  shown_long = rw rest_is at e

  pub certificate_shown : (b : Bool) → b ≡ ends (drop (at + n) text) → then_some (leb 1 n && leb n 16 && b) (at + n) ≡ certificate_at text at
  unfolding certificate_at is_certificate
  certificate_shown b t = some_picked _ _ ∙ by_test b
      (λ y.
      let f = shown_field (drop at text) (rw (← shown_long, drop-drop n at text) (sym t ∙ y)) in
      rw (f, ← shown_long, shown_all (drop at text), y))
      (λ y.
      let f = shown_not (drop at text) (rw (← shown_long, drop-drop n at text) (sym t ∙ y)) in
      rw (f, y, and_false (leb 1 n && leb n 16), and_false (leb 1 (length (field_at text at)) && leb (length (field_at text at)) 16)))
