-- The laws of a text's fields: splitting gives back what tabs joined, and a cursor goes through them one after the other. Assumes nothing.
use Prim.Native.Nat.{ℕ, suc, ◌+◌, ◌≤◌, ◌<◌}
use mathlib.Core.Path.{◌≡◌, refl, sym, ap, ◌∙◌}
use mathlib.Core.List.{List, [], ◌∷◌, ◌++◌, append_assoc, append-nil}
use mathlib.Core.Bool.{true, false}
use native.Mathlib.Omega.{arith}
use native.Mathlib.Numerals.{add-one}
use lib.ListN.{length, get_or, take, drop, length-drop}
use lib.Seq.{drop-cons, drop-drop, get_or-take, get_or-drop}
use lib.Dec.{eqb}
use borrow.Author.Tests.{ne_eqb, eqb-true}
use Rattle.units.proofs.Every.{and_left, and_right}
use Rattle.fields.specs.Text.{until, first_field, later_fields, fields_of, tabbed, lacks, all_lack, ends, tabs_in, field_at, next_at}
use Rattle.fields.proofs.Cases.{by_test, by_lt, absurd_by}

-- THE BYTES BEFORE THE FIRST b
pub until_take : (b : ℕ) (cs : List ℕ) → take (length (until b cs)) cs ≡ until b cs
unfolding until
until_take b [] = refl
until_take b (c ∷ cs) = by_test (eqb c b) (λ e. rw e) (λ e. rw e (ap (λ (l : List ℕ). c ∷ l) (until_take b cs)))

pub until_short : (b : ℕ) (cs : List ℕ) → length (until b cs) ≤ length cs
unfolding until
until_short b [] = omega arith
until_short b (c ∷ cs) = by_test (eqb c b) (λ e. rw e (omega arith)) (λ e. rw e (let r = until_short b cs in omega arith))

pub until_lacks : (b : ℕ) (cs : List ℕ) → lacks b (until b cs) ≡ true
unfolding until lacks
until_lacks b [] = refl
until_lacks b (c ∷ cs) = by_test (eqb c b) (λ e. rw e) (λ e. rw (e, e) (until_lacks b cs))

pub lacks_first : (b c : ℕ) (cs : List ℕ) → lacks b (c ∷ cs) ≡ true → (eqb c b ≡ false) × (lacks b cs ≡ true)
unfolding lacks
lacks_first b c cs = by_test (eqb c b) (λ t. rw t (λ e. absurd_by (cc))) (λ t. rw t (λ e. (refl, e)))

pub until_append : (b : ℕ) (s t : List ℕ) → lacks b s ≡ true → until b (s ++ t) ≡ s ++ until b t
unfolding until
until_append b [] t e = refl
until_append b (c ∷ s) t e = let r = lacks_first b c s e in rw r.0 (ap (λ (l : List ℕ). c ∷ l) (until_append b s t r.1))

pub until_all : (b : ℕ) (p : List ℕ) → lacks b p ≡ true → until b p ≡ p
unfolding until
until_all b p e = ap (until b) (sym (append-nil p)) ∙ until_append b p [] e ∙ append-nil p

pub lacks_append : (b : ℕ) (s t : List ℕ) → lacks b s ≡ true → lacks b t ≡ true → lacks b (s ++ t) ≡ true
unfolding lacks
lacks_append b [] t p q = q
lacks_append b (c ∷ s) t p q = let r = lacks_first b c s p in rw r.0 (lacks_append b s t r.1 q)

-- TABS
pub first_none : (cs : List ℕ) → ends cs ≡ true → first_field cs ≡ []
unfolding until ends
first_none [] e = refl
first_none (c ∷ cs) e = rw e

pub first_some : (cs : List ℕ) → ends cs ≡ false → 0 < length (first_field cs)
unfolding until ends
first_some [] e = absurd_by (cc)
first_some (c ∷ cs) e = rw e (omega arith)

-- a field ends before a tab or the end
pub first_ends : (cs : List ℕ) → ends (drop (length (first_field cs)) cs) ≡ true
unfolding until ends
first_ends [] = refl
first_ends (c ∷ cs) = by_test (eqb c 9) (λ t. rw t t) (λ t. rw t (first_ends cs))

-- its bytes are those of the text
pub field_byte : (text : List ℕ) (at k : ℕ) → k < length (field_at text at) → get_or (field_at text at) k 0 ≡ get_or text (at + k) 0
field_byte text at k h =
    ap (λ (f : List ℕ). get_or f k 0) (sym (until_take 9 (drop at text)))
    ∙ get_or-take (length (field_at text at)) (drop at text) k 0 h
    ∙ get_or-drop at text k 0

-- one byte that is no tab
pub field_next : (text : List ℕ) (i : ℕ) → i < length text → (get_or text i 0 ≡ 9 → ⊥) → field_at text i ≡ get_or text i 0 ∷ field_at text (i + 1)
unfolding until
field_next text i h n = rw (add-one, drop-cons text i 0 h, ne_eqb (get_or text i 0) 9 n)

-- a field with no tab, before a tab or the end, is the first
pub first_is : (f rest : List ℕ) → lacks 9 f ≡ true → ends rest ≡ true → first_field (f ++ rest) ≡ f
first_is f rest p q = until_append 9 f rest p ∙ rw (first_none rest q) (append-nil f)

tabbed_ends : (fs : List (List ℕ)) → ends (tabbed fs) ≡ true
unfolding ends tabbed
tabbed_ends [] = refl
tabbed_ends (f ∷ fs) = refl

pub tabbed_append : (xs ys : List (List ℕ)) → tabbed (xs ++ ys) ≡ tabbed xs ++ tabbed ys
unfolding tabbed
tabbed_append [] ys = refl
tabbed_append (f ∷ xs) ys = ap (λ (l : List ℕ). 9 ∷ l) (rw (tabbed_append xs ys) (sym (append_assoc f (tabbed xs) (tabbed ys))))

pub tabbed_lacks : (b : ℕ) (fs : List (List ℕ)) → (9 ≡ b → ⊥) → all_lack b fs ≡ true → lacks b (tabbed fs) ≡ true
unfolding tabbed all_lack lacks
tabbed_lacks b [] n e = refl
tabbed_lacks b (f ∷ fs) n e =
    rw (ne_eqb 9 b n) (lacks_append b f (tabbed fs) (and_left (lacks b f) (all_lack b fs) e) (tabbed_lacks b fs n (and_right (lacks b f) (all_lack b fs) e)))

later_skip : (f rest : List ℕ) → lacks 9 f ≡ true → later_fields (f ++ rest) ≡ later_fields rest
unfolding later_fields
later_skip [] rest e = refl
later_skip (c ∷ f) rest e = let r = lacks_first 9 c f e in rw r.0 (later_skip f rest r.1)

later_back : (fs : List (List ℕ)) → all_lack 9 fs ≡ true → later_fields (tabbed fs) ≡ fs
unfolding later_fields tabbed all_lack
later_back [] e = refl
later_back (f ∷ fs) e =
    let p = and_left (lacks 9 f) (all_lack 9 fs) e in
    let q = and_right (lacks 9 f) (all_lack 9 fs) e in
    rw (first_is f (tabbed fs) p (tabbed_ends fs), later_skip f (tabbed fs) p, later_back fs q)

-- SPLITTING GIVES BACK what tabs joined, and joining what was split
pub fields_back : (f : List ℕ) (fs : List (List ℕ)) → lacks 9 f ≡ true → all_lack 9 fs ≡ true → fields_of (f ++ tabbed fs) ≡ f ∷ fs
fields_back f fs p q = rw (first_is f (tabbed fs) p (tabbed_ends fs), later_skip f (tabbed fs) p, later_back fs q)

pub text_only : (cs : List ℕ) → cs ≡ first_field cs ++ tabbed (later_fields cs)
unfolding until later_fields tabbed
text_only [] = refl
text_only (c ∷ cs) =
    by_test (eqb c 9)
    (λ t. rw t (ap {B = List ℕ} (λ (l : List ℕ). c ∷ l) (text_only cs) ∙ ap {B = List ℕ} (λ (x : ℕ). x ∷ first_field cs ++ tabbed (later_fields cs)) (eqb-true c 9 t)))
    (λ t. rw t (ap (λ (l : List ℕ). c ∷ l) (text_only cs)))

later_count : (cs : List ℕ) → length (later_fields cs) ≡ tabs_in cs
unfolding later_fields tabs_in
later_count [] = refl
later_count (c ∷ cs) = by_test (eqb c 9) (λ t. rw t (ap suc (later_count cs))) (λ t. rw t (later_count cs))

-- one field more than tabs
pub fields_count : (cs : List ℕ) → length (fields_of cs) ≡ tabs_in cs + 1
fields_count cs = let e = later_count cs in omega arith

-- A CURSOR: what a caller knows that goes from field to field by `next_at`
first_next : (cs : List ℕ) → length (first_field cs) < length cs → later_fields cs ≡ fields_of (drop (suc (length (first_field cs))) cs)
unfolding until later_fields
first_next [] = λ h. absurd (omega arith)
first_next (c ∷ cs) = by_test (eqb c 9) (λ t. rw t (λ h. refl)) (λ t. rw t (λ h. first_next cs (omega arith)))

first_last : (cs : List ℕ) → length cs ≤ length (first_field cs) → later_fields cs ≡ []
unfolding until later_fields
first_last [] = λ h. refl
first_last (c ∷ cs) = by_test (eqb c 9) (λ t. rw t (λ h. absurd (omega arith))) (λ t. rw t (λ h. first_last cs (omega arith)))

module _ (text : List ℕ) (at : ℕ) where
  -- where a tab stands before the next place, the fields go on there
  pub cursor_tab : next_at text at ≤ length text → fields_of (drop at text) ≡ field_at text at ∷ fields_of (drop (next_at text at) text)
  cursor_tab h =
      let l = length-drop at text in
      let q : next_at text at ≡ at + suc (length (field_at text at)) = omega arith in
      rw (q, ← drop-drop (suc (length (field_at text at))) at text) (ap {B = List (List ℕ)} (λ (fs : List (List ℕ)). field_at text at ∷ fs) (first_next (drop at text) (omega arith)))

  -- where it is past the end, the field was the last
  pub cursor_last : length text < next_at text at → fields_of (drop at text) ≡ field_at text at ∷ []
  cursor_last h = let l = length-drop at text in ap {B = List (List ℕ)} (λ (fs : List (List ℕ)). field_at text at ∷ fs) (first_last (drop at text) (omega arith))

  module _ (k : ℕ) (inv : fields_of (drop at text) ≡ drop k (fields_of text)) where
    -- the field at the start of field k is field k
    pub cursor_field : field_at text at ≡ get_or (fields_of text) k []
    cursor_field =
        ap (λ (l : List (List ℕ)). get_or l 0 []) inv ∙ get_or-drop k (fields_of text) 0 [] ∙ (let z : k + 0 ≡ k = omega arith in ap (λ (n : ℕ). get_or (fields_of text) n []) z)

    -- the next place is the start of field k + 1, where there is one
    cursor_within : k + 1 < length (fields_of text) → next_at text at ≤ length text
    cursor_within more = by_lt (length text) (next_at text at)
        (λ h.
        let a = ap {B = ℕ} (λ (l : List (List ℕ)). length l) (sym (cursor_last h) ∙ inv) in
        let b = length-drop k (fields_of text) in absurd (omega arith)) (λ h. h)

    pub cursor_more : k + 1 < length (fields_of text) → fields_of (drop (next_at text at) text) ≡ drop (k + 1) (fields_of text)
    cursor_more more =
        let e = sym (cursor_tab (cursor_within more)) ∙ inv in
        ap (drop 1) e ∙ drop-drop 1 k (fields_of text)
