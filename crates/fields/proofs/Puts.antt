-- The laws of putting bytes, and what the functions that put them need. Assumes nothing.
use Prim.Native.Nat.{ℕ, suc, ◌+◌, ◌-◌, ◌≤◌, ◌<◌}
use mathlib.Core.Path.{◌≡◌, refl, ap, ◌∙◌}
use mathlib.Core.List.{List, [], ◌∷◌, ◌++◌, append-nil}
use native.Mathlib.Omega.{arith}
use native.Mathlib.Nat.{add-zero}
use lib.ListN.{length, set, take, drop, length-append, length-drop}
use lib.Seq.{sets, length-sets, set_comm, take_all, drop-drop, drop-length}
use borrow.Author.Tests.{le-leb, lt-leb}
use borrow.Rule.Slice.PartMut.{mid_of, post_of, put_mid}
use Rattle.fields.specs.Field.{spelled, limit}
use Rattle.fields.specs.Put.{put, put_end, written}
use Rattle.fields.specs.declared.spelling.Spelling.{Spelling}
use Rattle.fields.proofs.Cases.{by_lt}

-- RUNS OF STORES
-- one run after the other is one run
pub sets_append : (s t l : List ℕ) (i : ℕ) → sets (sets l i s) (i + length s) t ≡ sets l i (s ++ t)
sets_append [] t l i = rw (add-zero i)
sets_append (a ∷ s) t l i = let q : i + suc (length s) ≡ suc i + length s = omega arith in rw q (sets_append s t (set l i a) (suc i))

pub set_sets : (s l : List ℕ) (j i c : ℕ) → j < i → set (sets l i s) j c ≡ sets (set l j c) i s
set_sets [] l j i c h = refl
set_sets (a ∷ s) l j i c h = set_sets s (set l i a) j (suc i) c (omega arith) ∙ ap (λ (x : List ℕ). sets x (suc i) s) (set_comm l i j a c (λ e. absurd (omega arith)))

-- THE LAWS OF `put`, with room and without
module _ (l : List ℕ) (at : ℕ) (s : List ℕ) where
  pub put_room : at + length s ≤ length l → put l at s ≡ sets l at s
  unfolding put
  put_room h = rw (le-leb (at + length s) (length l) h)

  pub end_room : at + length s ≤ length l → put_end l at s ≡ at + length s
  unfolding put_end
  end_room h = rw (le-leb (at + length s) (length l) h)

  pub put_none : length l < at + length s → put l at s ≡ l
  unfolding put
  put_none h = rw (lt-leb (at + length s) (length l) h)

  pub end_none : length l < at + length s → put_end l at s ≡ at
  unfolding put_end
  end_none h = rw (lt-leb (at + length s) (length l) h)

pub put_empty : (l : List ℕ) (at : ℕ) → put l at [] ≡ l
put_empty l at = by_lt (length l) (at + 0) (λ h. put_none l at [] h) (λ h. put_room l at [] h)

pub end_empty : (l : List ℕ) (at : ℕ) → put_end l at [] ≡ at
end_empty l at = by_lt (length l) (at + 0) (λ h. end_none l at [] h) (λ h. end_room l at [] h ∙ add-zero at)

-- the length of a buffer stays
pub put_long : (l : List ℕ) (at : ℕ) (s : List ℕ) → length (put l at s) ≡ length l
put_long l at s = by_lt (length l) (at + length s) (λ h. ap length (put_none l at s h)) (λ h. ap length (put_room l at s h) ∙ length-sets l at s)

-- BYTES AND THEN MORE BYTES, where there is room for all, are put as one
module _ (l : List ℕ) (at : ℕ) (s t : List ℕ) (h : at + length (s ++ t) ≤ length l) where
  room_first : at + length s ≤ length l
  room_first = let a = length-append s t in omega arith

  room_then : at + length s + length t ≤ length (sets l at s)
  room_then = let a = length-append s t in let n = length-sets l at s in omega arith

  put_put : put (put l at s) (put_end l at s) t ≡ put l at (s ++ t)
  put_put =
      rw (put_room l at s room_first, end_room l at s room_first, put_room l at (s ++ t) h, put_room (sets l at s) (at + length s) t room_then)
      (sets_append s t l at)

  end_end : put_end (put l at s) (put_end l at s) t ≡ put_end l at (s ++ t)
  end_end =
      let a = length-append s t in
      rw (put_room l at s room_first, end_room l at s room_first, end_room l at (s ++ t) h, end_room (sets l at s) (at + length s) t room_then) (omega arith)

  -- as two calls promise it
  pub put_then : (d x : List ℕ) (e r : ℕ) → (e ≡ put_end l at s) × (d ≡ put l at s) → (r ≡ put_end d e t) × (x ≡ put d e t) → (r ≡ put_end l at (s ++ t)) × (x ≡ put l at (s ++ t))
  put_then d x e r p q = rw (← put_put, ← end_end, ← p.0, ← p.1) q

-- what is written for a number
pub written_is : (sp : Spelling) (n : ℕ) → n ≤ limit sp → written sp n ≡ spelled sp n
unfolding written
written_is sp n h = rw (le-leb n (limit sp) h)

pub written_none : (sp : Spelling) (n : ℕ) → limit sp < n → written sp n ≡ []
unfolding written
written_none sp n h = rw (lt-leb n (limit sp) h)

-- A PART OF A BUFFER THAT GOES TO ITS END, lent: what it is, and the buffer after it
pub mid_rest : (n : ℕ) (l : List ℕ) → mid_of n (length l - n) l ≡ drop n l
mid_rest n l = take_all (length l - n) (drop n l) (let a = length-drop n l in omega arith)

pub put_rest : (n : ℕ) (l w : List ℕ) → n ≤ length l → put_mid n (length l - n) l w ≡ take n l ++ w
put_rest n l w h = ap (λ (v : List ℕ). take n l ++ (w ++ v)) none ∙ ap (λ (v : List ℕ). take n l ++ v) (append-nil w)
  where
    none : post_of n (length l - n) l ≡ []
    none = drop-drop (length l - n) n l ∙ ap (λ (k : ℕ). drop k l) (let z : n + (length l - n) ≡ length l = omega (arith, h) in z) ∙ drop-length l
