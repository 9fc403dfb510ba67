-- WHAT IS HELD OF A LINE: its first 601 bytes; and a stream cut into its lines. Assumes nothing.
use Prim.Native.Nat.{ℕ, ◌+◌, ◌-◌, ◌≤◌}
use native.Mathlib.Omega.{arith}
use mathlib.Core.Path.{◌≡◌, refl, sym, ap, ◌∙◌}
use mathlib.Core.Bool.{true, false}
use mathlib.Core.List.{List, [], ◌∷◌, ◌++◌, append-nil}
use lib.Dec.{eqb}
use lib.ListN.{length, take, drop, length-append, length-take, length-replicate}
use lib.Seq.{length-take-le, take_all, take-append-le, take-append-add, sets-eq, take_at}
use borrow.Author.Tests.{eqb-true, eqb-false}
use Rattle.units.specs.Pick.{pick}
use Rattle.units.proofs.Every.{no_way}
use Rattle.fields.specs.declared.cut.Carry.{Carry}
use Rattle.fields.specs.Cut.{Holds, GoesOn, Ends, carry_top, carry_start, cut_at, emptied, held_with, line_in}
use Rattle.fields.specs.Lines.{feed_at}
use Rattle.fields.specs.Put.{put, put_end}
use Rattle.fields.specs.Text.{line_feed, lacks}
use Rattle.fields.proofs.Cases.{by_test, by_lt}
use Rattle.fields.proofs.Lines.{feed_none, lines_off}
use Rattle.fields.proofs.Puts.{put_room, end_room, put_long}
use Rattle.fields.proofs.Texts.{lacks_append}

-- THE FIRST BYTES of a stream, held in a buffer with room for them: more of it is put behind what is held, as long as it counts
first_more : (top : ℕ) (p q : List ℕ) → take top (p ++ q) ≡ take top p ++ take (top - length (take top p)) q
first_more top p q =
    by_lt (length p) top
    (λ h. let z : top ≡ length p + (top - length p) = omega arith in rw (take_all top p (omega arith)) (ap (λ (n : ℕ). take n (p ++ q)) z ∙ take-append-add p q (top - length p)))
    (λ h.
    let n = length-take-le top p h in
    let z : top - length (take top p) ≡ 0 = omega arith in
    take-append-le top p q h ∙ rw z (sym (append-nil (take top p))))

module _ (top len : ℕ) (buf p q : List ℕ) (room : top ≤ length buf) (l : len ≡ length (take top p)) (b : take len buf ≡ take top p) where
  abbrev added : List ℕ
  added = take (top - len) q

  whole : take top (p ++ q) ≡ take top p ++ added
  whole = rw l (first_more top p q)

  fits : len + length added ≤ length buf
  fits = let a = length-take top p in let n = length-take (top - len) q in omega arith

  pub first_len : put_end buf len (take (top - len) q) ≡ length (take top (p ++ q))
  first_len = end_room buf len added fits ∙ rw whole (let a = length-append (take top p) added in omega arith)

  pub first_bytes : take (put_end buf len (take (top - len) q)) (put buf len (take (top - len) q)) ≡ take top (p ++ q)
  first_bytes =
      let f = fits in
      let n = length-take-le len buf (omega arith) in
      rw (end_room buf len added f, put_room buf len added f, sets-eq added buf len f)
      (take_at (take len buf ++ added) (drop (len + length added) buf) (len + length added) (let a = length-append (take len buf) added in omega arith)
      ∙ ap (λ (x : List ℕ). x ++ added) b
      ∙ sym whole)

cut_short : (p : List ℕ) → length (take carry_top p) ≤ carry_top
cut_short p = let n = length-take carry_top p in omega arith

cut_none : (p : List ℕ) → length (take carry_top p) ≡ 0 → p ≡ []
cut_none [] e = refl
cut_none (b ∷ p) e =
    by_lt (length (b ∷ p)) carry_top
    (λ h. let z = ap {B = ℕ} (λ (l : List ℕ). length l) (take_all carry_top (b ∷ p) (omega arith)) in absurd (omega arith))
    (λ h. let n = length-take-le carry_top (b ∷ p) h in absurd (omega arith))

-- NOTHING HELD
pub start_holds : Holds carry_start []
unfolding carry_start
start_holds = record { len = refl; size = length-replicate {A = ℕ} carry_top 0; bytes = refl }

pub emptied_holds : (k : Carry) (p : List ℕ) → Holds k p → Holds (emptied k) []
emptied_holds k p h = record { len = refl; size = h.size; bytes = refl }

-- MORE BYTES HELD
module _ (k : Carry) (p q : List ℕ) (h : Holds k p) where
  held_room : carry_top ≤ length k.bytes
  held_room = let a = h.size in omega arith

  pub held_holds : Holds (held_with k q) (p ++ q)
  unfolding held_with
  held_holds =
      record {
        len = first_len carry_top k.len k.bytes p q held_room h.len h.bytes;
        size = put_long k.bytes k.len (take (carry_top - k.len) q) ∙ h.size;
        bytes = first_bytes carry_top k.len k.bytes p q held_room h.len h.bytes;
      }

  -- THE LINE THAT IS READ begins as the whole line does
  pub line_first : take carry_top (line_in k q) ≡ take carry_top (p ++ q)
  unfolding line_in pick
  line_first =
      by_test (eqb k.len 0)
      (λ e. let z = cut_none p (sym h.len ∙ eqb-true k.len 0 e) in rw (e, z))
      (λ e. rw e (ap (take carry_top) held_holds.bytes ∙ take_all carry_top (take carry_top (p ++ q)) (cut_short (p ++ q))))

-- A STREAM CUT INTO LINES
module _ (k : Carry) (p piece : List ℕ) (h : Holds k p) (n : lacks line_feed p ≡ true) where
  pub cut_on : (cut_at k piece).ended ≡ false → GoesOn p piece (cut_at k piece)
  unfolding cut_at pick
  cut_on =
      by_test (eqb (feed_at piece) (length piece))
      (λ e. rw e (λ _. record { all = refl; holds = held_holds k p piece h; unended = lacks_append line_feed p piece n (feed_none piece (eqb-true (feed_at piece) (length piece) e)) }))
      (λ e. rw e (λ f. no_way (sym f)))

  pub cut_line : (cut_at k piece).ended ≡ true → Ends p piece (cut_at k piece)
  unfolding cut_at pick
  cut_line =
      by_test (eqb (feed_at piece) (length piece))
      (λ e. rw e (λ f. no_way f))
      (λ e. rw e (λ _. record { holds = held_holds k p (take (feed_at piece + 1) piece) h; line = λ rest. lines_off p piece rest (eqb-false (feed_at piece) (length piece) e) n }))
