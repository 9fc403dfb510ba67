-- The laws of an input's lines: one line off its front, and the last one. Assumes nothing.
use Prim.Native.Nat.{ℕ, suc, ◌+◌}
use native.Mathlib.Numerals.{add-one}
use mathlib.Core.Path.{◌≡◌, refl, sym, ap, subst, ◌∙◌}
use mathlib.Core.Bool.{true, false}
use mathlib.Core.List.{List, [], ◌∷◌, ◌++◌, append_assoc}
use lib.Dec.{eqb}
use lib.ListN.{length, take, drop}
use lib.Seq.{take-length}
use borrow.Author.Tests.{eqb-true}
use Rattle.units.specs.Pick.{pick}
use Rattle.fields.specs.Lines.{feed_at, line_at, lines_of, unfinished}
use Rattle.fields.specs.Text.{line_feed, until, lacks}
use Rattle.fields.proofs.Cases.{by_test}
use Rattle.fields.proofs.Texts.{until_take, until_lacks, lacks_first, lacks_append}

-- up to its line feed and with it
pub lines_feed : (s rest : List ℕ) → lacks line_feed s ≡ true → lines_of (s ++ (line_feed ∷ rest)) ≡ (s ++ (line_feed ∷ [])) ∷ lines_of rest
unfolding lines_of pick
lines_feed [] rest e = refl
lines_feed (b ∷ s) rest e = let q = lacks_first line_feed b s e in rw q.0 (rw (lines_feed s rest q.1))

-- what comes after the last line feed
pub lines_last : (b : ℕ) (p : List ℕ) → lacks line_feed (b ∷ p) ≡ true → lines_of (b ∷ p) ≡ (b ∷ p) ∷ []
unfolding lines_of pick
lines_last b [] e = let q = lacks_first line_feed b [] e in rw q.0
lines_last b (d ∷ p) e = let q = lacks_first line_feed b (d ∷ p) e in rw q.0 (rw (lines_last d p q.1))

pub lines_none : lines_of [] ≡ []
unfolding lines_of
lines_none = refl

-- THE BYTES AFTER THE LAST LINE FEED
lacks_some : (s rest : List ℕ) → lacks line_feed (s ++ (line_feed ∷ rest)) ≡ false
unfolding lacks
lacks_some [] rest = refl
lacks_some (b ∷ s) rest = by_test (eqb b line_feed) (λ t. rw t) (λ t. rw t (lacks_some s rest))

pub unfinished_all : (p : List ℕ) → lacks line_feed p ≡ true → unfinished p ≡ p
unfolding unfinished pick
unfinished_all [] e = refl
unfinished_all (b ∷ p) e = rw e

pub unfinished_feed : (s rest : List ℕ) → unfinished (s ++ (line_feed ∷ rest)) ≡ unfinished rest
unfolding unfinished pick
unfinished_feed [] rest = rw (lacks_some [] rest)
unfinished_feed (b ∷ s) rest = rw (lacks_some (b ∷ s) rest) (unfinished_feed s rest)

-- A PIECE of the input with a line feed, and without
pub feed_split : (input : List ℕ) → (feed_at input ≡ length input → ⊥) → input ≡ until line_feed input ++ (line_feed ∷ drop (feed_at input + 1) input)
unfolding until
feed_split [] = λ n. absurd (n refl)
feed_split (b ∷ bs) =
    by_test (eqb b line_feed)
    (λ t. rw t (λ n. ap (λ (x : ℕ). x ∷ bs) (eqb-true b line_feed t)))
    (λ t. rw t (λ n. rw (add-one (suc (feed_at bs))) (ap (λ (l : List ℕ). b ∷ l) (rw (add-one (feed_at bs)) at (feed_split bs (λ e. n (ap suc e)))))))

pub feed_line : (input : List ℕ) → (feed_at input ≡ length input → ⊥) → take (feed_at input + 1) input ≡ until line_feed input ++ (line_feed ∷ [])
unfolding until
feed_line [] = λ n. absurd (n refl)
feed_line (b ∷ bs) =
    by_test (eqb b line_feed)
    (λ t. rw t (λ n. ap (λ (x : ℕ). x ∷ []) (eqb-true b line_feed t)))
    (λ t. rw t (λ n. rw (add-one (suc (feed_at bs))) (ap (λ (l : List ℕ). b ∷ l) (rw (add-one (feed_at bs)) at (feed_line bs (λ e. n (ap suc e)))))))

pub feed_none : (input : List ℕ) → feed_at input ≡ length input → lacks line_feed input ≡ true
feed_none input e = subst (λ (l : List ℕ). lacks line_feed l ≡ true) (sym (until_take line_feed input) ∙ ap (λ (n : ℕ). take n input) e ∙ all) (until_lacks line_feed input)
  where
    all : take (length input) input ≡ input
    all = take-length input

-- a line off the front, where the piece has its line feed
module _ (p piece rest : List ℕ) (n : feed_at piece ≡ length piece → ⊥) where
  abbrev pub later : List ℕ
  later = drop (feed_at piece + 1) piece

  feed_parts : p ++ (piece ++ rest) ≡ (p ++ until line_feed piece) ++ (line_feed ∷ (later ++ rest))
  feed_parts =
      let u = until line_feed piece in
      ap {B = List ℕ} (λ (l : List ℕ). p ++ (l ++ rest)) (feed_split piece n)
      ∙ ap (λ (l : List ℕ). p ++ l) (append_assoc u (line_feed ∷ later) rest)
      ∙ sym (append_assoc p u (line_feed ∷ (later ++ rest)))

  pub lines_off : lacks line_feed p ≡ true → lines_of (p ++ (piece ++ rest)) ≡ line_at p piece ∷ lines_of (later ++ rest)
  lines_off e =
      let u = until line_feed piece in
      let y : (p ++ u) ++ (line_feed ∷ []) ≡ line_at p piece = append_assoc p u (line_feed ∷ []) ∙ ap (λ (l : List ℕ). p ++ l) (sym (feed_line piece n)) in
      ap lines_of feed_parts ∙ lines_feed (p ++ u) (later ++ rest) (lacks_append line_feed p u e (until_lacks line_feed piece))
      ∙ ap {B = List (List ℕ)} (λ (l : List ℕ). l ∷ lines_of (later ++ rest)) y

  pub unfinished_off : unfinished (p ++ (piece ++ rest)) ≡ unfinished (later ++ rest)
  unfinished_off = ap unfinished feed_parts ∙ unfinished_feed (p ++ until line_feed piece) (later ++ rest)
