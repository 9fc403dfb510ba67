-- What the reader needs of an input's first line. Assumes nothing.
use Prim.Native.Nat.{ℕ, suc, ◌+◌, ◌≤◌, ◌<◌}
use mathlib.Core.Path.{◌≡◌, refl, sym, ap, ◌∙◌}
use mathlib.Core.List.{List, [], ◌∷◌}
use mathlib.Core.Bool.{Bool, false, not}
use native.Mathlib.Omega.{arith}
use native.Mathlib.Numerals.{add-one}
use lib.ListN.{length, take}
use lib.Dec.{eqb}
use lib.Seq.{length-take-le, take_all, take-take}
use Rattle.units.specs.declared.refusal.Refusal.TheVariants.{Long, Unended}
use Rattle.units.specs.declared.settings.Group.{Group}
use Rattle.units.specs.Settings.{group_fits}
use Rattle.fields.specs.declared.text.Scan.{Scan}
use Rattle.fields.specs.Text.{until, scanned}
use Rattle.fields.proofs.Cases.{by_test}
use Rattle.fields.proofs.Texts.{until_short}
use Rattle.lines.specs.declared.read.Line.{Line}
use Rattle.lines.specs.declared.read.First.{First}
use Rattle.lines.specs.Reading.{first_of, first_line, read_text, read_line, refused_line}
use Rattle.lines.proofs.Openings.{line_long, line_unended, line_text}

-- the first line's own feed is the input's
until_line : (b : ℕ) (l : List ℕ) → until b (take (suc (length (until b l))) l) ≡ until b l
unfolding until
until_line b [] = refl
until_line b (c ∷ cs) = by_test (eqb c b) (λ e. rw e) (λ e. rw e (ap (λ (l : List ℕ). c ∷ l) (until_line b cs)))

module _ (input : List ℕ) {c : Scan} (ce : c ≡ scanned input) where
  feed_of : c.feed ≡ length (until 10 input)
  unfolding scanned
  feed_of = rw ce

  until_first : until 10 (first_of input) ≡ until 10 input
  until_first = rw (add-one) (until_line 10 input)

  -- the scan of the first line has its feed at the same place
  first_feed : (scanned (first_of input)).feed ≡ c.feed
  unfolding scanned
  first_feed = ap length until_first ∙ sym feed_of

  first_with : c.feed < length input → length (first_of input) ≡ c.feed + 1
  first_with h = let f = feed_of in length-take-le (length (until 10 input) + 1) input (omega arith) ∙ ap (λ (n : ℕ). n + 1) (sym f)

  first_whole : length input ≤ c.feed → first_of input ≡ input
  first_whole h = let f = feed_of in take_all (length (until 10 input) + 1) input (omega arith)

  module _ (s : Group) {b : Bool} (be : b ≡ group_fits s) (t : not b ≡ false) {r : Line} where
    -- longer than any line, with a feed after it or none
    pub first_long : 600 < c.feed → r ≡ refused_line Long → r ≡ read_line s (first_of input)
    first_long l h = line_long s (first_of input) b r be t (let f = until_short 10 (first_of input) in let g = ap length until_first in let e = feed_of in omega arith) h

    -- no feed
    pub first_unended : c.feed ≤ 600 → c.feed ≡ length input → r ≡ refused_line Unended → r ≡ read_line s (first_of input)
    first_unended l d h =
        let w = ap {B = ℕ} (λ (x : List ℕ). length x) (first_whole (omega arith)) in
        let g = first_feed in
        line_unended s (first_of input) b r be t (omega arith) _ refl (λ q. omega arith) h

    module _ (i : c.feed < length input) where
      -- a feed one place too late
      pub first_over : c.feed ≡ 600 → r ≡ refused_line Long → r ≡ read_line s (first_of input)
      first_over l h = line_long s (first_of input) b r be t (let w = first_with i in omega arith) h

      pub first_text_lem : c.feed < 600 → r ≡ read_text s (take c.feed input) → r ≡ read_line s (first_of input)
      first_text_lem l h =
          let w = first_with i in
          let g = first_feed in
          line_text s (first_of input) b r be t (omega arith) _ refl (omega arith) (h ∙ ap (read_text s) (sym text_is))
        where
          text_is : take (scanned (first_of input)).feed (first_of input) ≡ take c.feed input
          text_is = ap (λ (n : ℕ). take n (first_of input)) first_feed ∙ take-take c.feed (length (until 10 input) + 1) input (let f = feed_of in omega arith)

-- `read_first`
pub first_whole_line : (s : Group) (input : List ℕ) (c : Scan) (r : Line) → c ≡ scanned input → r ≡ read_line s (first_of input) → ◌≡◌ {A = First} (record { line = r; feed = c.feed }) (first_line s input)
unfolding first_line
first_whole_line s input c r ce h = rw (h, feed_of input ce)
