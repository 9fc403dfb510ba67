-- What the reader needs of a line's first field and of its checks before any field. Assumes nothing.
use Rattle.std.specs.Prelude.{Option, None, Err, Ok}
use Prim.Native.Nat.{ℕ, ◌+◌, ◌≤◌, ◌<◌}
use mathlib.Core.Path.{◌≡◌, refl, sym, ◌∙◌}
use mathlib.Core.List.{List, [], ◌∷◌}
use mathlib.Core.Bool.{Bool, true, false, not}
use native.Mathlib.Omega.{arith}
use lib.ListN.{length, get_or, take, drop, replicate, get_or-replicate, get_or-eq_default, length-replicate, length-take}
use lib.Seq.{get_or-take}
use borrow.Author.Tests.{eq-eqb, ne_eqb, le-leb, lt-leb, not-true, not-false}
use Rattle.units.specs.declared.refusal.Refusal.{Refusal}
use Rattle.units.specs.declared.refusal.Refusal.TheVariants.{Long, Unended, Range as NoRange}
use Rattle.units.specs.Refusal.{Verdict}
use Rattle.units.specs.declared.settings.Group.{Group}
use Rattle.units.specs.Pick.{pick}
use Rattle.units.specs.Settings.{group_fits}
use Rattle.fields.specs.declared.text.Scan.{Scan}
use Rattle.fields.specs.Text.{until, first_field, later_fields, ends, tabs_in, scanned}
use Rattle.fields.proofs.Cases.{by_lt, absurd_by}
use Rattle.fields.proofs.Texts.{first_none, first_some, until_take, fields_count}
use Rattle.message.specs.declared.value.Message.{Message}
use Rattle.lines.specs.declared.kind.Kind.{Kind}
use Rattle.lines.specs.declared.read.Line.{Line}
use Rattle.lines.specs.Table.{kind_of}
use Rattle.lines.specs.Values.{message_of}
use Rattle.lines.specs.Reading.{values, stop, kind_in, line_with, read_values, read_known, read_text, read_line, refused_line}
use Rattle.lines.specs.Walk.{Rest, Filled}
use Rattle.lines.proofs.Making.{message_same}

-- THE FIRST FIELD
pub one_byte : (text : List ℕ) → ends (drop 0 text) ≡ false → ends (drop 1 text) ≡ true → first_field text ≡ get_or text 0 0 ∷ []
unfolding ends until
one_byte [] e f = absurd_by (cc)
one_byte (c ∷ cs) e f = rw (e, first_none cs f)

pub two_bytes : (text : List ℕ) → ends (drop 0 text) ≡ false → ends (drop 1 text) ≡ false → 1 < length (first_field text)
unfolding ends until
two_bytes [] e f = absurd_by (cc)
two_bytes (c ∷ cs) e f = rw e (let a = first_some cs f in omega arith)

kind_long : (f : List ℕ) → 1 < length f → None ≡ kind_in f
kind_long [] h = absurd (omega arith)
kind_long (c ∷ []) h = absurd (omega arith)
kind_long (c ∷ d ∷ f) h = refl

module _ (text : List ℕ) (a : Bool) (ae : a ≡ ends (drop 0 text)) where
  pub kind_none : a ≡ true → None ≡ kind_in (first_field text)
  kind_none t = rw (first_none text (sym ae ∙ t))

  module _ (b : Bool) (be : b ≡ ends (drop 1 text)) (t : a ≡ false) where
    pub kind_one : (r : Option Kind) → b ≡ true → r ≡ kind_of (get_or text 0 0) → r ≡ kind_in (first_field text)
    kind_one r u e = rw (one_byte text (sym ae ∙ t) (sym be ∙ u)) e

    pub kind_more : b ≡ false → None ≡ kind_in (first_field text)
    kind_more u = kind_long (first_field text) (two_bytes text (sym ae ∙ t) (sym be ∙ u))

pub open_within : (text : List ℕ) (a : Bool) → a ≡ ends (drop 0 text) → a ≡ false → 0 < length text
unfolding ends
open_within [] a ae t = absurd_by (cc)
open_within (c ∷ cs) a ae t = omega arith

-- NUMBERS NOT READ YET
pub none_read : Rest (replicate 34 0) 0
none_read i h = by_lt i 34 (λ l. get_or-replicate 34 i 0 0 l) (λ l. get_or-eq_default (replicate 34 0) 0 {n = i} (let e = length-replicate {A = ℕ} 34 0 in omega arith))

pub fields_are : (text : List ℕ) (n : ℕ) → n ≡ tabs_in text → n ≡ length (later_fields text)
fields_are text n e = let c = fields_count text in omega arith

pub rest_same : (w : List ℕ) (n : ℕ) → Rest w n → (i : ℕ) → get_or w i 0 ≡ get_or (take n w) i 0
rest_same w n r i =
    by_lt i n (λ l. sym (get_or-take n w i 0 l))
    (λ l. r i l ∙ sym (get_or-eq_default (take n w) 0 {n = i} (let e = length-take n w in omega arith)))

-- `read_known`
module _ {k : Kind} {s : Group} {text w : List ℕ} {a : Verdict} (f : Filled k s text w (read_values k s (later_fields text)) a) where
  pub known_taken : {m : Message} → a ≡ Ok tt → m ≡ message_of s k w → ◌≡◌ {A = Line} (record { verdict = Ok tt; message = m }) (line_with s k (read_values k s (later_fields text)))
  known_taken e h =
      let n = length (later_fields text) in
      let g : read_values k s (later_fields text) ≡ values (take n w) = sym f.got ∙ rw e in
      rw (g, h, message_same s k w (take n w) (rest_same w n (f.rest e)))

  pub known_refused : {r : Line} {why : Refusal} → a ≡ Err why → r ≡ refused_line why → r ≡ line_with s k (read_values k s (later_fields text))
  known_refused {why = why} e h = let g : read_values k s (later_fields text) ≡ stop why = sym f.got ∙ rw e in rw g h

-- `read_text`
pub text_found : (s : Group) (text : List ℕ) {found : Option Kind} {r : Line} → found ≡ kind_in (first_field text) → (f : Option Kind) → found ≡ f → r ≡ read_known s (later_fields text) f → r ≡ read_text s text
unfolding read_text
text_found s text fe f e h = rw (← fe, e) h

-- `read`
pub text_tabs : (line : List ℕ) (c : Scan) → c ≡ scanned line → c.tabs ≡ tabs_in (take c.feed line)
unfolding scanned
text_tabs line c ce = rw (ce, until_take 10 line)

module _ (s : Group) (line : List ℕ) (b : Bool) (r : Line) (be : b ≡ group_fits s) where
  pub line_group : not b ≡ true → r ≡ refused_line NoRange → r ≡ read_line s line
  unfolding read_line pick
  line_group t h = rw (← be, not-true b t) h

  module _ (t : not b ≡ false) where
    pub line_long : 600 < length line → r ≡ refused_line Long → r ≡ read_line s line
    unfolding read_line pick
    line_long l h = rw (← be, not-false b t, lt-leb (length line) 600 l) h

    module _ (l : length line ≤ 600) (c : Scan) (ce : c ≡ scanned line) where
      feed_is : c.feed ≡ length (until 10 line)
      unfolding scanned
      feed_is = rw ce

      pub line_unended : (c.feed + 1 ≡ length line → ⊥) → r ≡ refused_line Unended → r ≡ read_line s line
      unfolding read_line pick
      line_unended d h = rw (← be, not-false b t, le-leb (length line) 600 l, ← feed_is, ne_eqb (c.feed + 1) (length line) d) h

      pub line_text : c.feed + 1 ≡ length line → r ≡ read_text s (take c.feed line) → r ≡ read_line s line
      unfolding read_line pick
      line_text d h = rw (← be, not-false b t, le-leb (length line) 600 l, ← feed_is, eq-eqb (c.feed + 1) (length line) d, ← until_take 10 line, ← feed_is) h
