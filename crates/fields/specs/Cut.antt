-- WHAT IS HELD of a line that has not ended: its first 601 bytes, enough to know that it is too long.
use Rattle.std.specs.Prelude.{ℕ, ◌+◌, ◌-◌, ◌≡◌, true, false, List, ◌∷◌, ◌++◌, eqb, ltb, length, take, drop, replicate}
use Rattle.units.specs.Limits.{line_top}
use Rattle.units.specs.Pick.{pick}
use Rattle.fields.specs.Lines.{feed_at, line_at, lines_of}
use Rattle.fields.specs.Put.{put, put_end}
use Rattle.fields.specs.Text.{line_feed, lacks}
use Rattle.fields.specs.declared.cut.Carry.{Carry}
use Rattle.fields.specs.declared.cut.Cut.{Cut}

abbrev pub carry_top : ℕ
carry_top = line_top + 1

unfoldable pub carry_start : Carry
carry_start = record { len = 0; bytes = replicate carry_top 0 }

abbrev pub emptied : Carry → Carry
emptied k = record { len = 0; bytes = k.bytes }

-- how many of n more bytes are held
unfoldable pub fitting : ℕ → ℕ → ℕ
fitting len n = pick (ltb n (carry_top - len)) n (carry_top - len)

unfoldable pub held_with : Carry → List ℕ → Carry
held_with k more = record {
  len = put_end k.bytes k.len (take (carry_top - k.len) more);
  bytes = put k.bytes k.len (take (carry_top - k.len) more);
}

-- the line that ends with these bytes
unfoldable pub line_in : Carry → List ℕ → List ℕ
line_in k more = pick (eqb k.len 0) more (take (held_with k more).len (held_with k more).bytes)

-- the line at hand: what is held, and a piece up to its first line feed
abbrev pub line_ending : Carry → List ℕ → List ℕ
line_ending k piece = line_in k (take (feed_at piece + 1) piece)

-- A PIECE CUT where the line at hand ends: up to its first line feed and with it, or all of it
unfoldable pub cut_at : Carry → List ℕ → Cut
cut_at k piece =
    pick (eqb (feed_at piece) (length piece)) (record { carry = held_with k piece; took = length piece; ended = false })
    (record { carry = held_with k (take (feed_at piece + 1) piece); took = feed_at piece + 1; ended = true })

-- what is held is the line p so far
pub record Holds (k : Carry) (p : List ℕ) : Type 0 where
  pub len : k.len ≡ length (take carry_top p)
  pub size : length k.bytes ≡ carry_top
  pub bytes : take k.len k.bytes ≡ take carry_top p

-- A STREAM CUT INTO ITS LINES, where p is read of the line at hand: a piece without a line feed goes on with that line,
-- and one with it ends the line, which is the next of the stream's lines
pub record GoesOn (p piece : List ℕ) (x : Cut) : Type 0 where
  pub all : x.took ≡ length piece
  pub holds : Holds x.carry (p ++ piece)
  pub unended : lacks line_feed (p ++ piece) ≡ true

pub record Ends (p piece : List ℕ) (x : Cut) : Type 0 where
  pub holds : Holds x.carry (line_at p piece)
  pub line : (rest : List ℕ) → lines_of (p ++ (piece ++ rest)) ≡ line_at p piece ∷ lines_of (drop x.took piece ++ rest)
