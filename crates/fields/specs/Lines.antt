-- "a line ends in one line feed": the lines of an input, and where the line at hand ends.
use Rattle.std.specs.Prelude.{ℕ, ◌+◌, List, [], ◌∷◌, ◌++◌, eqb, length, take}
use Rattle.units.specs.Pick.{pick}
use Rattle.fields.specs.Text.{line_feed, until, lacks}

-- THE LINES OF AN INPUT: each up to its line feed and with it; what comes after the last line feed is a line too, unended, where it is anything
abbrev pub onto : ℕ → List (List ℕ) → List (List ℕ)
onto b [] = (b ∷ []) ∷ []
onto b (l ∷ ls) = (b ∷ l) ∷ ls

unfoldable pub lines_of : List ℕ → List (List ℕ)
lines_of [] = []
lines_of (b ∷ bs) = pick (eqb b line_feed) ((b ∷ []) ∷ lines_of bs) (onto b (lines_of bs))

-- the bytes after an input's last line feed
unfoldable pub unfinished : List ℕ → List ℕ
unfinished [] = []
unfinished (b ∷ bs) = pick (lacks line_feed (b ∷ bs)) (b ∷ bs) (unfinished bs)

-- the place of a piece's first line feed, its length where there is none
abbrev pub feed_at : List ℕ → ℕ
feed_at piece = length (until line_feed piece)

-- the line that begins with p and ends at a piece's first line feed
abbrev pub line_at : List ℕ → List ℕ → List ℕ
line_at p piece = p ++ take (feed_at piece + 1) piece
