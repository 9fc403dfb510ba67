-- WHAT IS KEPT of an export that comes in blocks: its first 307,201 bytes, and the count of all its lines.
use Rattle.std.specs.Prelude.{ℕ, ◌+◌, ◌-◌, ◌*◌, min, ◌≡◌, Bool, false, not, List, [], ◌∷◌, eqb, leb, length, take}
use Rattle.units.specs.Limits.{line_top}
use Rattle.units.specs.Pick.{pick}
use Rattle.fields.specs.Lines.{lines_of}
use Rattle.fields.specs.Put.{put, put_end}
use Rattle.fields.specs.Text.{line_feed}
use Rattle.store.specs.declared.count.Count.{Count}
use Rattle.store.specs.declared.kept.Kept.{Kept}
use Rattle.store.specs.Rows.{rows_top}

-- lines counted byte by byte, up to 513: a byte that follows a line feed, and the first, begins one
abbrev pub more_lines : ℕ → ℕ
more_lines lines = pick (leb lines rows_top) (lines + 1) lines

abbrev pub count_start : Count
count_start = record { lines = 0; within = false }

abbrev pub count_byte : Count → ℕ → Count
count_byte k b = record { lines = pick k.within k.lines (more_lines k.lines); within = not (eqb b line_feed) }

unfoldable pub counted_on : Count → List ℕ → Count
counted_on k [] = k
counted_on k (b ∷ bs) = counted_on (count_byte k b) bs

-- whether bytes end within a line
unfoldable pub is_open : List ℕ → Bool
is_open [] = false
is_open (b ∷ []) = not (eqb b line_feed)
is_open (b ∷ c ∷ cs) = is_open (c ∷ cs)

-- a count of these bytes: 513 stands for all above 512
pub record Counts (k : Count) (bytes : List ℕ) : Type 0 where
  pub lines : k.lines ≡ min (rows_top + 1) (length (lines_of bytes))
  pub within : k.within ≡ is_open bytes

-- one byte more than 512 lines of 600 bytes
abbrev pub keep_top : ℕ
keep_top = rows_top * line_top + 1

abbrev pub kept_start : Kept
kept_start = record { len = 0; count = count_start }

-- how many more bytes are kept where so many are and the lent buffer has so many places
abbrev pub kept_room : ℕ → ℕ → ℕ
kept_room len places = min places keep_top - len

abbrev pub kept_part : Kept → List ℕ → List ℕ → List ℕ
kept_part k block buf = take (kept_room k.len (length buf)) block

-- after a further block
unfoldable pub kept_on : Kept → List ℕ → List ℕ → Kept
kept_on k block buf = record { len = put_end buf k.len (kept_part k block buf); count = counted_on k.count block }

unfoldable pub kept_buffer : Kept → List ℕ → List ℕ → List ℕ
kept_buffer k block buf = put buf k.len (kept_part k block buf)

-- after blocks one after the other
unfoldable pub kept_all : Kept → List (List ℕ) → List ℕ → Kept
kept_all k [] buf = k
kept_all k (block ∷ blocks) buf = kept_all (kept_on k block buf) blocks (kept_buffer k block buf)

unfoldable pub buffer_all : Kept → List (List ℕ) → List ℕ → List ℕ
buffer_all k [] buf = buf
buffer_all k (block ∷ blocks) buf = buffer_all (kept_on k block buf) blocks (kept_buffer k block buf)

-- what is kept in a buffer is of this export (`keeps_on`; `keeps_all`: after any blocks)
pub record Keeps (k : Kept) (buf export : List ℕ) : Type 0 where
  pub len : k.len ≡ length (take keep_top export)
  pub bytes : take k.len buf ≡ take keep_top export
  pub count : Counts k.count export
