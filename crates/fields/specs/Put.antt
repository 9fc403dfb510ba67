-- Putting bytes into a lent buffer: whole where there is room, and nothing at all where there is none.
use Rattle.std.specs.Prelude.{ℕ, ◌+◌, List, [], Bool, length, leb}
use Rattle.std.proofs.lemmas.List.Edits.{sets}
use Rattle.fields.specs.Digits.{pick}
use Rattle.fields.specs.Field.{limit, spelled}
use Rattle.fields.specs.declared.spelling.Spelling.{Spelling}

abbrev pub has_room : List ℕ → ℕ → List ℕ → Bool
has_room buf at s = leb (at + length s) (length buf)

-- the buffer after bytes were put from a place on
unfoldable pub put : List ℕ → ℕ → List ℕ → List ℕ
put buf at s = pick (has_room buf at s) (sets buf at s) buf

-- the place after them
unfoldable pub put_end : List ℕ → ℕ → List ℕ → ℕ
put_end buf at s = pick (has_room buf at s) (at + length s) at

-- what is put for a number: its spelling, and nothing above the spelling's limit
unfoldable pub written : Spelling → ℕ → List ℕ
written sp n = pick (leb n (limit sp)) (spelled sp n) []
