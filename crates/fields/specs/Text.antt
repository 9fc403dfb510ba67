-- "Fields are parted by one tab, a line ends in one line feed": a text, its fields, and the place of its line feed.
use Rattle.std.specs.Prelude.{ℕ, suc, ◌+◌, List, [], ◌∷◌, ◌++◌, Bool, true, false, ◌&&◌, length, drop, eqb}
use Rattle.fields.specs.Digits.{pick}
use Rattle.fields.specs.declared.text.Scan.{Scan}

abbrev pub tab : ℕ
tab = 9

abbrev pub line_feed : ℕ
line_feed = 10

-- the bytes before the first b
unfoldable pub until : ℕ → List ℕ → List ℕ
until b [] = []
until b (c ∷ cs) = pick (eqb c b) [] (c ∷ until b cs)

-- the bytes before the first tab
abbrev pub first_field : List ℕ → List ℕ
first_field cs = until tab cs

-- the fields after it, one for each tab
unfoldable pub later_fields : List ℕ → List (List ℕ)
later_fields [] = []
later_fields (c ∷ cs) = pick (eqb c tab) (first_field cs ∷ later_fields cs) (later_fields cs)

abbrev pub fields_of : List ℕ → List (List ℕ)
fields_of cs = first_field cs ∷ later_fields cs

-- fields, each after its tab
unfoldable pub tabbed : List (List ℕ) → List ℕ
tabbed [] = []
tabbed (f ∷ fs) = tab ∷ f ++ tabbed fs

-- b is none of the bytes; of no field
unfoldable pub lacks : ℕ → List ℕ → Bool
lacks b [] = true
lacks b (c ∷ cs) = pick (eqb c b) false (lacks b cs)

unfoldable pub all_lack : ℕ → List (List ℕ) → Bool
all_lack b [] = true
all_lack b (f ∷ fs) = lacks b f && all_lack b fs

-- the bytes start with b
unfoldable pub starts : ℕ → List ℕ → Bool
starts b [] = false
starts b (c ∷ cs) = eqb c b

-- a field ends before these bytes: there is none, or a tab
unfoldable pub ends : List ℕ → Bool
ends [] = true
ends (c ∷ cs) = eqb c tab

-- the field that starts at a place, and the place one past its end, where the next field starts
abbrev pub field_at : List ℕ → ℕ → List ℕ
field_at text at = first_field (drop at text)

abbrev pub next_at : List ℕ → ℕ → ℕ
next_at text at = at + length (field_at text at) + 1

unfoldable pub tabs_in : List ℕ → ℕ
tabs_in [] = 0
tabs_in (c ∷ cs) = pick (eqb c tab) (suc (tabs_in cs)) (tabs_in cs)

-- the tabs before the first line feed, and its place: the length where there is none
unfoldable pub scanned : List ℕ → Scan
scanned line = record { tabs = tabs_in (until line_feed line); feed = length (until line_feed line) }
