-- What the reader's own functions promise each other about a cursor in a text and the numbers read so far.
use Rattle.std.specs.Prelude.{ℕ, ◌-◌, ◌≤◌, ◌<◌, ◌≡◌, List, length, get_or, take, drop, Result, Ok, Err}
use Rattle.units.specs.declared.refusal.Refusal.{Refusal}
use Rattle.units.specs.Refusal.{Verdict}
use Rattle.units.specs.declared.settings.Group.{Group}
use Rattle.fields.specs.Text.{fields_of, later_fields}
use Rattle.lines.specs.declared.kind.Kind.{Kind}
use Rattle.lines.specs.Reading.{Got, values, stop, limit_after, read_all}

-- the field of number k, from 0, starts at a place, if there is one
abbrev pub Here : List ℕ → ℕ → ℕ → Type 0
Here text at k = k < length (later_fields text) → fields_of (drop at text) ≡ drop k (later_fields text)

-- 0 from place k on
abbrev pub Rest : List ℕ → ℕ → Type 0
Rest v k = (i : ℕ) → k ≤ i → get_or v i 0 ≡ 0

-- the numbers, where nothing is refused
abbrev pub got_of : {A : Type 0} → Result A Refusal → List ℕ → Got
got_of (Ok x) vs = values vs
got_of (Err why) vs = stop why

pub record Walked (kind : Kind) (s : Group) (text v w : List ℕ) (from to : ℕ) (r : Result ℕ Refusal) : Type 0 where
  pub got : got_of r (take to w) ≡ read_all (limit_after kind s) (take from v) (take (to - from) (drop from (later_fields text)))
  pub here : (at : ℕ) → r ≡ Ok at → Here text at to
  pub rest : (at : ℕ) → r ≡ Ok at → Rest w to
  pub long : length w ≡ 34

-- all numbers are read: as many as there are fields
pub record Filled (kind : Kind) (s : Group) (text w : List ℕ) (all : Got) (r : Verdict) : Type 0 where
  pub got : got_of r (take (length (later_fields text)) w) ≡ all
  pub rest : r ≡ Ok tt → Rest w (length (later_fields text))
  pub long : length w ≡ 34
