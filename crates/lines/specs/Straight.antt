-- What the functions promise each other that read a line straight on.
use Rattle.std.specs.Prelude.{ℕ, ◌+◌, ◌≤◌, ◌≡◌, List, [], ◌∷◌, length, get_or, take, drop, Result}
use Rattle.units.specs.declared.settings.Group.{Group}
use Rattle.fields.specs.declared.field.Fault.{Fault}
use Rattle.fields.specs.declared.field.Field.{Field}
use Rattle.fields.specs.Field.{value, read_here}
use Rattle.fields.specs.Text.{tab, tabbed}
use Rattle.lines.specs.declared.kind.Kind.{Kind}
use Rattle.fields.specs.declared.spelling.Limit.{Limit}
use Rattle.lines.specs.Reading.{values, limit_after, read_all}
use Rattle.lines.specs.Walk.{Rest}

-- before a place stand a letter and k texts, each after its tab, which say the first k numbers
pub record Trod (kind : Kind) (s : Group) (input v : List ℕ) (k at : ℕ) : Type 0 where
  pub texts : List (List ℕ)
  pub passed : take at input ≡ get_or input 0 0 ∷ tabbed texts
  pub got : read_all (limit_after kind s) [] texts ≡ values (take k v)
  pub inside : at ≤ length input
  pub few : k ≤ 34
  pub long : length v ≡ 34
  pub rest : Rest v k

-- a number that was read stands after a tab
abbrev pub AfterTab : List ℕ → ℕ → Limit → Result Field Fault → Type 0
AfterTab input at l r = (n next : ℕ) → r ≡ value n next → (drop at input ≡ tab ∷ drop (at + 1) input) × (read_here input (at + 1) l.spelling l.low l.high ≡ value n next)
