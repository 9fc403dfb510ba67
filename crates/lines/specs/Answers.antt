-- WHAT THE ANSWERS ARE, by document 01's numbers and their values: of the writer, and of the settings line by line. Laws in proofs/Answers.
use Rattle.std.specs.Prelude.{ℕ, ◌+◌, ◌≤◌, ◌<◌, ◌≡◌, Bool, true, false, List, [], ◌∷◌, ◌++◌, length, Ok}
use Rattle.units.specs.declared.refusal.Refusal.{Refusal}
use Rattle.units.specs.Refusal.{number_of, values_of}
use Rattle.fields.specs.declared.spelling.Spelling.TheVariants.{Decimal}
use Rattle.fields.specs.Put.{written}
use Rattle.fields.specs.Text.{tab, line_feed}
use Rattle.lines.specs.declared.settle.Wanted.TheVariants.{More}
use Rattle.lines.specs.declared.settle.Settled.{Settled}
use Rattle.lines.specs.declared.settle.Settling.{Settling}
use Rattle.lines.specs.Writing.{Written, written_number, written_values}
use Rattle.lines.specs.Settling.{settling_start, settle_line, standing_number, standing_values}

-- THE WRITER: 6 where the value is out of range; 16 where it is in range and the buffer is shorter than its line; else 0 and the line's length
pub record WriterSays (fit : Bool) (line buf : List ℕ) (r : Written) : Type 0 where
  pub six : fit ≡ false → (written_number r ≡ 6) × (written_values r ≡ [])
  pub sixteen : fit ≡ true → length buf < length line → (written_number r ≡ 16) × (written_values r ≡ [])
  pub done : fit ≡ true → length line ≤ length buf → (written_number r ≡ 0) × (written_values r ≡ length line ∷ [])

-- "X number (1..16)": the letter, a tab, the number's digits, a line feed
abbrev pub x_line : ℕ → List ℕ
x_line n = 88 ∷ tab ∷ written Decimal n ++ (line_feed ∷ [])

-- SETTINGS THAT WANT MORE: from the start, whatever lines, each taken and none of them the last
pub data Taking : Settling → Type 0 where
  begun : Taking settling_start
  more : {st : Settling} (line : List ℕ) → Taking st → (settle_line st line).answer ≡ Ok More → Taking (settle_line st line).next

-- the line that they wait for: 1 to 2 + m, where m is 0 until G is read
abbrev pub runs_read : Settling → ℕ
runs_read st = st.settings.numbers.group.m

pub record Waiting (st : Settling) : Type 0 where
  pub first : 1 ≤ st.line
  pub last : st.line ≤ 2 + runs_read st
  pub runs : runs_read st ≤ 16
  pub sized : 2 ≤ st.line → 1 ≤ runs_read st

-- "15 Settings: settings refused: line number from 1, and 1..6 as reason"
pub record Fifteen (line : ℕ) (why : Refusal) : Type 0 where
  pub reason : ℕ
  pub number : number_of why ≡ 15
  pub values : values_of why ≡ line ∷ reason ∷ []
  pub low : 1 ≤ reason
  pub high : reason ≤ 6

-- A LINE OF THE SETTINGS: taken with more to come, taken as the last, number 2 + m, or refused by 15, with nothing taken in
pub data SettlingSays (st : Settling) (r : Settled) : Type 0 where
  goes_on : standing_number r.answer ≡ 0 → standing_values r.answer ≡ 0 ∷ [] → r.next.line ≡ st.line + 1 → st.line < 2 + runs_read r.next → SettlingSays st r
  is_whole : standing_number r.answer ≡ 0 → standing_values r.answer ≡ 1 ∷ [] → r.next.line ≡ st.line + 1 → st.line ≡ 2 + runs_read r.next → SettlingSays st r
  refuses : (reason : ℕ) → standing_number r.answer ≡ 15 → standing_values r.answer ≡ st.line ∷ reason ∷ [] → 1 ≤ reason → reason ≤ 6 → r.next ≡ st → SettlingSays st r

-- SETTINGS REFUSED at the line they were at: 15, its number, and a reason
pub record SettingsRefused (st : Settling) (why : Refusal) : Type 0 where
  pub said : Fifteen st.line why
  pub at : Waiting st
