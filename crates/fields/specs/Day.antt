-- "day as YYYYMMDD in the Gregorian calendar (not eight digits is 5; no such date, or year 0000, is 6)"
use Rattle.std.specs.Prelude.{ℕ, ◌/◌, ◌%◌, ◌≤◌, ◌<◌, ◌≡◌, Bool, not, ◌&&◌, ◌||◌, List, eqb, Option, Some, None, Result, Err}
use Rattle.units.specs.Within.{within}
use Rattle.fields.specs.Digits.{pick, fixed_in}
use Rattle.fields.specs.Text.{field_at, next_at}
use Rattle.fields.specs.declared.field.Fault.{Fault}
use Rattle.fields.specs.declared.field.Field.{Field}
use Rattle.fields.specs.declared.field.Fault.TheVariants.{Form, Range}
use Rattle.fields.specs.Field.{value}

abbrev pub day_digits : ℕ
day_digits = 8

-- every fourth year, but of the hundreds only every fourth
abbrev pub is_leap : ℕ → Bool
is_leap year = eqb (year % 4) 0 && (not (eqb (year % 100) 0) || eqb (year % 400) 0)

unfoldable pub days_in : ℕ → ℕ → ℕ
days_in year month = pick (eqb month 2) (pick (is_leap year) 29 28) (pick (eqb month 4 || eqb month 6 || eqb month 9 || eqb month 11) 30 31)

-- the number of YYYYMMDD in its parts
abbrev pub year_of : ℕ → ℕ
year_of n = n / 10000

abbrev pub month_of : ℕ → ℕ
month_of n = n / 100 % 100

abbrev pub day_of : ℕ → ℕ
day_of n = n % 100

-- A DATE: years 0001 to 9999, also before 1582
unfoldable pub date_fits : ℕ → Bool
date_fits n = within 1 9999 (year_of n) && within 1 12 (month_of n) && within 1 (days_in (year_of n) (month_of n)) (day_of n)

-- the same clause by clause: `date_exact` of proofs/Dates.antt
pub record Date (n : ℕ) : Type 0 where
  pub year : (1 ≤ year_of n) × (year_of n ≤ 9999)
  pub month : (1 ≤ month_of n) × (month_of n ≤ 12)
  pub day : (1 ≤ day_of n) × (day_of n ≤ days_in (year_of n) (month_of n))

-- an earlier day: by the year, then the month, then the day
pub data Earlier (a b : ℕ) : Type 0 where
  by_year : year_of a < year_of b → Earlier a b
  by_month : year_of a ≡ year_of b → month_of a < month_of b → Earlier a b
  by_day : year_of a ≡ year_of b → month_of a ≡ month_of b → day_of a < day_of b → Earlier a b

-- form, then date; `next` goes with the number
unfoldable pub day_judged : ℕ → Option ℕ → Result Field Fault
day_judged next (Some n) = pick (date_fits n) (value n next) (Err Range)
day_judged next None = Err Form

-- what bytes say as a day
unfoldable pub day_in : ℕ → List ℕ → Result Field Fault
day_in next cs = day_judged next (fixed_in 10 day_digits 0 cs)

-- the field that starts at a place, as a day
abbrev pub day_at : List ℕ → ℕ → Result Field Fault
day_at text at = day_in (next_at text at) (field_at text at)
