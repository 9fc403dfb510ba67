-- A field: what its bytes say in each spelling, the one spelling of each number, and the order of its checks.
use Rattle.std.specs.Prelude.{ℕ, suc, ◌+◌, ◌-◌, ◌*◌, ◌^◌, List, [], ◌∷◌, Bool, true, false, ◌&&◌, leb, eqb, length, take, drop, Option, Some, None, Result, Ok, Err}
use Rattle.units.specs.declared.refusal.Refusal.{Refusal}
use Rattle.units.specs.declared.refusal.Refusal.TheVariants.{Form as NoForm, Range as NoRange}
use Rattle.units.specs.Limits.{label_top, factor_digits, factor_scale}
use Rattle.fields.specs.Digits.{pick, value_from, fixed_in, fixed, decimal, digits_of}
use Rattle.fields.specs.Text.{field_at, next_at}
use Rattle.fields.specs.declared.field.Fault.{Fault}
use Rattle.fields.specs.declared.field.Field.{Field}
use Rattle.fields.specs.declared.field.Fault.TheVariants.{Form, Range}
use Rattle.fields.specs.declared.spelling.Spelling.{Spelling}
use Rattle.fields.specs.declared.spelling.Spelling.TheVariants.{Decimal, Hex4, Hex16, Factor}

-- a field that is read: its number, and where the next field starts
abbrev pub value : ℕ → ℕ → Result Field Fault
value n next = Ok (record { n = n; next = next })

-- the refusal for a field that is none: 5 for its form, 6 for its range
abbrev pub refusal_of : Fault → Refusal
refusal_of Form = NoForm
refusal_of Range = NoRange

abbrev pub point : ℕ
point = 46

-- "no sign and no leading zero but 0 itself"
unfoldable pub plain : List ℕ → Bool
plain [] = false
plain (c ∷ []) = true
plain (c ∷ d ∷ cs) = pick (eqb c 48) false true

unfoldable pub decimal_said : List ℕ → Option ℕ
decimal_said cs = pick (plain cs) (value_from 10 0 cs) None

-- "one digit, a point and exactly four digits: 1.0047 .. is held as 10047"
unfoldable pub factor_said : List ℕ → Option ℕ
factor_said [] = None
factor_said (c ∷ []) = None
factor_said (c ∷ p ∷ cs) = pick (eqb p point) (fixed_in 10 (suc factor_digits) 0 (c ∷ cs)) None

-- the exact number that a field's bytes say, however large
unfoldable pub said_by : Spelling → List ℕ → Option ℕ
said_by Decimal cs = decimal_said cs
said_by Hex4 cs = fixed_in 16 4 0 cs
said_by Hex16 cs = fixed_in 16 16 0 cs
said_by Factor cs = factor_said cs

-- a point after the first digit
unfoldable pub pointed : List ℕ → List ℕ
pointed [] = []
pointed (c ∷ cs) = c ∷ point ∷ cs

-- THE ONE SPELLING of a number
unfoldable pub spelled : Spelling → ℕ → List ℕ
spelled Decimal n = decimal n
spelled Hex4 n = fixed 16 4 n
spelled Hex16 n = fixed 16 16 n
spelled Factor n = pointed (fixed 10 (suc factor_digits) n)

-- the largest number that a field of a spelling can have
abbrev pub limit : Spelling → ℕ
limit Decimal = label_top
limit Hex4 = 16 ^ 4 - 1
limit Hex16 = 16 ^ 16 - 1
limit Factor = 10 * factor_scale - 1

-- low..high, and no more than the limit
unfoldable pub fits : Spelling → ℕ → ℕ → ℕ → Bool
fits sp low high n = leb low n && leb n high && leb n (limit sp)

-- "form first", then range; `next` goes with the number
unfoldable pub judge : Spelling → ℕ → ℕ → ℕ → Option ℕ → Result Field Fault
judge sp low high next (Some n) = pick (fits sp low high n) (value n next) (Err Range)
judge sp low high next None = Err Form

-- a field's bytes, with the place where the next field starts
unfoldable pub read_field : Spelling → ℕ → ℕ → ℕ → List ℕ → Result Field Fault
read_field sp low high next cs = judge sp low high next (said_by sp cs)

-- the field of a text that starts at a place
unfoldable pub read_at : List ℕ → ℕ → Spelling → ℕ → ℕ → Result Field Fault
read_at text at sp low high = read_field sp low high (next_at text at) (field_at text at)

-- the bytes that a spelling can have where others start with it: sixteen digits at the most, or a fixed number of bytes; a factor is read as a whole field alone
unfoldable pub start_of : Spelling → List ℕ → List ℕ
start_of Decimal cs = digits_of 16 cs
start_of Hex4 cs = take 4 cs
start_of Hex16 cs = take 16 cs
start_of Factor cs = []

-- the number whose spelling stands at a place, whatever comes after it, and the place after it
unfoldable pub read_here : List ℕ → ℕ → Spelling → ℕ → ℕ → Result Field Fault
read_here text at sp low high = read_field sp low high (at + length (start_of sp (drop at text))) (start_of sp (drop at text))
