-- Document 01's table of refusals, 1 to 16, and behind it request 1's three: the number of each, and what 15 carries.
use Rattle.std.specs.Prelude.{ℕ, Bool, List, [], ◌∷◌, Result, Ok, Err}
use Rattle.units.specs.declared.refusal.Refusal.{Refusal}
use Rattle.units.specs.declared.refusal.Refusal.TheVariants.{Long, Unended, Kind, Fields, Form, Range, Own, Late, Closed, Other, Clash, Undecided, Lacking, Behind, Settings, Room, SameDay, NoneInForce, Full}
use Rattle.units.specs.Limits.{number_top}
use Rattle.units.specs.Within.{within}

abbrev pub number_of : Refusal → ℕ
number_of Long = 1
number_of Unended = 2
number_of Kind = 3
number_of Fields = 4
number_of Form = 5
number_of Range = 6
number_of Own = 7
number_of Late = 8
number_of Closed = 9
number_of Other = 10
number_of Clash = 11
number_of Undecided = 12
number_of Lacking = 13
number_of Behind = 14
number_of (Settings line reason) = 15
number_of Room = 16
number_of SameDay = 17
number_of NoneInForce = 18
number_of Full = 19

-- "19 Full .. 17 Same day, 18 None in force": given to an export of the store alone
abbrev pub of_store : Refusal → Bool
of_store why = within 17 19 (number_of why)

-- "`X` number (1..16)": a number of document 01's table. `is_number_exact` of proofs/Refusals.antt says that these are its refusals' numbers and no others.
abbrev pub is_number : ℕ → Bool
is_number n = within 1 number_top n

-- "line number from 1, and 1..6 as reason"
abbrev pub values_of : Refusal → List ℕ
values_of Long = []
values_of Unended = []
values_of Kind = []
values_of Fields = []
values_of Form = []
values_of Range = []
values_of Own = []
values_of Late = []
values_of Closed = []
values_of Other = []
values_of Clash = []
values_of Undecided = []
values_of Lacking = []
values_of Behind = []
values_of (Settings line reason) = line ∷ reason ∷ []
values_of Room = []
values_of SameDay = []
values_of NoneInForce = []
values_of Full = []

-- what an act says of itself: taken, or refused
abbrev pub Verdict : Type 0
Verdict = Result (Unit {0}) Refusal

-- no refusal has the number 0
-- the number of an answer: 0 where nothing is refused
abbrev pub answer_number : {A : Type 0} → Result A Refusal → ℕ
answer_number (Ok x) = 0
answer_number (Err why) = number_of why

abbrev pub verdict_number : Verdict → ℕ
verdict_number v = answer_number v
