-- The table of the lines, from document 01's list of lines and its table of quantities.
use Rattle.std.specs.Prelude.{ℕ, ◌+◌, ◌-◌, ◌*◌, ◌%◌, min, Bool, true, false, eqb, Option, Some, None}
use Rattle.std.specs.Int.Count.{ones}
use Rattle.units.specs.declared.settings.Group.{Group}
use Rattle.units.specs.Limits.{controllers_top, runs_top, label_top, raw_top, factor_low, factor_top, weight_top, noise_top, first_top, number_top}
use Rattle.units.specs.Mask.{mask_end}
use Rattle.units.specs.Pick.{pick}
use Rattle.floats.specs.Bits.{x_bits, variance_bits, target_bits}
use Rattle.fields.specs.declared.spelling.Spelling.{Spelling}
use Rattle.fields.specs.declared.spelling.Spelling.TheVariants.{Decimal, Hex4, Hex16, Factor as InFactor}
use Rattle.lines.specs.declared.kind.Kind.{Kind}
use Rattle.lines.specs.declared.kind.Kind.TheVariants.{Reading, Query, Reply, Advert, Update, Vote, Setpoints, Due, CollectingEnds, VotingEnds, Floor, Start, Refused, Sizes, Filter, Run}
use Rattle.lines.specs.declared.table.Quantity.{Quantity}
use Rattle.lines.specs.declared.table.Quantity.TheVariants.{Sender, RunNumber, Round, State, Base, Mask, Raw, X, Variance, Target, Number, Controllers, Runs, Noise, First, Turn, Factor, Weight}
use Rattle.fields.specs.declared.spelling.Limit.{Limit}

-- M Q R A U D S C E V F B X G N K
abbrev pub letter_of : Kind → ℕ
letter_of Reading = 77
letter_of Query = 81
letter_of Reply = 82
letter_of Advert = 65
letter_of Update = 85
letter_of Vote = 68
letter_of Setpoints = 83
letter_of Due = 67
letter_of CollectingEnds = 69
letter_of VotingEnds = 86
letter_of Floor = 70
letter_of Start = 66
letter_of Refused = 88
letter_of Sizes = 71
letter_of Filter = 78
letter_of Run = 75

-- the kinds that are read as messages: "After the settings a line X, G, N or K is 3"
unfoldable pub kind_of : ℕ → Option Kind
unfolding pick
kind_of c =
    pick (eqb c 77) (Some Reading) (pick (eqb c 81) (Some Query) (pick (eqb c 82) (Some Reply) (pick (eqb c 65) (Some Advert)
    (pick (eqb c 85) (Some Update) (pick (eqb c 68) (Some Vote) (pick (eqb c 83) (Some Setpoints) (pick (eqb c 67) (Some Due)
    (pick (eqb c 69) (Some CollectingEnds) (pick (eqb c 86) (Some VotingEnds) (pick (eqb c 70) (Some Floor) (pick (eqb c 66) (Some Start) None)))))))))))

-- a row of four, the last of which stands at every later place too
abbrev pub alternate : Bool → Quantity → Quantity → Quantity
alternate true a b = a
alternate false a b = b

abbrev pub row : ℕ → Quantity → Quantity → Quantity → Quantity → Quantity
row k a b c d = alternate (eqb k 0) a (alternate (eqb k 1) b (alternate (eqb k 2) c d))

-- WHAT STANDS AT EACH PLACE, from 0; a line K has its certificate between places 0 and 1
unfoldable pub quantity_at : Kind → ℕ → Quantity
quantity_at Reading k = row k Round RunNumber Raw Raw
quantity_at Query k = row k Sender Round Mask Mask
quantity_at Reply k = row k Sender Round Mask Raw
quantity_at Advert k = row k Sender State State State
quantity_at Update k = row k Sender State (alternate (eqb (k % 2) 0) X Variance) (alternate (eqb (k % 2) 0) X Variance)
quantity_at Vote k = row k Sender Round Base Mask
quantity_at Setpoints k = row k Sender Round Base (alternate (eqb k 3) Mask Target)
quantity_at Due k = Round
quantity_at CollectingEnds k = Round
quantity_at VotingEnds k = Round
quantity_at Floor k = Round
quantity_at Start k = row k Sender State State State
quantity_at Refused k = Number
quantity_at Sizes k = row k Controllers Runs Runs Runs
quantity_at Filter k = row k Noise Noise First First
quantity_at Run k = row k Turn Factor Weight Weight

-- "A mask is four upper-case hex digits", "A float is the 16 upper-case hex digits of its bits"
abbrev pub spelling_of : Quantity → Spelling
spelling_of Mask = Hex4
spelling_of X = Hex16
spelling_of Variance = Hex16
spelling_of Target = Hex16
spelling_of Factor = InFactor
spelling_of Sender = Decimal
spelling_of RunNumber = Decimal
spelling_of Round = Decimal
spelling_of State = Decimal
spelling_of Base = Decimal
spelling_of Raw = Decimal
spelling_of Number = Decimal
spelling_of Controllers = Decimal
spelling_of Runs = Decimal
spelling_of Noise = Decimal
spelling_of First = Decimal
spelling_of Turn = Decimal
spelling_of Weight = Decimal

abbrev pub between : Spelling → ℕ → ℕ → Limit
between sp low high = record { spelling = sp; low = low; high = high }

-- THE RANGES. A base state label is below the line's own label; a run of the settings comes in its turn: `given` is that label or that turn
unfoldable pub limit_for : Quantity → Group → ℕ → Limit
limit_for Sender s given = between Decimal 0 (s.g - 1)
limit_for RunNumber s given = between Decimal 0 (s.m - 1)
limit_for Round s given = between Decimal 1 label_top
limit_for State s given = between Decimal 0 label_top
limit_for Base s given = between Decimal 0 (given - 1)
limit_for Mask s given = between Hex4 1 (mask_end s.m - 1)
limit_for Raw s given = between Decimal 0 raw_top
limit_for X s given = between Hex16 0 x_bits
limit_for Variance s given = between Hex16 0 variance_bits
limit_for Target s given = between Hex16 0 target_bits
limit_for Number s given = between Decimal 1 number_top
limit_for Controllers s given = between Decimal 1 controllers_top
limit_for Runs s given = between Decimal 1 runs_top
limit_for Noise s given = between Decimal 1 noise_top
limit_for First s given = between Decimal 1 first_top
limit_for Turn s given = between Decimal given given
limit_for Factor s given = between InFactor factor_low factor_top
limit_for Weight s given = between Decimal 1 weight_top

abbrev pub limit_of : Kind → ℕ → Group → ℕ → Limit
limit_of kind place s given = limit_for (quantity_at kind place) s given

-- sixteen runs at the most
abbrev pub runs_of : ℕ → ℕ
runs_of m = min m runs_top

-- HOW MANY NUMBERS a line has: R one raw for each of the sixteen bits of its mask that is set, U two floats for each run, S one
unfoldable pub count_of : Kind → Group → ℕ → ℕ
count_of Reading s mask = 3
count_of Query s mask = 3
count_of Reply s mask = 3 + ones (mask % 65536)
count_of Advert s mask = 2
count_of Update s mask = 2 + 2 * runs_of s.m
count_of Vote s mask = 4
count_of Setpoints s mask = 4 + runs_of s.m
count_of Due s mask = 1
count_of CollectingEnds s mask = 1
count_of VotingEnds s mask = 1
count_of Floor s mask = 1
count_of Start s mask = 2
count_of Refused s mask = 1
count_of Sizes s mask = 2
count_of Filter s mask = 3
count_of Run s mask = 3
