-- A message and the numbers of its line: which number stands where in the value, and which of the value where in the line.
use Rattle.std.specs.Prelude.{ℕ, ◌+◌, ◌*◌, ◌%◌, ◌^◌, Bool, true, false, List, [], ◌∷◌, ◌++◌, ltb, Float, get_or}
use Rattle.std.specs.Int.Count.{ones}
use Rattle.std.specs.Float.{nan}
use Rattle.units.specs.declared.estimate.Estimate.{Estimate}
use Rattle.units.specs.declared.settings.Group.{Group}
use Rattle.units.specs.Limits.{runs_top}
use Rattle.units.specs.Mask.{in_mask}
use Rattle.units.specs.Pick.{pick}
use Rattle.floats.specs.Bits.{bits_of, float_of, nought}
use Rattle.floats.specs.Ranges.{blank, no_estimate}
use Rattle.message.specs.declared.head.Head.{Head}
use Rattle.message.specs.declared.head.Head.TheVariants.{Reading, Query, Reply, Advert, Update, Vote, Setpoints, Due, CollectingEnds, VotingEnds, Floor, Start, Refused}
use Rattle.message.specs.declared.value.Message.{Message}
use Rattle.message.specs.Head.{carried}
use Rattle.lines.specs.declared.kind.Kind.{Kind}
use Rattle.lines.specs.declared.kind.Kind.TheVariants.{Reading as OfReading, Query as OfQuery, Reply as OfReply, Advert as OfAdvert, Update as OfUpdate, Vote as OfVote, Setpoints as OfSetpoints, Due as OfDue, CollectingEnds as OfCollectingEnds, VotingEnds as OfVotingEnds, Floor as OfFloor, Start as OfStart, Refused as OfRefused, Sizes, Filter, Run}
use Rattle.lines.specs.Lists.{column, joined}

-- FROM A LINE'S NUMBERS TO A MESSAGE
-- a number of 32 bits, as every label, mask and raw in its range is
abbrev pub word : ℕ → ℕ
word n = n % 4294967296

-- the head of a line that begins with a, b, c, d; of no message where the kind is a setting's
unfoldable pub head_of : Kind → ℕ → ℕ → ℕ → ℕ → Head
head_of OfReading a b c d = Reading (record { 0 = word a }) b (word c)
head_of OfQuery a b c d = Query a (record { 0 = word b }) (word c)
head_of OfReply a b c d = Reply a (record { 0 = word b }) (word c)
head_of OfAdvert a b c d = Advert a (record { 0 = word b })
head_of OfUpdate a b c d = Update a (record { 0 = word b })
head_of OfVote a b c d = Vote a (record { 0 = word b }) (record { mask = word d; state = record { 0 = word c } })
head_of OfSetpoints a b c d = Setpoints a (record { 0 = word b }) (record { mask = word d; state = record { 0 = word c } })
head_of OfDue a b c d = Due (record { 0 = word a })
head_of OfCollectingEnds a b c d = CollectingEnds (record { 0 = word a })
head_of OfVotingEnds a b c d = VotingEnds (record { 0 = word a })
head_of OfFloor a b c d = Floor (record { 0 = word a })
head_of OfStart a b c d = Start a (record { 0 = word b })
head_of OfRefused a b c d = Refused (word a)
head_of Sizes a b c d = Refused 3
head_of Filter a b c d = Refused 3
head_of Run a b c d = Refused 3

-- a number where it counts, else 0; one more where it counts
abbrev pub pick_word : Bool → ℕ → ℕ
pick_word true n = word n
pick_word false n = 0

abbrev pub tally : Bool → ℕ → ℕ
tally true n = n + 1
tally false n = n

-- "one raw per set bit, lowest run first": run i's comes after those of the runs below it
abbrev pub reading_in : ℕ → List ℕ → ℕ → ℕ
reading_in mask vs i = pick_word (in_mask mask i) (get_or vs (3 + ones (mask % 2 ^ i)) 0)

-- "x and P for run 0, run 1 and so on"
abbrev pub estimate_in : ℕ → List ℕ → ℕ → Estimate
estimate_in n vs i = pick (ltb i n) (record { x = float_of (get_or vs (2 + 2 * i) 0); variance = float_of (get_or vs (3 + 2 * i) 0) }) blank

-- "m targets"
abbrev pub target_in : ℕ → List ℕ → ℕ → Float
target_in n vs i = pick (ltb i n) (float_of (get_or vs (4 + i) 0)) nought

-- a head, and the arrays that it carries
unfoldable pub message_with : Group → Head → List ℕ → Message
message_with s head vs = record {
  head = head;
  readings = column (reading_in (carried s head).readings vs) runs_top;
  estimates = column (estimate_in (carried s head).estimates vs) runs_top;
  targets = column (target_in (carried s head).targets vs) runs_top;
}

abbrev pub message_of : Group → Kind → List ℕ → Message
message_of s kind vs = message_with s (head_of kind (get_or vs 0 0) (get_or vs 1 0) (get_or vs 2 0) (get_or vs 3 0)) vs

-- FROM A MESSAGE TO ITS LINE'S NUMBERS
unfoldable pub kind_is : Head → Kind
kind_is (Reading label run raw) = OfReading
kind_is (Query sender label mask) = OfQuery
kind_is (Reply sender label mask) = OfReply
kind_is (Advert sender state) = OfAdvert
kind_is (Update sender state) = OfUpdate
kind_is (Vote sender label digest) = OfVote
kind_is (Setpoints sender label digest) = OfSetpoints
kind_is (Due label) = OfDue
kind_is (CollectingEnds label) = OfCollectingEnds
kind_is (VotingEnds label) = OfVotingEnds
kind_is (Floor label) = OfFloor
kind_is (Start own floor) = OfStart
kind_is (Refused number) = OfRefused

unfoldable pub head_values : Head → List ℕ
head_values (Reading label run raw) = label.0 ∷ run ∷ raw ∷ []
head_values (Query sender label mask) = sender ∷ label.0 ∷ mask ∷ []
head_values (Reply sender label mask) = sender ∷ label.0 ∷ mask ∷ []
head_values (Advert sender state) = sender ∷ state.0 ∷ []
head_values (Update sender state) = sender ∷ state.0 ∷ []
head_values (Vote sender label digest) = sender ∷ label.0 ∷ digest.state.0 ∷ digest.mask ∷ []
head_values (Setpoints sender label digest) = sender ∷ label.0 ∷ digest.state.0 ∷ digest.mask ∷ []
head_values (Due label) = label.0 ∷ []
head_values (CollectingEnds label) = label.0 ∷ []
head_values (VotingEnds label) = label.0 ∷ []
head_values (Floor label) = label.0 ∷ []
head_values (Start own floor) = own ∷ floor.0 ∷ []
head_values (Refused number) = number ∷ []

abbrev pub raw_of : ℕ → List ℕ → ℕ → List ℕ
raw_of mask readings i = pick (in_mask mask i) (get_or readings i 0 ∷ []) []

abbrev pub floats_of : List Estimate → ℕ → List ℕ
floats_of estimates i = bits_of (get_or estimates i no_estimate).x ∷ bits_of (get_or estimates i no_estimate).variance ∷ []

abbrev pub target_of : List Float → ℕ → List ℕ
target_of targets i = bits_of (get_or targets i nan) ∷ []

-- the head's numbers, then the raws of the mask's runs, the floats of so many runs, the targets of so many runs
unfoldable pub numbers_of : Group → Message → List ℕ
numbers_of s a =
    head_values a.head
    ++ (joined (raw_of (carried s a.head).readings a.readings) runs_top
    ++ (joined (floats_of a.estimates) (carried s a.head).estimates
    ++ joined (target_of a.targets) (carried s a.head).targets))
