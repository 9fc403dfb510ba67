-- Document 01's cases as rows of one table, and what it is for a row to hold.
use Rattle.std.specs.Prelude.{ℕ, ◌≡◌, Bool, true, false, List, [], ◌∷◌, ◌++◌, map, length, take, replicate, None, Ok, Some}
use Rattle.std.specs.Float.{binary64}
use Rattle.std.specs.Float.Ieee.{of_bits}
use Rattle.units.specs.declared.estimate.Estimate.{Estimate}
use Rattle.floats.specs.Bits.{of_whole}
use Rattle.filter.specs.Run.{measured, outcome, estimate_after}
use Rattle.vote.specs.declared.digest.Digest.{Digest}
use Rattle.vote.specs.Digest.{Ballot, Decision}
use Rattle.vote.specs.declared.votes.Seat.{Seat}
use Rattle.vote.specs.declared.votes.Votes.{Votes}
use Rattle.vote.specs.Vote.{Answers}

-- m, the label, the votes with those that are missing, and the column "Decided"
pub record VoteCase : Type 0 where
  pub m : ℕ
  pub label : ℕ
  pub votes : List Ballot
  pub verdict : Decision

-- a run that is in the chosen mask, with its z, or absent from it
pub data Part : Type 0 where
  chosen : ℕ → Part
  left : Part

-- a run's x and P, the round's n, q, r, raw and factor, and the x and P that come of it, as whole numbers and as bits
pub record RunCase : Type 0 where
  pub x : ℕ
  pub variance : ℕ
  pub n : ℕ
  pub q : ℕ
  pub r : ℕ
  pub raw : ℕ
  pub factor : ℕ
  pub part : Part
  pub new_x : ℕ
  pub new_variance : ℕ
  pub x_bits : ℕ
  pub variance_bits : ℕ

pub data Row : Type 0 where
  judged : VoteCase → Row
  run : RunCase → Row

-- ---- a case of the vote

abbrev pub seat_with : Ballot → Seat
seat_with b = record { ballot = b }

-- the votes of a case, in a group of as many controllers
abbrev pub votes_of : VoteCase → Votes
votes_of c =
    record {
      group = record { g = length c.votes; m = c.m };
      label = record { 0 = c.label };
      seats = take 7 (map seat_with c.votes ++ replicate 7 (seat_with None));
    }

-- ---- a case of computing

abbrev pub is_chosen : Part → Bool
is_chosen (chosen z) = true
is_chosen left = false

-- an estimate by its numbers, and by its bits
abbrev pub numbered : ℕ → ℕ → Estimate
numbered x variance = record { x = of_whole x; variance = of_whole variance }

abbrev pub spelt : ℕ → ℕ → Estimate
spelt x variance = record { x = of_bits binary64 x; variance = of_bits binary64 variance }

-- what the filter's definitions leave of the run
abbrev pub new_estimate : RunCase → Estimate
new_estimate c =
    estimate_after (numbered c.x c.variance)
    (outcome (numbered c.x c.variance) c.n c.q c.r (is_chosen c.part) c.raw c.factor)

-- the reading of a chosen run is measured as its z
abbrev pub Measures : RunCase → Part → Type 0
Measures c (chosen z) = measured c.raw c.factor ≡ of_whole z
Measures c left = Unit {0}

-- ---- every case

-- of votes: the verdict is what every completion has as its winner, or there is no such digest;
-- of a run: z, where it is chosen, and the new x and P are the filter's, bit for bit
abbrev pub Holds : Row → Type 0
Holds (judged c) = Answers (votes_of c) c.verdict
Holds (run c) =
    Measures c c.part
    × (new_estimate c ≡ numbered c.new_x c.new_variance)
    × (new_estimate c ≡ spelt c.x_bits c.variance_bits)

abbrev pub Each : List Row → Type 0
Each [] = Unit {0}
Each (r ∷ rs) = Holds r × Each rs

-- ---- the table

-- (mask, state label)
abbrev pub dg : ℕ → ℕ → Digest
dg mask state = record { mask = mask; state = record { 0 = state } }

abbrev pub v : ℕ → ℕ → Ballot
v mask state = Some (dg mask state)

-- "? for missing"
abbrev pub absent : Ballot
absent = None

abbrev pub for : ℕ → ℕ → Decision
for mask state = Ok (Some (dg mask state))

-- "Cases with m = 2, label 5"
abbrev pub five : List Ballot → Decision → Row
five s d = judged (record { m = 2; label = 5; votes = s; verdict = d })

-- "x 200000, P 96, n 4, q 1, r 300, raw 200000, factor 1.0047", chosen or absent, and the new x and P
abbrev pub one_run : Part → ℕ → ℕ → ℕ → ℕ → Row
one_run part new_x new_variance x_bits variance_bits =
    run
    (record {
      x = 200000;
      variance = 96;
      n = 4;
      q = 1;
      r = 300;
      raw = 200000;
      factor = 10047;
      part = part;
      new_x = new_x;
      new_variance = new_variance;
      x_bits = x_bits;
      variance_bits = variance_bits;
    })

-- "z 200940, x 200235 (4108715800000000), P 75 (4052C00000000000)"
abbrev pub c1 : Row
c1 = one_run (chosen 200940) 200235 75 0x4108_7158_0000_0000 0x4052_C000_0000_0000

-- "the same run absent: x 200000, P 100"
abbrev pub c2 : Row
c2 = one_run left 200000 100 0x4108_6A00_0000_0000 0x4059_0000_0000_0000

-- v1 to v12, c1, c2
unfoldable pub table : List Row
table =
    five (v 3 4 ∷ absent ∷ absent ∷ []) (Ok None)
    ∷ five (v 3 4 ∷ absent ∷ []) (for 3 4)
    ∷ five (v 1 4 ∷ absent ∷ []) (Ok None)
    ∷ five (v 1 4 ∷ v 1 4 ∷ absent ∷ []) (for 1 4)
    ∷ five (v 1 4 ∷ v 2 4 ∷ v 3 2 ∷ []) (for 2 4)
    ∷ five (v 3 4 ∷ v 3 4 ∷ absent ∷ absent ∷ []) (for 3 4)
    ∷ five (v 3 3 ∷ v 3 3 ∷ absent ∷ absent ∷ []) (Ok None)
    ∷ five (v 3 4 ∷ v 1 4 ∷ absent ∷ []) (Ok None)
    ∷ five (v 3 3 ∷ v 3 3 ∷ v 1 4 ∷ absent ∷ []) (Ok None)
    ∷ five (v 1 4 ∷ v 1 4 ∷ v 3 2 ∷ absent ∷ []) (for 1 4)
    ∷ five (v 1 4 ∷ v 2 4 ∷ []) (for 2 4)
    ∷ judged (record { m = 1; label = 1; votes = v 1 0 ∷ absent ∷ absent ∷ []; verdict = for 1 0 })
    ∷ c1
    ∷ c2
    ∷ []
