-- READINGS AS A SET, and sets put together: "all its readings are added; if one clashes, none is".
use Rattle.std.specs.Prelude.{ℕ, ◌^◌, Bool, true, false, List, eqb, leb, get_or, replicate, set}
use Rattle.std.specs.Int.Bits.{bit_and, bit_or}
use Rattle.units.specs.Every.{every}
use Rattle.units.specs.Limits.{runs_top}
use Rattle.units.specs.Mask.{in_mask}
use Rattle.units.specs.Pick.{pick}
use Rattle.units.specs.Tab.{tab}

-- the mask of one run
unfoldable pub run_bit : ℕ → ℕ
run_bit run = pick (leb runs_top run) 0 (2 ^ run)

abbrev pub agree_place : Bool → ℕ → ℕ → Bool
agree_place true a b = eqb a b
agree_place false a b = true

abbrev pub agree_at : ℕ → List ℕ → List ℕ → ℕ → Bool
agree_at shared a b i = agree_place (in_mask shared i) (get_or a i 0) (get_or b i 0)

-- two sets of readings agree on every run of the mask
unfoldable pub agrees : ℕ → List ℕ → List ℕ → Bool
agrees shared a b = every (agree_at shared a b) runs_top

abbrev pub merged_at : Bool → ℕ → ℕ → ℕ
merged_at true new old = new
merged_at false new old = old

-- the readings of the mask from the new set, the others from the old one
unfoldable pub merged : ℕ → List ℕ → List ℕ → List ℕ
merged mask new old = tab (λ i. merged_at (in_mask mask i) (get_or new i 0) (get_or old i 0)) 0 runs_top

-- the readings of the mask, and 0 for the others
abbrev pub selected : ℕ → List ℕ → List ℕ
selected mask readings = merged mask readings (replicate runs_top 0)

-- ---- sets

-- the runs that have a reading, as a mask, and the raw of each; 0 where there is none
pub record Set : Type 0 where
  pub mask : ℕ
  pub readings : List ℕ

-- M's one reading
abbrev pub single : ℕ → ℕ → Set
single run raw = record { mask = run_bit run; readings = set (replicate runs_top 0) run raw }

-- two sets agree on every run that both have
abbrev pub agreed : Set → Set → Bool
agreed a b = agrees (bit_and b.mask a.mask) b.readings a.readings

-- the runs of both, and where both have one the second's reading
abbrev pub together : Set → Set → Set
together a b = record { mask = bit_or a.mask b.mask; readings = merged b.mask b.readings a.readings }

-- "all its readings are added; if one clashes, none is"
unfoldable pub join : Set → Set → Set
join a b = pick (agreed a b) (together a b) a
