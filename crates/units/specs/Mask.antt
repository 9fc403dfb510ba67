-- "A mask is four upper-case hex digits, bit i for run i": masks as numbers.
use Rattle.std.specs.Prelude.{ℕ, ◌/◌, ◌%◌, ◌^◌, min, Bool, ◌&&◌, eqb, leb, ltb}
use Rattle.units.specs.Limits.{runs_top}

-- run i is in the mask
abbrev pub in_mask : ℕ → ℕ → Bool
in_mask mask i = eqb (mask / 2 ^ i % 2) 1

-- the masks of m runs, sixteen at the most, are the numbers below this one
abbrev pub mask_end : ℕ → ℕ
mask_end m = 2 ^ min m runs_top

-- "it isn't 0000 and has no bit at m or above"
abbrev pub mask_fits : ℕ → ℕ → Bool
mask_fits m mask = leb 1 mask && ltb mask (mask_end m)
