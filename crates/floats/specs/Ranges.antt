-- The ranges of floats in document 01's table, "+0..1,100,000.0" and the like, and of the sixteen places that hold them.
use Rattle.std.specs.Prelude.{ℕ, ◌*◌, Bool, true, false, not, ◌&&◌, List, leb, ltb, eqb, length, get_or, Float}
use Rattle.std.specs.Float.{nan, inf, fin, binary64}
use Rattle.std.specs.Float.Ieee.{fits, up, down}
use Rattle.units.specs.declared.estimate.Estimate.{Estimate}
use Rattle.units.specs.Limits.{runs_top, x_top, variance_top, target_top}
use Rattle.units.specs.Every.{every}
use Rattle.floats.specs.Bits.{nought, same_float}

-- a float of 64 bits in +0..n: no NaN, no infinity, no set sign, so no -0
abbrev pub up_to : ℕ → Float → Bool
up_to n nan = false
up_to n (inf s) = false
up_to n (fin s m e) = fits binary64 (fin s m e) && (not s && leb (m * up e) (n * down e))

unfoldable pub estimate_fits : Estimate → Bool
estimate_fits e = up_to x_top e.x && up_to variance_top e.variance

-- what a place holds that is no run: +0 and +0
abbrev pub blank : Estimate
blank = record { x = nought; variance = nought }

-- equal bits
unfoldable pub same_estimate : Estimate → Estimate → Bool
same_estimate a b = same_float a.x b.x && same_float a.variance b.variance

-- what a list of estimates reads as past its end; it is in no range
abbrev pub no_estimate : Estimate
no_estimate = record { x = nan; variance = nan }

-- a run has an estimate in range, any other place is blank
abbrev pub estimate_place : Bool → Estimate → Bool
estimate_place true e = estimate_fits e
estimate_place false e = same_estimate e blank

abbrev pub state_at : ℕ → List Estimate → ℕ → Bool
state_at m s i = estimate_place (ltb i m) (get_or s i no_estimate)

-- sixteen places, of which the first m are runs
unfoldable pub state_fits : ℕ → List Estimate → Bool
state_fits m s = eqb (length s) runs_top && every (state_at m s) runs_top

-- a run has a target in range, any other place has +0
abbrev pub target_place : Bool → Float → Bool
target_place true v = up_to target_top v
target_place false v = same_float v nought

abbrev pub target_at : ℕ → List Float → ℕ → Bool
target_at m ts i = target_place (ltb i m) (get_or ts i nan)

unfoldable pub targets_fit : ℕ → List Float → Bool
targets_fit m ts = eqb (length ts) runs_top && every (target_at m ts) runs_top

-- equal bits at every place
abbrev pub same_at : List Estimate → List Estimate → ℕ → Bool
same_at a b i = same_estimate (get_or a i no_estimate) (get_or b i no_estimate)

unfoldable pub same_state : List Estimate → List Estimate → Bool
same_state a b = every (same_at a b) runs_top
