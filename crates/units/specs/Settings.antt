-- What is in range of a station's size and of the numbers of its settings; places that are no run are blank.
use Rattle.std.specs.Prelude.{ℕ, Bool, true, false, ◌&&◌, ltb, eqb, get_or}
use Rattle.units.specs.declared.settings.Group.{Group}
use Rattle.units.specs.declared.settings.Numbers.{Numbers}
use Rattle.units.specs.Limits.{controllers_top, runs_top, factor_low, factor_top, weight_top, noise_top, first_top}
use Rattle.units.specs.Within.{within}
use Rattle.units.specs.Every.{every}

unfoldable pub group_fits : Group → Bool
group_fits s = (within 1 controllers_top s.g) && (within 1 runs_top s.m)

-- a run has a factor and a weight in range, any other place has 0 and 0
abbrev pub place_fits : Bool → ℕ → ℕ → Bool
place_fits true factor weight = within factor_low factor_top factor && within 1 weight_top weight
place_fits false factor weight = eqb factor 0 && eqb weight 0

abbrev pub place_at : Numbers → ℕ → Bool
place_at s i = place_fits (ltb i s.group.m) (get_or s.factors i 0) (get_or s.weights i 0)

unfoldable pub runs_fit : Numbers → Bool
runs_fit s = every (place_at s) runs_top

unfoldable pub numbers_fit : Numbers → Bool
numbers_fit s =
    group_fits s.group
    && (within 1 noise_top s.q && within 1 noise_top s.r)
    && within 1 first_top s.p
    && runs_fit s
