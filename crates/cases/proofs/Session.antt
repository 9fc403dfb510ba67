-- The filter's definitions give the state and the targets of document 01's session, at all sixteen places, bit for bit. Assumes nothing.
use mathlib.Core.Path.{◌≡◌, refl}
use Rattle.floats.proofs.Computes.{float_computes}
use Rattle.filter.specs.Compute.{computed}
use Rattle.filter.proofs.Computes.{run_computes, share_computes}
use Rattle.cases.specs.Session.{label, base, start, settings, mask, readings, issued}

pub session_computed : computed label base start settings mask readings ≡ issued
unfolding run_computes share_computes float_computes
session_computed = refl
