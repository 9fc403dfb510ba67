-- `Controller::tops` meets its contract: the code's literals are document 01's limits. Assumes nothing.
use mathlib.Core.Path.{◌≡◌, refl}
use lib.Ieee.{binary64, of_bits, of_int}
use Rattle.units.specs.Limits.{controllers_top, runs_top, label_top, raw_top, target_top}
use Rattle.floats.specs.Bits.{target_bits, of_whole}
use Rattle.floats.proofs.Limits.{x_top_lem, variance_top_lem}
use Rattle.controller.proofs.state.Controller.tops.Statement.{statement}
use Rattle.controller.proofs.state.Controller.tops.Tie as tie

target_top_lem : of_bits binary64 target_bits ≡ of_whole target_top
unfolding of_bits of_int
target_top_lem = refl

returns : tie.Need-returns
returns c = λ k. record { controllers = controllers_top; runs = runs_top; label = label_top; raw = raw_top; x = x_top_lem k; variance = variance_top_lem k; target = target_top_lem k }

pub tops_spec : {M : Type 1} → statement M
tops_spec = tie.close (tie.spec returns)
