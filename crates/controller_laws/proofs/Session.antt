-- Document 01's session, as a chain of steps that the checker computes. Assumes nothing.
use mathlib.Core.Path.{◌≡◌, refl}
use Rattle.controller.specs.Start.{start_of}
use Rattle.controller_laws.specs.Session.{estimate_bits, line, whole, said, chain, numbers, lines, answers}
use Rattle.controller_laws.proofs.Computes.{step_computes}

-- every message sent, as a whole value, float by float, and every number
pub session_steps : chain numbers (start_of numbers 0 (record { 0 = 0 })) lines ≡ answers
unfolding step_computes estimate_bits line whole said chain numbers lines answers
session_steps = refl
