-- `LineNumbers::push_estimates` meets its contract. Assumes nothing.
use Prim.Native.Nat.{ℕ, ◌<◌}
use mathlib.Core.Path.{ap, ◌∙◌}
use mathlib.Core.List.{[], ◌∷◌, append_assoc}
use native.Mathlib.Omega.{arith}
use lib.ListN.{length, length-append}
use lib.Seq.{length-take-le, get_or-take}
use Rattle.floats.specs.Ranges.{no_estimate}
use Rattle.lines.specs.Values.{floats_of}
use Rattle.lines.proofs.Adding.{add_start, add_more, add_count}
use Rattle.lines.proofs.Arrays.{floats_length}
use Rattle.lines.proofs.numbers.LineNumbers.push_estimates.Goals as goal

pub loop-e-init : goal.loop-e-init
loop-e-init c = add_start _ _

pub push-requires : goal.push-requires
push-requires c =
    let l = c.loop-e in let a = c.args in
    omega (arith, add_count (floats_of a.estimates.now) a.self.now.0 l.e-index l.invariant, floats_length a.estimates.now l.e-index, length-take-le a.m a.estimates.now (omega arith))

pub push-requires-in-loop-e : goal.push-requires-in-loop-e
push-requires-in-loop-e c =
    let l = c.loop-e in let a = c.args in
    omega
    (arith, add_count (floats_of a.estimates.now) a.self.now.0 l.e-index l.invariant, floats_length a.estimates.now l.e-index, length-take-le a.m a.estimates.now (omega arith), ap {B = ℕ} length c.push.ensures, length-append l.self.0 (c.bits_of.result ∷ []))

pub loop-e-preserved : goal.loop-e-preserved
loop-e-preserved c =
    let l = c.loop-e in let a = c.args in
    let k : l.e-index < a.m = omega (arith, length-take-le a.m a.estimates.now (omega arith)) in
    let e = get_or-take a.m a.estimates.now l.e-index no_estimate k in
    add_more (floats_of a.estimates.now) a.self.now.0 l.e-index {ys = c.bits_of.result ∷ c.bits_of-in-loop-e.result ∷ []} l.invariant (c.push-in-loop-e.ensures ∙ rw c.push.ensures (append_assoc l.self.0 (c.bits_of.result ∷ []) (c.bits_of-in-loop-e.result ∷ [])))
    (rw (c.bits_of.ensures, c.bits_of-in-loop-e.ensures, e))
