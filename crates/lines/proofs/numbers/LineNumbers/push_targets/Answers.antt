-- `LineNumbers::push_targets` meets its contract. Assumes nothing.
use Prim.Native.Nat.{◌<◌}
use native.Mathlib.Omega.{arith}
use lib.Ieee.{nan}
use lib.Seq.{length-take-le, get_or-take}
use Rattle.lines.specs.Values.{target_of}
use Rattle.lines.proofs.Adding.{add_start, add_more, add_count}
use Rattle.lines.proofs.Arrays.{targets_count}
use Rattle.lines.proofs.numbers.LineNumbers.push_targets.Goals as goal

pub loop-target-init : goal.loop-target-init
loop-target-init c = add_start _ _

pub push-requires : goal.push-requires
push-requires c =
    let l = c.loop-target in let a = c.args in
    omega (arith, add_count (target_of a.targets.now) a.self.now.0 l.target-index l.invariant, targets_count a.targets.now l.target-index, length-take-le a.m a.targets.now (omega arith))

pub loop-target-preserved : goal.loop-target-preserved
loop-target-preserved c =
    let l = c.loop-target in let a = c.args in
    let k : l.target-index < a.m = omega (arith, length-take-le a.m a.targets.now (omega arith)) in
    add_more (target_of a.targets.now) a.self.now.0 l.target-index l.invariant c.push.ensures (rw (c.bits_of.ensures, get_or-take a.m a.targets.now l.target-index nan k))
