-- `LineNumbers::push_readings` meets its contract. Assumes nothing.
use Prim.Native.Nat.{ℕ}
use mathlib.Core.Path.{sym, ap, ◌∙◌}
use mathlib.Core.List.{List, append-nil}
use native.Mathlib.Omega.{arith}
use Rattle.units.specs.Pick.{pick}
use Rattle.lines.specs.Values.{raw_of}
use Rattle.lines.proofs.Adding.{add_start, add_more, add_count, no_raws, raws_short}
use Rattle.lines.proofs.numbers.LineNumbers.push_readings.Goals as goal
use Rattle.lines.proofs.numbers.LineNumbers.push_readings.Goals.{then-has, else-has}

abbrev first : List ℕ × List ℕ → List ℕ
first x = x.0

pub returns-then-mask-eq0 : goal.returns-then-mask-eq0
returns-then-mask-eq0 c = let a = c.args in rw (c.if-mask-eq0.true, no_raws a.readings.now 16) (sym (append-nil a.self.now.0))

pub loop-i-init : goal.loop-i-init
loop-i-init c = add_start _ _

pub push-requires : goal.push-requires
push-requires c =
    let l = c.loop-i in let a = c.args in
    omega (arith, add_count (raw_of a.mask a.readings.now) a.self.now.0 l.i l.invariant, raws_short a.mask a.readings.now l.i)

pub loop-i-preserved : goal.loop-i-preserved
unfolding pick
loop-i-preserved c =
    let l = c.loop-i in let a = c.args in
    elim c.if-has.branch [
      | then-has w ↦ add_more (raw_of a.mask a.readings.now) a.self.now.0 l.i l.invariant (ap first w.self-is ∙ w.push.ensures) (rw (← c.has.ensures, w.if-has.true, w.from.ensures))
      | else-has w ↦ add_more (raw_of a.mask a.readings.now) a.self.now.0 l.i l.invariant (ap first w.self-is ∙ sym (append-nil l.self.0)) (rw (← c.has.ensures, w.if-has.false))
    ]
