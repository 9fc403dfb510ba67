-- `standing_at` meets its contract. Assumes nothing.
use Prim.Native.Nat.{◌+◌}
use mathlib.Core.Path.{refl}
use native.Mathlib.Omega.{arith}
use borrow.Author.Tests.{eq-eqb, ne_eqb}
use Rattle.units.proofs.Picked.{by_yes, by_no}
use Rattle.lines.proofs.settle.standing_at.Goals as goal
use Rattle.lines.proofs.settle.standing_at.Goals.{else-line-ge2-via-then-line-ge2+else-line-m, else-line-ge2-via-else-line-ge2}

pub returns-then-line-m : goal.returns-then-line-m
returns-then-line-m c = let a = c.args in by_yes _ (eq-eqb a.line (2 + a.m) (omega (arith, c.if-line-ge2.true, c.if-line-m.true))) refl

pub returns-else-line-ge2 : goal.returns-else-line-ge2
returns-else-line-ge2 c =
    let a = c.args in
    by_no _ (ne_eqb a.line (2 + a.m)
    (elim c.else-line-ge2.branch [
      | else-line-ge2-via-then-line-ge2+else-line-m w ↦ λ e. w.if-line-m.false (omega (arith, w.if-line-ge2.true, e))
      | else-line-ge2-via-else-line-ge2 w ↦ λ e. omega (arith, w.if-line-ge2.false, e)
    ])) refl
