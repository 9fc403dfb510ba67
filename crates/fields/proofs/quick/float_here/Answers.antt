-- `float_here` meets its contract. Assumes nothing.
use Prim.Native.Nat.{◌+◌, ◌≤◌}
use mathlib.Core.Path.{◌≡◌}
use lib.ListN.{length, take, drop}
use Rattle.fields.proofs.Quicks.{here_past, sixteen_are, sixteen_start, sixteen_more, float_short, float_wrong, float_said}
use Rattle.fields.proofs.quick.float_here.Goals as goal
use Rattle.fields.proofs.quick.float_here.Goals.{In-Some}

part : (c : In-Some) → let a = c.args in (c.in-Some.digits.now ≡ take 16 (drop a.at a.text.now)) × (a.at + 16 ≤ length a.text.now)
part c = sixteen_are c.args.text.now _ c.args.at c.if-text-at.false c.in-Some.ensures.cases

pub returns-then-text-at : goal.returns-then-text-at
returns-then-text-at c = here_past _ _ _ _ _ c.if-text-at.true

pub returns-in_default : goal.returns-in_default
returns-in_default c = rw c.requires (float_short c.args.text.now c.args.at _ _ c.if-text-at.false c.in_default.ensures.cases)

pub loop-b-init : goal.loop-b-init
loop-b-init c = sixteen_start c.args.text.now _ c.args.at (part (goal.at.loop-b-init c).In-Some)

pub loop-b-preserved : goal.loop-b-preserved
loop-b-preserved c = let l = c.loop-b in rw c.from.ensures (sixteen_more _ _ _ _ l.invariant c.loop-b-test.true _ c.nibble-d.ensures _ c.max-worst.ensures)

pub returns-then-worst-gt15 : goal.returns-then-worst-gt15
returns-then-worst-gt15 c = rw c.requires (float_wrong _ _ _ (part (goal.at.returns-then-worst-gt15 c).In-Some) _ _ _ _ _ c.loop-b.invariant c.loop-b-test.false c.if-worst-gt15.true)

pub returns : goal.returns
returns c = let l = c.args.limit in rw c.requires (float_said _ _ _ (part (goal.at.returns c).In-Some) _ _ _ l.low l.high c.loop-b.invariant c.loop-b-test.false c.if-worst-gt15.false _ (rw (← c.requires) c.judged.ensures))
