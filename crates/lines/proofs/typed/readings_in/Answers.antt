-- `readings_in` meets its contract. Assumes nothing.
use mathlib.Core.Path.{◌∙◌}
use native.Mathlib.Omega.{arith}
use lib.ListN.{replicate}
use Rattle.units.proofs.Tab.{fill_more}
use Rattle.lines.specs.Values.{reading_in}
use Rattle.lines.proofs.Columns.{fill_start, fill_done, fill_kept}
use Rattle.lines.proofs.Making.{no_readings, raw_here, raw_not}
use Rattle.lines.proofs.typed.readings_in.Goals as goal
use Rattle.lines.proofs.typed.readings_in.Goals.{then-has, else-has}

pub returns-then-mask-eq0 : goal.returns-then-mask-eq0
returns-then-mask-eq0 c = fill_done _ 0 0 _ 0 (fill_start (reading_in c.args.mask c.args.v.now) 0 0) (λ j h l. no_readings c.args.mask c.args.v.now j c.if-mask-eq0.true)

pub loop-i-preserved : goal.loop-i-preserved
loop-i-preserved c =
    let l = c.loop-i in let a = c.args in
    elim c.if-has.branch [
      | then-has w ↦
          let r = raw_here a.mask a.v.now l.i l.invariant.0 c.has.ensures w.if-has.true in
          rw (w.out-is, w.at-is) (r.1, fill_more _ 0 16 (replicate 16 0) l.out l.i _ l.invariant.1 c.loop-i-test.true (w.narrow.ensures ∙ r.0))
      | else-has w ↦
          let r = raw_not a.mask a.v.now l.i l.invariant.0 c.has.ensures w.if-has.false in
          rw (w.out-is, w.at-is) (r.1, fill_kept _ 0 0 l.out l.i l.invariant.1 c.loop-i-test.true r.0)
    ]

pub returns : goal.returns
returns c = let l = c.loop-i in fill_done _ 0 0 l.out l.i l.invariant.1 (λ j h k. absurd (omega (arith, c.loop-i-test.false)))
