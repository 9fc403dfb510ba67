-- `run_lines` meets its contract: after each line, what was said and what is left to do make the whole. Assumes nothing.
use Prim.Native.Nat.{◌+◌, ◌≤◌, ◌<◌}
use native.Mathlib.Omega.{arith}
use mathlib.Core.Path.{refl, sym, ◌∙◌}
use lib.ListN.{length}
use Rattle.session.specs.Serving.{goes_on, line_run}
use Rattle.session.proofs.Repeating.{filled_few, starts}
use Rattle.session.proofs.Adding.{end_within, ends_line, ends_room, goes_added, goes_planned, kept_next, same_length as kept, sum_fits}
use Rattle.session.proofs.run.run_lines.Goals as goal
use Rattle.session.proofs.run.run_lines.Goals.{in-Reading, in_default, in-Nothing, in_default-change}

pub loop-out-init : goal.loop-out-init
loop-out-init c = starts goes_on (line_run _) _ _ _

pub overflow_sub-out : goal.overflow_sub-out
overflow_sub-out c = filled_few _ _ _ _ _ c.loop-out.invariant

pub slice_bounds-read_first-count : goal.slice_bounds-read_first-count
slice_bounds-read_first-count c = c.loop-out.invariant.within

pub overflow_sub-input : goal.overflow_sub-input
overflow_sub-input c = c.loop-out.invariant.within

pub slice_bounds-put_plan-count : goal.slice_bounds-put_plan-count
slice_bounds-put_plan-count c = filled_few _ _ _ _ _ c.loop-out.invariant

pub overflow_add-filled : goal.overflow_add-filled
overflow_add-filled c =
    let d = c in
    let s = d in
    let k = d.loop-out in
    let h = k.invariant in
    let p = c.plan_line-plan in
    let g = goes_planned _ _ _ _ h d.read_first-feed.ensures d.loop-out-test.true d.if-feed-input.false p.ensures
    (elim c.match-change-2.branch [
      | in-Nothing v ↦ kept_next _ _ _ p.result c.change.ensures v.in-Nothing.is ∙ sym v.next-is
      | in_default-change v ↦ sym v.apply-next.ensures ∙ sym v.next-is
    ])
    c.put_plan-filled.ensures refl in
    let z : k.filled + c.put_plan-filled.result ≤ length s.args.out.now = omega (arith, g.0, kept _ _ _ _ h) in
    let t : length s.args.out.now < 18446744073709551616 = omega (arith, s.well_formed) in sum_fits _ _ z t

pub overflow_add-at : goal.overflow_add-at
overflow_add-at c =
    let e = end_within _ _ _ _ c.loop-out.invariant c.read_first-feed.ensures c.loop-out-test.true c.if-feed-input.false in
    omega (arith, e)

pub overflow_add-at-in-loop-out : goal.overflow_add-at-in-loop-out
overflow_add-at-in-loop-out c =
    let e = end_within _ _ _ _ c.loop-out.invariant c.read_first-feed.ensures c.loop-out-test.true c.if-feed-input.false in
    omega (arith, e)

pub loop-out-smaller : goal.loop-out-smaller
loop-out-smaller c =
    let e = end_within _ _ _ _ c.loop-out.invariant c.read_first-feed.ensures c.loop-out-test.true c.if-feed-input.false in
    omega (arith, e)

pub loop-out-preserved : goal.loop-out-preserved
loop-out-preserved c =
    let h = c.loop-out.invariant in
    let read = c.read_first-feed.ensures in
    let room = c.loop-out-test.true in
    let whole = c.if-feed-input.false in
    elim c.match-change.branch [
      | in-Reading w ↦ rw (w.out-is, w.next-is, w.filled-is) (goes_added _ _ _ _ h read room whole c.added_by-change.ensures w.in-Reading.is w.add-next.ensures)
      | in_default w ↦
          rw (w.out-is, w.next-is, w.filled-is) (goes_planned _ _ _ _ h read room whole w.plan_line-plan.ensures
          (elim w.match-change-2.branch [
            | in-Nothing v ↦ kept_next _ _ _ w.plan_line-plan.result w.change.ensures v.in-Nothing.is ∙ sym v.next-is
            | in_default-change v ↦ sym v.apply-next.ensures ∙ sym v.next-is
          ])
          w.put_plan-filled.ensures refl).1
    ]

pub returns-after-loop-out : goal.returns-after-loop-out
returns-after-loop-out c = ends_room _ _ _ _ c.loop-out.invariant c.loop-out-test.false

pub returns-then-feed-input : goal.returns-then-feed-input
returns-then-feed-input c = ends_line _ _ _ _ c.loop-out.invariant c.read_first-feed.ensures c.if-feed-input.true
