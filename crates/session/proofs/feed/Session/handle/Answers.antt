-- `Session::handle` meets its contract: after each call, what was said and what is left to do make the whole. Assumes nothing.
use Prim.Native.Nat.{◌+◌, ◌≤◌, ◌<◌}
use native.Mathlib.Omega.{arith}
use mathlib.Core.Path.{refl}
use lib.ListN.{length}
use Rattle.session.specs.Handling.{calls_on, serve_run}
use Rattle.session.proofs.Adding.{sum_fits}
use Rattle.session.proofs.Handling.{ends, goes_served, same_length as kept}
use Rattle.session.proofs.Repeating.{filled_few, starts}
use Rattle.session.proofs.feed.Session.handle.Goals as goal

pub loop-at-init : goal.loop-at-init
loop-at-init c = starts calls_on serve_run _ _ _

pub overflow_sub-out : goal.overflow_sub-out
overflow_sub-out c = filled_few _ _ _ _ _ c.loop-at.invariant

pub slice_bounds-serve-count : goal.slice_bounds-serve-count
slice_bounds-serve-count c = c.loop-at.invariant.within

pub slice_bounds-serve-count-in-loop-at : goal.slice_bounds-serve-count-in-loop-at
slice_bounds-serve-count-in-loop-at c = filled_few _ _ _ _ _ c.loop-at.invariant

pub overflow_add-at : goal.overflow_add-at
overflow_add-at c =
    let g = goes_served _ _ _ c.loop-at.invariant c.loop-at-test.true c.serve-fed.ensures refl in
    let s = c in
    let t : length s.args.input.now < 18446744073709551616 = omega (arith, s.well_formed) in sum_fits _ _ g.1 t

pub overflow_add-filled : goal.overflow_add-filled
overflow_add-filled c =
    let k = c.loop-at in
    let g = goes_served _ _ _ k.invariant c.loop-at-test.true c.serve-fed.ensures refl in
    let s = c in
    let z : k.filled + c.serve-fed.result.wrote ≤ length s.args.out.now = omega (arith, g.2, kept _ _ _ k.invariant) in
    let t : length s.args.out.now < 18446744073709551616 = omega (arith, s.well_formed) in sum_fits _ _ z t

pub loop-at-smaller : goal.loop-at-smaller
loop-at-smaller c =
    let g = goes_served _ _ _ c.loop-at.invariant c.loop-at-test.true c.serve-fed.ensures refl in omega (arith, g.0, g.1)

pub loop-at-preserved : goal.loop-at-preserved
loop-at-preserved c = (goes_served _ _ _ c.loop-at.invariant c.loop-at-test.true c.serve-fed.ensures refl).3

pub returns : goal.returns
returns c = ends _ _ _ c.loop-at.invariant c.loop-at-test.false refl c.room_verdict.ensures
