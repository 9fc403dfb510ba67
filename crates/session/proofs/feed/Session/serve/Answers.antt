-- `Session::serve` meets its contract. Assumes nothing.
use mathlib.Core.Bool.{not}
use Prim.Native.Nat.{◌+◌, ◌<◌}
use native.Mathlib.Omega.{arith}
use mathlib.Core.Path.{sym, ap, ◌∙◌}
use lib.ListN.{length}
use borrow.Author.Tests.{not-true, not-false}
use Rattle.session.specs.declared.feed.Fed.{Fed}
use Rattle.session.specs.declared.stage.Core.{Core}
use Rattle.session.proofs.Room.{call_took}
use Rattle.session.proofs.Adding.{sum_fits}
use Rattle.session.proofs.Serving.{code_stays, code_wrote, code_goes}
use Rattle.session.proofs.feed.Session.serve.Goals as goal

pub returns-then-not-may_run : goal.returns-then-not-may_run
returns-then-not-may_run c =
    let a = c.args in
    let f = c.feed-fed in code_stays a.self a.input.now a.out.now _ f.ensures.1 f.result f.ensures.0 (sym c.may_run.ensures ∙ not-true _ (ap not c.if-not-may_run.true))

pub slice_bounds-run_lines-count : goal.slice_bounds-run_lines-count
slice_bounds-run_lines-count c = let f = c.feed-fed in call_took _ _ _ f.result f.ensures.0

pub slice_bounds-run_lines-count-2 : goal.slice_bounds-run_lines-count-2
slice_bounds-run_lines-count-2 c =
    let a = c.args in
    let f = c.feed-fed in code_wrote a.self a.input.now a.out.now _ f.ensures.1 f.result f.ensures.0

pub overflow_add-result : goal.overflow_add-result
overflow_add-result c =
    let r = c in
    let d = r in
    let a = d.args in
    let f = d.feed-fed in
    let m = sym d.may_run.ensures ∙ not-false _ (ap not d.if-not-may_run.false) in
    let l = rw r.numbers.ensures at r.run_lines-ran.ensures in
    let g = code_goes a.self a.input.now a.out.now _ f.ensures.1 f.result f.ensures.0 m r.run_lines-ran.result _ l in
    let t : length a.input.now < 18446744073709551616 = omega (arith, d.well_formed) in sum_fits _ _ g.0.0 t

pub overflow_add-result-2 : goal.overflow_add-result-2
overflow_add-result-2 c =
    let r = c in
    let d = r in
    let a = d.args in
    let f = d.feed-fed in
    let m = sym d.may_run.ensures ∙ not-false _ (ap not d.if-not-may_run.false) in
    let l = rw r.numbers.ensures at r.run_lines-ran.ensures in
    let g = code_goes a.self a.input.now a.out.now _ f.ensures.1 f.result f.ensures.0 m r.run_lines-ran.result _ l in
    let t : length a.out.now < 18446744073709551616 = omega (arith, d.well_formed) in sum_fits _ _ g.0.1 t

pub returns : goal.returns
returns c =
    let r = c in
    let d = r in
    let a = d.args in
    let f = d.feed-fed in
    let m = sym d.may_run.ensures ∙ not-false _ (ap not d.if-not-may_run.false) in
    let l = rw r.numbers.ensures at r.run_lines-ran.ensures in
    let g = code_goes a.self a.input.now a.out.now _ f.ensures.1 f.result f.ensures.0 m r.run_lines-ran.result _ l in
    let w = r.run_lines-ran.result in
    let y = f.result in
    let n = ap {B = Fed} (λ (k : Core). record { next = record { core = k; carry = y.next.carry }; took = y.took + w.took; wrote = y.wrote + w.wrote; verdict = y.verdict }) c.running.ensures in
    (n ∙ g.1, g.2)

pub slice_bounds-run_lines-start : goal.slice_bounds-run_lines-start
slice_bounds-run_lines-start c = let f = c.feed-fed in call_took _ _ _ f.result f.ensures.0

pub slice_bounds-run_lines-start-2 : goal.slice_bounds-run_lines-start-2
slice_bounds-run_lines-start-2 c =
    let a = c.args in
    let f = c.feed-fed in code_wrote a.self a.input.now a.out.now _ f.ensures.1 f.result f.ensures.0
