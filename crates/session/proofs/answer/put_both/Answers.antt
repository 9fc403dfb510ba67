-- `put_both` meets its contract. Assumes nothing.
use native.Mathlib.Omega.{arith}
use lib.ListN.{replicate}
use Rattle.session.proofs.Both.{length_done, both_short, both_refused, both_more, both_done, gone_up}
use Rattle.session.proofs.Room.{fit_short, rest_short}
use Rattle.session.specs.Feeding.{fit_text, rest_text}
use Rattle.session.proofs.answer.put_both.Goals as goal

pub returns-then-out-len : goal.returns-then-out-len
returns-then-out-len c =
    let a = c.args in
    let t = fit_text a.numbers a.c a.head in
    let u = rest_text a.numbers a.c a.verdict a.second in
    let n = c.length_of-len.result in
    let s = fit_short a.numbers a.c a.head in
    let ne = length_done t (replicate 600 0) _ _ c.put_sent.ensures n s c.length_of-len.ensures in both_short t u a.out.now n ne c.if-out-len.true

pub overflow_add-result : goal.overflow_add-result
overflow_add-result c =
    let d = c in
    let a = d.args in
    let t = fit_text a.numbers a.c a.head in
    let u = rest_text a.numbers a.c a.verdict a.second in
    let n = d.length_of-len.result in
    let s = fit_short a.numbers a.c a.head in
    let ne = length_done t (replicate 600 0) _ _ d.put_sent.ensures n s d.length_of-len.ensures in
    let r = c in
    let m = both_more t u a.out.now n ne r.if-out-len.false _ _ r.put_rest.ensures _ r.in_ok-more.was in
    omega (arith, s, ne, m, rest_short a.numbers a.c a.verdict a.second)

pub returns-in_err-more : goal.returns-in_err-more
returns-in_err-more c =
    let a = c.args in
    let t = fit_text a.numbers a.c a.head in
    let u = rest_text a.numbers a.c a.verdict a.second in
    let n = c.length_of-len.result in
    let s = fit_short a.numbers a.c a.head in
    let ne = length_done t (replicate 600 0) _ _ c.put_sent.ensures n s c.length_of-len.ensures in
    rw (gone_up _ _ c.from_residual.ensures.1) (both_refused t u a.out.now n ne c.if-out-len.false _ _ c.put_rest.ensures _ c.in_err-more.was)

pub returns : goal.returns
returns c =
    let d = c in
    let a = d.args in
    let t = fit_text a.numbers a.c a.head in
    let u = rest_text a.numbers a.c a.verdict a.second in
    let n = d.length_of-len.result in
    let s = fit_short a.numbers a.c a.head in
    let ne = length_done t (replicate 600 0) _ _ d.put_sent.ensures n s d.length_of-len.ensures in
    let r = c in
    let p = both_done t u a.out.now n ne r.if-out-len.false _ _ r.put_rest.ensures _ r.in_ok-more.was in
    p _ (replicate 600 0) _ d.put_sent.ensures.1 s c.put_first.ensures
