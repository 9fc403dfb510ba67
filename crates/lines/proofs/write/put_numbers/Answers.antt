-- `put_numbers` meets its contract. Assumes nothing.
use mathlib.Core.Path.{refl}
use native.Mathlib.Omega.{arith}
use Rattle.fields.specs.Text.{tabbed}
use Rattle.lines.specs.Lists.{column}
use lib.ListN.{length}
use Rattle.lines.proofs.Putting.{tab_room, end_more, put_more}
use Rattle.lines.proofs.write.put_numbers.Goals as goal

pub loop-k-init : goal.loop-k-init
unfolding column tabbed
loop-k-init c = (refl, refl)

pub bounds-buf-at : goal.bounds-buf-at
bounds-buf-at c =
    let l = c.loop-k in let a = c.args in
    tab_room a.kind a.numbers.now l.k _ _ refl refl (length a.numbers.now) a.buf.now l.buf l.at c.loop-k-test.true c.requires l.auto.buf l.invariant.0

pub overflow_add-at : goal.overflow_add-at
overflow_add-at c =
    let l = c.loop-k in let a = c.args in
    omega (arith, tab_room a.kind a.numbers.now l.k _ _ refl refl (length a.numbers.now) a.buf.now l.buf l.at c.loop-k-test.true c.requires l.auto.buf l.invariant.0)

pub loop-k-preserved : goal.loop-k-preserved
loop-k-preserved c =
    let l = c.loop-k in let a = c.args in let p = c.put_at-at.ensures in (
      end_more a.kind a.numbers.now l.k _ _ c.quantity_at.ensures
          c.spelling.ensures (length a.numbers.now) a.buf.now l.buf l.at c.loop-k-test.true c.requires l.auto.buf l.invariant.0 _ p.0,
      put_more a.kind a.numbers.now l.k _ _ c.quantity_at.ensures
          c.spelling.ensures (length a.numbers.now) a.buf.now l.buf l.at c.loop-k-test.true c.requires l.auto.buf l.invariant.0 _ l.invariant.1 p.1,
    )
