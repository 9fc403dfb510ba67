-- `decimal_here` meets its contract. Assumes nothing.
use Rattle.fields.proofs.Quicks.{here_past, here_empty, here_open, here_led, here_decimal}
use Rattle.fields.proofs.quick.decimal_here.Goals as goal

pub returns-then-text-at : goal.returns-then-text-at
returns-then-text-at c = here_past _ _ _ _ _ c.if-text-at.true

pub returns-then-end-at : goal.returns-then-end-at
returns-then-end-at c = rw c.requires (here_empty _ _ _ _ _ _ c.decimal_run-run.ensures c.if-end-at.true)

pub bounds-text-at : goal.bounds-text-at
bounds-text-at c = here_open _ _ _ _ 0 0 c.decimal_run-run.ensures c.if-end-at.false

pub returns-then-text-at-2 : goal.returns-then-text-at-2
returns-then-text-at-2 c = rw c.requires (here_led _ _ _ _ _ _ c.decimal_run-run.ensures c.if-end-at.false c.if-text-at-2.true)

pub returns : goal.returns
returns c = let l = c.args.limit in rw c.requires (here_decimal _ _ _ _ l.low l.high c.decimal_run-run.ensures c.if-end-at.false _ c.if-text-at-2.false (rw (← c.requires) c.judged.ensures))
