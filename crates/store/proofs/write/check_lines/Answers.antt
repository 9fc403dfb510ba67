-- `check_lines` meets its contract. Assumes nothing.
use Rattle.store.proofs.Writing.{lines_many, lines_fit}
use Rattle.store.proofs.write.check_lines.Goals as goal

pub returns-then-lines-gt-ROWS : goal.returns-then-lines-gt-ROWS
returns-then-lines-gt-ROWS c = lines_many _ _ _ _ c.start.ensures c.on-count.ensures c.lines.ensures c.if-lines-gt-ROWS.true

pub returns : goal.returns
returns c = lines_fit _ _ _ _ c.start.ensures c.on-count.ensures c.lines.ensures c.if-lines-gt-ROWS.false
