-- `read` meets its contract. Assumes nothing.
use mathlib.Core.Path.{ap, ◌∙◌}
use mathlib.Core.Bool.{not}
use Rattle.fields.proofs.Scans.{scan_inside}
use Rattle.lines.specs.Reading.{read_text}
use Rattle.lines.proofs.Openings.{line_group, line_long, line_unended, line_text}
use native.Mathlib.Omega.{arith}
use Rattle.lines.proofs.read.read.Goals as goal

pub returns-then-seen-line : goal.returns-then-seen-line
returns-then-seen-line c =
    let a = c.args in
    line_unended a.group a.line.now _ _ c.in_range.ensures (ap not c.if-not-in_range.false) c.if-line-gt-LINE.false _
    c.scan-seen.ensures c.if-seen-line.true c.refused-then-seen-line.ensures

pub returns : goal.returns
returns c =
    let a = c.args in
    line_text a.group a.line.now _ _ c.in_range.ensures (ap not c.if-not-in_range.false)
    c.if-line-gt-LINE.false _ c.scan-seen.ensures c.if-seen-line.false (c.read_text.ensures ∙ ap (read_text _) c.of.ensures)

pub returns-then-not-in_range : goal.returns-then-not-in_range
returns-then-not-in_range c = line_group _ _ _ _ c.in_range.ensures (ap not c.if-not-in_range.true) c.refused.ensures

pub returns-then-line-gt-LINE : goal.returns-then-line-gt-LINE
returns-then-line-gt-LINE c = line_long _ _ _ _ c.in_range.ensures (ap not c.if-not-in_range.false) c.if-line-gt-LINE.true c.refused-then-line-gt-LINE.ensures

pub overflow_add-seen : goal.overflow_add-seen
overflow_add-seen c = omega (arith, scan_inside _ _ c.scan-seen.ensures, c.if-line-gt-LINE.false)
