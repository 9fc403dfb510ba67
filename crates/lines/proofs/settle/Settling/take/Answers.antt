-- `Settling::take` meets its contract. Assumes nothing.
use native.Mathlib.Omega.{arith}
use mathlib.Core.Path.{sym, ap, ◌∙◌}
use Rattle.lines.specs.Settling.{settle_text}
use Rattle.lines.proofs.Settlings.{line_over, line_open, line_text, scan_open, scan_ended, scan_text}
use Rattle.fields.proofs.Scans.{scan_inside}
use Rattle.lines.proofs.settle.Settling.take.Goals as goal

pub returns : goal.returns
returns c =
    let k = c in let s = k.scan-seen.ensures in
    c.take_text.ensures ∙ ap (settle_text _) c.of.ensures ∙ sym (line_text _ _ k.if-line-gt-LINE.false (scan_ended _ _ s c.if-seen-line.false) ∙ ap (settle_text k.args.self) (scan_text _ _ s))

pub returns-then-line-gt-LINE : goal.returns-then-line-gt-LINE
returns-then-line-gt-LINE c = c.stop.ensures ∙ sym (line_over _ _ c.if-line-gt-LINE.true)

pub overflow_add-seen : goal.overflow_add-seen
overflow_add-seen c = omega (arith, scan_inside _ _ c.scan-seen.ensures, c.if-line-gt-LINE.false)

pub returns-then-seen-line : goal.returns-then-seen-line
returns-then-seen-line c = c.stop-then-seen-line.ensures ∙ sym (line_open _ _ c.if-line-gt-LINE.false (scan_open _ _ c.scan-seen.ensures c.if-seen-line.true))
