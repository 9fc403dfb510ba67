-- `read_seen` meets its contract. Assumes nothing.
use mathlib.Core.Path.{ap, ◌∙◌}
use mathlib.Core.Bool.{not}
use Rattle.fields.proofs.Scans.{scan_inside}
use Rattle.lines.specs.Reading.{read_text}
use Rattle.lines.proofs.Openings.{line_group}
use Rattle.lines.proofs.Firsts.{first_long, first_unended, first_over, first_text_lem}
use native.Mathlib.Omega.{arith}
use Rattle.lines.proofs.read.read_seen.Goals as goal

pub returns-then-feed-gt-LINE : goal.returns-then-feed-gt-LINE
returns-then-feed-gt-LINE c = let s = c in first_long s.args.input.now s.requires s.args.group c.in_range.ensures (ap not c.if-not-in_range.false) c.if-feed-gt-LINE.true c.refused-then-feed-gt-LINE.ensures

pub returns-then-feed-input : goal.returns-then-feed-input
returns-then-feed-input c =
    let s = c in
    first_unended s.args.input.now s.requires s.args.group c.in_range.ensures (ap not c.if-not-in_range.false) c.if-feed-gt-LINE.false c.if-feed-input.true
    c.refused-then-feed-input.ensures

pub returns-then-feed-eq-LINE : goal.returns-then-feed-eq-LINE
returns-then-feed-eq-LINE c =
    let s = c in
    first_over s.args.input.now s.requires s.args.group c.in_range.ensures (ap not c.if-not-in_range.false)
    (let i = scan_inside _ _ s.requires in omega (arith, c.if-feed-input.false)) c.if-feed-eq-LINE.true c.refused-then-feed-eq-LINE.ensures

pub returns : goal.returns
returns c =
    let s = c in
    first_text_lem s.args.input.now s.requires s.args.group c.in_range.ensures (ap not c.if-not-in_range.false)
    (let i = scan_inside _ _ s.requires in omega (arith, c.if-feed-input.false)) (omega (arith, c.if-feed-gt-LINE.false, c.if-feed-eq-LINE.false)) (c.read_text.ensures ∙ ap (read_text _) c.of.ensures)

pub returns-then-not-in_range : goal.returns-then-not-in_range
returns-then-not-in_range c = line_group _ _ _ _ c.in_range.ensures (ap not c.if-not-in_range.true) c.refused.ensures
