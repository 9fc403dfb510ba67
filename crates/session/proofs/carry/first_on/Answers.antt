-- `first_on` meets its contract. Assumes nothing.
use Prim.Native.Nat.{◌+◌}
use native.Mathlib.Omega.{arith}
use mathlib.Core.Path.{sym, ap, ◌∙◌}
use lib.ListN.{take}
use Rattle.fields.proofs.Holding.{feed_within}
use Rattle.fields.specs.Cut.{line_in}
use Rattle.lines.specs.Reading.{read_line}
use Rattle.session.proofs.carry.first_on.Goals as goal

pub returns-then-feed-input : goal.returns-then-feed-input
returns-then-feed-input c = (c.unread-first.ensures, λ n. absurd (n (sym c.unread-first.ensures ∙ c.if-feed-input.true)))

pub overflow_add-feed : goal.overflow_add-feed
overflow_add-feed c = let a = c.args in omega (arith, feed_within a.input.now _ c.unread-first.ensures, c.if-feed-input.false)

pub returns : goal.returns
returns c = let a = c.args in (c.unread-first.ensures, λ n. c.read_on-line.ensures ∙ ap (λ k. read_line a.group (line_in a.carry (take (k + 1) a.input.now))) c.unread-first.ensures)
