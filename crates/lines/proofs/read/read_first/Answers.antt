-- `read_first` meets its contract. Assumes nothing.
use Rattle.std.specs.Prelude.{Some}
use borrow.Author.Rules.{rules}
use borrow.Author.Tests.{tests}
use mathlib.Core.Path.{refl, sym, ap, ◌∙◌}
use Rattle.lines.proofs.Openings.{none_read}
use Rattle.lines.proofs.Straights.{trod_start, reading_three}
use Rattle.lines.proofs.read.read_first.Goals as goal

pub reading_in-trail-requires : goal.reading_in-trail-requires
reading_in-trail-requires c = trod_start _ _ _ _ (search (rules, tests)) refl none_read

pub numbers_in-trail-requires : goal.numbers_in-trail-requires
numbers_in-trail-requires c = trod_start _ _ _ _ (search (rules, tests)) refl none_read

pub read_to-requires : goal.read_to-requires
read_to-requires c = (
  sym c.in_range.ensures ∙ c.if-not-in_range.false,
  search (rules, tests),
  sym c.kind_of.ensures ∙ c.in-Some-Reading.is ∙ ap Some c.in-Some-Reading.field-0-is,
  λ at e. rw (← reading_three _ _) (c.reading_in-trail.ensures at e),
)
