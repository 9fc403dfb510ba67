-- `first` meets its contract. Assumes nothing.
use mathlib.Core.Path.{sym, ap, ◌∙◌}
use Rattle.fields.proofs.Holding.{line_alone}
use Rattle.lines.specs.Reading.{read_line, first_line}
use Rattle.session.proofs.carry.first.Goals as goal

pub returns-then-is_empty : goal.returns-then-is_empty
unfolding first_line
returns-then-is_empty c = let a = c.args in (ap (λ f. f.feed) c.read_first.ensures, λ n. ap (λ f. f.line) c.read_first.ensures ∙ ap (read_line a.group) (sym (line_alone a.carry _ (sym c.is_empty.ensures ∙ c.if-is_empty.true))))

pub returns : goal.returns
returns c = c.first_on.ensures
