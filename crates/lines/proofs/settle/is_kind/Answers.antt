-- `is_kind` meets its contract. Assumes nothing.
use mathlib.Core.Path.{refl, sym, ap, ◌∙◌}
use lib.Dec.{eqb}
use Rattle.units.proofs.Picked.{along}
use Rattle.fields.specs.Text.{first_field}
use Rattle.fields.proofs.Texts.{first_none}
use Rattle.lines.specs.Settling.{is_kind}
use Rattle.lines.proofs.Settlings.{kind_far}
use Rattle.lines.proofs.Openings.{open_within, one_byte, two_bytes}
use Rattle.lines.proofs.settle.is_kind.Goals as goal

pub returns-then-ends_at : goal.returns-then-ends_at
unfolding is_kind
returns-then-ends_at c = along (is_kind _) (first_none _ (sym c.ends_at.ensures ∙ c.if-ends_at.true)) refl

pub bounds-text-0 : goal.bounds-text-0
unfolding is_kind
bounds-text-0 c = let l = c in open_within _ _ l.ends_at.ensures l.if-ends_at.false

pub returns-then-ends_at-2 : goal.returns-then-ends_at-2
unfolding is_kind
returns-then-ends_at-2 c = let k = c in let l = k in
    along (is_kind _) (one_byte _ (sym l.ends_at.ensures ∙ l.if-ends_at.false) (sym k.ends_at-2.ensures ∙ k.if-ends_at-2.true)) (ap (eqb _) c.letter.ensures)

pub returns : goal.returns
unfolding is_kind
returns c = let l = c in let a = l.args in
    kind_far a.kind (first_field a.text.now) (two_bytes _ (sym l.ends_at.ensures ∙ l.if-ends_at.false) (sym c.ends_at-2.ensures ∙ c.if-ends_at-2.false))
