-- `Settling::take_sizes` meets its contract. Assumes nothing.
use mathlib.Core.Bool.{not}
use mathlib.Core.Path.{refl, ap}
use Rattle.lines.specs.declared.kind.Kind.TheVariants.{Sizes}
use Rattle.lines.specs.Settling.{kept, with_sizes}
use Rattle.lines.proofs.Settlings.{was_kind, was_not, kind_start, plain_got, settled_err, sizes_are}
use Rattle.lines.proofs.Openings.{none_read}
use Rattle.units.proofs.Picked.{by_no}
use Rattle.lines.proofs.settle.Settling.take_sizes.Goals as goal

pub read_values-requires : goal.read_values-requires
read_values-requires c = (kind_start Sizes _ (was_kind c.is_kind.ensures (ap not c.if-not-is_kind.false)), none_read, refl)

pub returns : goal.returns
returns c =
    let s = c.args.self in let t = c.in_ok-read_values.was in
    plain_got s Sizes _ (was_kind c.is_kind.ensures (ap not c.if-not-is_kind.false)) c.any_group.ensures c.read_values.ensures (with_sizes s.settings) t
    (ap (kept s) (sizes_are _ _ (c.read_values.ensures.rest t) s.settings c.with_sizes.ensures))

pub returns-in_err-read_values : goal.returns-in_err-read_values
returns-in_err-read_values c =
    let s = c.args.self in
    plain_got s Sizes _ (was_kind c.is_kind.ensures (ap not c.if-not-is_kind.false)) c.any_group.ensures c.read_values.ensures (with_sizes s.settings)
    c.in_err-read_values.was (settled_err _ _ _ c.from_residual.ensures.1)

pub returns-then-not-is_kind : goal.returns-then-not-is_kind
returns-then-not-is_kind c = by_no _ (was_not c.is_kind.ensures (ap not c.if-not-is_kind.true)) refl
