-- `digest_fits` meets its contract. Assumes nothing.
use Rattle.std.proofs.Common.{◌≡◌, ◌&&◌, ltb, refl, ◌∙◌, lt-ltb, le-ltb}
use Rattle.units.specs.Labels.{round_fits}
use Rattle.units.proofs.Every.{then_both, else_both}
use Rattle.message.specs.Head.{head_fits}
use Rattle.message.proofs.head.digest_fits.Goals as goal
use Rattle.message.proofs.head.digest_fits.Goals.{then-sender-group, else-sender-group}

pub returns-then-in_range : goal.returns-then-in_range
unfolding head_fits
returns-then-in_range c =
    let front : c.if-sender-group.value ≡ (ltb c.args.sender c.args.group.g && round_fits c.args.label) = elim c.if-sender-group.branch [
      | then-sender-group w ↦ w.value-is ∙ then_both refl (lt-ltb _ _ w.if-sender-group.true) w.in_range.ensures
      | else-sender-group w ↦ w.value-is ∙ else_both _ refl (le-ltb _ _ w.if-sender-group.false)
    ] in
    then_both front c.if-in_range.true c.legal.ensures
