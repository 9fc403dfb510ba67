-- A message that carries no array: what is in range of it is what is in range of its head. Assumes nothing.
use mathlib.Core.Path.{◌≡◌, refl, sym, ap, ap₂, ◌∙◌}
use mathlib.Core.Bool.{true, ◌&&◌}
use native.Mathlib.Omega.{arith}
use lib.Ieee.{nan}
use lib.ListN.{replicate, get_or-replicate}
use Rattle.units.specs.declared.settings.Group.{Group}
use Rattle.units.specs.Limits.{runs_top}
use Rattle.units.specs.Reading.{reading_place}
use Rattle.units.specs.Settings.{group_fits}
use Rattle.units.proofs.Every.{and_true}
use Rattle.units.proofs.Masks.{no_run}
use Rattle.floats.specs.Bits.{nought}
use Rattle.floats.specs.Ranges.{blank, no_estimate, state_fits, targets_fit}
use Rattle.floats.proofs.Places.{state_made, targets_made}
use Rattle.message.specs.declared.head.Carried.{Carried}
use Rattle.message.specs.declared.head.Head.{Head}
use Rattle.message.specs.Head.{carry, carried, head_fits, is_plain}
use Rattle.message.specs.Message.{plain, message_fits}
use Rattle.message.specs.Readings.{readings_fit}
use Rattle.message.proofs.Ranges.{readings_made}
use Rattle.message.proofs.Views.{plain_seen}

-- arrays that a message does not use
pub none_fit : readings_fit 0 (replicate 16 0) ≡ true
none_fit = readings_made 0 (replicate 16 0) refl (λ i k. ap₂ reading_place (no_run i) (get_or-replicate 16 i 0 0 k))

pub unused_estimates : state_fits 0 (replicate runs_top blank) ≡ true
unused_estimates = state_made 0 (replicate runs_top blank) refl (λ i l k. absurd (omega arith)) (λ i l k. get_or-replicate 16 i blank no_estimate k)

pub unused_targets : targets_fit 0 (replicate runs_top nought) ≡ true
unused_targets = targets_made 0 (replicate runs_top nought) refl (λ i l k. absurd (omega arith)) (λ i l k. get_or-replicate 16 i nought nan k)

-- a plain kind carries nothing
pub carries_none : (s : Group) (head : Head) → is_plain head ≡ true → carried s head ≡ carry 0 0 0
unfolding carried
carries_none s head e = let p = plain_seen head e in rw (p.0, p.1, p.2)

-- a head that carries nothing is all that is judged of its message
pub plain_fit : (s : Group) (head : Head) → carried s head ≡ carry 0 0 0 → message_fits s (plain head) ≡ (group_fits s && head_fits s head)
unfolding message_fits plain
plain_fit s head e =
    let b = group_fits s && head_fits s head in
    let r : readings_fit (carried s head).readings (replicate runs_top 0) ≡ true = ap (λ (k : Carried). readings_fit k.readings (replicate runs_top 0)) e ∙ none_fit in
    let x : state_fits (carried s head).estimates (replicate runs_top blank) ≡ true = ap (λ (k : Carried). state_fits k.estimates (replicate runs_top blank)) e ∙ unused_estimates in
    let t : targets_fit (carried s head).targets (replicate runs_top nought) ≡ true = ap (λ (k : Carried). targets_fit k.targets (replicate runs_top nought)) e ∙ unused_targets in
    rw (r, x, t) (sym (and_true b ∙ and_true (b && true) ∙ and_true (b && true && true)))
