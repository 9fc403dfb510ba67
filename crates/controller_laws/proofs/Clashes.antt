-- 11 is given only where the message differs from what is held for the same thing. Assumes nothing.
use Rattle.std.specs.Prelude.{Err}
use mathlib.Core.Path.{◌≡◌, refl, sym, ap, ◌∙◌}
use mathlib.Core.Bool.{true, false, true≢false}
use mathlib.Core.Logic.{⊎_elim}
use lib.Dec.{eqb}
use Rattle.units.specs.declared.refusal.Refusal.{Refusal}
use Rattle.units.specs.declared.refusal.Refusal.TheVariants.{Clash}
use Rattle.units.specs.declared.settings.Numbers.{Numbers}
use Rattle.units.specs.Refusal.{number_of}
use Rattle.message.specs.declared.head.Head.{Head}
use Rattle.message.specs.declared.value.Message.{Message}
use Rattle.controller.specs.declared.state.Controller.{Controller}
use Rattle.controller.specs.Step.{inputs_fit, stepped}
use Rattle.controller_laws.specs.Reasons.{Clashed, Refuses}
use Rattle.controller_laws.specs.Reasons.Refuses.{is_unknown, is_own, is_late, is_other, is_closed, is_clash}
use Rattle.controller_laws.proofs.Refusals.{refused_for}

-- another number than 11
no_clash : {A : Type 0} {why : Refusal} → eqb (number_of why) 11 ≡ false → why ≡ Clash → A
no_clash e q = absurd (true≢false (sym (ap (λ (w : Refusal). eqb (number_of w) 11) q) ∙ e))

module _ (s : Numbers) (c : Controller) (a : Message) where
  why_clash : {h : Head} {why : Refusal} → Refuses c a h why → why ≡ Clash → Clashed c a h
  why_clash is_unknown q = no_clash refl q
  why_clash (is_own m) q = no_clash refl q
  why_clash (is_late l) q = no_clash refl q
  why_clash (is_other o) q = no_clash refl q
  why_clash (is_closed x) q = no_clash refl q
  why_clash (is_clash k) q = k

  -- 11 is given only where all is in range, and to a message that differs from what is held for the same thing
  pub clash_only : (stepped s c a).verdict ≡ Err Clash → (inputs_fit s c a ≡ true) × Clashed c a a.head
  clash_only q = ⊎_elim (λ z. no_clash refl (sym z.0)) (λ z. (z.0, why_clash z.1 refl)) (refused_for s c a Clash q refl)
