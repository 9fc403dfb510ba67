-- "it goes in, and comes back with what to send": what the step tells of is what is sent, as whole messages, none, one or two. Assumes nothing.
use Rattle.std.specs.Prelude.{Option, None, Some}
use Prim.Native.Nat.{◌+◌, ◌≤◌}
use native.Mathlib.Omega.{arith}
use mathlib.Core.Path.{◌≡◌, refl, ap}
use mathlib.Core.Logic.{inl, inr, ⊎_elim}
use Rattle.units.specs.declared.settings.Numbers.{Numbers}
use Rattle.units.proofs.Every.{absurd_by}
use Rattle.message.specs.declared.head.Head.{Head}
use Rattle.message.specs.declared.value.Message.{Message}
use Rattle.plan.specs.Plan.{Sent}
use Rattle.controller.specs.declared.state.Controller.{Controller}
use Rattle.controller.specs.Answers.{Answer}
use Rattle.controller.specs.Sent.{sent_message}
use Rattle.controller.specs.Step.{stepped}
use Rattle.controller.specs.Told.{whole_of, told, sent_count}
use Rattle.controller_laws.specs.Sendings.{IsSent, Tells}
use Rattle.controller_laws.proofs.Sendings.{sent_in_order}

module _ (s : Numbers) (r : Answer) where
  whole_told : (head : Head) → IsSent r head → Tells (told s r) (sent_message s r.next head)
  unfolding told whole_of
  whole_told head = ⊎_elim (λ e. inl (ap (whole_of s r.next) e)) (λ e. inr (ap (whole_of s r.next) e))

  abbrev Named : Message → Type 0
  Named x = (head : Head) × IsSent r head × (x ≡ sent_message s r.next head)

  same_message : {x y : Message} → ◌≡◌ {A = Option Message} (Some x) (Some y) → y ≡ x
  same_message e = cc

  named : (y : Sent) → ((head : Head) → y ≡ Some head → IsSent r head) → (x : Message) → whole_of s r.next y ≡ Some x → Named x
  unfolding whole_of
  named None f x q = absurd_by (cc)
  named (Some head) f x q = (head, f head refl, same_message q)

  told_named : (x : Message) → Tells (told s r) x → Named x
  unfolding told
  told_named x = ⊎_elim (named r.first (λ head e. inl e) x) (named r.second (λ head e. inr e) x)

  -- a second message goes out behind a first
  in_order : (r.first ≡ None → r.second ≡ None) → (told s r).first ≡ None → (told s r).second ≡ None
  unfolding told whole_of
  in_order gap e = ap (whole_of s r.next) (gap (none_left r.first e))
    where
      none_left : (y : Sent) → whole_of s r.next y ≡ None → y ≡ None
      none_left None e = refl
      none_left (Some head) e = absurd_by (cc)

one_or_none : (x : Option Message) → sent_count x ≤ 1
one_or_none None = omega arith
one_or_none (Some x) = omega arith

module _ (s : Numbers) (c : Controller) (a : Message) where
  -- none, one or two, with no gap
  pub told_few : (sent_count (told s (stepped s c a)).first + sent_count (told s (stepped s c a)).second ≤ 2)
      × ((told s (stepped s c a)).first ≡ None → (told s (stepped s c a)).second ≡ None)
  told_few = (omega (arith, one_or_none (told s (stepped s c a)).first, one_or_none (told s (stepped s c a)).second), in_order s (stepped s c a) (sent_in_order s c a))

  -- each message that is sent is told of, whole ..
  pub told_sent : (head : Head) → IsSent (stepped s c a) head → Tells (told s (stepped s c a)) (sent_message s (stepped s c a).next head)
  told_sent = whole_told s (stepped s c a)

  -- .. and no other
  pub told_only : (x : Message) → Tells (told s (stepped s c a)) x
      → (head : Head) × IsSent (stepped s c a) head × (x ≡ sent_message s (stepped s c a).next head)
  told_only = told_named s (stepped s c a)
