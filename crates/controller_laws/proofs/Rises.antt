-- Within one life the labels never fall and the own number stays; a controller that is not idle, or in an early phase, was so before or has a new label. Assumes nothing.
use Rattle.std.specs.Prelude.{None, Some}
use Prim.Native.Nat.{ℕ, ◌≤◌, ◌<◌}
use native.Mathlib.Nat.{le_refl, le_of_lt}
use native.Mathlib.Omega.{arith}
use mathlib.Core.Path.{◌≡◌, refl, sym, subst}
use mathlib.Core.Bool.{true}
use mathlib.Core.Logic.{◌⊎◌, inl, inr}
use lib.Bits.{bit_and}
use lib.Dec.{eqb}
use borrow.Author.Tests.{ltb-true, eqb-true}
use Rattle.units.specs.declared.settings.Numbers.{Numbers}
use Rattle.units.specs.Labels.{before}
use Rattle.units.proofs.Every.{and_right}
use Rattle.vote.specs.declared.digest.Digest.{Digest}
use Rattle.message.specs.declared.head.Head.{Head}
use Rattle.message.specs.declared.value.Message.{Message}
use Rattle.plan.specs.declared.planned.Effect.{Effect}
use Rattle.plan.specs.declared.planned.Plan.{Plan}
use Rattle.plan.specs.Plan.{Sent, afterwards}
use Rattle.plan.specs.Votes.{possessed}
use Rattle.controller.specs.declared.state.Controller.{Controller}
use Rattle.controller.specs.Answers.{Answer}
use Rattle.controller.specs.State.{brief_of}
use Rattle.controller.specs.Effects.{applied}
use Rattle.controller.specs.Step.{stepped}
use Rattle.controller_laws.specs.Changes.{NoStart}
use Rattle.controller_laws.specs.Phases.{Busy, Early}
use Rattle.controller_laws.specs.Ways.{Votes, Leads, Goes}
use Rattle.controller_laws.specs.Ways.Votes.{another's, ours}
use Rattle.controller_laws.specs.Ways.Leads.{refused, unchanged, begins, adds, replies, merges, updates, adopts_idle, adopts_before, adopts_past, asks, adverts, asks_and_adverts, collected, lapses, counts, open_still, behind, lacking, issues, restarts}
use Rattle.controller_laws.specs.Ways.Goes.{out, led}
use Rattle.controller_laws.proofs.Ways.{goes}

pub same_effect : (e : Effect) (h : Head) (first : Sent) → (afterwards e h first).effect ≡ e
unfolding afterwards
same_effect e h None = refl
same_effect e h (Some one) = refl

-- what is issued was computed from the state that is here, which lies before the round
issue_base : (c : Controller) (chosen : Digest) → before chosen.state c.label ≡ true → possessed (brief_of c) chosen ≡ true → c.state.0 < c.label.0
unfolding possessed
issue_base c chosen b p =
    let e = eqb-true chosen.state.0 c.state.0 (and_right (eqb (bit_and chosen.mask c.held) chosen.mask) _ p) in
    omega (arith, ltb-true chosen.state.0 c.label.0 b)

-- a vote is taken in while not idle
pub vote_busy : {c : Controller} {h : Head} {seat : ℕ} {digest : Digest} {first : Sent} → Votes c h seat digest first → Busy c.phase
vote_busy (another's n e f) = rw e tt
vote_busy (ours e) = rw e tt

-- from a controller to the next, in one life
pub record Rises (c n : Controller) : Type 0 where
  pub own : n.own ≡ c.own
  pub label : c.label.0 ≤ n.label.0
  pub state : c.state.0 ≤ n.state.0
  pub busy : Busy n.phase → (c.label.0 < n.label.0) ⊎ Busy c.phase
  pub early : Early n.phase → (c.label.0 < n.label.0) ⊎ Early c.phase

as_it_was : (c : Controller) → Rises c c
as_it_was c = record { own = refl; label = le_refl _; state = le_refl _; busy = λ b. inr b; early = λ e. inr e }

module _ (s : Numbers) (c : Controller) (a : Message) where
  rises : {h : Head} {p : Plan} → Leads s c a h p → NoStart h → Rises c (applied s a c p.effect)
  unfolding applied
  rises (refused why e) n = as_it_was c
  rises (unchanged r) n = as_it_was c
  rises (begins l k) n = record { own = refl; label = le_of_lt k; state = le_refl _; busy = λ e. inl k; early = λ e. inl k }
  rises (adds e lo k) n = record { own = refl; label = le_refl _; state = le_refl _; busy = λ z. inr z; early = λ z. inr z }
  rises (replies ne b k) n = as_it_was c
  rises (merges ne e k) n = record { own = refl; label = le_refl _; state = le_refl _; busy = λ z. inr z; early = λ z. inr z }
  rises (updates ne l) n = as_it_was c
  rises (adopts_idle ne e l) n = record { own = refl; label = le_refl _; state = le_of_lt l; busy = λ z. absurd z; early = λ z. absurd z }
  rises (adopts_before ne e l k) n = record { own = refl; label = le_refl _; state = le_of_lt l; busy = λ z. inr (rw e tt); early = λ z. inr (rw e tt) }
  rises (adopts_past ne e l k) n = record { own = refl; label = le_refl _; state = le_of_lt l; busy = λ z. absurd z; early = λ z. absurd z }
  rises (asks e k lo) n = as_it_was c
  rises (adverts e lo l) n = as_it_was c
  rises (asks_and_adverts e k l) n = as_it_was c
  rises (collected e) n = record { own = refl; label = le_refl _; state = le_refl _; busy = λ z. inr (rw e tt); early = λ z. inr (rw e tt) }
  rises (lapses e) n = record { own = refl; label = le_refl _; state = le_refl _; busy = λ z. absurd z; early = λ z. absurd z }
  rises (counts k e f) n = record { own = refl; label = le_refl _; state = le_refl _; busy = λ z. inr z; early = λ z. inr z }
  rises (open_still w d) n = record { own = refl; label = le_refl _; state = le_refl _; busy = λ z. inr (vote_busy w); early = λ z. absurd z }
  rises (behind w d b) n = record { own = refl; label = le_refl _; state = le_refl _; busy = λ z. absurd z; early = λ z. absurd z }
  rises (lacking w d b k) n = record { own = refl; label = le_refl _; state = le_refl _; busy = λ z. absurd z; early = λ z. absurd z }
  rises (issues {chosen = chosen} w d b k) n =
      subst (λ (e : Effect). Rises c (applied s a c e)) (sym (same_effect _ _ _))
      (record { own = refl; label = le_refl _; state = le_of_lt (issue_base c chosen b k); busy = λ z. absurd z; early = λ z. absurd z })
  rises (restarts {own} {floor}) n = absurd (n own floor refl)

  module _ (n : NoStart a.head) where
    pub step_rises : Rises c (stepped s c a).next
    step_rises = way (goes s c a)
      where
        way : {r : Answer} → Goes s c a r → Rises c r.next
        way (out e) = as_it_was c
        way (led e w) = rises w n

    -- "the current label never falls within one life"
    pub label_rises : c.label.0 ≤ (stepped s c a).next.label.0
    label_rises = step_rises.label

    -- "the state label never falls"
    pub state_rises : c.state.0 ≤ (stepped s c a).next.state.0
    state_rises = step_rises.state

    -- the own number changes by B alone
    pub own_stays : (stepped s c a).next.own ≡ c.own
    own_stays = step_rises.own

    -- not idle after a step: a round was begun above the current label, or it was not idle before
    pub busy_step : Busy (stepped s c a).next.phase → (c.label.0 < (stepped s c a).next.label.0) ⊎ Busy c.phase
    busy_step = step_rises.busy
