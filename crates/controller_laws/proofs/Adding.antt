-- A step that adds one reading, and one that changes nothing: known from the plan alone. Assumes nothing.
use Prim.Native.Nat.{ℕ}
use mathlib.Core.Path.{◌≡◌, refl, sym, ap, ap₂}
use mathlib.Core.Bool.{not}
use native.Mathlib.Omega.{arith}
use lib.Dec.{eqb, ltb}
use lib.ListN.{get_or}
use Rattle.units.specs.declared.labels.RoundLabel.{RoundLabel}
use Rattle.units.specs.declared.refusal.Refusal.{Refusal}
use Rattle.units.specs.declared.refusal.Refusal.TheVariants.{Late, Closed, Clash}
use Rattle.units.specs.declared.settings.Numbers.{Numbers}
use Rattle.units.specs.Labels.{before}
use Rattle.units.specs.Mask.{in_mask}
use Rattle.message.specs.declared.head.Head.TheVariants.{Reading}
use Rattle.message.specs.declared.value.Message.{Message}
use Rattle.plan.specs.declared.brief.Brief.{Brief}
use Rattle.plan.specs.declared.brief.Phase.{Phase}
use Rattle.plan.specs.declared.brief.Phase.TheVariants.{Idle, Collecting, Pending, Voting}
use Rattle.plan.specs.declared.planned.Change.{Change}
use Rattle.plan.specs.declared.planned.Change.TheVariants.{Nothing as Unchanged, Reading as OneReading, More}
use Rattle.plan.specs.declared.planned.Effect.{Effect}
use Rattle.plan.specs.declared.planned.Effect.TheVariants.{Keep, Go, Begin, Add, Merge, Adopt, Count, Issue, Restart}
use Rattle.plan.specs.declared.planned.Plan.{Plan}
use Rattle.plan.specs.Plan.{refuse, does, change_of}
use Rattle.plan.specs.Readings.{collected, same_round, plan_reading}
use Rattle.controller.specs.declared.state.Controller.{Controller}
use Rattle.controller.specs.State.{brief_of}
use Rattle.controller.specs.Effects.{applied}
use Rattle.controller.specs.Step.{planned, reading_change}
use Rattle.controller_laws.proofs.Ways.{on_pick}

never : {A : Type 0} → ◌≡◌ {A = ℕ} 0 1 → A
never z = absurd (omega arith)

-- which of the three a change is, and the reading of one
abbrev is_one : Change → ℕ
is_one Unchanged = 0
is_one (OneReading run raw) = 1
is_one More = 0

abbrev is_some : Change → ℕ
is_some Unchanged = 0
is_some (OneReading run raw) = 1
is_some More = 1

abbrev run_of : Change → ℕ
run_of Unchanged = 0
run_of (OneReading run raw) = run
run_of More = 0

abbrev raw_of : Change → ℕ
raw_of Unchanged = 0
raw_of (OneReading run raw) = raw
raw_of More = 0

-- more is not one reading
pub not_one : {A : Type 0} {run raw : ℕ} → More ≡ OneReading run raw → A
not_one q = never (ap is_one q)

-- WHERE ONE READING IS ALL THAT CHANGES, adding it is all that the plan is
module _ (run raw : ℕ) where
  abbrev Plain : Plan → Type 0
  Plain p = change_of p.effect ≡ OneReading run raw → p ≡ does (Add run raw)

  refused : (why : Refusal) → Plain (refuse why)
  unfolding change_of
  refused why q = never (ap is_one q)

  kept : Plain (does Keep)
  unfolding change_of
  kept q = never (ap is_one q)

  begun : (label : RoundLabel) (r w : ℕ) → Plain (does (Begin label r w))
  unfolding change_of
  begun label r w q = never (ap is_one q)

  added : (r w : ℕ) → Plain (does (Add r w))
  unfolding change_of
  added r w q = ap₂ (λ (i j : ℕ). does (Add i j)) (ap run_of q) (ap raw_of q)

  in_round : (b : Brief) (here r w : ℕ) (phase : Phase) → Plain (same_round b here r w phase)
  unfolding same_round collected
  in_round b here r w Idle = refused Late
  in_round b here r w Collecting =
      on_pick Plain (in_mask b.held r) (λ _. on_pick Plain (eqb here w) (λ _. kept) (λ _. refused Clash)) (λ _. added r w)
  in_round b here r w Pending = refused Closed
  in_round b here r w Voting = refused Closed

  of_reading : (b : Brief) (here : ℕ) (label : RoundLabel) (r w : ℕ) → Plain (plan_reading b here label r w)
  unfolding plan_reading
  of_reading b here label r w =
      on_pick Plain (not (before b.state label)) (λ _. refused Late)
      (λ _.
      on_pick Plain (ltb label.0 b.label.0) (λ _. refused Late)
      (λ _. on_pick Plain (eqb label.0 b.label.0) (λ _. in_round b here r w b.phase) (λ _. begun label r w)))

  pub adds_one : (s : Numbers) (c : Controller) (a : Message) (label : RoundLabel) (r w : ℕ) → reading_change c label r w ≡ OneReading run raw → planned s c a (Reading label r w) ≡ does (Add run raw)
  unfolding planned
  adds_one s c a label r w q = of_reading (brief_of c) (get_or c.readings r 0) label r w q

-- AN EFFECT THAT CHANGES NOTHING leaves the controller as it is
pub changes_none : (s : Numbers) (a : Message) (c : Controller) (e : Effect) → change_of e ≡ Unchanged → applied s a c e ≡ c
unfolding change_of applied
changes_none s a c Keep q = refl
changes_none s a c (Go phase) q = never (sym (ap is_some q))
changes_none s a c (Begin label run raw) q = never (sym (ap is_some q))
changes_none s a c (Add run raw) q = never (sym (ap is_some q))
changes_none s a c (Merge mask) q = never (sym (ap is_some q))
changes_none s a c (Adopt state phase) q = never (sym (ap is_some q))
changes_none s a c (Count seat digest phase) q = never (sym (ap is_some q))
changes_none s a c (Issue seat digest chosen) q = never (sym (ap is_some q))
changes_none s a c (Restart own floor) q = never (sym (ap is_some q))
