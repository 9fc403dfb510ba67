-- What it says that settings, seats, a phase and a whole controller are in range, as facts and back. Assumes nothing.
use Prim.Native.Nat.{ℕ, ◌^◌, ◌≤◌, ◌<◌}
use mathlib.Core.Path.{◌≡◌, refl, ap, subst}
use mathlib.Core.Bool.{Bool, true, false, not, ◌&&◌}
use lib.Dec.{ltb}
use lib.ListN.{get_or, replicate, get_or-replicate}
use borrow.Author.Tests.{leb-true, le-leb, ltb-true, lt-ltb, not-true}
use Rattle.units.specs.declared.settings.Group.{Group}
use Rattle.units.specs.declared.settings.Numbers.{Numbers}
use Rattle.units.specs.Labels.{floor_fits, state_label_fits}
use Rattle.units.specs.Limits.{controllers_top, runs_top, label_top, first_top}
use Rattle.units.specs.Mask.{mask_end}
use Rattle.units.specs.Settings.{numbers_fit}
use Rattle.units.proofs.Every.{and_left, and_right, and_both}
use Rattle.units.proofs.InRange.{numbers_range}
use Rattle.units.proofs.Masks.{mask_end_is}
use Rattle.floats.specs.Ranges.{state_fits}
use Rattle.vote.specs.Digest.{Ballot, legal}
use Rattle.vote.specs.declared.votes.Seat.{Seat}
use Rattle.vote.specs.Vote.{nobody, seats_fit}
use Rattle.message.specs.Readings.{readings_fit}
use Rattle.plan.specs.declared.brief.Brief.{Brief}
use Rattle.plan.specs.declared.brief.Phase.{Phase}
use Rattle.plan.specs.declared.brief.Phase.TheVariants.{Idle, Collecting, Pending, Voting}
use Rattle.plan.specs.Votes.{own_digest}
use Rattle.controller.specs.declared.state.Controller.{Controller}
use Rattle.controller.specs.State.{brief_of, ballot_at, cast, phase_fits, controller_fits}
use Rattle.controller_laws.specs.Phases.{Busy}

pub five : (a b c d e : Bool) → (a && b && c && d && e) ≡ true → (a ≡ true) × (b ≡ true) × (c ≡ true) × (d ≡ true) × (e ≡ true)
five a b c d e p =
    let q = and_left (a && b && c && d) e p in
    let r = and_left (a && b && c) d q in
    let t = and_left (a && b) c r in
    (and_left a b t, and_right a b t, and_right (a && b) c r, and_right (a && b && c) d q, and_right (a && b && c && d) e p)

eight : (a b c d e f g h : Bool) → (a && b && c && d && e && f && g && h) ≡ true
    → (a ≡ true) × (b ≡ true) × (c ≡ true) × (d ≡ true) × (e ≡ true) × (f ≡ true) × (g ≡ true) × (h ≡ true)
eight a b c d e f g h p =
    let q = and_left (a && b && c && d && e && f && g) h p in
    let r = and_left (a && b && c && d && e && f) g q in
    let t = five (a && b) c d e f r in
    (and_left a b t.0, and_right a b t.0, t.1, t.2, t.3, t.4, and_right (a && b && c && d && e && f) g q, and_right (a && b && c && d && e && f && g) h p)

-- ---- the settings
pub record Sized (s : Group) : Type 0 where
  pub g_high : s.g ≤ controllers_top
  pub m_high : s.m ≤ runs_top

module _ (s : Numbers) (h : numbers_fit s ≡ true) where
  pub first_high : s.p ≤ first_top
  first_high = (numbers_range s h).p.1

  pub sized : Sized s.group
  sized = let f = numbers_range s h in record { g_high = f.controllers.1; m_high = f.runs.1 }

-- ---- a mask below the end of m runs' masks
pub below_end : (m mask : ℕ) → m ≤ runs_top → mask < mask_end m → mask < 2 ^ m
below_end m mask h l = subst (λ (n : ℕ). mask < n) (mask_end_is m h) l

-- ---- seats
pub unseated : (i : ℕ) → i < 7 → cast (get_or (replicate controllers_top nobody) i nobody).ballot ≡ false
unseated i k = ap (λ (v : Seat). cast v.ballot) (get_or-replicate 7 i nobody nobody k)

-- ---- a phase: the own vote is there exactly while voting
abbrev pub Own : Phase → Ballot → Type 0
Own Idle b = Unit {0}
Own Collecting b = cast b ≡ false
Own Pending b = cast b ≡ false
Own Voting b = cast b ≡ true

module _ (b : Brief) (m : ℕ) (own : Ballot) where
  pub phase_legal : (phase : Phase) → phase_fits b m own phase ≡ true → Busy phase → legal m b.label (own_digest b) ≡ true
  unfolding phase_fits
  phase_legal Idle h k = absurd k
  phase_legal Collecting h k = and_left (legal m b.label (own_digest b)) _ h
  phase_legal Pending h k = and_left (legal m b.label (own_digest b)) _ h
  phase_legal Voting h k = and_left (legal m b.label (own_digest b)) _ h

  pub phase_own : (phase : Phase) → phase_fits b m own phase ≡ true → Own phase own
  unfolding phase_fits
  phase_own Idle h = tt
  phase_own Collecting h = not-true _ (and_right (legal m b.label (own_digest b)) _ h)
  phase_own Pending h = not-true _ (and_right (legal m b.label (own_digest b)) _ h)
  phase_own Voting h = and_right (legal m b.label (own_digest b)) _ h

  pub phase_made : (phase : Phase) → (Busy phase → legal m b.label (own_digest b) ≡ true) → Own phase own → phase_fits b m own phase ≡ true
  unfolding phase_fits
  phase_made Idle h k = refl
  phase_made Collecting h k = and_both (h tt) (ap not k)
  phase_made Pending h k = and_both (h tt) (ap not k)
  phase_made Voting h k = and_both (h tt) k

-- ---- a controller
pub record Valid (s : Numbers) (c : Controller) : Type 0 where
  pub own : c.own < s.group.g
  pub label : c.label.0 ≤ label_top
  pub state : c.state.0 ≤ label_top
  pub estimates : state_fits s.group.m c.estimates ≡ true
  pub held : c.held < mask_end s.group.m
  pub readings : readings_fit c.held c.readings ≡ true
  pub votes : seats_fit s.group c.label c.votes ≡ true
  pub phase : phase_fits (brief_of c) s.group.m (ballot_at c c.own) c.phase ≡ true

module _ (s : Numbers) (c : Controller) where
  pub valid_facts : controller_fits s c ≡ true → Valid s c
  unfolding controller_fits
  valid_facts h =
      let q = eight (ltb c.own s.group.g) (floor_fits c.label) (state_label_fits c.state) (state_fits s.group.m c.estimates)
      (ltb c.held (mask_end s.group.m)) (readings_fit c.held c.readings) (seats_fit s.group c.label c.votes)
      (phase_fits (brief_of c) s.group.m (ballot_at c c.own) c.phase) h in
      record {
        own = ltb-true _ _ q.0;
        label = leb-true _ _ q.1;
        state = leb-true _ _ q.2;
        estimates = q.3;
        held = ltb-true _ _ q.4;
        readings = q.5;
        votes = q.6;
        phase = q.7;
      }

  pub valid_made : Valid s c → controller_fits s c ≡ true
  unfolding controller_fits
  valid_made v =
      and_both
      (and_both
      (and_both
      (and_both
      (and_both (and_both (and_both (lt-ltb _ _ v.own) (le-leb _ _ v.label)) (le-leb _ _ v.state)) v.estimates) (lt-ltb _ _ v.held))
      v.readings)
      v.votes)
      v.phase
