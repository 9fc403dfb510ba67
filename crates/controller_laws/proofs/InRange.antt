-- 6 IS GIVEN EXACTLY WHERE A CLAUSE FAILS: each test of range holds exactly when every clause of specs/InRange.antt does. Assumes nothing.
use Rattle.std.specs.Prelude.{Err, None, Ok, Some}
use Prim.Native.Nat.{ℕ, ◌≤◌, ◌<◌}
use native.Mathlib.Omega.{arith}
use mathlib.Core.Path.{◌≡◌, refl, sym, ap, subst, ◌∙◌}
use mathlib.Core.Bool.{Bool, true, false, true≢false, ◌&&◌}
use mathlib.Core.Logic.{⊎_elim}
use lib.Dec.{eqb, ltb}
use borrow.Author.Tests.{eqb-true, eq-eqb, leb-true, le-leb, ltb-true, lt-ltb}
use Rattle.units.specs.declared.labels.RoundLabel.{RoundLabel}
use Rattle.units.specs.declared.refusal.Refusal.{Refusal}
use Rattle.units.specs.declared.refusal.Refusal.TheVariants.{Range}
use Rattle.units.specs.declared.settings.Numbers.{Numbers}
use Rattle.units.specs.Labels.{floor_fits}
use Rattle.units.specs.Limits.{runs_top, raw_top}
use Rattle.units.specs.Mask.{in_mask, mask_end}
use Rattle.units.specs.Refusal.{number_of}
use Rattle.units.specs.Settings.{numbers_fit}
use Rattle.units.specs.Reading.{reading_place}
use Rattle.units.proofs.Every.{and_left, and_right, and_both, and_three}
use Rattle.units.proofs.Masks.{mask_end_is}
use Rattle.units.proofs.Picked.{by_yes, by_no}
use Rattle.floats.proofs.Places.{estimate_x, estimate_variance, estimate_made, state_length, state_run, state_blank, state_made}
use Rattle.vote.specs.declared.digest.Digest.{Digest}
use Rattle.vote.specs.Digest.{Ballot, legal}
use Rattle.vote.specs.Vote.{seat_fits}
use Rattle.message.specs.declared.head.Head.{Head}
use Rattle.message.specs.declared.value.Message.{Message}
use Rattle.message.specs.Message.{message_fits}
use Rattle.message.proofs.Ranges.{readings_length, readings_place, readings_made}
use Rattle.plan.specs.declared.brief.Phase.{Phase}
use Rattle.plan.specs.declared.brief.Phase.TheVariants.{Idle, Collecting, Pending, Voting}
use Rattle.plan.specs.Votes.{own_digest}
use Rattle.controller.specs.declared.state.Controller.{Controller}
use Rattle.controller.specs.Start.{start_of, started}
use Rattle.controller.specs.State.{brief_of, ballot_at, cast, controller_fits}
use Rattle.controller.specs.Step.{inputs_fit, stepped}
use Rattle.controller_laws.specs.Endings.{refused_only}
use Rattle.controller_laws.specs.InRange.{ControllerInRange, InputsInRange, StartInRange}
use Rattle.controller_laws.specs.Phases.{Early}
use Rattle.controller_laws.specs.Reasons.{Refuses}
use Rattle.controller_laws.specs.Reasons.Refuses.{is_unknown, is_own, is_late, is_other, is_closed, is_clash}
use Rattle.controller_laws.proofs.Refusals.{refused_for}
use Rattle.vote.proofs.InRange.{legal_exact, seats_length, seats_place, seats_made}
use Rattle.controller_laws.proofs.Valid.{sized, below_end, Own, phase_legal, phase_own, phase_made, valid_facts, valid_made}

-- another number than 6
no_range : {why : Refusal} → eqb (number_of why) 6 ≡ false → why ≡ Range → ⊥
no_range e q = true≢false (sym (ap (λ (w : Refusal). eqb (number_of w) 6) q) ∙ e)

-- ---- readings
place_held : (b : Bool) (raw : ℕ) → b ≡ true → reading_place b raw ≡ true → raw ≤ raw_top
place_held b raw e h = leb-true _ _ (subst (λ (x : Bool). reading_place x raw ≡ true) e h)

place_bare : (b : Bool) (raw : ℕ) → b ≡ false → reading_place b raw ≡ true → raw ≡ 0
place_bare b raw e h = eqb-true _ _ (subst (λ (x : Bool). reading_place x raw ≡ true) e h)

place_fits_lem : (b : Bool) (raw : ℕ) → (b ≡ true → raw ≤ raw_top) → (b ≡ false → raw ≡ 0) → reading_place b raw ≡ true
place_fits_lem true raw h k = le-leb raw raw_top (h refl)
place_fits_lem false raw h k = eq-eqb raw 0 (k refl)

-- ---- a seat
seat_cast : (inside : Bool) (m : ℕ) (label : RoundLabel) (b : Ballot) (d : Digest) → b ≡ Some d → seat_fits inside m label b ≡ true → (inside ≡ true) × (legal m label d ≡ true)
unfolding seat_fits
seat_cast inside m label b d e h = let q = subst (λ (x : Ballot). seat_fits inside m label x ≡ true) e h in (and_left inside (legal m label d) q, and_right inside (legal m label d) q)

seat_made : (inside : Bool) (m : ℕ) (label : RoundLabel) (b : Ballot) → ((d : Digest) → b ≡ Some d → (inside ≡ true) × (legal m label d ≡ true)) → seat_fits inside m label b ≡ true
unfolding seat_fits
seat_made inside m label None h = refl
seat_made inside m label (Some d) h = let q = h d refl in and_both q.0 q.1

-- ---- the own vote
not_cast : (b : Ballot) → cast b ≡ false → b ≡ None
not_cast None e = refl
not_cast (Some d) e = absurd (true≢false e)

is_cast : (b : Ballot) → cast b ≡ true → (d : Digest) × (b ≡ Some d)
is_cast None e = absurd (true≢false (sym e))
is_cast (Some d) e = (d, refl)

own_unvoted : (p : Phase) (b : Ballot) → Own p b → Early p → b ≡ None
own_unvoted Idle b o e = absurd e
own_unvoted Collecting b o e = not_cast b o
own_unvoted Pending b o e = not_cast b o
own_unvoted Voting b o e = absurd e

own_voted : (p : Phase) (b : Ballot) → Own p b → p ≡ Voting → (d : Digest) × (b ≡ Some d)
own_voted p b o e = is_cast b (subst (λ (x : Phase). Own x b) e o)

own_made : (p : Phase) (b : Ballot) → (Early p → b ≡ None) → (p ≡ Voting → (d : Digest) × (b ≡ Some d)) → Own p b
own_made Idle b h k = tt
own_made Collecting b h k = ap cast (h tt)
own_made Pending b h k = ap cast (h tt)
own_made Voting b h k = ap cast (k refl).1

-- ---- a controller
module _ (s : Numbers) (c : Controller) (fit : numbers_fit s ≡ true) where
  abbrev m : ℕ
  m = s.group.m

  small : m ≤ runs_top
  small = (sized s fit).m_high

  -- what it says that a controller state is in range
  controller_clauses : controller_fits s c ≡ true → ControllerInRange s c
  controller_clauses h =
      let v = valid_facts s c h in
      record {
        own = v.own;
        label = v.label;
        state = v.state;
        sixteen = state_length m c.estimates v.estimates;
        by_run = readings_length c.held c.readings v.readings;
        seven = seats_length s.group c.label c.votes v.votes;
        estimate = λ i k. let e = state_run m c.estimates i v.estimates k (omega (arith, small)) in (estimate_x _ e, estimate_variance _ e);
        no_estimate_held = λ i k l. state_blank m c.estimates i v.estimates k l;
        held = below_end m c.held small v.held;
        reading = λ i k e. place_held (in_mask c.held i) _ e (readings_place c.held c.readings v.readings i k);
        no_reading = λ i k e. place_bare (in_mask c.held i) _ e (readings_place c.held c.readings v.readings i k);
        vote = λ i d k e.
            let q = seat_cast (ltb i s.group.g) m c.label (ballot_at c i) d e (seats_place s.group c.label c.votes v.votes i k) in
            (ltb-true _ _ q.0, (legal_exact m c.label d).0 q.1);
        busy = λ b. let q = (legal_exact m c.label (own_digest (brief_of c))).0 (phase_legal (brief_of c) m (ballot_at c c.own) c.phase v.phase b) in (q.some_run, q.older);
        unvoted = λ e. own_unvoted c.phase _ (phase_own (brief_of c) m (ballot_at c c.own) c.phase v.phase) e;
        voted = λ e. own_voted c.phase _ (phase_own (brief_of c) m (ballot_at c c.own) c.phase v.phase) e;
      }

  -- and that each clause is all that it asks
  clauses_controller : ControllerInRange s c → controller_fits s c ≡ true
  clauses_controller q =
      valid_made s c
      (record {
        own = q.own;
        label = q.label;
        state = q.state;
        estimates = state_made m c.estimates q.sixteen (λ i k l. let e = q.estimate i k in estimate_made _ e.0 e.1) q.no_estimate_held;
        held = high;
        readings = readings_made c.held c.readings q.by_run (λ i k. place_fits_lem (in_mask c.held i) _ (q.reading i k) (q.no_reading i k));
        votes =
            seats_made s.group c.label c.votes q.seven
            (λ i k. seat_made (ltb i s.group.g) m c.label (ballot_at c i) (λ d e. let z = q.vote i d k e in (lt-ltb _ _ z.0, (legal_exact m c.label d).1 z.1)));
        phase =
            phase_made (brief_of c) m (ballot_at c c.own) c.phase
            (λ b. let z = q.busy b in (legal_exact m c.label (own_digest (brief_of c))).1 (record { runs = small; some_run = z.0; own_runs = q.held; older = z.1 }))
            (own_made c.phase (ballot_at c c.own) q.unvoted q.voted);
      })
    where
      high : c.held < mask_end m
      high = subst (λ (n : ℕ). c.held < n) (sym (mask_end_is m small)) q.held

  -- "a controller state handed in": in range exactly when each clause holds
  pub controller_exact : (controller_fits s c ≡ true → ControllerInRange s c) × (ControllerInRange s c → controller_fits s c ≡ true)
  controller_exact = (controller_clauses, clauses_controller)

-- ---- the inputs of a step
module _ (s : Numbers) (c : Controller) (a : Message) where
  pub inputs_exact : (inputs_fit s c a ≡ true → InputsInRange s c a) × (InputsInRange s c a → inputs_fit s c a ≡ true)
  unfolding inputs_fit
  inputs_exact = (
    λ h. let q = and_three (numbers_fit s) (controller_fits s c) (message_fits s.group a) h in record { settings = q.0; controller = (controller_exact s c q.0).0 q.1; message = q.2 },
    λ q. and_both (and_both q.settings ((controller_exact s c q.settings).1 q.controller)) q.message,
  )

  -- none of the other reasons is 6
  other_reason : {h : Head} {why : Refusal} → Refuses c a h why → why ≡ Range → ⊥
  other_reason is_unknown q = no_range refl q
  other_reason (is_own k) q = no_range refl q
  other_reason (is_late k) q = no_range refl q
  other_reason (is_other k) q = no_range refl q
  other_reason (is_closed k) q = no_range refl q
  other_reason (is_clash k) q = no_range refl q

  -- 6 exactly where something is out of range, "before all else", and the controller is as it was
  pub six_exact : ((stepped s c a).verdict ≡ Err Range → InputsInRange s c a → ⊥) × ((InputsInRange s c a → ⊥) → stepped s c a ≡ refused_only c Range)
  unfolding stepped
  six_exact = (
    λ q r. ⊎_elim (λ z. true≢false (sym (inputs_exact.1 r) ∙ z.1)) (λ z. other_reason z.1 refl) (refused_for s c a Range q refl),
    λ n. sym (by_no _ (unmet (inputs_fit s c a) refl n) refl),
  )
    where
      unmet : (b : Bool) → inputs_fit s c a ≡ b → (InputsInRange s c a → ⊥) → b ≡ false
      unmet true e n = absurd (n (inputs_exact.0 e))
      unmet false e n = refl

-- ---- a start
module _ (s : Numbers) (own : ℕ) (floor : RoundLabel) where
  start_test : (numbers_fit s && ltb own s.group.g && floor_fits floor) ≡ true → StartInRange s own floor
  start_test h = let q = and_three (numbers_fit s) (ltb own s.group.g) (floor_fits floor) h in record { settings = q.0; number = ltb-true _ _ q.1; low = leb-true _ _ q.2 }

  -- a start is taken exactly where settings, number and floor are in range, and is 6 otherwise; the controller is that of the start either way
  pub started_exact : (StartInRange s own floor → started s own floor ≡ Ok (start_of s own floor))
      × ((StartInRange s own floor → ⊥) → started s own floor ≡ Err (record { why = Range; controller = start_of s own floor }))
  unfolding started
  started_exact = (
    λ q. sym (by_yes _ (and_both (and_both q.settings (lt-ltb _ _ q.number)) (le-leb _ _ q.low)) refl),
    λ n. sym (by_no _ (unmet (numbers_fit s && ltb own s.group.g && floor_fits floor) refl n) refl),
  )
    where
      unmet : (b : Bool) → (numbers_fit s && ltb own s.group.g && floor_fits floor) ≡ b → (StartInRange s own floor → ⊥) → b ≡ false
      unmet true e n = absurd (n (start_test e))
      unmet false e n = refl
