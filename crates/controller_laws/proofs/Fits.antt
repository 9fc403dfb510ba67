-- A START IS IN RANGE, AND A STEP KEEPS A CONTROLLER IN RANGE. Without this every promise about controllers in range would be empty. Assumes nothing.
use Rattle.std.specs.Prelude.{Result, Err, Ok, Some}
use Prim.Native.Nat.{ℕ, ◌≤◌, ◌<◌}
use native.Mathlib.Omega.{arith}
use native.Mathlib.Nat.{zero-add}
use mathlib.Core.Path.{◌≡◌, refl, sym, ap, subst, subst⁻¹, ◌∙◌}
use mathlib.Core.Bool.{Bool, true, false, ◌&&◌}
use mathlib.Core.List.{List}
use lib.Bits.{bit_or}
use lib.Dec.{leb, ltb, lit≤}
use lib.ListN.{get_or, set, replicate}
use lib.Seq.{get_or-set_same, get_or-set_other}
use borrow.Author.Tests.{lt-ltb, le-ltb, ltb-true, leb-true}
use Rattle.units.specs.declared.estimate.Estimate.{Estimate}
use Rattle.units.specs.declared.labels.RoundLabel.{RoundLabel}
use Rattle.units.specs.declared.labels.StateLabel.{StateLabel}
use Rattle.units.specs.declared.refusal.Refusal.TheVariants.{Range}
use Rattle.units.specs.declared.settings.Group.{Group}
use Rattle.units.specs.declared.settings.Numbers.{Numbers}
use Rattle.units.specs.Labels.{round_fits, floor_fits, state_label_fits}
use Rattle.units.specs.Limits.{runs_top, raw_top, x_top, variance_top}
use Rattle.units.specs.Mask.{mask_end, mask_fits}
use Rattle.units.specs.Pick.{pick}
use Rattle.units.specs.Settings.{group_fits, numbers_fit}
use Rattle.units.proofs.Every.{absurd_by, and_left, and_right, and_three}
use Rattle.units.proofs.Masks.{some_mask, or_above, or_below}
use Rattle.units.proofs.Tab.{length_tab, get_d_tab}
use Rattle.floats.specs.Ranges.{estimate_fits, no_estimate, state_fits, targets_fit}
use Rattle.floats.proofs.Limits.{whole_range, nought_range}
use Rattle.floats.proofs.Places.{estimate_made, state_made}
use Rattle.vote.specs.declared.digest.Digest.{Digest}
use Rattle.vote.specs.declared.votes.Seat.{Seat}
use Rattle.vote.specs.Digest.{legal}
use Rattle.vote.specs.Vote.{nobody, seated}
use Rattle.vote.proofs.InRange.{legal_range, legal_made, seats_length, seated_fit, unseated_fit}
use Rattle.filter.proofs.Laws.{state_range}
use Rattle.message.specs.declared.head.Head.{Head}
use Rattle.message.specs.declared.head.Head.TheVariants.{Reading, Update, Reply}
use Rattle.message.specs.declared.value.Message.{Message}
use Rattle.message.specs.Head.{head_fits, carried}
use Rattle.message.specs.Message.{message_fits}
use Rattle.message.specs.Readings.{readings_fit}
use Rattle.message.proofs.Plain.{none_fit}
use Rattle.plan.specs.declared.brief.Phase.{Phase}
use Rattle.plan.specs.declared.brief.Phase.TheVariants.{Idle, Collecting, Pending, Voting}
use Rattle.plan.specs.declared.planned.Effect.TheVariants.{Issue}
use Rattle.plan.specs.declared.planned.Plan.{Plan}
use Rattle.plan.specs.Plan.{Sent, afterwards}
use Rattle.plan.specs.Votes.{own_digest}
use Rattle.controller.specs.declared.start.Unstarted.{Unstarted}
use Rattle.controller.specs.declared.state.Controller.{Controller}
use Rattle.controller.specs.Answers.{Answer}
use Rattle.controller.specs.State.{brief_of, ballot_at, cast, controller_fits}
use Rattle.controller.specs.Start.{start_at, start_estimates, start_of, started}
use Rattle.controller.specs.Merge.{run_bit, merged}
use Rattle.controller.specs.Effects.{in_phase, begun, added, merged_in, adopting, counted, issuing, applied}
use Rattle.controller.specs.Step.{inputs_fit, stepped}
use Rattle.controller_laws.specs.Phases.{Busy}
use Rattle.controller_laws.specs.Ways.{Votes, Leads, Goes}
use Rattle.controller_laws.specs.Ways.Votes.{another's, ours}
use Rattle.controller_laws.specs.Ways.Leads.{refused, unchanged, begins, adds, replies, merges, updates, adopts_idle, adopts_before, adopts_past, asks, adverts, asks_and_adverts, collected, lapses, counts, open_still, behind, lacking, issues, restarts}
use Rattle.controller_laws.specs.Ways.Goes.{out, led}
use Rattle.controller_laws.proofs.Held.{more_fit, merged_fit}
use Rattle.controller_laws.proofs.Masks.{run_bit_low, run_bit_below}
use Rattle.controller_laws.proofs.Valid.{five, sized, first_high, below_end, unseated, Own, phase_legal, phase_own, phase_made, Valid, valid_facts, valid_made}
use Rattle.controller_laws.proofs.Ways.{goes}

-- ---- a start
module _ (s : Numbers) (fit : numbers_fit s ≡ true) where
  estimate_at : (i : ℕ) → i < 16 → get_or (start_estimates s.group.m s.p) i no_estimate ≡ start_at (ltb i s.group.m) s.p
  unfolding start_estimates
  estimate_at i k =
      get_d_tab (λ (j : ℕ). start_at (ltb j s.group.m) s.p) no_estimate 0 16 i k
      ∙ ap (λ (j : ℕ). start_at (ltb j s.group.m) s.p) (zero-add i)

  run_fits : estimate_fits (start_at true s.p) ≡ true
  run_fits = estimate_made (start_at true s.p) (nought_range x_top) (whole_range s.p variance_top (first_high s fit) (omega (arith, first_high s fit)))

  start_estimates_fit : state_fits s.group.m (start_estimates s.group.m s.p) ≡ true
  unfolding start_estimates
  start_estimates_fit =
      state_made s.group.m (start_estimates s.group.m s.p) (length_tab (λ (j : ℕ). start_at (ltb j s.group.m) s.p) 0 16)
      (λ i l k. ap estimate_fits (estimate_at i k ∙ ap (λ (t : Bool). start_at t s.p) (lt-ltb i s.group.m l)) ∙ run_fits)
      (λ i l k. estimate_at i k ∙ ap (λ (t : Bool). start_at t s.p) (le-ltb i s.group.m l))

  start_valid : (own : ℕ) (floor : RoundLabel) → own < s.group.g → floor_fits floor ≡ true → Valid s (start_of s own floor)
  unfolding start_of
  start_valid own floor o f =
      record {
        own = o;
        label = leb-true _ _ f;
        state = lit≤ tt;
        estimates = start_estimates_fit;
        held = some_mask s.group.m;
        readings = none_fit;
        votes = unseated_fit s.group floor;
        phase = phase_made (brief_of (start_of s own floor)) s.group.m _ Idle (λ b. absurd b) tt;
      }

-- "A start gives phase idle ..": settings, number and floor in range give a controller in range
pub start_fits : (s : Numbers) (own : ℕ) (floor : RoundLabel) → numbers_fit s ≡ true → ltb own s.group.g ≡ true → floor_fits floor ≡ true → controller_fits s (start_of s own floor) ≡ true
start_fits s own floor f o l = valid_made s (start_of s own floor) (start_valid s f own floor (ltb-true _ _ o) l)

-- ---- a message in range
pub record Told (s : Group) (a : Message) (h : Head) : Type 0 where
  pub head : head_fits s h ≡ true
  pub readings : readings_fit (carried s h).readings a.readings ≡ true
  pub estimates : state_fits (carried s h).estimates a.estimates ≡ true

pub told : (s : Group) (a : Message) → message_fits s a ≡ true → Told s a a.head
unfolding message_fits
told s a h =
    let q = five (group_fits s) (head_fits s a.head) (readings_fit (carried s a.head).readings a.readings) (state_fits (carried s a.head).estimates a.estimates)
    (targets_fit (carried s a.head).targets a.targets) h in
    record { head = q.1; readings = q.2; estimates = q.3 }

-- ---- the effects
module _ (s : Numbers) (c : Controller) (fit : numbers_fit s ≡ true) (v : Valid s c) where
  abbrev m : ℕ
  m = s.group.m

  pub own_legal : Busy c.phase → legal m c.label (own_digest (brief_of c)) ≡ true
  own_legal b = phase_legal (brief_of c) m (ballot_at c c.own) c.phase v.phase b

  own_vote : (phase : Phase) → c.phase ≡ phase → Own phase (ballot_at c c.own)
  own_vote phase e = subst (λ (p : Phase). Own p (ballot_at c c.own)) e (phase_own (brief_of c) m (ballot_at c c.own) c.phase v.phase)

  busy : (phase : Phase) → c.phase ≡ phase → Busy phase → Busy c.phase
  busy phase e b = rw e b

  go_valid : (phase : Phase) → (Busy phase → Busy c.phase) → Own phase (ballot_at c c.own) → Valid s (in_phase c phase)
  go_valid phase b o =
      record {
        own = v.own;
        label = v.label;
        state = v.state;
        estimates = v.estimates;
        held = v.held;
        readings = v.readings;
        votes = v.votes;
        phase = phase_made (brief_of (in_phase c phase)) m (ballot_at c c.own) phase (λ k. own_legal (b k)) o;
      }

  begun_valid : (label : RoundLabel) (run raw : ℕ) → head_fits s.group (Reading label run raw) ≡ true → c.state.0 < label.0 → Valid s (begun c label run raw)
  unfolding head_fits
  begun_valid label run raw h l =
      let q = and_three (round_fits label) (ltb run m) (leb raw raw_top) h in
      let r = ltb-true run m q.1 in
      let z = sized s fit in
      let r' : run < 16 = omega (arith, z.m_high) in
      let o : c.own < 7 = omega (arith, v.own, z.g_high) in
      record {
        own = v.own;
        label = leb-true _ _ (and_right (leb 1 label.0) _ q.0);
        state = v.state;
        estimates = v.estimates;
        held = run_bit_below run m r z.m_high;
        readings = more_fit 0 (replicate runs_top 0) none_fit run raw r' (leb-true _ _ q.2);
        votes = unseated_fit s.group label;
        phase =
            phase_made (brief_of (begun c label run raw)) m _ Collecting
            (λ k. legal_made m label (record { mask = run_bit run; state = c.state })
            (record { runs = z.m_high; some_run = run_bit_low run r'; own_runs = below_end m (run_bit run) z.m_high (run_bit_below run m r z.m_high); older = l }))
            (unseated c.own o);
      }

  holds_valid : (held : ℕ) (readings : List ℕ) → c.phase ≡ Collecting → c.held ≤ held → held < mask_end m → readings_fit held readings ≡ true
      → Valid s (record { own = c.own; phase = c.phase; label = c.label; state = c.state; estimates = c.estimates; held = held; readings = readings; votes = c.votes })
  holds_valid held readings e low high f =
      let k = legal_range m c.label (own_digest (brief_of c)) (own_legal (rw e tt)) in
      record {
        own = v.own;
        label = v.label;
        state = v.state;
        estimates = v.estimates;
        held = high;
        readings = f;
        votes = v.votes;
        phase =
            phase_made (record { own = c.own; phase = c.phase; label = c.label; state = c.state; held = held }) m (ballot_at c c.own) c.phase
            (λ b. legal_made m c.label (record { mask = held; state = c.state })
            (record { runs = k.runs; some_run = omega (arith, k.some_run); own_runs = below_end m held k.runs high; older = k.older }))
            (own_vote c.phase refl);
      }

  added_valid : (label : RoundLabel) (run raw : ℕ) → head_fits s.group (Reading label run raw) ≡ true → c.phase ≡ Collecting → Valid s (added c run raw)
  unfolding head_fits
  added_valid label run raw h e =
      let q = and_three (round_fits label) (ltb run m) (leb raw raw_top) h in
      let r = ltb-true run m q.1 in
      let z = sized s fit in
      let r' : run < 16 = omega (arith, z.m_high) in
      holds_valid (bit_or c.held (run_bit run)) (set c.readings run raw) e (or_above c.held (run_bit run))
      (or_below m c.held (run_bit run) z.m_high v.held (run_bit_below run m r z.m_high))
      (more_fit c.held c.readings v.readings run raw r' (leb-true _ _ q.2))

  merged_valid : (sender mask : ℕ) (new : List ℕ) → head_fits s.group (Reply sender c.label mask) ≡ true → readings_fit mask new ≡ true → c.phase ≡ Collecting → Valid s (merged_in c mask new)
  unfolding head_fits
  merged_valid sender mask new h f e =
      let q = and_three (ltb sender s.group.g) (round_fits c.label) (mask_fits m mask) h in
      holds_valid (bit_or c.held mask) (merged mask new c.readings) e (or_above c.held mask)
      (or_below m c.held mask (sized s fit).m_high v.held (ltb-true _ _ (and_right (leb 1 mask) _ q.2)))
      (merged_fit mask new f c.held c.readings v.readings)

  adopting_valid : (sender : ℕ) (theirs : StateLabel) (estimates : List Estimate) (phase : Phase) → head_fits s.group (Update sender theirs) ≡ true → state_fits m estimates ≡ true
      → (Busy phase → (c.phase ≡ phase) × (theirs.0 < c.label.0)) → Valid s (adopting c theirs estimates phase)
  unfolding head_fits
  adopting_valid sender theirs estimates phase h f b =
      record {
        own = v.own;
        label = v.label;
        state = leb-true _ _ (and_right (ltb sender s.group.g) (state_label_fits theirs) h);
        estimates = f;
        held = v.held;
        readings = v.readings;
        votes = v.votes;
        phase = phase_made (brief_of (adopting c theirs estimates phase)) m (ballot_at c c.own) phase (λ k. newer k) (still phase b);
      }
    where
      newer : Busy phase → legal m c.label (record { mask = c.held; state = theirs }) ≡ true
      newer k =
          let q = legal_range m c.label (own_digest (brief_of c)) (own_legal (busy phase (b k).0 k)) in
          legal_made m c.label (record { mask = c.held; state = theirs }) (record { runs = q.runs; some_run = q.some_run; own_runs = q.own_runs; older = (b k).1 })

      still : (p : Phase) → (Busy p → (c.phase ≡ p) × (theirs.0 < c.label.0)) → Own p (ballot_at c c.own)
      still Idle k = tt
      still Collecting k = own_vote Collecting (k tt).0
      still Pending k = own_vote Pending (k tt).0
      still Voting k = own_vote Voting (k tt).0

  -- a vote in its seat
  counted_valid : (seat : ℕ) (digest : Digest) (phase : Phase) → seat < s.group.g → legal m c.label digest ≡ true → (Busy phase → Busy c.phase)
      → Own phase (get_or (seated c.votes seat digest) c.own nobody).ballot → Valid s (counted c seat digest phase)
  counted_valid seat digest phase l k b o =
      record {
        own = v.own;
        label = v.label;
        state = v.state;
        estimates = v.estimates;
        held = v.held;
        readings = v.readings;
        votes = seated_fit s.group c.label c.votes v.votes seat digest l (sized s fit).g_high k;
        phase = phase_made (brief_of (counted c seat digest phase)) m _ phase (λ q. own_legal (b q)) o;
      }

  issuing_valid : (seat : ℕ) (digest chosen : Digest) → seat < s.group.g → legal m c.label digest ≡ true → Valid s (issuing s (counted c seat digest Idle) chosen)
  issuing_valid seat digest chosen l k =
      record {
        own = v.own;
        label = v.label;
        state = v.label;
        estimates = state_range c.label c.state c.estimates s chosen.mask c.readings v.estimates;
        held = v.held;
        readings = v.readings;
        votes = seated_fit s.group c.label c.votes v.votes seat digest l (sized s fit).g_high k;
        phase = phase_made (brief_of (issuing s (counted c seat digest Idle) chosen)) m _ Idle (λ b. absurd b) tt;
      }

  -- the own seat after a vote
  others_seat : (seat : ℕ) (digest : Digest) → (seat ≡ c.own → ⊥) → ballot_at c c.own ≡ (get_or (seated c.votes seat digest) c.own nobody).ballot
  others_seat seat digest n = ap (λ (x : Seat). x.ballot) (sym (get_or-set_other c.votes seat c.own (record { ballot = Some digest }) nobody (λ e. n (sym e))))

  own_seat : (digest : Digest) → cast (get_or (seated c.votes c.own digest) c.own nobody).ballot ≡ true
  own_seat digest =
      ap (λ (x : Seat). cast x.ballot)
      (get_or-set_same c.votes c.own (record { ballot = Some digest }) nobody (omega (arith, seats_length s.group c.label c.votes v.votes, v.own, (sized s fit).g_high)))

  -- the seat of the group and the legal digest of a vote that is taken in
  pub vote_fits : {h : Head} {seat : ℕ} {digest : Digest} {first : Sent} → Votes c h seat digest first → head_fits s.group h ≡ true → (seat < s.group.g) × (legal m c.label digest ≡ true)
  unfolding head_fits
  vote_fits (another's {sender} {digest} n e f) h =
      let q = and_three (ltb sender s.group.g) (round_fits c.label) (legal m c.label digest) h in (ltb-true _ _ q.0, q.2)
  vote_fits (ours e) h = (v.own, own_legal (rw e tt))

  pub voting_own : {h : Head} {seat : ℕ} {digest : Digest} {first : Sent} → Votes c h seat digest first → Busy c.phase × Own Voting (get_or (seated c.votes seat digest) c.own nobody).ballot
  voting_own (another's {sender} {digest} n e f) = (rw e tt, subst (Own Voting) (others_seat sender digest n) (own_vote Voting e))
  voting_own (ours e) = (rw e tt, own_seat (own_digest (brief_of c)))

  -- ---- every way
  module _ (a : Message) where
    issued : {h : Head} {seat : ℕ} {digest : Digest} {first : Sent} (chosen : Digest) (head : Head) → Votes c h seat digest first
        → head_fits s.group h ≡ true → Valid s (applied s a c (afterwards (Issue seat digest chosen) head first).effect)
    unfolding afterwards applied
    issued chosen head (another's {sender} {digest} n e f) h = let q = vote_fits (another's {sender = sender} {digest = digest} n e f) h in issuing_valid sender digest chosen q.0 q.1
    issued chosen head (ours e) h = let q = vote_fits (ours e) h in issuing_valid c.own (own_digest (brief_of c)) chosen q.0 q.1

    way_valid : {h : Head} {p : Plan} → Leads s c a h p → Told s.group a h → Valid s (applied s a c p.effect)
    unfolding applied carried head_fits
    way_valid (refused why e) t = v
    way_valid (unchanged r) t = v
    way_valid (begins {label} {run} {raw} l k) t = begun_valid label run raw t.head l
    way_valid (adds {run} {raw} e lo n) t = added_valid c.label run raw t.head e
    way_valid (replies ne b n) t = v
    way_valid (merges {sender} {mask} ne e n) t = merged_valid sender mask a.readings t.head t.readings e
    way_valid (updates ne l) t = v
    way_valid (adopts_idle {sender} {theirs} ne e l) t = adopting_valid sender theirs a.estimates Idle t.head t.estimates (λ b. absurd b)
    way_valid (adopts_before {sender} {theirs} ne e l k) t = adopting_valid sender theirs a.estimates Collecting t.head t.estimates (λ b. (e, k))
    way_valid (adopts_past {sender} {theirs} ne e l k) t = adopting_valid sender theirs a.estimates Idle t.head t.estimates (λ b. absurd b)
    way_valid (asks e n lo) t = v
    way_valid (adverts e lo l) t = v
    way_valid (asks_and_adverts e n l) t = v
    way_valid (collected e) t = go_valid Pending (λ b. rw e tt) (own_vote Collecting e)
    way_valid (lapses e) t = go_valid Idle (λ b. absurd b) tt
    way_valid (counts {sender} {digest} n e f) t =
        let q = and_three (ltb sender s.group.g) (round_fits c.label) (legal m c.label digest) t.head in
        counted_valid sender digest c.phase (ltb-true _ _ q.0) q.2 (λ b. b) (subst (Own c.phase) (others_seat sender digest n) (own_vote c.phase refl))
    way_valid (open_still {seat = seat} {digest = digest} w n) t = let q = vote_fits w t.head in let r = voting_own w in counted_valid seat digest Voting q.0 q.1 (λ b. r.0) r.1
    way_valid (behind {seat = seat} {digest = digest} w d n) t = let q = vote_fits w t.head in counted_valid seat digest Idle q.0 q.1 (λ b. absurd b) tt
    way_valid (lacking {seat = seat} {digest = digest} w d b n) t = let q = vote_fits w t.head in counted_valid seat digest Idle q.0 q.1 (λ b. absurd b) tt
    way_valid (issues {chosen = chosen} w d b n) t = issued chosen _ w t.head
    way_valid (restarts {own} {floor}) t = start_valid s fit own floor (ltb-true _ _ (and_left (ltb own s.group.g) (floor_fits floor) t.head)) (and_right (ltb own s.group.g) (floor_fits floor) t.head)

-- ---- a step
pub record Inputs (s : Numbers) (c : Controller) (a : Message) : Type 0 where
  pub numbers : numbers_fit s ≡ true
  pub valid : Valid s c
  pub message : Told s.group a a.head

pub inputs : (s : Numbers) (c : Controller) (a : Message) → inputs_fit s c a ≡ true → Inputs s c a
unfolding inputs_fit
inputs s c a h =
    let q = and_three (numbers_fit s) (controller_fits s c) (message_fits s.group a) h in
    record { numbers = q.0; valid = valid_facts s c q.1; message = told s.group a q.2 }

-- a controller in range is in range after any step, whatever the settings and the message
pub step_fits : (s : Numbers) (c : Controller) (a : Message) → controller_fits s c ≡ true → controller_fits s (stepped s c a).next ≡ true
step_fits s c a h = way (goes s c a)
  where
    way : {r : Answer} → Goes s c a r → controller_fits s r.next ≡ true
    way (out e) = h
    way (led {p} e w) = let q = inputs s c a e in valid_made s (applied s a c p.effect) (way_valid s c q.numbers q.valid a w q.message)

-- what a start gives, where it is taken
pub started_is : (s : Numbers) (own : ℕ) (floor : RoundLabel) (c : Controller) → started s own floor ≡ Ok c → c ≡ start_of s own floor
unfolding started pick
started_is s own floor c = told (numbers_fit s && ltb own s.group.g && floor_fits floor)
  where
    told : (b : Bool) → ◌≡◌ {A = Result Controller Unstarted} (pick b (Ok (start_of s own floor)) (Err (record { why = Range; controller = start_of s own floor }))) (Ok c) → c ≡ start_of s own floor
    told true h = sym (ap given h)
      where
        given : Result Controller Unstarted → Controller
        given (Ok x) = x
        given (Err u) = c
    told false h = absurd_by (cc)

-- a start that is taken is in range
pub started_fits : (s : Numbers) (own : ℕ) (floor : RoundLabel) (c : Controller) → started s own floor ≡ Ok c → controller_fits s c ≡ true
unfolding started pick
started_fits s own floor c t = subst⁻¹ (λ (n : Controller). controller_fits s n ≡ true) (started_is s own floor c t) (tested (numbers_fit s && ltb own s.group.g && floor_fits floor) refl t)
  where
    tested : (b : Bool) → (numbers_fit s && ltb own s.group.g && floor_fits floor) ≡ b → ◌≡◌ {A = Result Controller Unstarted} (pick b (Ok (start_of s own floor)) (Err (record { why = Range; controller = start_of s own floor }))) (Ok c) → controller_fits s (start_of s own floor) ≡ true
    tested true e h = let q = and_three (numbers_fit s) (ltb own s.group.g) (floor_fits floor) e in start_fits s own floor q.0 q.1 q.2
    tested false e h = absurd_by (cc)
