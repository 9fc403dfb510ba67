-- IN RANGE EXACTLY WHEN each clause of document 01 holds: heads, readings, messages, certificates, settings. Assumes nothing.
use Prim.Native.Nat.{ℕ, ◌≤◌, ◌<◌}
use native.Mathlib.Omega.{arith}
use native.Mathlib.Decide.{dec_lt}
use mathlib.Core.Path.{◌≡◌, refl, sym, ap, subst, ◌∙◌}
use mathlib.Core.Bool.{Bool, true, false, ◌&&◌}
use mathlib.Core.List.{List}
use mathlib.Core.Logic.{by_cases}
use mathlib.Core.Option.{Option, none, some}
use lib.Dec.{leb, ltb, eqb}
use lib.ListN.{length, get_or}
use borrow.Author.Tests.{leb-true, le-leb, ltb-true, lt-ltb, le-ltb, eqb-true, eq-eqb}
use Rattle.units.specs.declared.labels.RoundLabel.{RoundLabel}
use Rattle.units.specs.declared.labels.StateLabel.{StateLabel}
use Rattle.units.specs.declared.settings.Group.{Group}
use Rattle.units.specs.Labels.{round_fits, state_label_fits}
use Rattle.units.specs.Limits.{label_top, raw_top}
use Rattle.units.specs.Mask.{in_mask, mask_end, mask_fits}
use Rattle.units.specs.Reading.{reading_place}
use Rattle.units.specs.Settings.{group_fits, numbers_fit}
use Rattle.units.proofs.Every.{and_left, and_right, and_both, and_three, every_at, every_all}
use Rattle.units.proofs.InRange.{within_range, within_made, group_exact, numbers_exact}
use Rattle.units.proofs.Masks.{mask_end_is}
use Rattle.floats.specs.InRange.{StateInRange, TargetsInRange}
use Rattle.floats.specs.Ranges.{state_fits, targets_fit}
use Rattle.floats.proofs.Places.{state_exact, targets_exact}
use Rattle.vote.specs.declared.digest.Digest.{Digest}
use Rattle.vote.specs.Digest.{legal}
use Rattle.vote.proofs.InRange.{legal_exact}
use Rattle.message.specs.declared.certificate.Certificate.{Certificate}
use Rattle.message.specs.declared.head.Carried.{Carried}
use Rattle.message.specs.declared.head.Head.{Head}
use Rattle.message.specs.declared.head.Head.TheVariants.{Reading, Query, Reply, Advert, Update, Vote, Setpoints, Due, CollectingEnds, VotingEnds, Floor, Start, Refused}
use Rattle.message.specs.declared.settings.Settings.{Settings}
use Rattle.message.specs.declared.value.Message.{Message}
use Rattle.message.specs.Head.{carry, carried, head_fits}
use Rattle.message.specs.InRange.{Label, Mask, HeadInRange, ReadingsInRange, MessageInRange, CertificateInRange, NoCertificate, SettingsInRange}
use Rattle.message.specs.InRange.HeadInRange.{reading, query, reply, advert, update, vote, setpoints, due, collecting_ends, voting_ends, floor, start, refused}
use Rattle.message.specs.Message.{message_fits}
use Rattle.message.specs.Readings.{readings_fit}
use Rattle.message.specs.Settings.{byte_place, byte_at, len_fits, certificate_fits, certificate_at, no_certificate, sixteen, settings_fit}
use Rattle.message.specs.View.{on_some, as_reply, to_reply, as_update, to_update, as_issue, to_issue}
use Rattle.message.proofs.Ranges.{readings_length, readings_place, readings_made}
use Rattle.message.proofs.Views.{by_kind, seen_not, reply_seen, update_seen, issue_seen}

-- ---- the head
module _ (s : Group) where
  -- a label, and behind it what else is asked
  labelled : (label : RoundLabel) (sender : ℕ) (b : Bool) → (ltb sender s.g && round_fits label && b) ≡ true → (sender < s.g) × Label label × (b ≡ true)
  labelled label sender b h =
      let k = and_three (ltb sender s.g) (round_fits label) b h in
      (ltb-true sender s.g k.0, within_range 1 label_top label.0 k.1, k.2)

  label_made : (label : RoundLabel) (sender : ℕ) {b : Bool} → sender < s.g → Label label → b ≡ true → (ltb sender s.g && round_fits label && b) ≡ true
  label_made label sender w l e = and_both (and_both (lt-ltb sender s.g w) (within_made 1 label_top label.0 l)) e

  state_said : (sender : ℕ) (state : StateLabel) → (ltb sender s.g && state_label_fits state) ≡ true → (sender < s.g) × (state.0 ≤ 4294967295)
  state_said sender state h =
      (ltb-true sender s.g (and_left (ltb sender s.g) _ h), leb-true state.0 label_top (and_right (ltb sender s.g) _ h))

  module _ (few : s.m ≤ 16) where
    mask_said : (mask : ℕ) → mask_fits s.m mask ≡ true → Mask s mask
    mask_said mask h =
        (leb-true 1 mask (and_left (leb 1 mask) _ h), subst (λ (n : ℕ). mask < n) (mask_end_is s.m few) (ltb-true mask (mask_end s.m) (and_right (leb 1 mask) _ h)))

    mask_made : (mask : ℕ) → Mask s mask → mask_fits s.m mask ≡ true
    mask_made mask k = and_both (le-leb 1 mask k.0) (lt-ltb mask (mask_end s.m) (subst (λ (n : ℕ). mask < n) (sym (mask_end_is s.m few)) k.1))

    head_range : (h : Head) → head_fits s h ≡ true → HeadInRange s h
    unfolding head_fits
    head_range (Reading label run raw) h =
        let k = and_three (round_fits label) (ltb run s.m) (leb raw raw_top) h in
        reading (within_range 1 label_top label.0 k.0) (ltb-true run s.m k.1) (leb-true raw raw_top k.2)
    head_range (Query sender label mask) h = let k = labelled label sender (mask_fits s.m mask) h in query k.0 k.1 (mask_said mask k.2)
    head_range (Reply sender label mask) h = let k = labelled label sender (mask_fits s.m mask) h in reply k.0 k.1 (mask_said mask k.2)
    head_range (Advert sender state) h = let k = state_said sender state h in advert k.0 k.1
    head_range (Update sender state) h = let k = state_said sender state h in update k.0 k.1
    head_range (Vote sender label digest) h = let k = labelled label sender (legal s.m label digest) h in vote k.0 k.1 ((legal_exact s.m label digest).0 k.2)
    head_range (Setpoints sender label digest) h = let k = labelled label sender (legal s.m label digest) h in setpoints k.0 k.1 ((legal_exact s.m label digest).0 k.2)
    head_range (Due label) h = due (within_range 1 label_top label.0 h)
    head_range (CollectingEnds label) h = collecting_ends (within_range 1 label_top label.0 h)
    head_range (VotingEnds label) h = voting_ends (within_range 1 label_top label.0 h)
    head_range (Floor label) h = floor (within_range 1 label_top label.0 h)
    head_range (Start own low) h = start (ltb-true own s.g (and_left (ltb own s.g) _ h)) (leb-true low.0 label_top (and_right (ltb own s.g) _ h))
    head_range (Refused number) h = let k = within_range 1 16 number h in refused k.0 k.1

    head_made : {h : Head} → HeadInRange s h → head_fits s h ≡ true
    unfolding head_fits
    head_made (reading {label} {run} {raw} l r v) = and_both (and_both (within_made 1 label_top label.0 l) (lt-ltb run s.m r)) (le-leb raw raw_top v)
    head_made (query {sender} {mask} {label} w l k) = label_made label sender w l (mask_made mask k)
    head_made (reply {sender} {mask} {label} w l k) = label_made label sender w l (mask_made mask k)
    head_made (advert {sender} {state} w l) = and_both (lt-ltb sender s.g w) (le-leb state.0 label_top l)
    head_made (update {sender} {state} w l) = and_both (lt-ltb sender s.g w) (le-leb state.0 label_top l)
    head_made (vote {sender} {label} {digest} w l d) = label_made label sender w l ((legal_exact s.m label digest).1 d)
    head_made (setpoints {sender} {label} {digest} w l d) = label_made label sender w l ((legal_exact s.m label digest).1 d)
    head_made (due {label} l) = within_made 1 label_top label.0 l
    head_made (collecting_ends {label} l) = within_made 1 label_top label.0 l
    head_made (voting_ends {label} l) = within_made 1 label_top label.0 l
    head_made (floor {label} l) = within_made 1 label_top label.0 l
    head_made (start {own} {low} w l) = and_both (lt-ltb own s.g w) (le-leb low.0 label_top l)
    head_made (refused {number} a b) = within_made 1 16 number (a, b)

    pub head_exact : (h : Head) → (head_fits s h ≡ true → HeadInRange s h) × (HeadInRange s h → head_fits s h ≡ true)
    head_exact h = (head_range h, λ r. head_made r)

-- ---- readings
module _ (mask : ℕ) (readings : List ℕ) where
  readings_range : readings_fit mask readings ≡ true → ReadingsInRange mask readings
  readings_range h =
      record {
        sixteen = readings_length mask readings h;
        reading = λ i b e. leb-true (get_or readings i 0) raw_top (rw e at (readings_place mask readings h i b));
        none = λ i b e. eqb-true (get_or readings i 0) 0 (rw e at (readings_place mask readings h i b));
      }

  place_made : ReadingsInRange mask readings → (i : ℕ) → i < 16 → (b : Bool) → in_mask mask i ≡ b → reading_place b (get_or readings i 0) ≡ true
  place_made r i l true e = le-leb (get_or readings i 0) raw_top (r.reading i l e)
  place_made r i l false e = eq-eqb (get_or readings i 0) 0 (r.none i l e)

  pub raws_exact : (readings_fit mask readings ≡ true → ReadingsInRange mask readings) × (ReadingsInRange mask readings → readings_fit mask readings ≡ true)
  raws_exact = (readings_range, λ r. readings_made mask readings r.sixteen (λ i l. place_made r i l (in_mask mask i) refl))

-- ---- the arrays beside the head
module _ (s : Group) where
  abbrev parts : Option (ℕ × RoundLabel × ℕ) → Option (ℕ × StateLabel) → Option (ℕ × RoundLabel × Digest) → Carried
  parts r u i = on_some (λ v. carry v.2 0 0) (on_some (λ v. carry 0 s.m 0) (on_some (λ v. carry 0 0 s.m) (carry 0 0 0) i) u) r

  no_readings : (r : Option (ℕ × RoundLabel × ℕ)) (u : Option (ℕ × StateLabel)) (i : Option (ℕ × RoundLabel × Digest)) → r ≡ none → (parts r u i).readings ≡ 0
  no_readings r none none e = rw e
  no_readings r none (some x) e = rw e
  no_readings r (some x) i e = rw e

  no_estimates : (r : Option (ℕ × RoundLabel × ℕ)) (u : Option (ℕ × StateLabel)) (i : Option (ℕ × RoundLabel × Digest)) → u ≡ none → (parts r u i).estimates ≡ 0
  no_estimates none u none e = rw e
  no_estimates none u (some x) e = rw e
  no_estimates (some x) u i e = refl

  no_targets : (r : Option (ℕ × RoundLabel × ℕ)) (u : Option (ℕ × StateLabel)) (i : Option (ℕ × RoundLabel × Digest)) → i ≡ none → (parts r u i).targets ≡ 0
  no_targets none none i e = rw e
  no_targets none (some x) i e = refl
  no_targets (some x) u i e = refl

  module _ (a : Message) where
    abbrev has : Head → Carried
    has h = carried s h

    abbrev Told : Carried → Type 0
    Told k = (readings_fit k.readings a.readings ≡ true) × (state_fits k.estimates a.estimates ≡ true) × (targets_fit k.targets a.targets ≡ true)

    told : message_fits s a ≡ true → (group_fits s ≡ true) × (head_fits s a.head ≡ true) × Told (has a.head)
    unfolding message_fits
    told h =
        let c = has a.head in
        let t = and_three (group_fits s && head_fits s a.head && readings_fit c.readings a.readings) (state_fits c.estimates a.estimates) (targets_fit c.targets a.targets) h in
        let u = and_three (group_fits s) (head_fits s a.head) (readings_fit c.readings a.readings) t.0 in
        (u.0, u.1, (u.2, t.1, t.2))

    message_range : message_fits s a ≡ true → MessageInRange s a
    unfolding carried
    message_range h =
        let k = told h in
        let g = (group_exact s).0 k.0 in
        let at_head : (x : Head) → a.head ≡ x → Told (has x) = λ x e. subst (λ (y : Head). Told (has y)) e k.2 in
        record {
          group = g;
          head = (head_exact s g.runs.1 a.head).0 k.1;
          reply = λ sender mask label e. (raws_exact mask a.readings).0 (at_head _ e).0;
          no_reply = λ n. by_kind (λ x. a.head ≡ x → ReadingsInRange 0 a.readings) (λ v e. absurd (n _ _ _ e))
              (λ x n e. (raws_exact 0 a.readings).0 (subst (λ (m : ℕ). readings_fit m a.readings ≡ true) (no_readings (as_reply x) (as_update x) (as_issue x) n) (at_head x e).0))
              (reply_seen a.head) refl;
          update = λ sender state e. (state_exact s.m a.estimates).0 (at_head _ e).1;
          no_update = λ n. by_kind (λ x. a.head ≡ x → StateInRange 0 a.estimates) (λ v e. absurd (n _ _ e))
              (λ x n e. (state_exact 0 a.estimates).0 (subst (λ (m : ℕ). state_fits m a.estimates ≡ true) (no_estimates (as_reply x) (as_update x) (as_issue x) n) (at_head x e).1))
              (update_seen a.head) refl;
          issue = λ sender label digest e. (targets_exact s.m a.targets).0 (at_head _ e).2;
          no_issue = λ n. by_kind (λ x. a.head ≡ x → TargetsInRange 0 a.targets) (λ v e. absurd (n _ _ _ e))
              (λ x n e. (targets_exact 0 a.targets).0 (subst (λ (m : ℕ). targets_fit m a.targets ≡ true) (no_targets (as_reply x) (as_update x) (as_issue x) n) (at_head x e).2))
              (issue_seen a.head) refl;
        }

    message_made : MessageInRange s a → message_fits s a ≡ true
    unfolding message_fits carried
    message_made r =
        and_both (and_both (and_both (and_both ((group_exact s).1 r.group) ((head_exact s r.group.runs.1 a.head).1 r.head))
        (by_kind (λ x. a.head ≡ x → readings_fit (has x).readings a.readings ≡ true) (λ v e. (raws_exact v.2 a.readings).1 (r.reply _ _ _ e))
        (λ x n e. subst (λ (m : ℕ). readings_fit m a.readings ≡ true) (sym (no_readings (as_reply x) (as_update x) (as_issue x) n)) ((raws_exact 0 a.readings).1 (r.no_reply (λ sender mask label q. seen_not to_reply as_reply (λ v. refl) x n (sender, label, mask) (sym e ∙ q)))))
        (reply_seen a.head) refl))
        (by_kind (λ x. a.head ≡ x → state_fits (has x).estimates a.estimates ≡ true) (λ v e. (state_exact s.m a.estimates).1 (r.update _ _ e))
        (λ x n e. subst (λ (m : ℕ). state_fits m a.estimates ≡ true) (sym (no_estimates (as_reply x) (as_update x) (as_issue x) n)) ((state_exact 0 a.estimates).1 (r.no_update (λ sender state q. seen_not to_update as_update (λ v. refl) x n (sender, state) (sym e ∙ q)))))
        (update_seen a.head) refl))
        (by_kind (λ x. a.head ≡ x → targets_fit (has x).targets a.targets ≡ true) (λ v e. (targets_exact s.m a.targets).1 (r.issue _ _ _ e))
        (λ x n e. subst (λ (m : ℕ). targets_fit m a.targets ≡ true) (sym (no_targets (as_reply x) (as_update x) (as_issue x) n)) ((targets_exact 0 a.targets).1 (r.no_issue (λ sender label digest q. seen_not to_issue as_issue (λ v. refl) x n (sender, label, digest) (sym e ∙ q)))))
        (issue_seen a.head) refl)

    pub message_exact : (message_fits s a ≡ true → MessageInRange s a) × (MessageInRange s a → message_fits s a ≡ true)
    message_exact = (message_range, message_made)

-- ---- certificates
module _ (c : Certificate) where
  abbrev byte_of : ℕ → ℕ
  byte_of i = get_or c.bytes i 0

  -- what is asked of a certificate's length, and of each of its sixteen places
  certificate_parts : (run : Bool) → certificate_fits run c ≡ true → (len_fits run c.len ≡ true) × (length c.bytes ≡ 16) × ((i : ℕ) → i < 16 → byte_at c i ≡ true)
  unfolding certificate_fits
  certificate_parts run h =
      let l = and_left (len_fits run c.len && eqb (length c.bytes) 16) _ h in (
        and_left (len_fits run c.len) _ l,
        eqb-true (length c.bytes) 16 (and_right (len_fits run c.len) _ l),
        λ i b. every_at (byte_at c) 16 i (and_right (len_fits run c.len && eqb (length c.bytes) 16) _ h) b,
      )

  certificate_from : (run : Bool) → len_fits run c.len ≡ true → length c.bytes ≡ 16 → ((i : ℕ) → i < 16 → byte_at c i ≡ true) → certificate_fits run c ≡ true
  unfolding certificate_fits
  certificate_from run l n f = and_both (and_both l (eq-eqb (length c.bytes) 16 n)) (every_all (byte_at c) 16 f)

  byte_here : (i : ℕ) → i < c.len → byte_at c i ≡ true → byte_place true (byte_of i) ≡ true
  byte_here i l h = rw (lt-ltb i c.len l) at h

  byte_none : (i : ℕ) → c.len ≤ i → byte_at c i ≡ true → byte_place false (byte_of i) ≡ true
  byte_none i l h = rw (le-ltb i c.len l) at h

  pub certificate_exact : (certificate_fits true c ≡ true → CertificateInRange c) × (CertificateInRange c → certificate_fits true c ≡ true)
  certificate_exact = (
    λ h.
        let k = certificate_parts true h in
        let l = within_range 1 16 c.len k.0 in
        record {
          size = l;
          sixteen = k.1;
          byte = λ i b. within_range 33 126 (byte_of i) (byte_here i b (k.2 i (omega (arith, l))));
          none = λ i b m. eqb-true (byte_of i) 0 (byte_none i b (k.2 i m));
        },
    λ r. certificate_from true (within_made 1 16 c.len r.size) r.sixteen (λ i m.
        by_cases (dec_lt i c.len)
        (λ b. ap (λ (t : Bool). byte_place t (byte_of i)) (lt-ltb i c.len b) ∙ within_made 33 126 (byte_of i) (r.byte i b))
        (λ n. let b : c.len ≤ i = omega arith in ap (λ (t : Bool). byte_place t (byte_of i)) (le-ltb i c.len b) ∙ eq-eqb (byte_of i) 0 (r.none i b m))),
  )

  pub no_certificate_exact : (certificate_fits false c ≡ true → NoCertificate c) × (NoCertificate c → certificate_fits false c ≡ true)
  no_certificate_exact = (
    λ h.
        let k = certificate_parts false h in
        let l = eqb-true c.len 0 k.0 in
        record { empty = l; sixteen = k.1; none = λ i m. eqb-true (byte_of i) 0 (byte_none i (omega (arith, l)) (k.2 i m)) },
    λ r. certificate_from false (eq-eqb c.len 0 r.empty) r.sixteen (λ i m.
        let b : c.len ≤ i = omega (arith, r.empty) in
        ap (λ (t : Bool). byte_place t (byte_of i)) (le-ltb i c.len b) ∙ eq-eqb (byte_of i) 0 (r.none i m)),
  )

-- ---- the settings
module _ (s : Settings) where
  abbrev runs : ℕ
  runs = s.numbers.group.m

  abbrev certificate_of : ℕ → Certificate
  certificate_of i = get_or s.certificates i no_certificate

  settings_parts : settings_fit s ≡ true → (numbers_fit s.numbers ≡ true) × (sixteen s ≡ true) × ((i : ℕ) → i < 16 → certificate_at s i ≡ true)
  unfolding settings_fit
  settings_parts h =
      let l = and_left (numbers_fit s.numbers && sixteen s) _ h in
      (and_left (numbers_fit s.numbers) _ l, and_right (numbers_fit s.numbers) _ l, λ i b. every_at (certificate_at s) 16 i (and_right (numbers_fit s.numbers && sixteen s) _ h) b)

  certificate_here : (i : ℕ) → i < runs → certificate_at s i ≡ true → certificate_fits true (certificate_of i) ≡ true
  certificate_here i l h = rw (lt-ltb i runs l) at h

  certificate_none : (i : ℕ) → runs ≤ i → certificate_at s i ≡ true → certificate_fits false (certificate_of i) ≡ true
  certificate_none i l h = rw (le-ltb i runs l) at h

  settings_range : settings_fit s ≡ true → SettingsInRange s
  settings_range h =
      let k = settings_parts h in
      let n = (numbers_exact s.numbers).0 k.0 in
      let l = and_three (eqb (length s.numbers.factors) 16) (eqb (length s.numbers.weights) 16) (eqb (length s.certificates) 16) k.1 in
      record {
        numbers = n;
        sixteen = (eqb-true _ 16 l.0, eqb-true _ 16 l.1, eqb-true _ 16 l.2);
        certificate = λ i b. (certificate_exact (certificate_of i)).0 (certificate_here i b (k.2 i (omega (arith, n.runs))));
        none = λ i b m. (no_certificate_exact (certificate_of i)).0 (certificate_none i b (k.2 i m));
      }

  settings_made : SettingsInRange s → settings_fit s ≡ true
  unfolding settings_fit
  settings_made r =
      and_both (and_both ((numbers_exact s.numbers).1 r.numbers) (and_both (and_both (eq-eqb _ 16 r.sixteen.0) (eq-eqb _ 16 r.sixteen.1)) (eq-eqb _ 16 r.sixteen.2)))
      (every_all (certificate_at s) 16 (λ i m.
      by_cases (dec_lt i runs)
      (λ b. ap (λ (t : Bool). certificate_fits t (certificate_of i)) (lt-ltb i runs b) ∙ (certificate_exact (certificate_of i)).1 (r.certificate i b))
      (λ n. let b : runs ≤ i = omega arith in ap (λ (t : Bool). certificate_fits t (certificate_of i)) (le-ltb i runs b) ∙ (no_certificate_exact (certificate_of i)).1 (r.none i b m))))

  pub settings_exact : (settings_fit s ≡ true → SettingsInRange s) × (SettingsInRange s → settings_fit s ≡ true)
  settings_exact = (settings_range, settings_made)
