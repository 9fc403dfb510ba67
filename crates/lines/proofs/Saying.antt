-- FROM A MESSAGE IN RANGE TO ITS LINE'S NUMBERS AND BACK: they are in range, and make the message again. Assumes nothing.
use Rattle.std.specs.Prelude.{Some}
use Prim.Native.Nat.{ℕ, zero, suc, ◌+◌, ◌*◌, ◌<◌}
use mathlib.Core.Path.{◌≡◌, refl, sym, ap, ◌∙◌}
use mathlib.Core.List.{List, [], ◌∷◌, ◌++◌, append-nil}
use mathlib.Core.Bool.{Bool, true, not}
use mathlib.Core.Logic.{◌⊎◌, inl, inr, ⊎_elim}
use mathlib.Core.Option.{none}
use native.Mathlib.Omega.{arith}
use lib.Dec.{eqb}
use lib.Ieee.{nan}
use lib.ListN.{length, get_or, length-append}
use lib.Seq.{get_or-append-add}
use borrow.Author.Tests.{le-leb}
use Rattle.units.specs.declared.settings.Group.{Group}
use Rattle.units.specs.Limits.{raw_top, x_top, variance_top, target_top}
use Rattle.units.specs.Mask.{in_mask}
use Rattle.units.specs.Pick.{pick}
use Rattle.floats.specs.Bits.{bits_of, x_bits, variance_bits, target_bits}
use Rattle.floats.specs.Ranges.{no_estimate}
use Rattle.floats.proofs.Limits.{x_limit, variance_limit, target_limit, range_bits}
use Rattle.floats.proofs.Places.{estimate_x, estimate_variance, state_run, targets_run}
use Rattle.units.specs.declared.labels.RoundLabel.{RoundLabel}
use Rattle.units.specs.declared.labels.StateLabel.{StateLabel}
use Rattle.units.proofs.Every.{no_way}
use Rattle.units.proofs.Masks.{no_run}
use Rattle.vote.specs.declared.digest.Digest.{Digest}
use Rattle.message.specs.declared.head.Head.{Head}
use Rattle.message.specs.declared.head.Head.TheVariants.{Reading, Query, Reply, Advert, Update, Vote, Setpoints, Due, CollectingEnds, VotingEnds, Floor, Start, Refused}
use Rattle.message.specs.declared.value.Message.{Message}
use Rattle.message.specs.Head.{carry, carried}
use Rattle.message.specs.View.{Seen, it, other, as_reply, to_reply, as_update, to_update, as_issue, to_issue}
use Rattle.message.proofs.Views.{reply_seen, update_seen, issue_seen}
use Rattle.fields.proofs.Cases.{by_test, absurd_by}
use Rattle.lines.specs.declared.kind.Kind.{Kind}
use Rattle.lines.specs.Lists.{joined}
use Rattle.lines.specs.Reading.{limit_after}
use Rattle.lines.specs.Table.{letter_of, kind_of}
use Rattle.lines.specs.Values.{message_of, kind_is, head_values, numbers_of, raw_of, floats_of, target_of}
use Rattle.lines.proofs.Adding.{no_raws}
use Rattle.lines.proofs.Arrays.{rank, reading_range, readings_back, estimates_back, targets_back, raws_length, raws_at, floats_length, floats_at_lem, targets_count, target_at_lem}
use Rattle.lines.proofs.Making.{message_made}
use Rattle.lines.proofs.Meaning.{reply_later, update_x, update_variance, setpoints_later}
use Rattle.lines.proofs.Quantities.{head_says, head_back, raw_said, x_said, variance_said, target_said}
use Rattle.lines.proofs.Sending.{Fits, group_runs}
use Rattle.lines.proofs.Spelled.{Fit, fit_all, fit_append}

pub record Said (k : Kind) (s : Group) (a : Message) : Type 0 where
  pub fit : Fit k s (numbers_of s a)
  pub back : message_of s k (numbers_of s a) ≡ a

pub below_two : (P : ℕ → Type 0) → P 0 → P 1 → (i : ℕ) → i < 2 → P i
below_two P p q zero h = p
below_two P p q (suc zero) h = q
below_two P p q (suc (suc i)) h = absurd (omega arith)

pub below_three : (P : ℕ → Type 0) → P 0 → P 1 → P 2 → (i : ℕ) → i < 3 → P i
below_three P p q r zero h = p
below_three P p q r (suc i) h = below_two (λ j. P (suc j)) q r i (omega arith)

-- what a message's head carries, number by number
abbrev arrays : Group → Message → Head → List ℕ
arrays s a h = joined (raw_of (carried s h).readings a.readings) 16 ++ (joined (floats_of a.estimates) (carried s h).estimates ++ joined (target_of a.targets) (carried s h).targets)

-- A MESSAGE FROM ITS NUMBERS: those of its head, then others
module _ (s : Group) (a : Message) (F : Fits s a) (h : Head) (e : a.head ≡ h) (t : List ℕ) (te : arrays s a h ≡ t) where
  all_values : numbers_of s a ≡ head_values h ++ t
  unfolding numbers_of
  all_values = rw (e, ← te)

  all_counted : length (head_values h ++ t) ≡ length (head_values h) + (rank (carried s h).readings 16 + (2 * (carried s h).estimates + (carried s h).targets))
  all_counted = rw (← te) (simp (length-append, raws_length, floats_length, targets_count))

  said : fit_all (limit_after (kind_is h) s) (head_values h) t ≡ true
      → ((i : ℕ) → i < 16 → in_mask (carried s h).readings i ≡ true → get_or (head_values h ++ t) (3 + rank (carried s h).readings i) 0 ≡ get_or a.readings i 0)
      → ((i : ℕ) → i < (carried s h).estimates → i < 16 → (get_or (head_values h ++ t) (2 + 2 * i) 0 ≡ bits_of (get_or a.estimates i no_estimate).x) × (get_or (head_values h ++ t) (3 + 2 * i) 0 ≡ bits_of (get_or a.estimates i no_estimate).variance))
      → ((i : ℕ) → i < (carried s h).targets → i < 16 → get_or (head_values h ++ t) (4 + i) 0 ≡ bits_of (get_or a.targets i nan)) → Said (kind_is h) s a
  said f ra fl ta =
      let vs = head_values h ++ t in
      let c = carried s a.head in
      let w = head_says s h t F.group (group_runs s F.group).1 in
      record {
        fit = rw all_values (record {
          counted = all_counted ∙ w.count;
          inside = fit_append (limit_after (kind_is h) s) [] (head_values h) t ∙ rw (w.fit, ← e, F.head, e) f;
        });
        back = rw all_values (sym (message_made s a.head _ c vs a.readings a.estimates a.targets (e ∙ sym (head_back w (rw e at F.head))) refl
            (sym (readings_back c.readings a.readings vs F.readings (rw e ra)))
            (sym (estimates_back c.estimates a.estimates vs F.estimates (rw e fl)))
            (sym (targets_back c.targets a.targets vs F.targets (rw e ta)))));
      }

none_carried : (s : Group) (h : Head) → as_reply h ≡ none → as_update h ≡ none → as_issue h ≡ none → carried s h ≡ carry 0 0 0
unfolding carried
none_carried s h r u i = rw (r, u, i)

-- lists joined are in range where each is after those before it
joined_fit : (k : Kind) (s : Group) (us : List ℕ) (f : ℕ → List ℕ) (n : ℕ) → ((i : ℕ) → i < n → (ws : List ℕ) → length ws ≡ length us + length (joined f i) → fit_all (limit_after k s) ws (f i) ≡ true)
    → fit_all (limit_after k s) us (joined f n) ≡ true
unfolding joined fit_all
joined_fit k s us f zero h = refl
joined_fit k s us f (suc n) h =
    fit_append (limit_after k s) us (joined f n) (f n) ∙ rw (joined_fit k s us f n (λ i l. h i (omega arith))) (h n (omega arith) (us ++ joined f n) (length-append us (joined f n)))

module _ (s : Group) (a : Message) (F : Fits s a) where
  -- a head that carries nothing
  said_plain : (h : Head) → a.head ≡ h → carried s h ≡ carry 0 0 0 → Said (kind_is h) s a
  unfolding joined fit_all
  said_plain h e c =
      said s a F h e [] (rw (c, no_raws a.readings 16)) refl
      (rw c (λ i l t. absurd_by (let z = no_run i in cc)))
      (rw c (λ i l b. absurd (omega arith)))
      (rw c (λ i l b. absurd (omega arith)))

  said_reply : (sender : ℕ) (label : RoundLabel) (mask : ℕ) → a.head ≡ Reply sender label mask → Said (kind_is (Reply sender label mask)) s a
  unfolding joined carried head_values kind_is fit_all pick
  said_reply sender label mask e =
      let rs = a.readings in
      let hs = sender ∷ label.0 ∷ mask ∷ [] in
      said s a F (Reply sender label mask) e (joined (raw_of mask rs) 16) (append-nil (joined (raw_of mask rs) 16))
      (joined_fit _ s hs (raw_of mask rs) 16 (λ i l ws c. by_test (in_mask mask i)
      (λ t. rw (t, reply_later (length ws) (omega arith), raw_said, le-leb (get_or rs i 0) raw_top (reading_range mask rs (rw e at F.readings) i l t)))
      (λ t. rw t)))
      (λ i l t. get_or-append-add hs (joined (raw_of mask rs) 16) (rank mask i) 0 ∙ raws_at mask rs i l t)
      (λ i l b. absurd (omega arith))
      (λ i l b. absurd (omega arith))

  said_update : (sender : ℕ) (state : StateLabel) → a.head ≡ Update sender state → Said (kind_is (Update sender state)) s a
  unfolding joined carried head_values kind_is fit_all
  said_update sender state e =
      let es = a.estimates in
      let hs = sender ∷ state.0 ∷ [] in
      let E = joined (floats_of es) s.m in
      said s a F (Update sender state) e E (rw (no_raws a.readings 16, append-nil E))
      (joined_fit _ s hs (floats_of es) s.m (λ i l ws c.
      let f = state_run s.m es i (rw e at F.estimates) l (let m = (group_runs s F.group).1 in omega arith) in
      let p : length ws ≡ 2 + 2 * i = c ∙ ap (λ (n : ℕ). 2 + n) (floats_length es i) in
      let x = (get_or es i no_estimate).x in
      let v = (get_or es i no_estimate).variance in
      let q : length (ws ++ (bits_of x ∷ [])) ≡ 3 + 2 * i = length-append ws (bits_of x ∷ []) ∙ (omega arith) in
      let y = le-leb (bits_of x) x_bits (range_bits x_top x_bits x_limit x (estimate_x _ f)) in
      let z = le-leb (bits_of v) variance_bits (range_bits variance_top variance_bits variance_limit v (estimate_variance _ f)) in
      rw (p, q, update_x i, update_variance i, x_said, variance_said, y, z)))
      (λ i l t. absurd_by (let z = no_run i in cc))
      (λ i l b. (get_or-append-add hs E (2 * i) 0 ∙ (floats_at_lem es s.m i l).0, let z : 3 + 2 * i ≡ 2 + (1 + 2 * i) = omega arith in rw z (get_or-append-add hs E (1 + 2 * i) 0 ∙ (floats_at_lem es s.m i l).1)))
      (λ i l b. absurd (omega arith))

  said_setpoints : (sender : ℕ) (label : RoundLabel) (digest : Digest) → a.head ≡ Setpoints sender label digest → Said (kind_is (Setpoints sender label digest)) s a
  unfolding joined carried head_values kind_is fit_all
  said_setpoints sender label digest e =
      let ts = a.targets in
      let hs = sender ∷ label.0 ∷ digest.state.0 ∷ digest.mask ∷ [] in
      let T = joined (target_of ts) s.m in
      said s a F (Setpoints sender label digest) e T (rw (no_raws a.readings 16))
      (joined_fit _ s hs (target_of ts) s.m (λ i l ws c.
      let f = targets_run s.m ts i (rw e at F.targets) l (let m = (group_runs s F.group).1 in omega arith) in
      let x = get_or ts i nan in
      rw (setpoints_later (length ws) (omega arith), target_said, le-leb (bits_of x) target_bits (range_bits target_top target_bits target_limit x f))))
      (λ i l t. absurd_by (let z = no_run i in cc))
      (λ i l b. absurd (omega arith))
      (λ i l b. get_or-append-add hs T i 0 ∙ target_at_lem ts s.m i l)

-- ALL KINDS
pub saying : (s : Group) (a : Message) (h : Head) → a.head ≡ h → Fits s a → Said (kind_is h) s a
saying s a h e F = seen (reply_seen h) (update_seen h) (issue_seen h) e
  where
    seen : {h : Head} → Seen to_reply as_reply h → Seen to_update as_update h → Seen to_issue as_issue h → a.head ≡ h → Said (kind_is h) s a
    seen (it v) u i e = said_reply s a F v.0 v.1 v.2 e
    seen (other r) (it v) i e = said_update s a F v.0 v.1 e
    seen (other r) (other u) (it v) e = said_setpoints s a F v.0 v.1 v.2 e
    seen {h} (other r) (other u) (other i) e = said_plain s a F h e (none_carried s h r u i)

-- X is only written
unfoldable pub not_x : Head → Bool
not_x h = not (eqb (letter_of (kind_is h)) 88)

x_or_read : (h : Head) → ((not_x h ≡ true) × (kind_of (letter_of (kind_is h)) ≡ Some (kind_is h))) ⊎ ((number : ℕ) × (h ≡ Refused number))
unfolding kind_is not_x kind_of pick
x_or_read (Reading label run raw) = inl (refl, refl)
x_or_read (Query sender label mask) = inl (refl, refl)
x_or_read (Reply sender label mask) = inl (refl, refl)
x_or_read (Advert sender state) = inl (refl, refl)
x_or_read (Update sender state) = inl (refl, refl)
x_or_read (Vote sender label digest) = inl (refl, refl)
x_or_read (Setpoints sender label digest) = inl (refl, refl)
x_or_read (Due label) = inl (refl, refl)
x_or_read (CollectingEnds label) = inl (refl, refl)
x_or_read (VotingEnds label) = inl (refl, refl)
x_or_read (Floor label) = inl (refl, refl)
x_or_read (Start own floor) = inl (refl, refl)
x_or_read (Refused number) = inr (number, refl)

pub readable : (h : Head) → not_x h ≡ true → kind_of (letter_of (kind_is h)) ≡ Some (kind_is h)
unfolding kind_is not_x
readable h x = ⊎_elim (λ r. r.1) (λ n. no_way (rw n.1 at x)) (x_or_read h)

-- a head that is no X's
pub not_x_lem : (h : Head) → ((number : ℕ) → h ≡ Refused number → ⊥) → not_x h ≡ true
not_x_lem h f = ⊎_elim (λ r. r.0) (λ n. absurd (f n.0 n.1)) (x_or_read h)
