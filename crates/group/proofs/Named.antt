-- THE LEMMAS BY NAME, each of every run that keeps what is enough (`weaker` makes such a run of one that keeps the premises as they are worded). Assumes nothing beyond the premises.
use Rattle.std.specs.Prelude.{Err, Some}
use Prim.Native.Nat.{ℕ, ◌≤◌, ◌<◌}
use native.Mathlib.Omega.{arith}
use mathlib.Core.Path.{◌≡◌, refl, sym, ap, subst, ◌∙◌}
use mathlib.Core.Bool.{Bool, true, false, not, ◌&&◌, true≢false}
use mathlib.Core.List.{List, Memᴰ}
use mathlib.Core.Option.{some}
use lib.Bits.{bit_and}
use lib.Dec.{leb, ltb}
use lib.ListN.{get_or}
use borrow.Author.Tests.{eq-eqb, ltb-true}
use Rattle.units.specs.declared.estimate.Estimate.{Estimate}
use Rattle.units.specs.declared.labels.RoundLabel.{RoundLabel}
use Rattle.units.specs.declared.labels.StateLabel.{StateLabel}
use Rattle.units.specs.declared.refusal.Refusal.TheVariants.{Clash}
use Rattle.units.specs.declared.settings.Group.{Group}
use Rattle.units.specs.declared.settings.Numbers.{Numbers}
use Rattle.units.specs.Labels.{round_fits}
use Rattle.units.specs.Limits.{raw_top}
use Rattle.units.specs.Mask.{in_mask}
use Rattle.units.proofs.Every.{and_left, and_right, every_all}
use Rattle.units.proofs.Masks.{in_and}
use Rattle.floats.specs.Ranges.{same_state}
use Rattle.floats.proofs.Places.{same_state_self}
use Rattle.vote.specs.declared.digest.Digest.{Digest}
use Rattle.vote.specs.Digest.{legal}
use Rattle.message.specs.declared.head.Head.{Head}
use Rattle.message.specs.declared.head.Head.TheVariants.{Reading, Reply, Update, Vote}
use Rattle.message.specs.declared.value.Message.{Message}
use Rattle.message.specs.Head.{head_fits}
use Rattle.message.specs.Message.{message_fits}
use Rattle.message.specs.View.{is_telling}
use Rattle.controller.specs.declared.state.Controller.{Controller}
use Rattle.controller.specs.State.{ballot_at}
use Rattle.controller.specs.Merge.{agree_place, agree_at, agrees}
use Rattle.controller.specs.Step.{stepped}
use Rattle.controller_laws.specs.Reasons.{Clashed}
use Rattle.controller_laws.specs.Reasons.Clashed.{by_reading, by_reply, by_update, by_digest}
use Rattle.controller_laws.proofs.Clashes.{clash_only}
use Rattle.controller_laws.proofs.Fits.{inputs}
use Rattle.controller_laws.proofs.Valid.{Valid, sized}
use Rattle.group.specs.World.{World}
use Rattle.group.specs.Premises.{Meters, Released, Enough, Run}
use Rattle.group.specs.Demand.{Canon}
use Rattle.group.proofs.Once.{once}
use Rattle.group.proofs.Sound.{Fine, Says}
use Rattle.group.proofs.Theorem.{canon_one, sound_run}
use Rattle.group.proofs.Votes.{vote_fits, released_fits}

-- a state that a controller has, or that a U under way has
pub data Somewhere (w : World) : StateLabel → List Estimate → Type 0 where
  in_controller : {i : ℕ} {c : Controller} → w.up i ≡ some c → Somewhere w c.state c.estimates
  in_message : {x : Message} {sender : ℕ} {label : StateLabel} → Memᴰ x w.sent → x.head ≡ Update sender label → Somewhere w label x.estimates

-- a reading that a controller holds, or that an R under way has
pub data Told (w : World) : RoundLabel → ℕ → ℕ → Type 0 where
  in_controller : {i : ℕ} {c : Controller} {meter : ℕ} → w.up i ≡ some c → meter < 16 → in_mask c.held meter ≡ true → Told w c.label meter (get_or c.readings meter 0)
  in_message : {x : Message} {sender : ℕ} {label : RoundLabel} {mask meter : ℕ} → Memᴰ x w.sent → x.head ≡ Reply sender label mask → meter < 16 → in_mask mask meter ≡ true
      → Told w label meter (get_or x.readings meter 0)

-- ---- small laws
agree_place_lem : (t : Bool) (x y : ℕ) → (t ≡ true → x ≡ y) → agree_place t x y ≡ true
agree_place_lem true x y f = eq-eqb x y (f refl)
agree_place_lem false x y f = refl

reading_run : (s : Group) (label : RoundLabel) (run raw : ℕ) → head_fits s (Reading label run raw) ≡ true → run < s.m
unfolding head_fits
reading_run s label run raw h = ltb-true run s.m (and_right (round_fits label) _ (and_left (round_fits label && ltb run s.m) (leb raw raw_top) h))

module _ (s : Numbers) (meters : Meters) {w : World} (run : Run s (Enough meters) w) where
  -- ONE NUMBER RELEASES AT MOST ONE DIGEST FOR A LABEL, over all its lives
  pub one_digest : (i : ℕ) (label : RoundLabel) (d e : Digest) → Released w.sent i label d → Released w.sent i label e → d ≡ e
  one_digest = (once s meters run).unique

  -- EVERY RELEASED DIGEST IS LEGAL
  pub released_legal : (i : ℕ) (label : RoundLabel) (d : Digest) → Released w.sent i label d → legal s.group.m label d ≡ true
  released_legal i label d p = let o = once s meters run in (vote_fits s.group i label d (released_fits s w.sent o.lines o.unique i label d p)).2

  -- EVERY MESSAGE SENT IS IN RANGE, so that it can be written, and is read back as it was
  pub sent_in_range : (x : Message) → Memᴰ x w.sent → message_fits s.group x ≡ true
  sent_in_range = (once s meters run).lines

  -- HELD VOTES ARE RELEASED VOTES
  pub held_released : (i : ℕ) (c : Controller) → w.up i ≡ some c → (j : ℕ) (d : Digest) → ballot_at c j ≡ Some d → Released w.sent j c.label d
  held_released i c e j d q = ((sound_run s meters run).each i c e).votes j d q

  -- the state of a state label, wherever it is, is the one that the run fixes
  pub state_fixed : {label : StateLabel} {es : List Estimate} → Somewhere w label es → Canon s meters w.sent label es
  state_fixed (in_controller {i} {c} e) = ((sound_run s meters run).each i c e).state
  state_fixed (in_message {x} {sender} {label} m e) = ((sound_run s meters run).said x m).state sender label e

  -- EQUAL STATE LABELS HAVE EQUAL STATES, bit for bit, everywhere and in every message under way
  pub one_state : {label : StateLabel} {es fs : List Estimate} → Somewhere w label es → Somewhere w label fs → es ≡ fs
  one_state a b = canon_one s meters w.sent (state_fixed a) (state_fixed b)

  -- EVERY READING HELD IS THE ONE READING, and every reading under way
  pub one_reading : {label : RoundLabel} {meter raw : ℕ} → Told w label meter raw → raw ≡ meters label meter
  one_reading (in_controller {i} {c} {meter} e k h) = ((sound_run s meters run).each i c e).reads meter k h
  one_reading (in_message {x} {sender} {label} {mask} {meter} m e k h) = ((sound_run s meters run).said x m).readings sender label mask e meter k h

  -- 11 IS NEVER GIVEN for a message of the group's own, nor for a reading
  pub no_clash : (i : ℕ) (c : Controller) → w.up i ≡ some c → (a : Message) → Enough meters w i a → (stepped s c a).verdict ≡ Err Clash → ⊥
  unfolding agrees
  no_clash i c at a p q = let k = clash_only s c a q in clash a.head refl k.1
    where
      f : Fine s meters w.sent (once s meters run).lines (once s meters run).unique c
      f = (sound_run s meters run).each i c at

      sent_one : (h : Head) → a.head ≡ h → is_telling h ≡ true → Memᴰ a w.sent
      sent_one h e t = p.not_made_up (ap is_telling e ∙ t)

      fits : (h : Head) → a.head ≡ h → head_fits s.group h ≡ true
      fits h e = subst (λ (x : Head). head_fits s.group x ≡ true) e (inputs s c a (clash_only s c a q).0).message.head

      valid : Valid s c
      valid = (inputs s c a (clash_only s c a q).0).valid

      small : s.group.m ≤ 16
      small = (sized s (inputs s c a (clash_only s c a q).0).numbers).m_high

      -- readings that are the meters' agree with those held
      agreed : (mask : ℕ) → ((i : ℕ) → i < 16 → in_mask mask i ≡ true → get_or a.readings i 0 ≡ meters c.label i) → agrees (bit_and mask c.held) a.readings c.readings ≡ true
      agreed mask g =
          every_all (agree_at (bit_and mask c.held) a.readings c.readings) 16
          (λ i k. agree_place_lem (in_mask (bit_and mask c.held) i) _ _
          (λ t. let u = sym (in_and mask c.held i) ∙ t in g i k (and_left (in_mask mask i) _ u) ∙ sym (f.reads i k (and_right (in_mask mask i) _ u))))

      clash : (h : Head) → a.head ≡ h → Clashed c a h → ⊥
      clash h e (by_reading {run = r} {raw = raw} phase old b n) =
          let k : r < 16 = omega (arith, reading_run s.group c.label r raw (fits (Reading c.label r raw) e), small) in
          n (f.reads r k b ∙ sym (p.one_reading c.label r raw e))
      clash h e (by_reply {sender} {mask} ne phase b) = true≢false (sym b ∙ ap not (agreed mask (λ i k q. x.readings sender c.label mask e i k q)))
        where
          x : Says s meters w.sent (once s meters run).lines (once s meters run).unique a
          x = (sound_run s meters run).said a (sent_one (Reply sender c.label mask) e refl)
      clash h e (by_update {sender} ne phase b) =
          let z : a.estimates ≡ c.estimates = one_state (in_message {x = a} {sender = sender} {label = c.state} (sent_one (Update sender c.state) e refl) e) (in_controller {i = i} {c = c} at) in
          true≢false (sym (ap (λ (x : List Estimate). same_state x c.estimates) z ∙ same_state_self s.group.m c.estimates valid.estimates) ∙ b)
      clash h e (by_digest {sender} {digest} {e = d} ne busy b n) =
          n (one_digest sender c.label d digest (f.votes sender d b) (record { line = a; among = sent_one (Vote sender c.label digest) e refl; said = e }))
