-- WHY A MESSAGE IS REFUSED, AND WHY IT CHANGES NOTHING: document 01's numbers 3 and 7 to 11, each with its conditions, in the order in which they are checked.
use Rattle.std.specs.Prelude.{ℕ, ◌≤◌, ◌<◌, ◌≡◌, true, false, get_or, Some}
use Rattle.std.specs.Int.Bits.{bit_and}
use Rattle.units.specs.declared.labels.RoundLabel.{RoundLabel}
use Rattle.units.specs.declared.labels.StateLabel.{StateLabel}
use Rattle.units.specs.declared.refusal.Refusal.{Refusal}
use Rattle.units.specs.declared.refusal.Refusal.TheVariants.{Kind, Own, Late, Closed, Other, Clash}
use Rattle.units.specs.declared.settings.Numbers.{Numbers}
use Rattle.units.specs.Labels.{just_before}
use Rattle.units.specs.Mask.{in_mask}
use Rattle.floats.specs.Ranges.{same_state}
use Rattle.vote.specs.declared.digest.Digest.{Digest}
use Rattle.message.specs.declared.head.Head.{Head}
use Rattle.message.specs.declared.head.Head.TheVariants.{Reading, Query, Reply, Advert, Update, Vote, Setpoints, Due, CollectingEnds, VotingEnds, Floor, Refused}
use Rattle.message.specs.declared.value.Message.{Message}
use Rattle.plan.specs.declared.brief.Phase.TheVariants.{Idle, Collecting, Pending, Voting}
use Rattle.plan.specs.Timers.{missing_runs}
use Rattle.controller.specs.declared.state.Controller.{Controller}
use Rattle.controller.specs.State.{brief_of, ballot_at}
use Rattle.controller.specs.Step.{clashing}
use Rattle.controller_laws.specs.Phases.{Busy, Open, Fixed}

-- "7 Own: sender is this controller"
pub data Mine (c : Controller) : Head → Type 0 where
  my_query : {label : RoundLabel} {mask : ℕ} → Mine c (Query c.own label mask)
  my_reply : {label : RoundLabel} {mask : ℕ} → Mine c (Reply c.own label mask)
  my_advert : {theirs : StateLabel} → Mine c (Advert c.own theirs)
  my_update : {theirs : StateLabel} → Mine c (Update c.own theirs)
  my_vote : {label : RoundLabel} {digest : Digest} → Mine c (Vote c.own label digest)
  my_setpoints : {label : RoundLabel} {digest : Digest} → Mine c (Setpoints c.own label digest)

-- "8 Late: M whose label is at or below the state label, or below the current one, or equal to it when idle"
pub data TooLate (c : Controller) (label : RoundLabel) : Type 0 where
  stale : label.0 ≤ c.state.0 → TooLate c label
  below : label.0 < c.label.0 → TooLate c label
  idle : label ≡ c.label → c.phase ≡ Idle → TooLate c label

-- "10 Other: label isn't the current one"; "for Q, R, D, C, E, V, F 10 comes before 9"
pub data OtherLabel (c : Controller) : Head → Type 0 where
  other_query : {sender mask : ℕ} {label : RoundLabel} → (sender ≡ c.own → ⊥) → (label ≡ c.label → ⊥) → OtherLabel c (Query sender label mask)
  other_reply : {sender mask : ℕ} {label : RoundLabel} → (sender ≡ c.own → ⊥) → (label ≡ c.label → ⊥) → OtherLabel c (Reply sender label mask)
  other_vote : {sender : ℕ} {label : RoundLabel} {digest : Digest} → (sender ≡ c.own → ⊥) → (label ≡ c.label → ⊥) → OtherLabel c (Vote sender label digest)
  other_due : {label : RoundLabel} → (label ≡ c.label → ⊥) → OtherLabel c (Due label)
  other_collecting_ends : {label : RoundLabel} → (label ≡ c.label → ⊥) → OtherLabel c (CollectingEnds label)
  other_voting_ends : {label : RoundLabel} → (label ≡ c.label → ⊥) → OtherLabel c (VotingEnds label)
  other_floor : {label : RoundLabel} → (label ≡ c.label → ⊥) → OtherLabel c (Floor label)

-- "9 Closed: this phase doesn't take it", kind by kind; "Another's S handed to a controller is 9"
pub data Shut (c : Controller) : Head → Type 0 where
  shut_reading : {run raw : ℕ} → c.state.0 < c.label.0 → Fixed c.phase → Shut c (Reading c.label run raw)
  shut_query : {sender mask : ℕ} → (sender ≡ c.own → ⊥) → c.phase ≡ Idle → Shut c (Query sender c.label mask)
  shut_reply : {sender mask : ℕ} → (sender ≡ c.own → ⊥) → (c.phase ≡ Collecting → ⊥) → Shut c (Reply sender c.label mask)
  shut_update : {sender : ℕ} {theirs : StateLabel} → (sender ≡ c.own → ⊥) → Fixed c.phase → Shut c (Update sender theirs)
  shut_vote : {sender : ℕ} {digest : Digest} → (sender ≡ c.own → ⊥) → c.phase ≡ Idle → Shut c (Vote sender c.label digest)
  shut_setpoints : {sender : ℕ} {label : RoundLabel} {digest : Digest} → (sender ≡ c.own → ⊥) → Shut c (Setpoints sender label digest)
  shut_due : (c.phase ≡ Collecting → ⊥) → Shut c (Due c.label)
  shut_collecting_ends : (c.phase ≡ Collecting → ⊥) → Shut c (CollectingEnds c.label)
  shut_voting_ends : (c.phase ≡ Voting → ⊥) → Shut c (VotingEnds c.label)
  shut_floor : (c.phase ≡ Pending → ⊥) → Shut c (Floor c.label)

-- "11 Clash: differs from what is held for the same thing": a reading, the readings of R, the state of U, a vote
pub data Clashed (c : Controller) (a : Message) : Head → Type 0 where
  by_reading : {run raw : ℕ} → c.phase ≡ Collecting → c.state.0 < c.label.0 → in_mask c.held run ≡ true → (get_or c.readings run 0 ≡ raw → ⊥)
      → Clashed c a (Reading c.label run raw)
  by_reply : {sender mask : ℕ} → (sender ≡ c.own → ⊥) → c.phase ≡ Collecting → clashing c mask a.readings ≡ true → Clashed c a (Reply sender c.label mask)
  by_update : {sender : ℕ} → (sender ≡ c.own → ⊥) → Open c.phase → same_state a.estimates c.estimates ≡ false → Clashed c a (Update sender c.state)
  by_digest : {sender : ℕ} {digest e : Digest} → (sender ≡ c.own → ⊥) → Busy c.phase → ballot_at c sender ≡ Some e → (e ≡ digest → ⊥)
      → Clashed c a (Vote sender c.label digest)

-- why the message h is refused, but for 6, and for 12, 13 and 14, which end the round
pub data Refuses (c : Controller) (a : Message) : Head → Refusal → Type 0 where
  -- "After the settings a line X .. is 3"
  is_unknown : {number : ℕ} → Refuses c a (Refused number) Kind
  is_own : {h : Head} → Mine c h → Refuses c a h Own
  is_late : {label : RoundLabel} {run raw : ℕ} → TooLate c label → Refuses c a (Reading label run raw) Late
  is_other : {h : Head} → OtherLabel c h → Refuses c a h Other
  is_closed : {h : Head} → Shut c h → Refuses c a h Closed
  is_clash : {h : Head} → Clashed c a h → Refuses c a h Clash

-- why the message h changes nothing, sends nothing and is no refusal
pub data Rests (s : Numbers) (c : Controller) (a : Message) : Head → Type 0 where
  -- M: "the same value again changes nothing"
  known : {run raw : ℕ} → c.phase ≡ Collecting → c.state.0 < c.label.0 → in_mask c.held run ≡ true → get_or c.readings run 0 ≡ raw
      → Rests s c a (Reading c.label run raw)
  -- Q: "nothing if none"
  none_held : {sender mask : ℕ} → (sender ≡ c.own → ⊥) → Busy c.phase → bit_and mask c.held ≡ 0 → Rests s c a (Query sender c.label mask)
  -- A: "sends U if its label is below ours"
  not_below : {sender : ℕ} {theirs : StateLabel} → (sender ≡ c.own → ⊥) → c.state.0 ≤ theirs.0 → Rests s c a (Advert sender theirs)
  -- U: "A lower label, or an equal one with equal bits, changes nothing"
  lower : {sender : ℕ} {theirs : StateLabel} → (sender ≡ c.own → ⊥) → Open c.phase → theirs.0 < c.state.0 → Rests s c a (Update sender theirs)
  equal : {sender : ℕ} → (sender ≡ c.own → ⊥) → Open c.phase → same_state a.estimates c.estimates ≡ true → Rests s c a (Update sender c.state)
  -- C: "Q for the runs not held, if any, then A if the state label is below label - 1"
  none_due : c.phase ≡ Collecting → missing_runs (brief_of c) s.group.m ≡ 0 → (just_before c.label).0 ≤ c.state.0 → Rests s c a (Due c.label)
