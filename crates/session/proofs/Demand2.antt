-- DEMAND 2 AS ONE STATEMENT: each clause is a law that stands elsewhere, under the sentence that it answers. Assumes nothing.
use Rattle.std.specs.Prelude.{Ok}
use Prim.Native.Nat.{ℕ, ◌+◌, ◌≤◌}
use mathlib.Core.Path.{◌≡◌, refl, ap, subst}
use mathlib.Core.Bool.{true}
use mathlib.Core.List.{List, ◌++◌}
use lib.Ieee.{Float}
use lib.ListN.{length, take}
use Rattle.units.specs.declared.labels.RoundLabel.{RoundLabel}
use Rattle.units.specs.declared.settings.Group.{Group}
use Rattle.units.specs.declared.settings.Numbers.{Numbers}
use Rattle.units.specs.Labels.{before, issued_state}
use Rattle.units.specs.Limits.{line_top}
use Rattle.units.proofs.Every.{absurd_by}
use Rattle.vote.specs.declared.digest.Digest.{Digest}
use Rattle.vote.specs.declared.votes.Votes.{Votes}
use Rattle.vote.specs.Decision.{decision}
use Rattle.vote.specs.Vote.{Answers, Decides}
use Rattle.vote.proofs.Answer.{decision_exact}
use Rattle.vote.proofs.Decided.{decided_for}
use Rattle.filter.specs.Compute.{set_points, computed}
use Rattle.message.specs.declared.head.Head.{Head}
use Rattle.message.specs.declared.head.Head.TheVariants.{Setpoints}
use Rattle.message.specs.declared.settings.Settings.{Settings}
use Rattle.message.specs.declared.value.Message.{Message}
use Rattle.message.specs.Message.{message_fits}
use Rattle.message.specs.Settings.{settings_fit}
use Rattle.plan.specs.Plan.{Sent}
use Rattle.plan.specs.Votes.{possessed}
use Rattle.lines.specs.declared.settle.Settling.{Settling}
use Rattle.lines.specs.Reading.{read_line}
use Rattle.lines.specs.Settings.{setting_lines}
use Rattle.lines.specs.Settling.{settling_start, settle_all}
use Rattle.lines.specs.Writing.{spell_line, buffer_of}
use Rattle.lines.proofs.RoundTrip.{Spelt, read_write, line_only}
use Rattle.lines.proofs.Saying.{not_x}
use Rattle.lines.proofs.WholeSettings.{Spelt as SettingsSpelt, whole as whole_at, settings_back, settings_only}
use Rattle.lines.proofs.Wire.{taken}
use Rattle.controller.specs.declared.state.Controller.{Controller}
use Rattle.controller.specs.Sent.{sent_message}
use Rattle.controller.specs.State.{brief_of}
use Rattle.controller.specs.Step.{votes_with, inputs_fit, stepped}
use Rattle.controller_laws.specs.Judging.{Judged}
use Rattle.controller_laws.specs.Outcomes.{RoundIssued, SentBy}
use Rattle.controller_laws.specs.Outcomes.SentBy.{query, reply, advert, update, floor, vote, setpoints}
use Rattle.controller_laws.specs.Sendings.{IsSent}
use Rattle.controller_laws.specs.Ways.{Votes as TakenIn}
use Rattle.controller_laws.proofs.Judging.{judged_exactly}
use Rattle.controller_laws.proofs.Outcomes.{sent_by_lem}
use Rattle.session.specs.declared.feed.Session.{Session}
use Rattle.session.specs.declared.stage.Core.{Core}
use Rattle.session.specs.declared.stage.Stage.{Stage}
use Rattle.session.specs.declared.stage.Stage.TheVariants.{Running}
use Rattle.session.specs.Demand.{spoken_in, step_by}
use Rattle.session.specs.Feeding.{finished, last_turn, session_start}
use Rattle.session.specs.Pieces.{Feeds}
use Rattle.session.specs.Station.{station}
use Rattle.session.specs.Turn.{group_in, step_turn, turn_by, stepping, turn}
use Rattle.session.proofs.Turns.{hears_taken}
use Rattle.session.proofs.Sent.{sent_back}
use Rattle.session.proofs.Whole.{whole}

-- a running core's turn is a step
turn_at : (c : Core) (line : List ℕ) (stage : Stage) → stage ≡ Running → (read_line (group_in c) line).verdict ≡ Ok tt → turn_by stepping c line stage ≡ step_turn c (step_by c line)
unfolding turn_by
turn_at c line stage e t = rw e (hears_taken (stepping c) c (spoken_in c line) t)

pub turn_steps : (c : Core) (line : List ℕ) → c.stage ≡ Running → (read_line (group_in c) line).verdict ≡ Ok tt → turn c line ≡ step_turn c (step_by c line)
turn_steps c line e t = turn_at c line c.stage e t

-- what is issued for `chosen` by the controller c that took the message h: why it is that digest, and that the state after the step and the targets of its S are
-- those of 'Computing', from both labels, the state, the settings, the chosen mask and the readings
pub record Issued (s : Numbers) (c : Controller) (h : Head) (chosen : Digest) (n : Controller) (targets : List Float) : Type 0 where
  -- a vote was taken in while voting, and with it in its seat the votes held are decided for the digest: every completion has it as winner
  pub seat : ℕ
  pub digest : Digest
  pub first : Sent
  pub vote : TakenIn c h seat digest first
  pub decided : Decides (votes_with s c seat digest) chosen
  -- its measurements and its state are here, and the state label lies below the label
  pub here : possessed (brief_of c) chosen ≡ true
  pub older : before chosen.state c.label ≡ true
  pub label : n.state ≡ issued_state c.label
  pub state : n.estimates ≡ (computed c.label c.state c.estimates s chosen.mask c.readings).state
  pub given : targets ≡ (computed c.label c.state c.estimates s chosen.mask c.readings).targets

-- every S that a step sends is issued so
module _ (s : Numbers) (c : Controller) (a : Message) where
  abbrev n : Controller
  n = (stepped s c a).next

  settled_issue : {chosen : Digest} → RoundIssued s c a.head chosen n → Issued s c a.head chosen n (set_points s n.estimates)
  settled_issue {chosen} t =
      record {
        seat = t.seat;
        digest = t.digest;
        first = t.first;
        vote = t.vote;
        decided = decided_for (votes_with s c t.seat t.digest) chosen t.chose;
        here = t.here;
        older = t.older;
        label = ap (λ (k : Controller). k.state) t.next;
        state = ap (λ (k : Controller). k.estimates) t.next;
        given = ap (λ (k : Controller). set_points s k.estimates) t.next;
      }

  sent_issue : {head : Head} → SentBy s c a.head n head → (j : ℕ) (l : RoundLabel) (chosen : Digest) → head ≡ Setpoints j l chosen → Issued s c a.head chosen n (sent_message s n head).targets
  unfolding sent_message
  sent_issue (setpoints {chosen} t) j l d q = let y : chosen ≡ d = cc in subst (λ (k : Digest). Issued s c a.head k n (set_points s n.estimates)) y (settled_issue t)
  sent_issue (query e) j l chosen q = absurd_by (cc)
  sent_issue (reply asked e) j l chosen q = absurd_by (cc)
  sent_issue (advert e) j l chosen q = absurd_by (cc)
  sent_issue (update e) j l chosen q = absurd_by (cc)
  sent_issue (floor e) j l chosen q = absurd_by (cc)
  sent_issue (vote e p) j l chosen q = absurd_by (cc)

  issue_computed : (sender : ℕ) (label : RoundLabel) (chosen : Digest) → IsSent (stepped s c a) (Setpoints sender label chosen)
      → Issued s c a.head chosen n (sent_message s n (Setpoints sender label chosen)).targets
  issue_computed sender label chosen e = sent_issue (sent_by_lem s c a (Setpoints sender label chosen) e) sender label chosen refl

pub record Demand2 : Type 0 where
  -- "Lines are read and written in one spelling, nothing lost": a message that is written is read back whole ..
  pub read_back : (s : Group) (a : Message) → message_fits s a ≡ true → not_x a.head ≡ true → read_line s (spell_line s a) ≡ taken a
  -- .. a line that is read is the one that would be written, and in range ..
  pub one_spelling : (s : Group) (line : List ℕ) (a : Message) → read_line s line ≡ taken a → Spelt s line a
  -- .. whatever a step sends is read back as it was sent ..
  pub sent_read : (s : Numbers) (c : Controller) (a : Message) (head : Head) → IsSent (stepped s c a) head
      → read_line s.group (spell_line s.group (sent_message s (stepped s c a).next head)) ≡ taken (sent_message s (stepped s c a).next head)
  -- .. and so with the settings: written and read again they are the same; what is accepted is in range, and spelled as it would be written
  pub settings_read : (s : Settings) → settings_fit s ≡ true → settle_all (setting_lines s) settling_start ≡ whole_at (record { line = 3 + s.numbers.group.m; settings = s })
  pub settings_spelling : (lines : List (List ℕ)) (end : Settling) → settle_all lines settling_start ≡ whole_at end → SettingsSpelt lines end.settings
  -- "Every step does what the Quarts report and document 01 define, bit for bit": a line that is read by a running controller is one step of `stepped`,
  -- next state and answer ..
  pub each_step : (c : Core) (line : List ℕ) → c.stage ≡ Running → (read_line (group_in c) line).verdict ≡ Ok tt → turn c line ≡ step_turn c (step_by c line)
  -- .. whenever an S goes out, it names what the votes held are decided for and what is here, and the state after it and its targets are filter's `computed` in IEEE 754 binary64, of what the controller held ..
  pub each_issue : (s : Numbers) (c : Controller) (a : Message) (sender : ℕ) (label : RoundLabel) (chosen : Digest) → IsSent (stepped s c a) (Setpoints sender label chosen)
      → Issued s c a.head chosen (stepped s c a).next (sent_message s (stepped s c a).next (Setpoints sender label chosen)).targets
  -- .. and whenever a vote is taken in while voting, it is judged: decided and here, S goes out; decided and not here, 13; decided for no digest, nothing more ..
  pub each_vote : (s : Numbers) (c : Controller) (a : Message) → inputs_fit s c a ≡ true → {seat : ℕ} {digest : Digest} {first : Sent} → TakenIn c a.head seat digest first
      → Judged s c seat digest first (stepped s c a)
  -- .. from the first byte of an input to the last, however it is cut: the bytes written are those of `station`, which goes by such turns alone
  pub whole_input : {input out : List ℕ} {y : Session} → Feeds session_start input out y → (buf : List ℕ) → line_top ≤ length buf
      → out ++ take (finished y (length buf)).wrote (buffer_of (last_turn y).text buf) ≡ station input
  -- "A vote is decided exactly when every way the missing votes could still come in has the same winner"
  pub decided_exactly : (v : Votes) → Answers v (decision v)

pub demand2 : Demand2
demand2 =
    record {
      read_back = read_write;
      one_spelling = line_only;
      sent_read = sent_back;
      settings_read = settings_back;
      settings_spelling = settings_only;
      each_step = turn_steps;
      each_issue = issue_computed;
      each_vote = judged_exactly;
      whole_input = whole;
      decided_exactly = decision_exact;
    }
