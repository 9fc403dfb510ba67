-- THE CODE'S TURN IS THE DOCUMENT'S on a core in range: nothing is out of range, every message sent is written, and there is no third line. Assumes nothing.
use Rattle.std.specs.Prelude.{Err, None, Ok, Some}
use Prim.Native.Nat.{ℕ}
use mathlib.Core.Path.{◌≡◌, refl, sym, ap, ◌∙◌}
use mathlib.Core.Bool.{true}
use mathlib.Core.List.{List, ◌++◌, append-nil}
use mathlib.Core.Logic.{◌⊎◌, inl, inr}
use Rattle.units.specs.Refusal.{Verdict}
use Rattle.units.specs.declared.settings.Numbers.{Numbers}
use Rattle.units.specs.Pick.{pick}
use Rattle.units.specs.Settings.{numbers_fit}
use Rattle.units.proofs.Every.{absurd_by}
use Rattle.message.specs.declared.head.Head.{Head}
use Rattle.message.specs.declared.value.Message.{Message}
use Rattle.message.specs.Message.{message_fits}
use Rattle.plan.specs.Plan.{Sent}
use Rattle.lines.specs.Reading.{read_line}
use Rattle.lines.specs.Writing.{spell_line}
use Rattle.lines.proofs.RoundTrip.{read_fits}
use Rattle.controller.specs.declared.state.Controller.{Controller}
use Rattle.controller.specs.Answers.{Answer}
use Rattle.controller.specs.State.{controller_fits}
use Rattle.controller.specs.Sent.{sent_message}
use Rattle.controller.specs.Step.{inputs_fit, stepped}
use Rattle.controller_laws.proofs.Sendings.{sent_fits, sent_in_order, two_taken}
use Rattle.session.specs.declared.stage.Core.{Core}
use Rattle.session.specs.declared.stage.Stage.{Stage}
use Rattle.session.specs.declared.stage.Stage.TheVariants.{Settling as AtSettings, Waiting, Running, Ended}
use Rattle.session.specs.Feeding.{advanced, fit_text, rest_text, put_text, advances, advancing}
use Rattle.session.specs.Reach.{FitsAt, CoreFits}
use Rattle.session.specs.Turn.{numbers_in, group_in, running_with, hears, sent_text, verdict_text, answer_text, turn_by, stepping, turn}

-- a step with nothing out of range
pub step_same : (s : Numbers) (c : Controller) (a : Message) → numbers_fit s ≡ true → controller_fits s c ≡ true → message_fits s.group a ≡ true → stepped s c a ≡ advanced s c a
unfolding stepped inputs_fit pick
step_same s c a f g h = rw (f, g, h)

-- up to two lines, all in range, with no gap, and a refusal after one at most
module _ (s : Numbers) (n : Controller) where
  texts : (first second : Sent) (v : Verdict) → ((head : Head) → (first ≡ Some head) ⊎ (second ≡ Some head) → message_fits s.group (sent_message s n head) ≡ true)
      → (first ≡ None → second ≡ None) → ((head : Head) → second ≡ Some head → v ≡ Ok tt)
      → put_text s n second v first ≡ sent_text s n first ++ (sent_text s n second ++ verdict_text v)
  unfolding put_text rest_text fit_text sent_text verdict_text pick
  texts None None v fit order two = refl
  texts None (Some k) v fit order two = let e = order refl in absurd_by (cc)
  texts (Some h) None v fit order two = rw (fit h (inl refl))
  texts (Some h) (Some k) v fit order two =
      rw (fit h (inl refl), fit k (inr refl), two k refl) (ap (λ (l : List ℕ). spell_line s.group (sent_message s n h) ++ l) (sym (append-nil (spell_line s.group (sent_message s n k)))))

advancing_same : (c : Core) (a : Message) → numbers_fit (numbers_in c) ≡ true → controller_fits (numbers_in c) c.controller ≡ true → message_fits (group_in c) a ≡ true → advancing c a ≡ stepping c a
unfolding answer_text
advancing_same c a f g h =
    let s = numbers_in c in
    let r = stepped s c.controller a in
    let e : put_text s r.next r.second r.verdict r.first ≡ answer_text s r =
    texts s r.next r.first r.second r.verdict (sent_fits s c.controller a) (sent_in_order s c.controller a) (two_taken s c.controller a) in
    ap (λ (x : Answer). advances c x) (sym (step_same s c.controller a f g h)) ∙ (λ i. record { next = running_with c r.next; text = e i })

hears_same : (c : Core) (line : List ℕ) (v : Verdict) → (read_line (group_in c) line).verdict ≡ v → FitsAt c Running
    → hears (advancing c) c (read_line (group_in c) line).message v ≡ hears (stepping c) c (read_line (group_in c) line).message v
unfolding hears
hears_same c line (Ok tt) e f = advancing_same c (read_line (group_in c) line).message f.0 f.1 (read_fits (group_in c) line e)
hears_same c line (Err why) e f = refl

same_at : (c : Core) (line : List ℕ) (stage : Stage) → FitsAt c stage → turn_by advancing c line stage ≡ turn_by stepping c line stage
unfolding turn_by
same_at c line AtSettings f = refl
same_at c line Waiting f = refl
same_at c line Running f = hears_same c line (read_line (group_in c) line).verdict refl f
same_at c line Ended f = refl

pub same_turn : (c : Core) (line : List ℕ) → CoreFits c → turn_by advancing c line c.stage ≡ turn c line
same_turn c line f = same_at c line c.stage f
