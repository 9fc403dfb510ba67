-- WHAT A REFUSED LINE LEADS TO, by its verdict: nothing but its X, or the end of the round. Assumes nothing.
use Rattle.std.specs.Prelude.{Err, Ok}
use Prim.Native.Nat.{ℕ}
use native.Mathlib.Omega.{arith}
use mathlib.Core.Path.{◌≡◌, refl, sym, ap, ◌∙◌}
use mathlib.Core.Bool.{true, false, true≢false}
use mathlib.Core.List.{List}
use lib.Dec.{leb}
use borrow.Author.Tests.{leb-true, lt-leb}
use Rattle.units.specs.declared.refusal.Refusal.{Refusal}
use Rattle.units.specs.Refusal.{Verdict, number_of}
use Rattle.units.specs.declared.settings.Group.{Group}
use Rattle.units.specs.Within.{within}
use Rattle.units.proofs.Every.{and_right}
use Rattle.message.specs.declared.head.Head.{Head}
use Rattle.message.specs.declared.value.Message.{Message}
use Rattle.message.proofs.Views.{by_kind, start_seen}
use Rattle.lines.specs.Reading.{read_line}
use Rattle.lines.specs.Writing.{refusal_line}
use Rattle.lines.proofs.Refusing.{reader_refuses}
use Rattle.controller.specs.Step.{stepped}
use Rattle.controller_laws.specs.Ways.{ends_round}
use Rattle.controller_laws.proofs.Refusals.{not_taken, same_why, refused_keeps}
use Rattle.session.specs.declared.stage.Core.{Core}
use Rattle.session.specs.declared.stage.Stage.{Stage}
use Rattle.session.specs.declared.stage.Stage.TheVariants.{Settling as AtSettings, Waiting, Running, Ended}
use Rattle.session.specs.Demand.{wait_verdict, heard_verdict, spoken_in, step_by, verdict_at, verdict_of}
use Rattle.session.specs.Turn.{Turn, numbers_in, group_in, running_with, refusing, waits_for, hears, sent_text, verdict_text, answer_text, turn_by, stepping, turn}

-- THE READER'S REFUSALS, 1 to 6, end no round
early_ends_none : (why : Refusal) → within 1 6 (number_of why) ≡ true → ends_round why ≡ false
early_ends_none why e = let l = leb-true (number_of why) 6 (and_right (leb 1 (number_of why)) (leb (number_of why) 6) e) in rw (lt-leb 12 (number_of why) (omega arith))

reader_ends_none : (s : Group) (line : List ℕ) (why : Refusal) → (read_line s line).verdict ≡ Err why → ends_round why ≡ false
reader_ends_none s line why e = early_ends_none why (reader_refuses s line why e)

-- A REFUSAL THAT ENDS NO ROUND leads to its X and nothing else
wait_refused : (c : Core) (head : Head) (why : Refusal) → wait_verdict head ≡ Err why → waits_for c head ≡ refusing c why
unfolding wait_verdict waits_for
wait_refused c head why =
    by_kind (λ (h : Head). wait_verdict h ≡ Err why → waits_for c h ≡ refusing c why) (λ v e. not_taken e) (λ h n. rw n (λ e. ap (refusing c) (same_why e))) (start_seen head)

step_refused : (c : Core) (a : Message) (why : Refusal) → c.stage ≡ Running → ends_round why ≡ false → (stepped (numbers_in c) c.controller a).verdict ≡ Err why → stepping c a ≡ refusing c why
unfolding answer_text sent_text verdict_text
step_refused c a why r n e = rw (refused_keeps (numbers_in c) c.controller a why e n) (λ i. record { next = back i; text = refusal_line why })
  where
    back : running_with c c.controller ≡ c
    back = λ i. record { stage = sym r i; settling = c.settling; controller = c.controller }

hears_refused : (c : Core) (a : Message) (go : Message → Turn) (verdict : Message → Verdict) (why : Refusal) → (verdict a ≡ Err why → go a ≡ refusing c why)
    → (v : Verdict) → heard_verdict verdict a v ≡ Err why → hears go c a v ≡ refusing c why
unfolding hears heard_verdict
hears_refused c a go verdict why h (Ok tt) e = h e
hears_refused c a go verdict why h (Err w) e = ap (refusing c) (same_why e)

refused_at : (c : Core) (line : List ℕ) (why : Refusal) (stage : Stage) → c.stage ≡ stage → (stage ≡ AtSettings → ⊥) → ends_round why ≡ false → verdict_at c line stage ≡ Err why
    → turn_by stepping c line stage ≡ refusing c why
unfolding turn_by verdict_at
refused_at c line why AtSettings s past n e = absurd (past refl)
refused_at c line why Waiting s past n e =
    hears_refused c (spoken_in c line) (λ a. waits_for c a.head) (λ a. wait_verdict a.head) why (wait_refused c (spoken_in c line).head why) (read_line (group_in c) line).verdict e
refused_at c line why Running s past n e =
    hears_refused c (spoken_in c line) (stepping c) (λ a. (stepped (numbers_in c) c.controller a).verdict) why (step_refused c (spoken_in c line) why s n) (read_line (group_in c) line).verdict e
refused_at c line why Ended s past n e = not_taken e

pub refused_turn : (c : Core) (line : List ℕ) (why : Refusal) → (c.stage ≡ AtSettings → ⊥) → ends_round why ≡ false → verdict_of c line ≡ Err why → turn c line ≡ refusing c why
refused_turn c line why past n e = refused_at c line why c.stage refl past n e

-- 12, 13 AND 14 come from the step alone
pub record Stepped (c : Core) (line : List ℕ) (why : Refusal) (t : Turn) : Type 0 where
  pub verdict : (step_by c line).verdict ≡ Err why
  pub turned : t ≡ stepping c (spoken_in c line)

not_both : {A : Type 0} (why : Refusal) → ends_round why ≡ true → ends_round why ≡ false → A
not_both why p q = absurd (true≢false (sym p ∙ q))

wait_before : (head : Head) (why : Refusal) → wait_verdict head ≡ Err why → ends_round why ≡ false
unfolding wait_verdict
wait_before head why = by_kind (λ (h : Head). wait_verdict h ≡ Err why → ends_round why ≡ false) (λ v e. not_taken e) (λ h n. rw n (λ e. ap ends_round (sym (same_why e)))) (start_seen head)

module _ (c : Core) (line : List ℕ) (why : Refusal) (n : ends_round why ≡ true) where
  waiting_over : {A : Type 0} (v : Verdict) → (read_line (group_in c) line).verdict ≡ v → heard_verdict (λ a. wait_verdict a.head) (spoken_in c line) v ≡ Err why → A
  unfolding heard_verdict
  waiting_over (Ok tt) r e = not_both why n (wait_before (spoken_in c line).head why e)
  waiting_over (Err w) r e = not_both why n (reader_ends_none (group_in c) line why (r ∙ e))

  running_over : (v : Verdict) → (read_line (group_in c) line).verdict ≡ v → heard_verdict (λ a. (stepped (numbers_in c) c.controller a).verdict) (spoken_in c line) v ≡ Err why
      → Stepped c line why (hears (stepping c) c (spoken_in c line) v)
  unfolding heard_verdict hears
  running_over (Ok tt) r e = record { verdict = e; turned = refl }
  running_over (Err w) r e = not_both why n (reader_ends_none (group_in c) line why (r ∙ e))

  over_at : (stage : Stage) → (stage ≡ AtSettings → ⊥) → verdict_at c line stage ≡ Err why → Stepped c line why (turn_by stepping c line stage)
  unfolding turn_by verdict_at
  over_at AtSettings past e = absurd (past refl)
  over_at Waiting past e = waiting_over (read_line (group_in c) line).verdict refl e
  over_at Running past e = running_over (read_line (group_in c) line).verdict refl e
  over_at Ended past e = not_taken e

  pub over_turn : (c.stage ≡ AtSettings → ⊥) → verdict_of c line ≡ Err why → Stepped c line why (turn c line)
  over_turn past e = over_at c.stage past e
