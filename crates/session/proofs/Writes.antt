-- Texts put into a lent buffer, and turns: what the code needs of the definitions. Assumes nothing.
use Rattle.std.specs.Prelude.{None, Ok, Some}
use Prim.Native.Nat.{ℕ}
use mathlib.Core.Path.{◌≡◌, refl, sym, ap, ◌∙◌}
use mathlib.Core.List.{List, [], append-nil}
use mathlib.Core.Bool.{Bool, true, false}
use native.Mathlib.Omega.{arith}
use lib.Dec.{ltb}
use lib.ListN.{length}
use borrow.Author.Tests.{le-ltb}
use Rattle.units.specs.declared.refusal.Refusal.{Refusal}
use Rattle.units.specs.Refusal.{Verdict}
use Rattle.units.specs.declared.settings.Numbers.{Numbers}
use Rattle.units.specs.Pick.{pick}
use Rattle.message.specs.declared.head.Head.{Head}
use Rattle.message.specs.declared.value.Message.{Message}
use Rattle.message.specs.Head.{is_plain}
use Rattle.message.specs.Message.{message_fits, plain}
use Rattle.plan.specs.Plan.{Sent}
use Rattle.fields.proofs.Cases.{by_test}
use Rattle.lines.specs.Writing.{Written, answer_of, buffer_of, plain_fits, spell_line, write_answer, write_buffer}
use Rattle.lines.proofs.Plain.{plain_same}
use Rattle.controller.specs.declared.state.Controller.{Controller}
use Rattle.controller.specs.Answers.{Answer}
use Rattle.controller.specs.Sent.{sent_message}
use Rattle.controller_laws.proofs.Sendings.{sent_plain}
use Rattle.session.specs.declared.stage.Core.{Core}
use Rattle.session.specs.declared.turn.Turned.{Turned}
use Rattle.session.specs.Feeding.{Wrote, advances, fit_text, or_nothing, put_text, rest_text}
use Rattle.session.specs.Turn.{Turn, numbers_in, quiet, refusing, running_with, verdict_text}

-- a text and a buffer: what is answered, and the buffer after it
abbrev pub Puts : List ℕ → List ℕ → List ℕ → Written → Type 0
Puts text before after r = (r ≡ answer_of text before) × (after ≡ buffer_of text before)

pub puts_none : (buf : List ℕ) → Puts [] buf buf (Ok 0)
unfolding pick
puts_none buf = rw (le-ltb (length buf) 0 (omega arith)) (refl, refl)

pub puts_same : {t u : List ℕ} (before : List ℕ) {after : List ℕ} {r : Written} → u ≡ t → Puts t before after r → Puts u before after r
puts_same before e h = rw e h

-- a turn that is known to be another
pub wrote_same : {t u : Turn} (before : List ℕ) {after : List ℕ} {r : Turned} → u ≡ t → Wrote t before after r → Wrote u before after r
wrote_same before e h = rw e h

-- nothing is written
pub wrote_quiet : {u : Turn} (c d : Core) (buf : List ℕ) {r : Turned} → u ≡ quiet d → c ≡ d → r ≡ record { next = c; written = Ok 0 } → Wrote u buf buf r
wrote_quiet c d buf e f h = let p = puts_none buf in rw (e, ← f, h) (refl, p.0, p.1)

-- X is written
pub wrote_refusing : {u : Turn} (c d : Core) (why : Refusal) (before : List ℕ) {after : List ℕ} {r : Turned} → u ≡ refusing d why → c ≡ d → Wrote (refusing c why) before after r → Wrote u before after r
wrote_refusing c d why before e f h = rw (e, ← f) h

-- what a step answers, written
pub wrote_advances : (c n : Core) (r a : Answer) (before : List ℕ) {after : List ℕ} {w : Written} → r ≡ a → n ≡ running_with c r.next
    → Puts (put_text (numbers_in c) r.next r.second r.verdict r.first) before after w → Wrote (advances c a) before after (record { next = n; written = w })
wrote_advances c n r a before e f p = rw (← e) (f, p.0, p.1)

-- what the writer answers, with 6 as nothing written
or_answer : (t before : List ℕ) → or_nothing (answer_of t before) ≡ answer_of t before
unfolding or_nothing pick
or_answer t before = by_test (ltb (length before) (length t)) (λ e. rw e) (λ e. rw e)

or_puts : (fit : Bool) (t before : List ℕ) {after : List ℕ} {w r : Written} → r ≡ or_nothing w → (w ≡ write_answer fit t before) × (after ≡ write_buffer fit t before) → Puts (pick fit t []) before after r
unfolding write_answer write_buffer or_nothing pick
or_puts true t before e h = (e ∙ ap or_nothing h.0 ∙ or_answer t before, h.1)
or_puts false t before e h = let p = puts_none before in (e ∙ ap or_nothing h.0 ∙ p.0, h.1 ∙ p.1)

-- a message that is sent, as the writer writes it
pub fit_puts : (s : Numbers) (c : Controller) (head : Head) (m : Message) → m ≡ sent_message s c head → (before : List ℕ) {after : List ℕ} {w r : Written} → r ≡ or_nothing w
    → (w ≡ write_answer (message_fits s.group m) (spell_line s.group m) before) × (after ≡ write_buffer (message_fits s.group m) (spell_line s.group m) before) → Puts (fit_text s c head) before after r
unfolding fit_text
fit_puts s c head m me before e h = rw (← me) (or_puts (message_fits s.group m) (spell_line s.group m) before e h)

-- the same of a kind that carries no array, written from its head alone
pub plain_puts : (s : Numbers) (c : Controller) (head : Head) → is_plain head ≡ true → (before : List ℕ) {after : List ℕ} {w r : Written} → r ≡ or_nothing w
    → (w ≡ write_answer (plain_fits s.group head) (spell_line s.group (plain head)) before) × (after ≡ write_buffer (plain_fits s.group head) (spell_line s.group (plain head)) before) → Puts (fit_text s c head) before after r
plain_puts s c head p before e h = fit_puts s c head (plain head) (sym (sent_plain s c head p)) before e (rw (plain_same s.group head p) at h)

-- one line and nothing after it
pub one_text : (s : Numbers) (c : Controller) (head : Head) {first second : Sent} {v : Verdict} → first ≡ Some head → second ≡ None → v ≡ Ok tt → put_text s c second v first ≡ fit_text s c head
unfolding put_text rest_text verdict_text
one_text s c head e f g = rw (e, f, g) (append-nil (fit_text s c head))
