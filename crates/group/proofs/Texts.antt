-- THE LINES OF WHAT A PROGRAM WRITES: each text is whole lines, X is read by nobody, and what is read is what a step sent. Assumes nothing.
use Rattle.std.specs.Prelude.{Some, Err, None, Ok}
use Prim.Native.Nat.{ℕ}
use mathlib.Core.Path.{◌≡◌, refl, sym, ap, subst, ◌∙◌}
use mathlib.Core.List.Memᴰ
use mathlib.Core.List.{List, [], ◌∷◌, ◌++◌, append-nil, append_assoc, Memᴰ}
use mathlib.Core.Logic.{inl, inr}
use lib.ListN.{get_or}
use Rattle.units.specs.declared.refusal.Refusal.{Refusal}
use Rattle.units.specs.declared.refusal.Refusal.TheVariants.{Closed}
use Rattle.units.specs.Refusal.{Verdict, number_of}
use Rattle.units.specs.declared.settings.Group.{Group}
use Rattle.units.specs.declared.settings.Numbers.{Numbers}
use Rattle.units.specs.Pick.{pick}
use Rattle.units.proofs.Every.{absurd_by}
use Rattle.message.specs.declared.head.Head.{Head}
use Rattle.message.specs.declared.head.Head.TheVariants.{Refused}
use Rattle.message.specs.declared.value.Message.{Message}
use Rattle.message.specs.Message.{plain}
use Rattle.message.proofs.Views.{start_seen, by_kind}
use Rattle.lines.specs.declared.read.Line.{Line}
use Rattle.lines.specs.Settling.{Standing}
use Rattle.lines.specs.declared.settle.Wanted.TheVariants.{More, Whole as AllSettings}
use Rattle.lines.specs.declared.settle.Settling.{Settling}
use Rattle.lines.specs.Reading.{read_line}
use Rattle.lines.specs.Table.{letter_of, kind_of}
use Rattle.lines.specs.Values.{kind_is, numbers_of}
use Rattle.lines.specs.Writing.{line_of, spell_line, refusal_line}
use Rattle.lines.proofs.RoundTrip.{line_feed_lem, refusal_is}
use Rattle.lines.proofs.Wire.{taken, text_of, line_accepted}
use Rattle.plan.specs.Plan.{Sent}
use Rattle.controller.specs.declared.state.Controller.{Controller}
use Rattle.controller.specs.Answers.{Answer}
use Rattle.controller.specs.Sent.{sent_message}
use Rattle.controller.specs.Step.{stepped}
use Rattle.session.specs.declared.stage.Core.{Core}
use Rattle.session.specs.declared.stage.Stage.{Stage}
use Rattle.session.specs.declared.stage.Stage.TheVariants.{Settling as AtSettings, Waiting, Running, Ended}
use Rattle.session.specs.Booting.{told}
use Rattle.session.specs.Demand.{spoken_in}
use Rattle.fields.specs.Lines.{lines_of}
use Rattle.session.specs.Turn.{Turn, numbers_in, group_in, settles_to, waits_for, hears, sent_text, verdict_text, answer_text, turn_by, stepping, turn}
use Rattle.fields.proofs.Lines.{lines_feed, lines_none}
use Rattle.session.proofs.Sent.{sent_back}
use Rattle.group.specs.Wire.{spelling, spelled_by}
use Rattle.group.specs.Stations.{puts, kept_if, spoken}

-- ---- X is never read
first_letter : (l k : List ℕ) → l ≡ k → get_or l 0 0 ≡ get_or k 0 0
first_letter l k e = ap (λ (x : List ℕ). get_or x 0 0) e

pub x_refused : (s : Group) (why : Refusal) → (read_line s (refusal_line why)).verdict ≡ Ok tt → ⊥
unfolding refusal_line line_of kind_of pick
x_refused s why e =
    let a = line_accepted s (refusal_line why) (read_line s (refusal_line why)).message (whole (read_line s (refusal_line why)) e) in
    let p : 88 ≡ letter_of a.kind = first_letter _ _ a.spelt in
    let q : kind_of 88 ≡ Some a.kind = ap kind_of p ∙ a.readable in absurd_by (cc)
  where
    whole : (l : Line) → l.verdict ≡ Ok tt → l ≡ taken l.message
    whole l d = rw (← d)

-- ---- the lines of a text
line_first : (s : Group) (a : Message) (rest : List ℕ) → lines_of (spell_line s a ++ rest) ≡ spell_line s a ∷ lines_of rest
line_first s a rest =
    let p = line_feed_lem s a in
    let text : List ℕ = text_of (kind_is a.head) (numbers_of s a) in
    ap (λ (l : List ℕ). lines_of (l ++ rest)) p.0 ∙ ap lines_of (append_assoc text (10 ∷ []) rest) ∙ lines_feed text rest p.1 ∙ ap (λ (l : List ℕ). l ∷ lines_of rest) (sym p.0)

refusal_first : (s : Group) (why : Refusal) → lines_of (refusal_line why) ≡ refusal_line why ∷ []
refusal_first s why =
    let x = plain (Refused (number_of why)) in
    ap lines_of (refusal_is s why ∙ sym (append-nil (spell_line s x))) ∙ line_first s x [] ∙ ap (λ (l : List (List ℕ)). spell_line s x ∷ l) lines_none ∙ ap (λ (l : List ℕ). l ∷ []) (sym (refusal_is s why))

module _ (s : Numbers) where
  kept_none : (v : Verdict) (l : List ℕ) (ls : List (List ℕ)) → (v ≡ Ok tt → ⊥) → kept_if v l ls ≡ ls
  kept_none (Ok tt) l ls n = absurd (n refl)
  kept_none (Err why) l ls n = refl

  kept_first : (v : Verdict) (l : List ℕ) (ls : List (List ℕ)) (x : List ℕ) → v ≡ Ok tt → x ≡ l → Memᴰ x (kept_if v l ls)
  kept_first (Ok tt) l ls x t e = Memᴰ.head e
  kept_first (Err why) l ls x t e = absurd_by (cc)

  kept_rest : (v : Verdict) (l : List ℕ) (ls : List (List ℕ)) (x : List ℕ) → Memᴰ x ls → Memᴰ x (kept_if v l ls)
  kept_rest (Ok tt) l ls x m = Memᴰ.tail m
  kept_rest (Err why) l ls x m = m

  -- a written line that is read is among the spoken
  pub in_spoken : (sent : List (List ℕ)) (x : List ℕ) → Memᴰ x sent → (read_line s.group x).verdict ≡ Ok tt → Memᴰ x (spoken s sent)
  unfolding spoken
  in_spoken [] x m t = absurd (Memᴰ.not-nil m)
  in_spoken (l ∷ sent) x m t =
      elim (Memᴰ.cases_cons m) [
        | inl e ↦ kept_first (read_line s.group l).verdict l (spoken s sent) x (ap (λ (y : List ℕ). (read_line s.group y).verdict) (sym e) ∙ t) e
        | inr n ↦ kept_rest (read_line s.group l).verdict l (spoken s sent) x (in_spoken sent x n t)
      ]

  pub spoken_x : (why : Refusal) (old : List (List ℕ)) → spoken s (puts (lines_of (refusal_line why)) old) ≡ spoken s old
  unfolding spoken puts
  spoken_x why old = rw (refusal_first s.group why) (kept_none (read_line s.group (refusal_line why)).verdict (refusal_line why) (spoken s old) (x_refused s.group why))

  pub quiet_sent : (old : List (List ℕ)) → spoken s (puts (lines_of []) old) ≡ spoken s old
  unfolding puts
  quiet_sent old = rw lines_none

  spoken_verdict : (v : Verdict) (old : List (List ℕ)) → spoken s (puts (lines_of (verdict_text v)) old) ≡ spoken s old
  unfolding verdict_text puts
  spoken_verdict (Ok tt) old = rw lines_none
  spoken_verdict (Err why) old = spoken_x why old

  puts_sent : (n : Controller) (t : Sent) (rest : List ℕ) (old : List (List ℕ)) → puts (lines_of (sent_text s n t ++ rest)) old ≡ puts (lines_of rest) (spelling s n t old)
  unfolding sent_text puts
  puts_sent n None rest old = refl
  puts_sent n (Some head) rest old = rw (line_first s.group (sent_message s n head) rest)

  puts_answer : (r : Answer) (old : List (List ℕ)) → puts (lines_of (answer_text s r)) old ≡ puts (lines_of (verdict_text r.verdict)) (spelled_by s r old)
  unfolding answer_text
  puts_answer r old = puts_sent r.next r.first _ old ∙ puts_sent r.next r.second _ (spelling s r.next r.first old)

  spoken_spelled : (n : Controller) (t : Sent) (old : List (List ℕ)) → ((head : Head) → t ≡ Some head → (read_line s.group (spell_line s.group (sent_message s n head))).verdict ≡ Ok tt)
      → spoken s (spelling s n t old) ≡ spelling s n t (spoken s old)
  unfolding spoken
  spoken_spelled n None old f = refl
  spoken_spelled n (Some head) old f = rw (f head refl)

  -- what a step's lines are on the wire
  pub spoken_step : (c : Controller) (a : Message) (old : List (List ℕ)) → spoken s (puts (lines_of (answer_text s (stepped s c a))) old) ≡ spelled_by s (stepped s c a) (spoken s old)
  spoken_step c a old =
      let r = stepped s c a in
      ap (spoken s) (puts_answer r old)
      ∙ spoken_verdict r.verdict (spelled_by s r old)
      ∙ spoken_spelled r.next r.second (spelling s r.next r.first old) (λ head e. ap (λ (l : Line). l.verdict) (sent_back s c a head (inr e)))
      ∙ ap (spelling s r.next r.second) (spoken_spelled r.next r.first old (λ head e. ap (λ (l : Line). l.verdict) (sent_back s c a head (inl e))))

-- ---- texts of whole lines
abbrev pub Whole : List ℕ → Type 0
Whole t = (rest : List ℕ) → lines_of (t ++ rest) ≡ lines_of t ++ lines_of rest

whole_none : Whole []
whole_none rest = rw lines_none

whole_both : (t u : List ℕ) → Whole t → Whole u → Whole (t ++ u)
whole_both t u f g rest =
    ap lines_of (append_assoc t u rest) ∙ f (u ++ rest) ∙ ap (λ (l : List (List ℕ)). lines_of t ++ l) (g rest) ∙ sym (append_assoc (lines_of t) (lines_of u) (lines_of rest))
    ∙ ap (λ (l : List (List ℕ)). l ++ lines_of rest) (sym (f u))

whole_line : (s : Group) (a : Message) → Whole (spell_line s a)
whole_line s a rest =
    let alone : lines_of (spell_line s a) ≡ spell_line s a ∷ [] =
    ap lines_of (sym (append-nil (spell_line s a))) ∙ line_first s a [] ∙ ap (λ (l : List (List ℕ)). spell_line s a ∷ l) lines_none in
    line_first s a rest ∙ ap (λ (l : List (List ℕ)). l ++ lines_of rest) (sym alone)

whole_refusal : (s : Group) (why : Refusal) → Whole (refusal_line why)
whole_refusal s why = subst Whole (sym (refusal_is s why)) (whole_line s (plain (Refused (number_of why))))

whole_sent : (s : Numbers) (n : Controller) (t : Sent) → Whole (sent_text s n t)
unfolding sent_text
whole_sent s n None = whole_none
whole_sent s n (Some head) = whole_line s.group (sent_message s n head)

whole_verdict : (s : Group) (v : Verdict) → Whole (verdict_text v)
unfolding verdict_text
whole_verdict s (Ok tt) = whole_none
whole_verdict s (Err why) = whole_refusal s why

-- ---- the text of a turn: nothing, an X, or an answer of a running controller
pub data Text (c : Core) : List ℕ → Type 0 where
  silence : Text c []
  denial : (why : Refusal) → Text c (refusal_line why)
  answer : c.stage ≡ Running → (r : Answer) → Text c (answer_text (numbers_in c) r)

module _ (c : Core) where
  settles_text : (next : Settling) (told : Standing) → Text c (settles_to c next told).text
  unfolding settles_to
  settles_text next (Ok More) = silence
  settles_text next (Ok AllSettings) = silence
  settles_text next (Err why) = denial why

  waits_text : (h : Head) → Text c (waits_for c h).text
  unfolding waits_for
  waits_text h = by_kind (λ (k : Head). Text c (waits_for c k).text) (λ v. silence) (λ k q. rw q (denial Closed)) (start_seen h)

  hears_text : (go : Message → Turn) (a : Message) (v : Verdict) → Text c (go a).text → Text c (hears go c a v).text
  unfolding hears
  hears_text go a (Ok tt) t = t
  hears_text go a (Err why) t = denial why

  text_at : (line : List ℕ) (stage : Stage) → c.stage ≡ stage → Text c (turn_by stepping c line stage).text
  unfolding turn_by
  text_at line AtSettings e = settles_text _ _
  text_at line Waiting e = hears_text (λ a. waits_for c a.head) (spoken_in c line) _ (waits_text (spoken_in c line).head)
  text_at line Running e = hears_text (stepping c) (spoken_in c line) _ (answer e _)
  text_at line Ended e = silence

  pub turn_text : (line : List ℕ) → Text c (turn c line).text
  turn_text line = text_at line c.stage refl

  whole_text : {t : List ℕ} → Text c t → Whole t
  unfolding answer_text
  whole_text silence = whole_none
  whole_text (denial why) = whole_refusal (group_in c) why
  whole_text (answer e r) =
      whole_both _ _ (whole_sent (numbers_in c) r.next r.first) (whole_both _ _ (whole_sent (numbers_in c) r.next r.second) (whole_verdict (group_in c) r.verdict))

  pub turn_whole : (line : List ℕ) → Whole (turn c line).text
  turn_whole line = whole_text (turn_text line)

  -- what is written before the first B is read by nobody
  pub spoken_text : (s : Numbers) (t : List ℕ) (old : List (List ℕ)) → (c.stage ≡ Running → ⊥) → Text c t → spoken s (puts (lines_of t) old) ≡ spoken s old
  spoken_text s _ old n silence = quiet_sent s old
  spoken_text s _ old n (denial why) = spoken_x s why old
  spoken_text s _ old n (answer e r) = absurd (n e)

pub told_whole : (c : Core) (ls : List (List ℕ)) → Whole (told c ls)
unfolding told
told_whole c [] = whole_none
told_whole c (l ∷ ls) = whole_both (turn c l).text (told (turn c l).next ls) (turn_whole c l) (told_whole (turn c l).next ls)

pub puts_both : (ls ms old : List (List ℕ)) → puts (ls ++ ms) old ≡ puts ms (puts ls old)
unfolding puts
puts_both [] ms old = refl
puts_both (l ∷ ls) ms old = puts_both ls ms (l ∷ old)
