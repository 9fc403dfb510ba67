-- WHAT THE ANSWERS ARE, by number and values: the writer's, X's numbers both ways, and the settings' 15. Assumes nothing.
use Rattle.std.specs.Prelude.{Some, None, Err, Ok, Result}
use Prim.Native.Nat.{ℕ, ◌+◌, ◌≤◌}
use native.Mathlib.Omega.{arith}
use mathlib.Core.Path.{◌≡◌, refl, sym, ap, subst, ◌∙◌}
use mathlib.Core.Bool.{Bool, true}
use mathlib.Core.List.{List, [], ◌∷◌, append-nil}
use lib.Dec.{eqb, leb}
use lib.ListN.{length, get_or}
use borrow.Author.Tests.{eq-eqb, eqb-true, eqb-false, le-leb, lt-ltb, le-ltb, leb-true}
use Rattle.units.specs.declared.refusal.Refusal.{Refusal}
use Rattle.units.specs.declared.refusal.Refusal.TheVariants.{Long, Unended, Kind as NoKind, Fields, Form as NoForm, Range as NoRange}
use Rattle.units.specs.declared.settings.Group.{Group}
use Rattle.units.specs.Limits.{line_top}
use Rattle.units.specs.Pick.{pick}
use Rattle.units.specs.Refusal.{number_of}
use Rattle.units.specs.Settings.{group_fits}
use Rattle.units.specs.Within.{within}
use Rattle.units.proofs.Every.{and_left, and_right}
use Rattle.units.proofs.InRange.{within_range}
use Rattle.message.specs.declared.head.Head.TheVariants.{Refused as X}
use Rattle.message.specs.declared.settings.Settings.{Settings}
use Rattle.message.specs.declared.value.Message.{Message}
use Rattle.message.specs.Head.{head_fits, is_plain}
use Rattle.message.specs.Message.{plain, message_fits}
use Rattle.message.proofs.Plain.{carries_none, plain_fit}
use Rattle.fields.specs.declared.field.Fault.{Fault}
use Rattle.fields.specs.declared.field.Field.{Field}
use Rattle.fields.specs.declared.field.Fault.TheVariants.{Form, Range}
use Rattle.fields.specs.declared.spelling.Spelling.TheVariants.{Decimal}
use Rattle.fields.specs.Certificate.{is_certificate}
use Rattle.fields.specs.Put.{written}
use Rattle.fields.specs.Text.{line_feed, until, first_field, later_fields, tabbed}
use Rattle.fields.proofs.Cases.{by_test, by_lt, absurd_by}
use Rattle.lines.specs.declared.kind.Kind.{Kind}
use Rattle.lines.specs.declared.kind.Kind.TheVariants.{Refused as OfX, Sizes, Filter, Run}
use Rattle.lines.specs.Settling.{Standing, settling_start, stopped, kept, standing_at, kept_values, after_field, turn_of, any_group, settle_plain, settle_weight, settle_factor, settle_certificate, settle_run, expecting, settle_text, settle_line, settle_on, settle_all, missing, run_with, certificate_of}
use Rattle.lines.specs.declared.settle.Wanted.TheVariants.{More, Whole}
use Rattle.lines.specs.declared.settle.Settled.{Settled}
use Rattle.lines.specs.declared.settle.Settling.{Settling}
use Rattle.lines.specs.Answers.{WriterSays, x_line, Taking, begun, more, runs_read, Waiting, Fifteen, SettlingSays, goes_on, is_whole, refuses, SettingsRefused}
use Rattle.lines.specs.Lists.{column}
use Rattle.lines.specs.Reading.{Got, values, stop, refused_line, read_text, read_line, read_values, read_by, ended_once}
use Rattle.lines.specs.Table.{kind_of, letter_of, quantity_at, limit_of}
use Rattle.lines.specs.Values.{kind_is, head_values}
use Rattle.lines.specs.Writing.{line_of, spell_line, refusal_line, answer_of, buffer_of, write_answer, write_buffer, plain_fits}
use Rattle.lines.proofs.Plain.{plain_values}
use Rattle.lines.proofs.Meaning.{meaning}
use Rattle.lines.proofs.Refusing.{GotEarly, Early, values_early, either}
use Rattle.lines.proofs.Sending.{message_fits_lem}
use Rattle.lines.proofs.SettingTrip.{takes, sizes_only, filter_only, run_only}
use Rattle.lines.proofs.WholeSettings.{sizes_fit}
use Rattle.lines.proofs.Wire.{taken, line_accepted}

-- THE WRITER
pub writer_says : (fit : Bool) (line buf : List ℕ) → WriterSays fit line buf (write_answer fit line buf)
unfolding write_answer pick
writer_says fit line buf = record {
  six = λ f. rw f (refl, refl);
  sixteen = λ f h. rw (f, lt-ltb (length buf) (length line) h) (refl, refl);
  done = λ f h. rw (f, le-ltb (length buf) (length line) h) (refl, refl);
}

-- X: "number (1..16): a refusal, only written"
x_fits : (s : Group) (n : ℕ) → group_fits s ≡ true → 1 ≤ n → n ≤ 16 → message_fits s (plain (X n)) ≡ true
unfolding head_fits is_plain
x_fits s n g l h = plain_fit s (X n) (carries_none s (X n) refl) ∙ rw (g, le-leb 1 n l, le-leb n 16 h)

x_line_lem : (n : ℕ) → line_of OfX (n ∷ []) ≡ x_line n
unfolding line_of column tabbed quantity_at
x_line_lem n = rw (append-nil (written Decimal n))

x_spelled : (s : Group) (n : ℕ) → spell_line s (plain (X n)) ≡ x_line n
unfolding spell_line plain kind_is head_values is_plain
x_spelled s n = ap (line_of OfX) (sym (plain_values s (X n) refl)) ∙ x_line_lem n

-- written exactly as this where its number is 1 to 16, 16 where there is no room
pub x_written : (s : Group) (n : ℕ) (buf : List ℕ) → group_fits s ≡ true → 1 ≤ n → n ≤ 16
    → (write_answer (message_fits s (plain (X n))) (spell_line s (plain (X n))) buf ≡ answer_of (x_line n) buf) × (write_buffer (message_fits s (plain (X n))) (spell_line s (plain (X n))) buf ≡ buffer_of (x_line n) buf)
unfolding write_answer write_buffer pick
x_written s n buf g l h = rw (x_fits s n g l h, x_spelled s n) (refl, refl)

-- and 6 for every other number, with nothing touched, whatever stands beside it
pub x_unwritten : (s : Group) (a : Message) (n : ℕ) (buf : List ℕ) → a.head ≡ X n → (1 ≤ n → n ≤ 16 → ⊥)
    → (write_answer (message_fits s a) (spell_line s a) buf ≡ Err NoRange) × (write_buffer (message_fits s a) (spell_line s a) buf ≡ buf)
unfolding write_answer write_buffer pick head_fits
x_unwritten s a n buf e h = rw (by_test (message_fits s a) (λ f. absurd (out f)) (λ f. f)) (refl, refl)
  where
    out : message_fits s a ≡ true → ⊥
    out f =
        let k : within 1 16 n ≡ true = rw e at (message_fits_lem s a f).head in
        h (leb-true 1 n (and_left (leb 1 n) (leb n 16) k)) (leb-true n 16 (and_right (leb 1 n) (leb n 16) k))

-- the same from the head alone
pub x_plain : (s : Group) (n : ℕ) → plain_fits s (X n) ≡ message_fits s (plain (X n))
unfolding plain_fits is_plain
x_plain s n = refl

-- the line of a refusal is X's, with its number
pub refusal_x : (why : Refusal) → refusal_line why ≡ x_line (number_of why)
unfolding refusal_line
refusal_x why = x_line_lem (number_of why)

-- NO LINE IS READ AS X
pub x_unread : (s : Group) (line : List ℕ) (a : Message) (n : ℕ) → read_line s line ≡ taken a → a.head ≡ X n → ⊥
unfolding kind_is kind_of pick
x_unread s line a n e h =
    let c = line_accepted s line a e in
    let m = meaning c.kind s c.numbers c.group c.readable c.fit in
    let k : kind_is a.head ≡ c.kind = ap (λ (x : Message). kind_is x.head) c.message ∙ m.kind in
    let x : OfX ≡ c.kind = ap kind_is (sym h) ∙ k in
    let r : kind_of (letter_of OfX) ≡ Some OfX = rw (← x) at c.readable in absurd_by (cc)

-- "After the settings a line X, G, N or K is 3", and so is a line of any other letter that is no message's
pub read_kind : (s : Group) (line : List ℕ) (c : ℕ) → group_fits s ≡ true → length line ≤ line_top → ended_once line ≡ true → first_field (until line_feed line) ≡ c ∷ [] → kind_of c ≡ None → read_line s line ≡ refused_line NoKind
unfolding read_line read_text pick
read_kind s line c g l e f k = rw (g, le-leb (length line) line_top l, e, f, k)

pub only_settings : (kind_of 88 ≡ None) × (kind_of 71 ≡ None) × (kind_of 78 ≡ None) × (kind_of 75 ≡ None)
unfolding kind_of pick
only_settings = (refl, refl, refl, refl)

-- THE SETTINGS' 15. What a line leads to: it is taken in, or nothing is, for a reason of 1 to 6
data Led (st : Settling) : Settled → Type 0 where
  took : (s : Settings) → Led st (kept st s)
  left : (why : Refusal) → Early why → Led st (stopped st why)

same_fifteen : (line : ℕ) (a b : Refusal) → ◌≡◌ {A = Standing} (Err a) (Err b) → Fifteen line a → Fifteen line b
same_fifteen line a b e f = let z : a ≡ b = cc in subst (Fifteen line) z f

module _ (st : Settling) where
  by_values : (go : List ℕ → Settings) (g : Got) → GotEarly g → Led st (kept_values st go g)
  by_values go (values vs) h = took (go vs)
  by_values go (stop why) h = left why h

  by_field : (f : Result Field Fault) (go : ℕ → Settled) → ((n : ℕ) → Led st (go n)) → Led st (after_field st f go)
  by_field (Ok f) go h = h f.n
  by_field (Err Form) go h = left NoForm refl
  by_field (Err Range) go h = left NoRange refl

  by_plain : (kind : Kind) (go : List ℕ → Settings) (text : List ℕ) → Led st (expecting st kind text (settle_plain st kind go (later_fields text)))
  by_plain kind go text = either (Led st) _ (by_values go (read_values kind any_group (later_fields text)) (values_early kind any_group (later_fields text))) (left NoKind refl)

  abbrev run_field : List (List ℕ) → ℕ → ℕ → Result Field Fault
  run_field fs i place = read_by (limit_of Run i any_group (turn_of st)) (get_or fs place [])

  by_run : (fs : List (List ℕ)) → Led st (settle_run st fs)
  unfolding settle_run settle_certificate settle_factor settle_weight
  by_run fs =
      either (Led st) _ (by_field (run_field fs 0 0) _ (λ run. either (Led st) (is_certificate (get_or fs 1 []))
      (by_field (run_field fs 1 2) _ (λ factor. by_field (run_field fs 2 3) _ (λ weight. took (run_with st.settings (turn_of st) (certificate_of (get_or fs 1 [])) factor weight))))
      (left NoForm refl))) (left Fields refl)

  by_line : (line : List ℕ) → Led st (settle_line st line)
  unfolding settle_line settle_text
  by_line line =
      either (Led st) _ (either (Led st) _
      (either (Led st) _ (by_plain Sizes _ _) (either (Led st) _ (by_plain Filter _ _) (either (Led st) _ (either (Led st) _ (by_run _) (left NoKind refl)) (left NoKind refl))))
      (left Unended refl)) (left Long refl)

  -- where it is refused, by 15
  refused_by : {r : Settled} → Led st r → (why : Refusal) → r.answer ≡ Err why → Fifteen st.line why × (r.next ≡ st)
  unfolding pick
  refused_by (took s) why e = by_test (eqb st.line (2 + s.numbers.group.m)) (λ t. absurd_by (let z = rw t at e in cc)) (λ t. absurd_by (let z = rw t at e in cc))
  refused_by (left w h) why e = let n = within_range 1 6 (number_of w) h in (same_fifteen st.line _ why e (record { reason = number_of w; number = refl; values = refl; low = n.0; high = n.1 }), refl)

-- what a taken line leads to, in its turn
record Next (st next : Settling) (a : Standing) : Type 0 where
  pub line : next.line ≡ st.line + 1
  pub turn : st.line ≤ 2 + runs_read next
  pub answer : a ≡ standing_at st.line (runs_read next)
  pub runs : runs_read next ≤ 16
  pub some : 1 ≤ runs_read next

next_by : (st : Settling) (s : Settings) (x : Settled) → x ≡ kept st s → st.line ≤ 2 + s.numbers.group.m → s.numbers.group.m ≤ 16 → 1 ≤ s.numbers.group.m → Next st x.next x.answer
next_by st s x e t h l = rw e (record { line = refl; turn = t; answer = refl; runs = h; some = l })

module _ (st : Settling) (w : Waiting st) (line : List ℕ) (t : takes (settle_line st line).answer ≡ true) where
  next_is : Next st (settle_line st line).next (settle_line st line).answer
  next_is =
      by_lt st.line 2
      (λ a.
      let k = sizes_only st line (omega (arith, w.first)) t in
      let b = (sizes_fit k.numbers k.fit).1.runs in
      next_by st _ _ k.taken (omega arith) b.1 b.0)
      (λ a. by_lt st.line 3
      (λ b. next_by st _ _ (filter_only st line (omega arith) t).taken w.last w.runs (w.sized a))
      (λ b. next_by st _ _ (run_only st (λ z. absurd (omega arith)) (λ z. absurd (omega arith)) (omega (arith, w.last, w.runs)) line t).taken w.last w.runs (w.sized a)))

-- settings that want more wait for a line of 1 to 2 + m
pub waiting : {st : Settling} → Taking st → Waiting st
unfolding settling_start pick
waiting begun = record { first = omega arith; last = omega arith; runs = omega arith; sized = λ h. absurd (omega arith) }
waiting (more {st} line k e) =
    let w = waiting k in
    let n = next_is st w line (ap takes e) in
    let d = not_whole_at st.line (runs_read (settle_line st line).next) (sym n.answer ∙ e) in
    record {
      first = let l = n.line in omega arith;
      last = omega (arith, n.line, n.turn, d);
      runs = n.runs;
      sized = λ h. n.some;
    }
  where
    not_whole_at : (line m : ℕ) → standing_at line m ≡ Ok More → line ≡ 2 + m → ⊥
    not_whole_at line m e h = let z : (Ok Whole) ≡ (Ok More) = rw (eq-eqb line (2 + m) h) at e in absurd_by (cc)

-- EVERY ANSWER of a line that is handed to settings that want more, by number and values
says_taken : (st : Settling) (r : Settled) → Next st r.next r.answer → SettlingSays st r
unfolding pick
says_taken st r n =
    by_test (eqb st.line (2 + runs_read r.next))
    (λ e. let a : r.answer ≡ (Ok Whole) = n.answer ∙ rw e in is_whole (rw a) (rw a) n.line (eqb-true st.line (2 + runs_read r.next) e))
    (λ e.
    let a : r.answer ≡ (Ok More) = n.answer ∙ rw e in
    goes_on (rw a) (rw a) n.line (omega (arith, n.turn, eqb-false st.line (2 + runs_read r.next) e)))

says_refused : (st : Settling) (r : Settled) (why : Refusal) → r.answer ≡ Err why → Fifteen st.line why × (r.next ≡ st) → SettlingSays st r
says_refused st r why e f = let x = f.0 in refuses x.reason (rw e x.number) (rw e x.values) x.low x.high f.1

pub settling_says : {st : Settling} → Taking st → (line : List ℕ) → SettlingSays st (settle_line st line)
settling_says {st} k line = by_answer (settle_line st line).answer refl
  where
    by_answer : (a : Standing) → (settle_line st line).answer ≡ a → SettlingSays st (settle_line st line)
    by_answer (Ok More) e = says_taken st _ (next_is st (waiting k) line (ap takes e))
    by_answer (Ok Whole) e = says_taken st _ (next_is st (waiting k) line (ap takes e))
    by_answer (Err why) e = says_refused st _ why e (refused_by st (by_line st line) why e)

-- the end of an input within them: its line is missing, 2
pub missing_says : (st : Settling) → Fifteen st.line (missing st)
missing_says st = record { reason = 2; number = refl; values = refl; low = omega arith; high = omega arith }

-- SETTINGS REFUSED, whatever the lines: 15, the number of the line refused or missing, 1 to 2 + m, and 1 to 6
settle_next : (go : Settling → Settled) (st : Settling) (l : List ℕ) → Taking st → ((next : Settling) → Taking next → (why : Refusal) → (go next).answer ≡ Err why → SettingsRefused (go next).next why)
    → (a : Standing) → (settle_line st l).answer ≡ a → (why : Refusal) → (settle_on go (settle_line st l).next a).answer ≡ Err why → SettingsRefused (settle_on go (settle_line st l).next a).next why
settle_next go st l k rec (Ok More) e why z = rec (settle_line st l).next (more l k e) why z
settle_next go st l k rec (Ok Whole) e why z = absurd_by (cc)
settle_next go st l k rec (Err w) e why z =
    let x = refused_by st (by_line st l) w e in
    rw x.1 (record { said = same_fifteen st.line w why z x.0; at = waiting k })

settle_from : (lines : List (List ℕ)) (st : Settling) → Taking st → (why : Refusal) → (settle_all lines st).answer ≡ Err why → SettingsRefused (settle_all lines st).next why
unfolding settle_all
settle_from [] st k why e = record { said = same_fifteen st.line (missing st) why e (missing_says st); at = waiting k }
settle_from (l ∷ ls) st k why e = settle_next (settle_all ls) st l k (settle_from ls) (settle_line st l).answer refl why e

pub settle_reasons : (lines : List (List ℕ)) (why : Refusal) → (settle_all lines settling_start).answer ≡ Err why → SettingsRefused (settle_all lines settling_start).next why
settle_reasons lines why e = settle_from lines settling_start begun why e
