-- WHAT THE STORE ANSWERS, EXACTLY: each answer under its condition, in the order of the checks. Assumes nothing.
use Prim.Native.Nat.{ℕ, ◌+◌, ◌≤◌}
use Rattle.std.proofs.Common.{Ok}
use mathlib.Core.Path.{◌≡◌, refl, sym, ap, subst, ◌∙◌}
use mathlib.Core.Bool.{Bool, true, false, not}
use mathlib.Core.List.{List, ◌++◌}
use native.Mathlib.Omega.{arith}
use lib.Dec.{ltb}
use lib.ListN.{length, drop}
use borrow.Author.Tests.{lt-ltb, le-ltb, eqb-true, eqb-false, eq-eqb, ne_eqb, not-false}
use Rattle.std.specs.Prelude.{Result, Ok, Err}
use Rattle.units.specs.declared.refusal.Refusal.{Refusal}
use Rattle.units.specs.declared.refusal.Refusal.TheVariants.{Form as NoForm, Range as NoRange, SameDay, NoneInForce, Full}
use Rattle.units.specs.Pick.{pick}
use Rattle.units.specs.Refusal.{number_of}
use Rattle.units.specs.Within.{within}
use Rattle.units.proofs.InRange.{within_range, within_made}
use Rattle.message.specs.InRange.{CertificateInRange}
use Rattle.message.specs.Settings.{certificate_fits}
use Rattle.message.proofs.InRange.{certificate_exact}
use Rattle.fields.specs.declared.field.Fault.{Fault}
use Rattle.fields.specs.declared.field.Field.{Field}
use Rattle.fields.specs.declared.field.Fault.TheVariants.{Form, Range}
use Rattle.fields.specs.Field.{value}
use Rattle.fields.specs.Day.{day_in}
use Rattle.fields.specs.Lines.{lines_of}
use Rattle.fields.proofs.Cases.{by_test, by_lt, absurd_by}
use Rattle.fields.proofs.Dates.{date_within, day_only}
use Rattle.store.specs.declared.row.Row.{Row}
use Rattle.store.specs.declared.stored.Place.{Place}
use Rattle.store.specs.declared.stored.Place.TheVariants.{Nowhere, Line, Day, Count, Run}
use Rattle.store.specs.declared.stored.Serials.{Serials}
use Rattle.store.specs.First.{first_of}
use Rattle.store.specs.Newest.{Newest}
use Rattle.store.specs.Repeated.{stood_at, repeated_at}
use Rattle.store.specs.Rows.{Rows, rows, bad, rows_of}
use Rattle.store.specs.Runs.{serial_at, found, is_blank, text_of}
use Rattle.store.specs.Says.{Listed, Dated, Counted, Asked, Apart, Forceless, AllFound, RowRefused, Says, is_given}
use Rattle.store.specs.Says.RowRefused.{long, unended, fields, serial as row-serial, day_form as row-day-form, day_range as row-day-range, certificate, factor_form, factor_range}
use Rattle.store.specs.Says.Says.{full, line, day_form, day_range, count, serial, shared, none, room, done}
use Rattle.store.specs.Stored.{Stored, refused, Outcome, says, no, in_force, apart, bad_serial, named, on_day, outcome_of, answer_in, buffer_in, stored, stored_number}
use Rattle.store.proofs.Exact.{newest_exact}
use Rattle.store.proofs.Firsts.{first_holds, first_least, first_never, first_only, first_all, never_both}
use Rattle.store.proofs.Repeats.{stood_exact, stood_not, not_stood}
use Rattle.store.proofs.RowRefusals.{line_says, line_bad}
use Rattle.store.proofs.Rows.{rows_exact, listed_in_range}
use Rattle.store.proofs.Stages.{force_no, force_yes, apart_no, apart_yes, named_no, named_yes, named_many, not_within, full_no, lines_bad, lines_good}

-- a serial that is fit, and one that is not
fit_not_bad : (s : Serials) (i : ℕ) → CertificateInRange (serial_at s i) → bad_serial s i ≡ false
fit_not_bad s i c = ap not ((certificate_exact (serial_at s i)).1 c)

bad_not_fit : (s : Serials) (i : ℕ) → (CertificateInRange (serial_at s i) → ⊥) → bad_serial s i ≡ true
bad_not_fit s i n = by_test (certificate_fits true (serial_at s i)) (λ t. absurd (n ((certificate_exact (serial_at s i)).0 t))) (λ t. ap not t)

fit_of : (s : Serials) (i : ℕ) → bad_serial s i ≡ false → CertificateInRange (serial_at s i)
fit_of s i e = (certificate_exact (serial_at s i)).0 (not-false _ e)

-- WHERE EACH CHECK IS PASSED, what is left to be judged
module _ (export day : List ℕ) (s : Serials) (rs : List Row) where
  at_listed : Listed export rs → outcome_of export day s ≡ on_day s rs (day_in 0 day)
  at_listed l = lines_good export day s l.few rs ((rows_exact 1 (lines_of export) rs).1 l.rows)

  module _ (n : ℕ) where
    at_dated : Dated export day rs n → outcome_of export day s ≡ named s n rs
    at_dated d = at_listed d.listed ∙ ap (on_day s rs) d.date

    count_in : Counted export day s rs n → within 1 16 s.m ≡ true
    count_in c = within_made 1 16 s.m c.runs

    at_asked : Asked export day s rs n → outcome_of export day s ≡ apart s n rs
    at_asked a =
        let all = first_all (bad_serial s) s.m (λ j h. fit_not_bad s j (a.serials j h)) in
        at_dated a.counted.dated ∙ named_yes s n rs s.m (sym all) (count_in a.counted) (omega arith)

    at_apart : Apart export day s rs n → outcome_of export day s ≡ in_force s n rs
    unfolding repeated_at
    at_apart a =
        let all = first_all (stood_at rs) (length rs) (λ j h. not_stood rs j (a.apart j h)) in
        at_asked a.asked ∙ apart_yes s n rs (length rs) (sym all) (omega arith)

    -- the certificate found for a run: blank exactly where none is in force
    module _ (l : Listed export rs) (i : ℕ) where
      found_not : Newest (serial_at s i) n rs (found s n rs i) → is_blank (found s n rs i) ≡ false
      found_not w = let r = listed_in_range export rs l (found s n rs i) w.inforce.listed in ne_eqb (found s n rs i).day 0 (λ e. absurd (omega (arith, (date_within (found s n rs i).day r.day).0)))

      found_newest : is_blank (found s n rs i) ≡ false → Newest (serial_at s i) n rs (found s n rs i)
      found_newest e = (newest_exact (serial_at s i) n rs (listed_in_range export rs l)).2 (eqb-false (found s n rs i).day 0 e)

      found_none : is_blank (found s n rs i) ≡ true → Forceless s n rs i
      found_none e = (newest_exact (serial_at s i) n rs (listed_in_range export rs l)).0 (eqb-true (found s n rs i).day 0 e)

      none_blank : Forceless s n rs i → is_blank (found s n rs i) ≡ true
      none_blank f = eq-eqb (found s n rs i).day 0 ((newest_exact (serial_at s i) n rs (listed_in_range export rs l)).1 f)

    at_found : AllFound export day s rs n → outcome_of export day s ≡ says (text_of s.m (found s n rs))
    at_found a =
        let l = a.apart.asked.counted.dated.listed in
        let all = first_all (λ i. is_blank (found s n rs i)) s.m (λ j h. found_not l j (a.newest j h)) in
        at_apart a.apart ∙ force_yes s n rs (found s n rs) (λ i h. refl) s.m (sym all) (omega arith)

-- EACH CONDITION LEADS TO ITS ANSWER
module _ (export day : List ℕ) (s : Serials) (buf : List ℕ) where
  abbrev answer : Stored
  answer = answer_in (outcome_of export day s) buf

  refuses : (why : Refusal) (place : Place) → outcome_of export day s ≡ no why place → refused why place ≡ answer
  refuses why place e = rw e

  given : {a : Stored} → Says export day s buf a → a ≡ answer
  unfolding repeated_at pick
  given (full h) = refuses Full Nowhere (full_no export day s h)
  given (line why i few h before r) = refuses why (Line (i + 1)) (lines_bad export day s few why (i + 1) (line_bad export i h before r))
  given (day_form rs l e) = refuses NoForm Day (at_listed export day s rs l ∙ ap (on_day s rs) e)
  given (day_range rs l e) = refuses NoRange Day (at_listed export day s rs l ∙ ap (on_day s rs) e)
  given (count rs n d o) = refuses NoRange Count (at_dated export day s rs n d ∙ named_many s n rs (not_within s.m o))
  given (serial rs n i c h before o) =
      let e = first_only (bad_serial s) s.m i h (bad_not_fit s i o) (λ j k. fit_not_bad s j (before j k)) in
      refuses NoForm (Run i) (at_dated export day s rs n c.dated ∙ named_no s n rs i (sym e) (count_in export day s rs n c) h)
  given (shared rs n i a h before o) =
      let e = first_only (stood_at rs) (length rs) i h ((stood_exact rs i).1 o) (λ j k. not_stood rs j (before j k)) in
      refuses SameDay (Line (i + 1)) (at_asked export day s rs n a ∙ apart_no s n rs i (sym e) h)
  given (none rs n i a h before o) =
      let l = a.asked.counted.dated.listed in
      let e = first_only (λ i. is_blank (found s n rs i)) s.m i h (none_blank export day s rs n l i o) (λ j k. found_not export day s rs n l j (before j k)) in
      refuses NoneInForce (Run i) (at_apart export day s rs n a ∙ force_no s n rs (found s n rs) (λ i h. refl) i (sym e) h)
  given (room rs n a h) = let t = text_of s.m (found s n rs) in rw (at_found export day s rs n a, lt-ltb (length buf) (length t) h)
  given (done rs n a h) = let t = text_of s.m (found s n rs) in rw (at_found export day s rs n a, le-ltb (length buf) (length t) h)

  -- AND THERE IS ALWAYS ONE, check by check
  abbrev Answered : Type 0
  Answered = Says export day s buf answer

  said : {a : Stored} → Says export day s buf a → Answered
  said x = subst (Says export day s buf) (given x) x

  text_left : (rs : List Row) (n : ℕ) → AllFound export day s rs n → Answered
  text_left rs n a = by_lt (length buf) (length (text_of s.m (found s n rs))) (λ h. said (room rs n a h)) (λ h. said (done rs n a h))

  force_left : (rs : List Row) (n : ℕ) → Apart export day s rs n → Answered
  force_left rs n a =
      let l = a.asked.counted.dated.listed in
      let f : ℕ → Bool = λ i. is_blank (found s n rs i) in
      by_lt (first_of f s.m) s.m
      (λ h. said (none rs n (first_of f s.m) a h (λ j k. found_newest export day s rs n l j (first_least f s.m j k)) (found_none export day s rs n l (first_of f s.m) (first_holds f s.m h))))
      (λ h. text_left rs n (record { apart = a; newest = λ i k. found_newest export day s rs n l i (first_never f s.m h i k) }))

  apart_left : (rs : List Row) (n : ℕ) → Asked export day s rs n → Answered
  apart_left rs n a =
      let k = first_of (stood_at rs) (length rs) in
      by_lt k (length rs)
      (λ h. said (shared rs n k a h (λ j l. stood_not rs j (first_least (stood_at rs) (length rs) j l)) ((stood_exact rs k).0 (first_holds (stood_at rs) (length rs) h))))
      (λ h. force_left rs n (record { asked = a; apart = λ i l. stood_not rs i (first_never (stood_at rs) (length rs) h i l) }))

  serials_left : (rs : List Row) (n : ℕ) → Counted export day s rs n → Answered
  serials_left rs n c =
      let k = first_of (bad_serial s) s.m in
      by_lt k s.m
      (λ h. said (serial rs n k c h (λ j l. fit_of s j (first_least (bad_serial s) s.m j l)) (λ r. never_both (bad_serial s k) (first_holds (bad_serial s) s.m h) (fit_not_bad s k r))))
      (λ h. apart_left rs n (record { counted = c; serials = λ i l. fit_of s i (first_never (bad_serial s) s.m h i l) }))

  count_left : (rs : List Row) (n : ℕ) → Dated export day rs n → Answered
  count_left rs n d =
      by_test (within 1 16 s.m) (λ t. serials_left rs n (record { dated = d; runs = within_range 1 16 s.m t }))
      (λ t. said (count rs n d (λ r. never_both (within 1 16 s.m) (within_made 1 16 s.m r) t)))

  day_left : (rs : List Row) → Listed export rs → (x : Result Field Fault) → day_in 0 day ≡ x → Answered
  day_left rs l (Err Form) e = said (day_form rs l e)
  day_left rs l (Err Range) e = said (day_range rs l e)
  day_left rs l (Ok f) e = count_left rs f.n (record { listed = l; date = e ∙ ap (value f.n) (day_only 0 day f.n f.next e).2 })

  lines_left : length (lines_of export) ≤ 512 → (x : Rows) → rows_of export ≡ x → Answered
  lines_left few (rows rs) e = day_left rs (record { few = few; rows = (rows_exact 1 (lines_of export) rs).0 e }) (day_in 0 day) refl
  lines_left few (bad why n) e = said (line_says export day s buf few e)

  answered : Answered
  answered = by_lt 512 (length (lines_of export)) (λ h. said (full h)) (λ h. lines_left h (rows_of export) refl)

  -- EXACTLY
  pub store_refusals : (a : Stored) → (a ≡ answer → Says export day s buf a) × (Says export day s buf a → a ≡ answer)
  store_refusals a = (λ e. subst (Says export day s buf) (sym e) answered, given)

-- and so its number is one of these
row_given : {l : List ℕ} {why : Refusal} → RowRefused l why → is_given (number_of why) ≡ true
row_given (long h) = refl
row_given (unended h e) = refl
row_given (fields h e n) = refl
row_given (row-serial f n) = refl
row_given (row-day-form f c e) = refl
row_given (row-day-range f c e) = refl
row_given (certificate n f c e o) = refl
row_given (factor_form n f c e o z) = refl
row_given (factor_range n f c e o z) = refl

pub store_numbers : (export day : List ℕ) (s : Serials) (buf : List ℕ) → is_given (stored_number (answer_in (outcome_of export day s) buf)) ≡ true
store_numbers export day s buf = of (answered export day s buf)
  where
    of : {a : Stored} → Says export day s buf a → is_given (stored_number a) ≡ true
    of (full h) = refl
    of (line why i few h before r) = row_given r
    of (day_form rs l e) = refl
    of (day_range rs l e) = refl
    of (count rs n d o) = refl
    of (serial rs n i c h before o) = refl
    of (shared rs n i a h before o) = refl
    of (none rs n i a h before o) = refl
    of (room rs n a h) = refl
    of (done rs n a h) = refl

-- THE BUFFER: on any refusal what it held; where it is done the K lines, and past them what it held
buffer_kept : (o : Outcome) (buf : List ℕ) (why : Refusal) (place : Place) → answer_in o buf ≡ refused why place → buffer_in o buf ≡ buf
unfolding pick
buffer_kept (says text) buf why place = by_test (ltb (length buf) (length text)) (λ t. rw t (λ e. refl)) (λ t. rw t (λ e. absurd_by (cc)))
buffer_kept (no w p) buf why place = λ e. refl

buffer_put : (o : Outcome) (buf : List ℕ) (len : ℕ) → answer_in o buf ≡ Ok len → (text : List ℕ) × (o ≡ says text) × (len ≡ length text) × (buffer_in o buf ≡ text ++ drop len buf)
unfolding pick
buffer_put (says text) buf len =
    by_test (ltb (length buf) (length text)) (λ t. rw t (λ e. absurd_by (cc))) (λ t. rw t (λ e. let z : len ≡ length text = cc in (text, refl, z, rw z)))
buffer_put (no w p) buf len = λ e. absurd_by (cc)

module _ (export day : List ℕ) (s : Serials) (buf : List ℕ) where
  pub store_keeps : (why : Refusal) (place : Place) → (stored export day s buf).0 ≡ refused why place → (stored export day s buf).1 ≡ buf
  store_keeps why place = buffer_kept (outcome_of export day s) buf why place

  pub store_puts : (len : ℕ) → (stored export day s buf).0 ≡ Ok len → (text : List ℕ) × (outcome_of export day s ≡ says text) × (len ≡ length text) × ((stored export day s buf).1 ≡ text ++ drop len buf)
  store_puts len = buffer_put (outcome_of export day s) buf len

-- K LINES are said where every check is passed, and they are those of the newest certificates
pub record Found (export day : List ℕ) (s : Serials) (text : List ℕ) : Type 0 where
  pub rs : List Row
  pub n : ℕ
  pub from : AllFound export day s rs n
  pub text_is : text ≡ text_of s.m (found s n rs)

module _ (export day : List ℕ) (s : Serials) (text : List ℕ) (e : outcome_of export day s ≡ says text) where
  by_done : {a : Stored} → Says export day s text a → a ≡ Ok (length text) → Found export day s text
  by_done (full h) q = absurd_by (cc)
  by_done (line why i few h before r) q = absurd_by (cc)
  by_done (day_form rs l d) q = absurd_by (cc)
  by_done (day_range rs l d) q = absurd_by (cc)
  by_done (count rs n d o) q = absurd_by (cc)
  by_done (serial rs n i c h before o) q = absurd_by (cc)
  by_done (shared rs n i a h before o) q = absurd_by (cc)
  by_done (none rs n i a h before o) q = absurd_by (cc)
  by_done (room rs n a h) q = absurd_by (cc)
  by_done (done rs n a h) q = record { rs = rs; n = n; from = a; text_is = let z = sym e ∙ at_found export day s rs n a in cc }

  pub says_found : Found export day s text
  unfolding pick
  says_found =
      let a : Ok (length text) ≡ answer_in (outcome_of export day s) text = rw (e, le-ltb (length text) (length text) (omega arith)) in
      by_done ((store_refusals export day s text (Ok (length text))).0 a) refl
