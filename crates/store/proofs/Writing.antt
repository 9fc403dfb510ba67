-- What the functions of src/write.rt need, over plain lists and numbers. Assumes nothing.
use Prim.Native.Nat.{ℕ, ◌+◌, ◌≤◌, ◌<◌}
use mathlib.Core.Path.{◌≡◌, refl, sym, ap, ◌∙◌}
use mathlib.Core.Bool.{Bool, true}
use mathlib.Core.List.{List}
use native.Mathlib.Omega.{arith}
use lib.Dec.{leb, ltb}
use lib.ListN.{length, get_or, take}
use lib.Seq.{length-take-le, get_or-take}
use borrow.Author.Tests.{ltb-true, ltb-false, lt-ltb, le-ltb, lt-leb, le-leb, leb-true, eqb-false}
use Rattle.std.proofs.Common.{Option, Some, None, Result, Ok, Err, IsErrAnd, ◌⊎◌, inl, inr}
use Rattle.units.specs.declared.refusal.Refusal.TheVariants.{Form as NoForm, Range as NoRange, SameDay, NoneInForce, Full}
use Rattle.units.specs.Pick.{pick}
use Rattle.units.specs.Within.{within}
use Rattle.units.proofs.InRange.{within_range, within_made}
use Rattle.message.specs.declared.settings.Settings.{Settings}
use Rattle.message.specs.Settings.{settings_fit}
use Rattle.fields.specs.declared.field.Field.{Field}
use Rattle.fields.specs.declared.field.Fault.{Fault}
use Rattle.fields.specs.declared.field.Fault.TheVariants.{Form, Range}
use Rattle.fields.specs.Field.{value}
use Rattle.fields.specs.Day.{day_in}
use Rattle.fields.specs.Lines.{lines_of}
use Rattle.fields.proofs.Cases.{by_test, absurd_by}
use Rattle.store.specs.declared.count.Count.{Count as Counter}
use Rattle.store.specs.declared.gather.BadLine.{BadLine}
use Rattle.store.specs.declared.row.Row.{Row}
use Rattle.store.specs.declared.stored.Place.TheVariants.{Nowhere, Line, Day, Count, Run}
use Rattle.store.specs.declared.stored.Refused.{Refused}
use Rattle.store.specs.declared.stored.Serials.{Serials}
use Rattle.store.specs.First.{first_of, place_below}
use Rattle.store.specs.Kept.{count_start, counted_on}
use Rattle.store.specs.Repeated.{repeated_at}
use Rattle.store.specs.Row.{no_row}
use Rattle.store.specs.Rows.{AllInRange, gathered_rows, rows, rows_of, rows_top}
use Rattle.store.specs.Runs.{serial_at, found, is_blank, settings_from, runs_text}
use Rattle.store.specs.Stored.{Stored, Judged, Outcome, says, no, refused, in_force, apart, bad_serial, named, on_day, listed, outcome_of, lines_judged, date_judged, serials_judged, days_judged, settings_judged}
use Rattle.store.proofs.Back.{one_fits, settings_same, usable_row}
use Rattle.store.proofs.Counting.{count_many, count_few}
use Rattle.store.proofs.Exact.{found_in_range}
use Rattle.store.proofs.Firsts.{first_never, first_same}
use Rattle.store.proofs.Rows.{rows_in_range}
use Rattle.store.proofs.Stages.{Tells, tells_on, not_within}

-- a place that a search answers is the first, and where it answers none there is none
module _ (i n : ℕ) where
  place_some : (k : ℕ) → Some k ≡ place_below i n → (k ≡ i) × (i < n)
  unfolding pick
  place_some k = by_test (ltb i n) (λ t. rw t (λ e. (cc, ltb-true i n t))) (λ t. rw t (λ e. absurd_by (cc)))

  place_no : None ≡ place_below i n → n ≤ i
  unfolding pick
  place_no = by_test (ltb i n) (λ t. rw t (λ e. absurd_by (cc))) (λ t. rw t (λ e. ltb-false i n t))

-- A CHECK, and what is judged after it
abbrev after : {A : Type 0} → Result A Refused → (A → Outcome) → Outcome
after (Ok x) next = next x
after (Err e) next = no e.why e.place

module _ (export day : List ℕ) (s : Serials) where
  by_lines : outcome_of export day s ≡ after (lines_judged export) (λ _. listed day s (rows_of export))
  unfolding outcome_of lines_judged pick
  by_lines = by_test (leb (length (lines_of export)) rows_top) (λ t. rw t) (λ t. rw t)

module _ (s : Serials) (rs : List Row) where
  by_date : (x : Result Field Fault) → on_day s rs x ≡ after (date_judged x) (λ n. named s n rs)
  by_date (Ok f) = refl
  by_date (Err why) = refl

  module _ (n : ℕ) where
    by_serials : named s n rs ≡ after (serials_judged s) (λ _. apart s n rs)
    unfolding named serials_judged pick
    by_serials = by_test (within 1 16 s.m) (λ t. rw t (by_test (ltb (first_of (bad_serial s) s.m) s.m) (λ u. rw u) (λ u. rw u))) (λ t. rw t)

    by_days : apart s n rs ≡ after (days_judged rs) (λ _. in_force s n rs)
    unfolding apart days_judged pick
    by_days = by_test (ltb (repeated_at rs) (length rs)) (λ t. rw t) (λ t. rw t)

    by_force : in_force s n rs ≡ after (settings_judged s n rs) (λ st. says (runs_text st st.numbers.group.m))
    unfolding in_force settings_judged settings_from pick
    by_force = by_test (ltb (first_of (λ i. is_blank (found s n rs i)) s.m) s.m) (λ t. rw t) (λ t. rw t)

-- `check_lines`
module _ (export : List ℕ) where
  lines_few : (x : Unit {0}) → lines_judged export ≡ Ok x → length (lines_of export) ≤ 512
  unfolding lines_judged pick
  lines_few x = by_test (leb (length (lines_of export)) rows_top) (λ t. rw t (λ e. leb-true (length (lines_of export)) rows_top t)) (λ t. rw t (λ e. absurd_by (cc)))

  module _ (k after-all : Counter) (n : ℕ) (start : k ≡ count_start) (on : after-all ≡ counted_on k export) (e : n ≡ after-all.lines) where
    counted : n ≡ (counted_on count_start export).lines
    counted = e ∙ ap (λ (x : Counter). x.lines) (on ∙ ap (λ (x : Counter). counted_on x export) start)

    pub lines_many : 512 < n → refused Full Nowhere ≡ lines_judged export
    unfolding lines_judged pick
    lines_many h = rw (lt-leb (length (lines_of export)) 512 (count_many export (rw (← counted) h)))

    pub lines_fit : n ≤ 512 → Ok tt ≡ lines_judged export
    unfolding lines_judged pick
    lines_fit h = rw (le-leb (length (lines_of export)) 512 (count_few export (rw (← counted) h)))

-- `check_serials`
module _ (s : Serials) where
  pub count_refused : (s.m < 1) ⊎ ((1 ≤ s.m) × (16 < s.m)) → refused NoRange Count ≡ serials_judged s
  unfolding serials_judged pick
  count_refused (inl h) = rw (not_within s.m (λ w. absurd (omega (arith, w))))
  count_refused (inr h) = rw (not_within s.m (λ w. absurd (omega (arith, w, h))))

  module _ (few : (1 ≤ s.m) × (s.m ≤ 16)) (r : Option ℕ) (e : r ≡ place_below (first_of (bad_serial s) s.m) s.m) where
    pub serial_few : (run : ℕ) → r ≡ Some run → run < 16
    serial_few run q = let p = place_some _ s.m run (sym q ∙ e) in omega (arith, p, few)

    pub serial_refused : (run : ℕ) → r ≡ Some run → refused NoForm (Run run) ≡ serials_judged s
    unfolding serials_judged pick
    serial_refused run q = let p = place_some _ s.m run (sym q ∙ e) in rw (within_made 1 16 s.m few, lt-ltb (first_of (bad_serial s) s.m) s.m p.1) (ap (λ (i : ℕ). refused NoForm (Run i)) p.0)

    pub serials_good : r ≡ None → Ok tt ≡ serials_judged s
    unfolding serials_judged pick
    serials_good q = rw (within_made 1 16 s.m few, le-ltb (first_of (bad_serial s) s.m) s.m (place_no _ s.m (sym q ∙ e)))

  pub serials_in : (x : Unit {0}) → serials_judged s ≡ Ok x → (1 ≤ s.m) × (s.m ≤ 16)
  unfolding serials_judged pick
  serials_in x = by_test (within 1 16 s.m) (λ t. λ e. within_range 1 16 s.m t) (λ t. rw t (λ e. absurd_by (cc)))

-- `check_days`
module _ (rs : List Row) (r : Option ℕ) (e : r ≡ place_below (repeated_at rs) (length rs)) where
  pub row_few : (row : ℕ) → r ≡ Some row → row < length rs
  row_few row q = let p = place_some _ _ row (sym q ∙ e) in omega (arith, p)

  pub day_shared : (row : ℕ) → r ≡ Some row → refused SameDay (Line (row + 1)) ≡ days_judged rs
  unfolding days_judged pick
  day_shared row q = let p = place_some _ _ row (sym q ∙ e) in rw (lt-ltb (repeated_at rs) (length rs) p.1) (ap (λ (i : ℕ). refused SameDay (Line (i + 1))) p.0)

  pub days_good : r ≡ None → Ok tt ≡ days_judged rs
  unfolding days_judged pick
  days_good q = rw (le-ltb (repeated_at rs) (length rs) (place_no _ _ (sym q ∙ e)))

-- `settings_in_force`, from the rows picked of which the first m count
module _ (s : Serials) (day : ℕ) (rs picked : List Row) (few : s.m ≤ 16) (long : length picked ≡ 16) (each : (i : ℕ) → i < s.m → get_or picked i no_row ≡ found s day rs i) where
  abbrev runs : List Row
  runs = take s.m picked

  abbrev row : ℕ → Row
  row i = get_or runs i no_row

  size : length runs ≡ s.m
  size = length-take-le s.m picked (omega arith)

  row_is : (i : ℕ) → i < s.m → row i ≡ found s day rs i
  row_is i h = get_or-take s.m picked i no_row h ∙ each i h

  module _ (r : Option ℕ) (f : r ≡ place_below (first_of (λ i. is_blank (row i)) (length runs)) (length runs)) where
    first_is : r ≡ place_below (first_of (λ i. is_blank (found s day rs i)) s.m) s.m
    first_is = f ∙ rw size (ap (λ (n : ℕ). place_below n s.m) (first_same (λ i. is_blank (row i)) (λ i. is_blank (found s day rs i)) s.m (λ i h. ap is_blank (row_is i h))))

    pub run_few : (run : ℕ) → r ≡ Some run → run < 16
    run_few run q = let p = place_some _ s.m run (sym q ∙ first_is) in omega (arith, p)

    pub force_none : (run : ℕ) → r ≡ Some run → refused NoneInForce (Run run) ≡ settings_judged s day rs
    unfolding settings_judged pick
    force_none run q =
        let p = place_some _ s.m run (sym q ∙ first_is) in
        rw (lt-ltb (first_of (λ i. is_blank (found s day rs i)) s.m) s.m p.1) (ap (λ (i : ℕ). refused NoneInForce (Run i)) p.0)

    pub force_all : r ≡ None → (st : Settings) → st ≡ settings_from 1 (length runs) 1 1 1 row → Ok st ≡ settings_judged s day rs
    unfolding settings_judged pick
    force_all q st made =
        rw (le-ltb (first_of (λ i. is_blank (found s day rs i)) s.m) s.m (place_no _ s.m (sym q ∙ first_is)))
        (ap Ok (made ∙ ap (λ (m : ℕ). settings_from 1 m 1 1 1 row) size ∙ settings_same s.m row (found s day rs) row_is 1 1 1 1))

-- settings of rows in range are fit
module _ (s : Serials) (day : ℕ) (rs : List Row) (few : (1 ≤ s.m) × (s.m ≤ 16)) (st : Settings) where
  abbrev blank : ℕ → Bool
  blank i = is_blank (found s day rs i)

  judged_all : settings_judged s day rs ≡ Ok st → (s.m ≤ first_of blank s.m) × (settings_from 1 s.m 1 1 1 (found s day rs) ≡ st)
  unfolding settings_judged pick
  judged_all = by_test (ltb (first_of blank s.m) s.m) (λ t. rw t (λ e. absurd_by (cc))) (λ t. rw t (λ e. (ltb-false (first_of blank s.m) s.m t, cc)))

  judged_fit : AllInRange rs → settings_judged s day rs ≡ Ok st → settings_fit st ≡ true
  judged_fit r e =
      let j = judged_all e in
      rw (← j.1) (one_fits s.m (found s day rs) few (λ i h. usable_row (found s day rs i) (found_in_range (serial_at s i) day rs r (eqb-false (found s day rs i).day 0 (first_never blank s.m j.0 i h)))))

-- the day judged
module _ (s : Serials) (rs : List Row) (day : List ℕ) (x : Result Field Fault) (e : x ≡ day_in 0 day) (answer : Stored) (buf : List ℕ) where
  pub day_formless : x ≡ Err Form → answer ≡ refused NoForm Day → Tells (on_day s rs (day_in 0 day)) answer buf buf
  day_formless f a = rw (← e, f) (a, refl)

  pub day_outside : x ≡ Err Range → answer ≡ refused NoRange Day → Tells (on_day s rs (day_in 0 day)) answer buf buf
  day_outside f a = rw (← e, f) (a, refl)

  pub day_passed : (end : List ℕ) (n next : ℕ) → x ≡ value n next → Tells (named s n rs) answer buf end → Tells (on_day s rs (day_in 0 day)) answer buf end
  day_passed end n next f t = rw (← e, f) t

-- `write_runs`: a refusal of any check, and what is left where it is passed
stopped : (o : Outcome) (e : Refused) (r : Stored) (buf : List ℕ) → o ≡ no e.why e.place → IsErrAnd r (λ x. x ≡ e) → Tells o r buf buf
stopped o e (Ok len) buf q h = absurd h
stopped o e (Err x) buf q h = rw (q, h) (refl, refl)

module _ (export day : List ℕ) (s : Serials) (buf : List ℕ) (a : Judged) (ae : a ≡ lines_judged export) where
  abbrev whole : Outcome
  whole = outcome_of export day s

  pub few_of : (x : Unit {0}) → a ≡ Ok x → length (lines_of export) ≤ 512
  few_of x q = lines_few export x (sym ae ∙ q)

  at_check : {r : Judged} → a ≡ r → whole ≡ after r (λ _. listed day s (rows_of export))
  at_check {r} q = by_lines export day s ∙ ap (λ (r : Judged). after r (λ _. listed day s (rows_of export))) (sym ae ∙ q)

  pub lines_stop : (e : Refused) → a ≡ Err e → (r : Stored) → IsErrAnd r (λ x. x ≡ e) → Tells whole r buf buf
  lines_stop e q r h = stopped whole e r buf (at_check q) h

  module _ (x : Unit {0}) (aq : a ≡ Ok x) (places : List Row) (g : Result ℕ BadLine) (ge : gathered_rows g places ≡ rows_of export) where
    pub rows_stop : (b : BadLine) → g ≡ Err b → (r : Stored) → IsErrAnd r (λ x. x ≡ record { why = b.why; place = Line b.line }) → Tells whole r buf buf
    rows_stop b q r h = stopped whole _ r buf (at_check aq ∙ ap (listed day s) (sym ge ∙ ap (λ (g : Result ℕ BadLine). gathered_rows g places) q)) h

    module _ (k : ℕ) (gq : g ≡ Ok k) where
      abbrev rs : List Row
      rs = take k places

      rows_are : rows_of export ≡ rows rs
      rows_are = sym ge ∙ ap (λ (g : Result ℕ BadLine). gathered_rows g places) gq

      module _ (d : Result ℕ Refused) (de : d ≡ date_judged (day_in 0 day)) where
        at_day : {r : Result ℕ Refused} → d ≡ r → whole ≡ after r (λ n. named s n rs)
        at_day {r} q = at_check aq ∙ ap (listed day s) rows_are ∙ by_date s rs (day_in 0 day) ∙ ap (λ (r : Result ℕ Refused). after r (λ n. named s n rs)) (sym de ∙ q)

        pub date_stop : (e : Refused) → d ≡ Err e → (r : Stored) → IsErrAnd r (λ x. x ≡ e) → Tells whole r buf buf
        date_stop e q r h = stopped whole e r buf (at_day q) h

        module _ (n : ℕ) (dq : d ≡ Ok n) (b : Judged) (be : b ≡ serials_judged s) where
          at_names : {r : Judged} → b ≡ r → whole ≡ after r (λ _. apart s n rs)
          at_names {r} q = at_day dq ∙ by_serials s rs n ∙ ap (λ (r : Judged). after r (λ _. apart s n rs)) (sym be ∙ q)

          pub serials_stop : (e : Refused) → b ≡ Err e → (r : Stored) → IsErrAnd r (λ x. x ≡ e) → Tells whole r buf buf
          serials_stop e q r h = stopped whole e r buf (at_names q) h

          module _ (y : Unit {0}) (bq : b ≡ Ok y) (c : Judged) (ce : c ≡ days_judged rs) where
            at_apart : {r : Judged} → c ≡ r → whole ≡ after r (λ _. in_force s n rs)
            at_apart {r} q = at_names bq ∙ by_days s rs n ∙ ap (λ (r : Judged). after r (λ _. in_force s n rs)) (sym ce ∙ q)

            pub days_stop : (e : Refused) → c ≡ Err e → (r : Stored) → IsErrAnd r (λ x. x ≡ e) → Tells whole r buf buf
            days_stop e q r h = stopped whole e r buf (at_apart q) h

            module _ (z : Unit {0}) (cq : c ≡ Ok z) (f : Result Settings Refused) (fe : f ≡ settings_judged s n rs) where
              at_force : {r : Result Settings Refused} → f ≡ r → whole ≡ after r (λ st. says (runs_text st st.numbers.group.m))
              at_force {r} q = at_apart cq ∙ by_force s rs n ∙ ap (λ (r : Result Settings Refused). after r (λ st. says (runs_text st st.numbers.group.m))) (sym fe ∙ q)

              pub force_stop : (e : Refused) → f ≡ Err e → (r : Stored) → IsErrAnd r (λ x. x ≡ e) → Tells whole r buf buf
              force_stop e q r h = stopped whole e r buf (at_force q) h

              module _ (st : Settings) (fq : f ≡ Ok st) where
                pub force_fits : settings_fit st ≡ true
                force_fits = judged_fit s n rs (serials_in s y (sym be ∙ bq)) st (rows_in_range export rs rows_are) (sym fe ∙ fq)

                pub force_writes : (answer : Stored) (end : List ℕ) → Tells (says (runs_text st st.numbers.group.m)) answer buf end → Tells whole answer buf end
                force_writes answer end t = tells_on whole _ answer buf end (at_force fq) t
