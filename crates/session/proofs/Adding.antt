-- A LINE IN A RUN: what it leads to, by the way that the code takes. Assumes nothing.
use Rattle.std.specs.Prelude.{Ok}
use Prim.Native.Nat.{ℕ, ◌+◌, ◌-◌, ◌*◌, ◌≤◌, ◌<◌}
use mir.Syntax.{w64}
use mir.Val.{Fits}
use native.Mathlib.Omega.{arith}
use mathlib.Core.Path.{◌≡◌, refl, sym, ap, ◌∙◌}
use mathlib.Core.Bool.{Bool, true, false, ◌&&◌, true≢false}
use mathlib.Core.List.{List, []}
use lib.Dec.{leb}
use lib.ListN.{length, drop, length-drop}
use borrow.Author.Tests.{eq-eqb, ne_eqb, le-leb, leb-true}
use borrow.Rule.Slice.PartMut.{mid_of, put_mid}
use Rattle.units.specs.declared.labels.RoundLabel.{RoundLabel}
use Rattle.units.specs.Refusal.{Verdict}
use Rattle.units.specs.declared.settings.Numbers.{Numbers}
use Rattle.units.specs.Limits.{line_top}
use Rattle.message.specs.declared.head.Head.{Head}
use Rattle.message.specs.declared.head.Head.TheVariants.{Reading}
use Rattle.message.specs.declared.value.Message.{Message}
use Rattle.plan.specs.declared.planned.Change.{Change}
use Rattle.plan.specs.declared.planned.Change.TheVariants.{Nothing as Unchanged, Reading as OneReading, More}
use Rattle.plan.specs.declared.planned.Effect.TheVariants.{Add}
use Rattle.plan.specs.declared.planned.Plan.{Plan}
use Rattle.plan.specs.Plan.{does, change_of}
use Rattle.fields.proofs.Cases.{by_test, by_lt}
use Rattle.fields.proofs.Texts.{until_short}
use Rattle.lines.specs.declared.read.First.{First}
use Rattle.lines.specs.Reading.{first_line}
use Rattle.lines.specs.Writing.{answer_of, buffer_of}
use Rattle.controller.specs.declared.state.Controller.{Controller}
use Rattle.controller.specs.Answers.{Answer}
use Rattle.controller.specs.Effects.{added, applied}
use Rattle.controller.specs.Step.{carried_out, reading_change}
use Rattle.controller_laws.proofs.Adding.{adds_one, changes_none, not_one}
use Rattle.fields.specs.Lines.{feed_at}
use Rattle.fields.proofs.Puts.{mid_rest}
use Rattle.session.specs.Feeding.{answer_put, done_length, put_text}
use Rattle.session.specs.Serving.{AddedBy, goes_on, line_answer, line_run, plan_line, ran, run_of}
use Rattle.session.specs.Turn.{verdict_text}
use Rattle.session.proofs.Both.{length_done}
use Rattle.session.proofs.Repeating.{Going, Moves, kept_length, lent_length, stops, call_within, goes_lent, goes_quiet}
use Rattle.session.proofs.Room.{put_short}

-- WHETHER THE NEXT LINE IS SERVED
module _ (input : List ℕ) (room : ℕ) where
  pub goes_on_lem : 2 * line_top ≤ room → (feed_at input ≡ length input → ⊥) → goes_on input room ≡ true
  unfolding goes_on
  goes_on_lem h n = rw (le-leb (2 * line_top) room h, ne_eqb (feed_at input) (length input) n)

  pub no_room : room < 2 * line_top → goes_on input room ≡ false
  unfolding goes_on
  no_room h = rw (lt_leb h)
    where
      lt_leb : room < 2 * line_top → leb (2 * line_top) room ≡ false
      lt_leb k = by_test (leb (2 * line_top) room) (λ e. absurd (let a = leb-true (2 * line_top) room e in omega arith)) (λ e. e)

  no_line : feed_at input ≡ length input → goes_on input room ≡ false
  unfolding goes_on
  no_line e = rw (eq-eqb (feed_at input) (length input) e) (and_none (leb (2 * line_top) room))
    where
      and_none : (b : Bool) → (b && false) ≡ false
      and_none true = refl
      and_none false = refl

  -- then it is whole, and there is room for two lines
  pub goes_room : goes_on input room ≡ true → 2 * line_top ≤ room
  goes_room e = by_lt room (2 * line_top) (λ h. absurd (true≢false (sym e ∙ no_room h))) (λ h. h)

  pub goes_whole : goes_on input room ≡ true → feed_at input + 1 ≤ length input
  goes_whole e =
      by_lt (feed_at input) (length input) (λ h. omega arith)
      (λ h. absurd (true≢false (sym e ∙ no_line (let a = until_short 10 input in omega arith))))

  pub line_moves : (s : Numbers) (k : Controller) → goes_on input room ≡ true → Moves goes_on (line_run s) k input room
  line_moves s k e =
      let a = line_answer s k (first_line s.group input).line in
      let p = put_short s a.next a.second a.verdict a.first in
      let q = goes_room e in record { some = omega arith; few = goes_whole e; fits = omega arith }

-- THE READING THAT A LINE ADDS
pub no_reading : (k : Controller) (head : Head) (v : Verdict) → AddedBy k head v More
no_reading k head v s a run raw q = not_one q

pub reading_added : (k : Controller) (head : Head) (v : Verdict) (label : RoundLabel) (run raw : ℕ) → v ≡ Ok tt → head ≡ Reading label run raw → {change : Change} → change ≡ reading_change k label run raw
    → AddedBy k head v change
unfolding plan_line
reading_added k head v label run raw t e c s a r w q = rw (t, e) (adds_one r w s k a label run raw (sym c ∙ q))

-- WHAT A PLAN LEADS TO
module _ (s : Numbers) (k : Controller) (a : Message) (p : Plan) where
  -- one reading more, and nothing to say
  module _ (run raw : ℕ) (e : p ≡ does (Add run raw)) where
    added_next : (carried_out s k a p).next ≡ added k run raw
    unfolding applied
    added_next = rw e

    added_quiet : answer_put s (carried_out s k a p) ≡ []
    unfolding put_text verdict_text
    added_quiet = rw e

  -- a plan that changes nothing, and one that may
  pub kept_next : {size : Change} → size ≡ change_of p.effect → size ≡ Unchanged → (carried_out s k a p).next ≡ k
  kept_next c u = changes_none s a k p.effect (sym c ∙ u)

-- a sum that is no more than a length fits
pub sum_fits : (n top : ℕ) → n ≤ top → top < 18446744073709551616 → Fits w64 n
sum_fits n top h t = omega arith

-- THE WAYS OF THE LOOP
abbrev pub Lines : Numbers → Controller → List ℕ → List ℕ → Controller → ℕ → ℕ → List ℕ → Type 0
Lines s = Going goes_on (line_run s)

module _ (s : Numbers) (k₀ : Controller) (input before : List ℕ) {k : Controller} {at filled : ℕ} {now : List ℕ} (h : Lines s k₀ input before k at filled now) where
  abbrev rest : List ℕ
  rest = drop at input

  abbrev left : ℕ
  left = length before - filled

  abbrev Ends : Type 0
  Ends = (record { next = k; took = at; wrote = filled } ≡ ran (run_of s k₀ input (length before))) × (now ≡ buffer_of (run_of s k₀ input (length before)).text before)

  pub same_length : length now ≡ length before
  same_length = kept_length goes_on (line_run s) k₀ input before h

  ends : goes_on rest left ≡ false → Ends
  ends e = let q = stops goes_on (line_run s) k₀ input before h e in (rw q.0 (ap (λ (n : ℕ). record { next = k; took = at; wrote = n }) h.wrote), q.2)

  pub ends_room : length now - filled < 2 * line_top → Ends
  ends_room l = ends (no_room rest left (let m = same_length in omega arith))

  module _ {first : First} (read : first ≡ first_line s.group (mid_of at (length input - at) input)) where
    first_is : first ≡ first_line s.group rest
    first_is = read ∙ ap (first_line s.group) (mid_rest at input)

    feed_is : first.feed ≡ feed_at rest
    unfolding first_line
    feed_is = ap (λ (f : First). f.feed) first_is

    pub ends_line : first.feed ≡ length input - at → Ends
    ends_line e = ends (no_line rest left (sym feed_is ∙ e ∙ sym (length-drop at input)))

    -- a line that is served
    module _ (room : 2 * line_top ≤ length now - filled) (e : first.feed ≡ length input - at → ⊥) where
      go : goes_on rest left ≡ true
      go = let m = same_length in goes_on_lem rest left (omega arith) (λ q. e (feed_is ∙ q ∙ length-drop at input))

      m : Moves goes_on (line_run s) k rest left
      m = line_moves rest left s k go

      end_is : first.feed + 1 ≡ feed_at rest + 1
      end_is = ap (λ (f : ℕ). f + 1) feed_is

      pub end_within : at + (first.feed + 1) ≤ length input
      end_within = rw feed_is (call_within goes_on (line_run s) k₀ input before h m go)

      abbrev a : Message
      a = first.line.message

      answer_is : line_answer s k (first_line s.group rest).line ≡ line_answer s k first.line
      answer_is = ap (λ (f : First). line_answer s k f.line) (sym first_is)

      module _ {p : Plan} {n : Controller} (pe : p ≡ plan_line s k a a.head first.line.verdict) (ne : (carried_out s k a p).next ≡ n) where
        plan_is : line_answer s k (first_line s.group rest).line ≡ carried_out s k a p
        plan_is = answer_is ∙ ap (carried_out s k a) (sym pe)

        next_is : n ≡ (line_answer s k (first_line s.group rest).line).next
        next_is = sym ne ∙ ap (λ (r : Answer). r.next) (sym plan_is)

        text_is : put_text s n p.second p.verdict p.first ≡ answer_put s (line_answer s k (first_line s.group rest).line)
        text_is = ap (λ (c : Controller). put_text s c p.second p.verdict p.first) (sym ne) ∙ ap (answer_put s) (sym plan_is)

        -- whatever a plan leads to
        pub goes_planned : {len : ℕ} {w now' : List ℕ}
            → (len ≡ done_length (answer_of (put_text s n p.second p.verdict p.first) (mid_of filled (length now - filled) now)))
            × (w ≡ buffer_of (put_text s n p.second p.verdict p.first) (mid_of filled (length now - filled) now))
            → now' ≡ put_mid filled (length now - filled) now w → (filled + len ≤ length now) × Lines s k₀ input before n (at + (first.feed + 1)) (filled + len) now'
        goes_planned {len} {w} {now'} put l =
            let t = put_text s n p.second p.verdict p.first in
            let b = mid_of filled (length now - filled) now in
            let f : length t ≤ length b = let c = ap {B = ℕ} (λ (u : List ℕ). length u) text_is in let d = lent_length goes_on (line_run s) k₀ input before h in omega (arith, m.fits) in
            let le : len ≡ length t = length_done t b _ _ (refl, refl) len f put.0 in
            goes_lent goes_on (line_run s) k₀ input before h m go text_is next_is end_is le put.1 l

      -- a reading more
      pub goes_added : {change : Change} {run raw : ℕ} {n : Controller} → AddedBy k a.head first.line.verdict change → change ≡ OneReading run raw → n ≡ added k run raw
          → Lines s k₀ input before n (at + (first.feed + 1)) filled now
      goes_added {change} {run} {raw} {n} by is q =
          let p = plan_line s k a a.head first.line.verdict in
          let pe = by s a run raw is in
          goes_quiet goes_on (line_run s) k₀ input before h m go (ap (answer_put s) answer_is ∙ added_quiet s k a p run raw pe) (q ∙ sym (added_next s k a p run raw pe) ∙ ap (λ (r : Answer). r.next) (sym answer_is)) end_is
