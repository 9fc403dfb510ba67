-- A PIECE SERVED: what it takes and writes, and that it is a run of calls of `feed`, each lent the rest of the buffer. Assumes nothing.
use Rattle.std.specs.Prelude.{Err, Ok}
use Prim.Native.Nat.{ℕ, ◌+◌, ◌-◌, ◌*◌, ◌≤◌}
use native.Mathlib.Omega.{arith}
use mathlib.Core.Path.{◌≡◌, refl, sym, ap, ap₂, subst, ◌∙◌}
use mathlib.Core.List.{List, ◌++◌, append_assoc}
use mathlib.Core.Bool.{true, false, true≢false}
use lib.Dec.{eqb}
use lib.ListN.{length, take, drop, length-append, length-drop, take-append-drop}
use lib.Seq.{drop-drop, drop_at, take-add, take_at}
use borrow.Author.Tests.{eqb-true}
use borrow.Rule.Slice.PartMut.{mid_of, put_mid}
use Rattle.units.specs.Refusal.{Verdict}
use Rattle.units.specs.declared.settings.Numbers.{Numbers}
use Rattle.message.specs.declared.value.Message.{Message}
use Rattle.units.specs.Limits.{line_top}
use Rattle.units.proofs.Every.{and_left, and_right}
use Rattle.units.specs.Pick.{pick}
use Rattle.fields.proofs.Cases.{by_test}
use Rattle.lines.specs.Reading.{first_line, read_line}
use Rattle.lines.specs.Writing.{buffer_of}
use Rattle.controller.specs.declared.state.Controller.{Controller}
use Rattle.controller.specs.Effects.{applied}
use Rattle.controller.specs.Step.{carried_out}
use Rattle.fields.specs.declared.cut.Carry.{Carry}
use Rattle.fields.proofs.Puts.{mid_rest, put_rest}
use Rattle.session.specs.declared.feed.Fed.{Fed}
use Rattle.session.specs.declared.feed.Session.{Session}
use Rattle.session.specs.declared.run.Ran.{Ran}
use Rattle.session.specs.declared.stage.Core.{Core}
use Rattle.session.specs.declared.stage.Stage.{Stage}
use Rattle.session.specs.declared.stage.Stage.TheVariants.{Settling as AtSettings, Waiting, Running, Ended}
use Rattle.fields.specs.Cut.{emptied, line_in}
use Rattle.fields.specs.Lines.{feed_at}
use Rattle.session.specs.Feeding.{advancing, answer_put, line_done, fed, fed_text, line_turn, put_text}
use Rattle.session.specs.Pieces.{Feeds}
use Rattle.session.specs.Repeat.{Run, run_on}
use Rattle.session.specs.Serving.{first_text, goes_on, is_running, line_run, may_run, plan_line, ran, ran_on, run_next, served, served_text}
use Rattle.session.specs.Turn.{Turn, hears, numbers_in, running_with, turn_by, verdict_text}
use Rattle.session.proofs.Adding.{goes_whole, line_moves}
use Rattle.session.proofs.Exact.{fed_exact, feeds_then, first_all, first_fits, first_is, first_wrote, run_exact}
use Rattle.session.proofs.Repeating.{run_few}
use Rattle.session.proofs.Room.{buffer_length, call_wrote, done_room, fed_line, front, progress, text_line, took_few, wrote_few}

-- A RUN takes no more than there is, and writes no more than there is room for
module _ (x : Session) (input : List ℕ) (room : ℕ) where
  run_few_after : ((run_next x input room).took ≤ length input) × (length (run_next x input room).text ≤ room)
  run_few_after = let s = numbers_in x.core in run_few goes_on (line_run s) (λ k i n e. line_moves i n s k e) (length input) x.core.controller input room

-- THE FIRST CALL, AND WHAT COMES BEHIND IT
module _ (x : Session) (piece buf : List ℕ) where
  abbrev f : Fed
  f = fed x piece (length buf)

  abbrev t : List ℕ
  t = first_text x piece (length buf)

  -- NOTHING BEHIND IT
  serve_stays : may_run f.next ≡ false → (f ≡ served x piece (length buf)) × (buffer_of (fed_text x piece) buf ≡ buffer_of (served_text x piece (length buf)) buf)
  unfolding served served_text pick
  serve_stays e = let z : t ≡ served_text x piece (length buf) = rw e in (rw e, (first_is x piece buf).1 ∙ ap (λ (u : List ℕ). buffer_of u buf) z)

  -- LINES BEHIND IT
  module _ (e : may_run f.next ≡ true) where
    abbrev rest : List ℕ
    rest = drop f.took piece

    abbrev r : Run Controller
    r = run_next f.next rest (length buf - f.wrote)

    serve_goes : served x piece (length buf) ≡ ran_on f (ran r)
    unfolding served pick
    serve_goes = rw e

    serve_text : served_text x piece (length buf) ≡ t ++ r.text
    unfolding served_text pick
    serve_text = rw e

    room_left : length (drop (length t) buf) ≡ length buf - f.wrote
    room_left = length-drop (length t) buf ∙ ap (λ (n : ℕ). length buf - n) (sym (first_is x piece buf).0)

    rest_fits : length r.text ≤ length (drop (length t) buf)
    rest_fits = let w = (run_few_after f.next rest (length buf - f.wrote)).1 in let l = room_left in omega arith

    both_fit : length (t ++ r.text) ≤ length buf
    both_fit = let l = length-append t r.text in let g = rest_fits in let h = first_fits x piece buf in let d = length-drop (length t) buf in omega arith

    served_buffer : buffer_of (t ++ r.text) buf ≡ t ++ (r.text ++ drop (length r.text) (drop (length t) buf))
    served_buffer =
        let l = length-append t r.text in
        front (t ++ r.text) buf both_fit ∙ append_assoc t r.text _ ∙ ap (λ (v : List ℕ). t ++ (r.text ++ v)) (ap (λ (n : ℕ). drop n buf) l ∙ sym (drop-drop (length r.text) (length t) buf))

    -- the buffer, part by part as the code lends it
    module _ (out : List ℕ) (b : out ≡ buffer_of (fed_text x piece) buf) where
      out_is : out ≡ t ++ drop (length t) buf
      out_is = b ∙ (first_is x piece buf).1 ∙ front t buf (first_fits x piece buf)

      out_length : length out ≡ length buf
      out_length = ap (λ (l : List ℕ). length l) b ∙ buffer_length (fed_text x piece) buf

      lent : mid_of f.wrote (length out - f.wrote) out ≡ drop (length t) buf
      lent = mid_rest f.wrote out ∙ ap₂ (λ (n : ℕ) (l : List ℕ). drop n l) (first_is x piece buf).0 out_is ∙ drop_at t (drop (length t) buf) (length t) refl

      lent_length : length (mid_of f.wrote (length out - f.wrote) out) ≡ length buf - f.wrote
      lent_length = ap (λ (l : List ℕ). length l) lent ∙ room_left

      served_all : (w : List ℕ) → w ≡ buffer_of r.text (mid_of f.wrote (length out - f.wrote) out) → put_mid f.wrote (length out - f.wrote) out w ≡ buffer_of (served_text x piece (length buf)) buf
      served_all w h =
          let we : w ≡ r.text ++ drop (length r.text) (drop (length t) buf) = h ∙ ap (buffer_of r.text) lent ∙ front r.text (drop (length t) buf) rest_fits in
          let c : f.wrote ≤ length out = let a = (first_is x piece buf).0 in let g = first_fits x piece buf in let d = out_length in omega arith in
          let p : take f.wrote out ≡ t = ap₂ (λ (n : ℕ) (l : List ℕ). take n l) (first_is x piece buf).0 out_is ∙ take_at t (drop (length t) buf) (length t) refl in
          put_rest f.wrote out w c ∙ ap₂ (λ (u v : List ℕ). u ++ v) p we ∙ sym served_buffer ∙ ap (λ (u : List ℕ). buffer_of u buf) (sym serve_text)

-- THE CODE'S WAYS: g is what `feed` answered, and out the buffer after it
module _ (x : Session) (piece buf out : List ℕ) (b : out ≡ buffer_of (fed_text x piece) buf) where
  abbrev Ends : Fed → Type 0
  Ends g = may_run g.next ≡ false → (g ≡ served x piece (length buf)) × (out ≡ buffer_of (served_text x piece (length buf)) buf)

  pub code_stays : (g : Fed) → g ≡ fed x piece (length buf) → Ends g
  code_stays g ge = subst Ends (sym ge) (λ e. let p = serve_stays x piece buf e in (p.0, b ∙ p.1))

  pub code_wrote : (g : Fed) → g ≡ fed x piece (length buf) → g.wrote ≤ length out
  code_wrote g ge = let a = call_wrote x piece (length buf) g ge in let l = ap {B = ℕ} (λ (v : List ℕ). length v) b ∙ buffer_length (fed_text x piece) buf in omega arith

  -- what is lent to the run, and what it answers
  abbrev lent_from : Fed → List ℕ
  lent_from g = mid_of g.wrote (length out - g.wrote) out

  abbrev run_from : Fed → Run Controller
  run_from g = run_next g.next (mid_of g.took (length piece - g.took) piece) (length (lent_from g))

  abbrev Goes : Fed → Type 0
  Goes g = may_run g.next ≡ true → (r : Ran) (w : List ℕ) → (r ≡ ran (run_from g)) × (w ≡ buffer_of (run_from g).text (lent_from g))
      → ((g.took + r.took ≤ length piece) × (g.wrote + r.wrote ≤ length buf)) × (ran_on g r ≡ served x piece (length buf)) × (put_mid g.wrote (length out - g.wrote) out w ≡ buffer_of (served_text x piece (length buf)) buf)

  goes : Goes (fed x piece (length buf))
  goes e r w h =
      let g = fed x piece (length buf) in
      let y = g.next in
      let l = drop g.took piece in
      let q : run_from g ≡ run_next y l (length buf - g.wrote) = ap₂ (λ (i : List ℕ) (n : ℕ). run_next y i n) (mid_rest g.took piece) (lent_length x piece buf e out b) in
      let re : r ≡ ran (run_next y l (length buf - g.wrote)) = h.0 ∙ ap ran q in
      let we : w ≡ buffer_of (run_next y l (length buf - g.wrote)).text (lent_from g) = h.1 ∙ ap (λ (z : Run Controller). buffer_of z.text (lent_from g)) q in
      let tk : r.took ≤ length l = rw re (run_few_after y l (length buf - g.wrote)).0 in
      let wr : r.wrote ≤ length buf - g.wrote = rw re (run_few_after y l (length buf - g.wrote)).1 in
      let a = took_few x piece (length buf) in
      let c = wrote_few x piece (length buf) in
      let d = length-drop g.took piece in
      ((omega arith, omega arith), ap (ran_on g) re ∙ sym (serve_goes x piece buf e), served_all x piece buf e out b w we)

  pub code_goes : (g : Fed) → g ≡ fed x piece (length buf) → Goes g
  code_goes g ge = subst Goes (sym ge) goes

-- WHAT A CALL TAKES AND WRITES
module _ (x : Session) (piece : List ℕ) (lent : ℕ) where
  pub serve_took : (served x piece lent).took ≤ length piece
  unfolding served pick
  serve_took =
      let a = took_few x piece lent in
      by_test (may_run (fed x piece lent).next)
      (λ e.
      let y = (fed x piece lent).next in
      let l = drop (fed x piece lent).took piece in
      let b = (run_few_after y l (lent - (fed x piece lent).wrote)).0 in let d = length-drop (fed x piece lent).took piece in rw e (omega arith))
      (λ e. rw e a)

  pub serve_takes : 2 * line_top ≤ lent → 1 ≤ length piece → 1 ≤ (served x piece lent).took
  unfolding served pick
  serve_takes h k = let a = progress x piece lent h k in by_test (may_run (fed x piece lent).next) (λ e. rw e (omega arith)) (λ e. rw e a)

  pub serve_wrote : (served x piece lent).wrote ≤ lent
  unfolding served pick
  serve_wrote =
      let a = wrote_few x piece lent in
      by_test (may_run (fed x piece lent).next)
      (λ e.
      let y = (fed x piece lent).next in
      let l = drop (fed x piece lent).took piece in let b = (run_few_after y l (lent - (fed x piece lent).wrote)).1 in rw e (omega arith))
      (λ e. rw e a)

  pub served_text_lem : (served x piece lent).wrote ≡ length (served_text x piece lent)
  unfolding served served_text pick
  served_text_lem =
      let a = first_wrote x piece lent in
      by_test (may_run (fed x piece lent).next)
      (λ e.
      let r = run_next (fed x piece lent).next (drop (fed x piece lent).took piece) (lent - (fed x piece lent).wrote) in
      rw e (ap (λ (n : ℕ). n + length r.text) a ∙ sym (length-append (first_text x piece lent) r.text)))
      (λ e. rw e a)

-- A CALL OF `serve` IS A RUN OF CALLS OF `feed` on the bytes that it takes
-- a session whose controller runs, with nothing held
abbrev at_line : Core → Carry → Controller → Session
at_line c held k = record { core = running_with c k; carry = emptied held }

module _ (c : Core) (held : Carry) where
  abbrev s : Numbers
  s = numbers_in c

  -- one line of it, in order or refused
  line_is : (k : Controller) (piece : List ℕ) (room : ℕ) → line_turn (at_line c held k) piece ≡ record { next = running_with c (line_run s k piece room).next; text = (line_run s k piece room).text }
  unfolding line_in turn_by first_line pick hears plan_line applied put_text verdict_text
  line_is k piece room = heard (read_line s.group (take (feed_at piece + 1) piece)).message (read_line s.group (take (feed_at piece + 1) piece)).verdict
    where
      heard : (a : Message) (v : Verdict)
          → hears (advancing (running_with c k)) (running_with c k) a v
          ≡ record { next = running_with c (carried_out s k a (plan_line s k a a.head v)).next; text = answer_put s (carried_out s k a (plan_line s k a a.head v)) }
      heard a (Ok tt) = refl
      heard a (Err why) = refl

  line_exact : (k : Controller) (piece : List ℕ) (room : ℕ) → goes_on piece room ≡ true
      → Feeds (at_line c held k) (take (line_run s k piece room).took piece) (line_run s k piece room).text (at_line c held (line_run s k piece room).next)
  line_exact k piece room g =
      let x = at_line c held k in
      let r = line_run s k piece room in
      let m = line_moves piece room s k g in
      let w = goes_whole piece room g in
      let n : feed_at piece ≡ length piece → ⊥ = λ q. absurd (omega arith) in
      let l = line_is k piece room in
      let F : fed x piece room ≡ record { next = at_line c held r.next; took = r.took; wrote = length r.text; verdict = Ok tt } =
      fed_line x piece room n ∙ ap (λ (t : Turn). line_done x (feed_at piece + 1) t room) l ∙ done_room x (feed_at piece + 1) (record { next = running_with c r.next; text = r.text }) room m.fits in
      let T : fed_text x piece ≡ r.text = text_line x piece n ∙ ap (λ (t : Turn). t.text) l in
      let t : first_text x piece room ≡ r.text = first_all x piece room (rw T m.fits) ∙ T in
      rw (F, t) at (fed_exact x piece room)

  lines_exact : (k : Controller) (piece : List ℕ) (room : ℕ)
      → Feeds (at_line c held k) (take (run_on goes_on (line_run s) (length piece) k piece room).took piece) (run_on goes_on (line_run s) (length piece) k piece room).text
      (at_line c held (run_on goes_on (line_run s) (length piece) k piece room).next)
  lines_exact k piece room = run_exact goes_on (line_run s) (at_line c held) line_exact (length piece) k piece room

running_core : (c : Core) → is_running c.stage ≡ true → running_with c c.controller ≡ c
running_core c e = ap (λ (g : Stage). record { stage = g; settling = c.settling; controller = c.controller }) (is c.stage e)
  where
    is : (g : Stage) → is_running g ≡ true → Running ≡ g
    is AtSettings h = absurd (true≢false (sym h))
    is Waiting h = absurd (true≢false (sym h))
    is Running h = refl
    is Ended h = absurd (true≢false (sym h))

-- a session that may run is at a line
may_run_lem : (x : Session) → may_run x ≡ true → at_line x.core x.carry x.core.controller ≡ x
may_run_lem x e =
    let z : x.carry.len ≡ 0 = eqb-true x.carry.len 0 (and_right (is_running x.core.stage) (eqb x.carry.len 0) e) in
    ap₂ (λ (c : Core) (n : ℕ). record { core = c; carry = record { len = n; bytes = x.carry.bytes } }) (running_core x.core (and_left (is_running x.core.stage) (eqb x.carry.len 0) e)) (sym z)

module _ (x : Session) (piece : List ℕ) (room : ℕ) where
  abbrev g : Fed
  g = fed x piece room

  abbrev Calls : Fed → List ℕ → Type 0
  Calls r text = Feeds x (take r.took piece) text r.next

  behind : may_run g.next ≡ true → Calls (served x piece room) (served_text x piece room)
  unfolding served served_text pick
  behind e =
      let y = g.next in
      let l = drop g.took piece in
      let r = run_next y l (room - g.wrote) in
      let i = subst (λ (z : Session). Feeds z (take r.took l) r.text (at_line y.core y.carry r.next)) (may_run_lem y e) (lines_exact y.core y.carry y.core.controller l (room - g.wrote)) in
      let z : y.carry.len ≡ 0 = eqb-true y.carry.len 0 (and_right (is_running y.core.stage) (eqb y.carry.len 0) e) in
      let k : emptied y.carry ≡ y.carry = ap (λ (n : ℕ). record { len = n; bytes = y.carry.bytes }) (sym z) in
      rw (e, take-add g.took r.took piece) (feeds_then (fed_exact x piece room) (rw k at i))

  pub served_exact : Calls (served x piece room) (served_text x piece room)
  unfolding served served_text pick
  served_exact = by_test (may_run g.next) behind (λ e. rw e (fed_exact x piece room))

-- so whatever holds of every run of calls of `feed` holds where some of them are calls of `serve`
pub served_more : (x : Session) (piece rest : List ℕ) (room : ℕ) {out : List ℕ} {y : Session} → Feeds (served x piece room).next (drop (served x piece room).took piece ++ rest) out y
    → Feeds x (piece ++ rest) (served_text x piece room ++ out) y
served_more x piece rest room {out} {y} h =
    let n = (served x piece room).took in
    let e : take n piece ++ (drop n piece ++ rest) ≡ piece ++ rest = sym (append_assoc (take n piece) (drop n piece) rest) ∙ ap (λ (l : List ℕ). l ++ rest) (take-append-drop n piece) in
    subst (λ (i : List ℕ). Feeds x i (served_text x piece room ++ out) y) e (feeds_then (served_exact x piece room) h)
