-- FEEDING ANY INPUT, CUT INTO PIECES IN ANY WAY, WRITES EXACTLY WHAT THE STATION PROGRAM WRITES. Assumes nothing.
use Prim.Native.Nat.{ℕ, ◌+◌, ◌≤◌}
use native.Mathlib.Omega.{arith}
use mathlib.Core.Path.{◌≡◌, refl, sym, ap, subst, ◌∙◌}
use mathlib.Core.Bool.{true}
use mathlib.Core.List.{List, [], ◌∷◌, ◌++◌, append-nil, append_assoc}
use lib.Dec.{eqb}
use lib.ListN.{length, take, drop}
use lib.Seq.{drop-length, length-take-le, take_all}
use borrow.Author.Tests.{eqb-true, eqb-false, ne_eqb, lt-ltb}
use Rattle.units.specs.Refusal.{Verdict}
use Rattle.units.specs.Limits.{line_top}
use Rattle.units.specs.Pick.{pick}
use Rattle.units.specs.Settings.{group_fits, numbers_fit}
use Rattle.units.proofs.InRange.{group_fits_lem}
use Rattle.fields.specs.Text.{line_feed, lacks}
use Rattle.fields.proofs.Cases.{by_test, by_lt}
use Rattle.fields.proofs.Texts.{lacks_append}
use Rattle.fields.specs.Cut.{carry_top}
use Rattle.fields.specs.Lines.{feed_at, unfinished, line_at, lines_of}
use Rattle.fields.proofs.Carrying.{start_holds, emptied_holds, held_holds}
use Rattle.fields.proofs.Lines.{lines_last, lines_none, unfinished_all, feed_none, lines_off, unfinished_off}
use Rattle.lines.specs.declared.settle.Settling.{Settling}
use Rattle.lines.specs.Writing.{buffer_of}
use Rattle.session.specs.declared.feed.Fed.{Fed}
use Rattle.session.specs.declared.feed.Session.{Session}
use Rattle.session.specs.declared.stage.Core.{Core}
use Rattle.session.specs.declared.stage.Stage.{Stage}
use Rattle.session.specs.declared.stage.Stage.TheVariants.{Settling as AtSettings, Waiting, Running, Ended}
use Rattle.session.specs.Booting.{led, told}
use Rattle.session.specs.Feeding.{advancing, line_turn, piece_held, fed, fed_text, unended_line, last_of, last_turn, finished, session_start}
use Rattle.session.specs.Pieces.{Feeds, Stands}
use Rattle.session.specs.Pieces.Feeds.{none, more}
use Rattle.session.specs.Reach.{FitsAt, CoreFits}
use Rattle.session.specs.Station.{closing, answers, station}
use Rattle.session.specs.Turn.{Turn, group_in, numbers_in, settles_to, hears, verdict_text, turn_by, stepping, turn}
use Rattle.session.proofs.Carrying.{line_same}
use Rattle.session.proofs.Fits.{start_fits, turn_fits}
use Rattle.session.proofs.Long.{read_last, settle_last}
use Rattle.session.proofs.Room.{verdict_short, fed_holds, fed_line, text_line, done_room, done_none, front_take}
use Rattle.session.proofs.Same.{same_turn}

-- at the start nothing is read
pub start_stands : Stands session_start []
unfolding session_start lacks
start_stands = record { fits = start_fits; unended = refl; held = start_holds }

-- THE LINE AT HAND, as the document has it
pub line_turn_lem : (x : Session) (p piece : List ℕ) → Stands x p → line_turn x piece ≡ turn x.core (line_at p piece)
line_turn_lem x p piece s = line_same x.carry p (take (feed_at piece + 1) piece) s.held advancing x.core x.core.stage ∙ same_turn x.core (line_at p piece) s.fits

-- lines after lines
pub led_on : (c : Core) (ls ms : List (List ℕ)) → led c (ls ++ ms) ≡ led (led c ls) ms
unfolding led
led_on c [] ms = refl
led_on c (l ∷ ls) ms = led_on (turn c l).next ls ms

pub told_on : (c : Core) (ls ms : List (List ℕ)) → told c (ls ++ ms) ≡ told c ls ++ told (led c ls) ms
unfolding led told
told_on c [] ms = refl
told_on c (l ∷ ls) ms = ap (λ (t : List ℕ). (turn c l).text ++ t) (told_on (turn c l).next ls ms) ∙ sym (append_assoc (turn c l).text (told (turn c l).next ls) (told (led (turn c l).next ls) ms))

-- the answers to lines are the texts of their turns, then the answers to the rest
answers_on : (c : Core) (ls ms : List (List ℕ)) → answers c (ls ++ ms) ≡ told c ls ++ answers (led c ls) ms
unfolding led told answers
answers_on c [] ms = refl
answers_on c (l ∷ ls) ms = ap (λ (t : List ℕ). (turn c l).text ++ t) (answers_on (turn c l).next ls ms) ∙ sym (append_assoc (turn c l).text (told (turn c l).next ls) (answers (led (turn c l).next ls) ms))

-- ONE CALL: the line so far after it, and the lines that it took in, one or none, with what it wrote
record One (x : Session) (p piece : List ℕ) (r : Fed) (wrote : List ℕ) : Type 0 where
  pub now : List ℕ
  pub stands : Stands r.next now
  pub lines : List (List ℕ)
  pub cut : (rest : List ℕ) → lines_of (p ++ (piece ++ rest)) ≡ lines ++ lines_of (now ++ (drop r.took piece ++ rest))
  pub core : r.next.core ≡ led x.core lines
  pub text : wrote ≡ told x.core lines
  pub left : (rest : List ℕ) → unfinished (p ++ (piece ++ rest)) ≡ unfinished (now ++ (drop r.took piece ++ rest))

module _ (x : Session) (p piece : List ℕ) (s : Stands x p) where
  one_held : feed_at piece ≡ length piece → One x p piece (piece_held x piece) []
  unfolding led told
  one_held e =
      record {
        now = p ++ piece;
        stands = record { fits = s.fits; unended = lacks_append line_feed p piece s.unended (feed_none piece e); held = held_holds x.carry p piece s.held };
        lines = [];
        cut = λ rest. rw (drop-length piece, append_assoc p piece rest);
        core = refl;
        text = refl;
        left = λ rest. rw (drop-length piece, append_assoc p piece rest);
      }

  one_refused : (v : Verdict) → One x p piece (record { next = x; took = 0; wrote = 0; verdict = v }) []
  unfolding led told
  one_refused v = record { now = p; stands = s; lines = []; cut = λ rest. refl; core = refl; text = refl; left = λ rest. refl }

  pub next_stands : Stands (record { core = (line_turn x piece).next; carry = record { len = 0; bytes = x.carry.bytes } }) []
  unfolding lacks
  next_stands =
      record {
        fits = subst (λ (t : Turn). CoreFits t.next) (sym (line_turn_lem x p piece s)) (turn_fits x.core (line_at p piece) s.fits);
        unended = refl;
        held = emptied_holds x.carry p s.held;
      }

  one_line : (v : Verdict) → (feed_at piece ≡ length piece → ⊥)
      → One x p piece (record { next = record { core = (line_turn x piece).next; carry = record { len = 0; bytes = x.carry.bytes } }; took = feed_at piece + 1; wrote = length (line_turn x piece).text; verdict = v }) (line_turn x piece).text
  unfolding led told
  one_line v n =
      record {
        now = [];
        stands = next_stands;
        lines = line_at p piece ∷ [];
        cut = λ rest. lines_off p piece rest n s.unended;
        core = ap (λ (t : Turn). t.next) (line_turn_lem x p piece s);
        text = ap (λ (t : Turn). t.text) (line_turn_lem x p piece s) ∙ sym (append-nil _);
        left = λ rest. unfinished_off p piece rest n;
      }

  one : (buf : List ℕ) → One x p piece (fed x piece (length buf)) (take (fed x piece (length buf)).wrote (buffer_of (fed_text x piece) buf))
  one buf =
      by_test (eqb (feed_at piece) (length piece))
      (λ e. rw (fed_holds x piece (length buf) (eqb-true (feed_at piece) (length piece) e)) (one_held (eqb-true (feed_at piece) (length piece) e)))
      (λ e. with_line (eqb-false (feed_at piece) (length piece) e))
    where
      with_line : (feed_at piece ≡ length piece → ⊥) → One x p piece (fed x piece (length buf)) (take (fed x piece (length buf)).wrote (buffer_of (fed_text x piece) buf))
      with_line n =
          rw (fed_line x piece (length buf) n, text_line x piece n)
          (by_lt (length buf) (length (line_turn x piece).text)
          (λ l. rw (done_none x (feed_at piece + 1) (line_turn x piece) (length buf) l) (one_refused _))
          (λ l. rw (done_room x (feed_at piece + 1) (line_turn x piece) (length buf) l, front_take (line_turn x piece).text buf l) (one_line _ n)))

-- A RUN OF CALLS: the line so far after it, and the lines before, each a turn, with all that was written
pub record Ran (c : Core) (input out : List ℕ) (y : Session) : Type 0 where
  pub now : List ℕ
  pub stands : Stands y now
  pub lines : List (List ℕ)
  pub cut : lines_of input ≡ lines ++ lines_of now
  pub core : y.core ≡ led c lines
  pub text : out ≡ told c lines
  pub left : unfinished input ≡ now

pub run : {x y : Session} {input out : List ℕ} → Feeds x input out y → (p : List ℕ) → Stands x p → Ran x.core (p ++ input) out y
unfolding led told
run none p s = record { now = p; stands = s; lines = []; cut = rw (append-nil p); core = refl; text = refl; left = rw (append-nil p) (unfinished_all p s.unended) }
run (more {x} {y} piece rest buf {out} f) p s =
    let o = one x p piece s buf in
    let r = run f o.now o.stands in
    record {
      now = r.now;
      stands = r.stands;
      lines = o.lines ++ r.lines;
      cut = o.cut rest ∙ ap (λ (l : List (List ℕ)). o.lines ++ l) r.cut ∙ sym (append_assoc o.lines r.lines (lines_of r.now));
      core = r.core ∙ ap (λ (c : Core). led c r.lines) o.core ∙ sym (led_on x.core o.lines r.lines);
      text = (λ i. o.text i ++ (r.text ∙ ap (λ (c : Core). told c r.lines) o.core) i) ∙ sym (told_on x.core o.lines r.lines);
      left = o.left rest ∙ r.left;
    }

-- the answers to all of an input: what was written, then the answers to the line so far
ran_answers : (c : Core) (input out : List ℕ) (y : Session) → (r : Ran c input out y) → answers c (lines_of input) ≡ out ++ answers y.core (lines_of r.now)
ran_answers c input out y r = ap (answers c) r.cut ∙ answers_on c r.lines (lines_of r.now) ∙ sym (λ i. r.text i ++ answers (r.core i) (lines_of r.now))

-- THE END OF THE INPUT
-- a piece without a line feed is judged by what is held of it
last_same : (st : Settling) (p : List ℕ) (stage : Stage) → last_of st (length (take carry_top p)) stage ≡ last_of st (length p) stage
unfolding last_of unended_line pick
last_same st p stage =
    by_lt (length p) carry_top
    (λ h. rw (take_all carry_top p (omega arith)))
    (λ h. long stage (length-take-le carry_top p h) h)
  where
    long : (stage : Stage) → length (take carry_top p) ≡ carry_top → carry_top ≤ length p → last_of st (length (take carry_top p)) stage ≡ last_of st (length p) stage
    long AtSettings n h = rw (n, lt-ltb line_top (length p) (omega arith))
    long Waiting n h = rw (n, lt-ltb line_top (length p) (omega arith), ne_eqb (length p) 0 (λ q. absurd (omega arith)))
    long Running n h = rw (n, lt-ltb line_top (length p) (omega arith), ne_eqb (length p) 0 (λ q. absurd (omega arith)))
    long Ended n h = refl

group_in_lem : (c : Core) → numbers_fit (numbers_in c) ≡ true → group_fits (group_in c) ≡ true
group_in_lem c f = group_fits_lem (numbers_in c) f

-- a last line without its line feed, and what follows it
abbrev last_text : Turn → List ℕ
last_text t = t.text ++ answers t.next []

unended_text : (c : Core) (b : ℕ) (p : List ℕ) (stage : Stage) → c.stage ≡ stage → FitsAt c stage → lacks line_feed (b ∷ p) ≡ true
    → last_text (turn_by stepping c (b ∷ p) stage) ≡ verdict_text (last_of c.settling (length (b ∷ p)) stage)
unfolding turn_by last_of unended_line pick settles_to hears answers closing verdict_text
unended_text c b p AtSettings e f l = rw (settle_last c.settling (b ∷ p) l) (append-nil _)
unended_text c b p Waiting e f l = rw (read_last (group_in c) (b ∷ p) (group_in_lem c f) l, e, ne_eqb (length (b ∷ p)) 0 (λ q. absurd (omega arith))) (append-nil _)
unended_text c b p Running e f l = rw (read_last (group_in c) (b ∷ p) (group_in_lem c f.0) l, e, ne_eqb (length (b ∷ p)) 0 (λ q. absurd (omega arith))) (append-nil _)
unended_text c b p Ended e f l = rw e

none_text : (c : Core) (stage : Stage) → closing c stage ≡ verdict_text (last_of c.settling 0 stage)
unfolding last_of unended_line pick closing verdict_text
none_text c AtSettings = refl
none_text c Waiting = refl
none_text c Running = refl
none_text c Ended = refl

last_text_lem : (c : Core) (p : List ℕ) → CoreFits c → lacks line_feed p ≡ true → answers c (lines_of p) ≡ verdict_text (last_of c.settling (length p) c.stage)
unfolding answers
last_text_lem c [] f l = rw lines_none (none_text c c.stage)
last_text_lem c (b ∷ p) f l = rw (lines_last b p l) (unended_text c b p c.stage refl f l)

end_text : (y : Session) (p : List ℕ) → Stands y p → answers y.core (lines_of p) ≡ (last_turn y).text
end_text y p s = last_text_lem y.core p s.fits s.unended ∙ ap verdict_text (sym (last_same y.core.settling p y.core.stage) ∙ ap (λ (n : ℕ). last_of y.core.settling n y.core.stage) (sym s.held.len))

-- what `finish` writes, with a line's room
pub finish_wrote : (y : Session) (buf : List ℕ) → line_top ≤ length buf → take (finished y (length buf)).wrote (buffer_of (last_turn y).text buf) ≡ (last_turn y).text
finish_wrote y buf h =
    let a = verdict_short (last_of y.core.settling y.carry.len y.core.stage) in
    let l : length (last_turn y).text ≤ length buf = omega arith in
    rw (done_room y 0 (last_turn y) (length buf) l) (front_take (last_turn y).text buf l)

-- from a session on the way, the rest of an input
pub whole_from : {x y : Session} {input out : List ℕ} → Feeds x input out y → (p : List ℕ) → Stands x p → (buf : List ℕ) → line_top ≤ length buf
    → out ++ take (finished y (length buf)).wrote (buffer_of (last_turn y).text buf) ≡ answers x.core (lines_of (p ++ input))
whole_from {x} {y} {input} {out} f p s buf h =
    let r = run f p s in ap (λ (l : List ℕ). out ++ l) (finish_wrote y buf h ∙ sym (end_text y r.now r.stands)) ∙ sym (ran_answers x.core (p ++ input) out y r)

-- THE WHOLE INPUT in any pieces, with any buffers lent, then the end: exactly the station program's output
pub whole : {input out : List ℕ} {y : Session} → Feeds session_start input out y → (buf : List ℕ) → line_top ≤ length buf
    → out ++ take (finished y (length buf)).wrote (buffer_of (last_turn y).text buf) ≡ station input
unfolding session_start
whole f buf h = whole_from f [] start_stands buf h
