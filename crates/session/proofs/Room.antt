-- ROOM: two lines' room is always enough, whatever the session; with less nothing is taken, written or changed. Assumes nothing.
use Rattle.std.specs.Prelude.{Err, None, Ok, Some}
use Prim.Native.Nat.{ℕ, ◌+◌, ◌*◌, ◌≤◌, ◌<◌}
use native.Mathlib.Omega.{arith}
use mathlib.Core.Path.{◌≡◌, refl, sym, ap, ◌∙◌}
use mathlib.Core.List.{List, [], ◌++◌}
use lib.Dec.{eqb}
use lib.ListN.{length, take, drop, length-append, length-drop}
use lib.Seq.{take_at}
use borrow.Author.Tests.{eqb-true, eqb-false, eq-eqb, ne_eqb, lt-ltb, le-ltb}
use Rattle.units.specs.declared.refusal.Refusal.TheVariants.{Closed, Room}
use Rattle.units.specs.Refusal.{Verdict}
use Rattle.units.specs.declared.settings.Numbers.{Numbers}
use Rattle.units.specs.Limits.{line_top}
use Rattle.units.specs.Pick.{pick}
use Rattle.message.specs.declared.head.Head.{Head}
use Rattle.message.specs.declared.value.Message.{Message}
use Rattle.message.specs.Message.{message_fits}
use Rattle.message.proofs.Views.{by_kind, start_seen}
use Rattle.plan.specs.Plan.{Sent}
use Rattle.fields.proofs.Cases.{by_test, by_lt}
use Rattle.fields.proofs.Texts.{until_short}
use Rattle.fields.specs.Cut.{line_in}
use Rattle.fields.specs.Lines.{feed_at}
use Rattle.lines.specs.Settling.{Standing, settle_line}
use Rattle.lines.specs.declared.settle.Wanted.TheVariants.{More, Whole}
use Rattle.lines.specs.declared.settle.Settling.{Settling}
use Rattle.lines.specs.Reading.{read_line}
use Rattle.lines.specs.Writing.{refusal_line, buffer_of}
use Rattle.lines.proofs.RoundTrip.{write_room, refusal_room}
use Rattle.controller.specs.declared.state.Controller.{Controller}
use Rattle.controller.specs.Sent.{sent_message}
use Rattle.session.specs.declared.feed.Fed.{Fed}
use Rattle.session.specs.declared.feed.Session.{Session}
use Rattle.session.specs.declared.stage.Core.{Core}
use Rattle.session.specs.declared.stage.Stage.{Stage}
use Rattle.session.specs.declared.stage.Stage.TheVariants.{Settling as AtSettings, Waiting, Running, Ended}
use Rattle.session.specs.Feeding.{fit_text, rest_text, put_text, advancing, line_turn, line_done, piece_held, fed, fed_text, finished, last_turn}
use Rattle.session.specs.Turn.{Turn, group_in, settles_to, waits_for, hears, verdict_text, turn_by}
use Rattle.session.proofs.Both.{puts_room, puts_short}

-- HOW LONG AN ANSWER IS: two lines at most
pub verdict_short : (v : Verdict) → length (verdict_text v) ≤ line_top
unfolding verdict_text
verdict_short (Ok tt) = omega arith
verdict_short (Err why) = refusal_room why

pub fit_short : (s : Numbers) (c : Controller) (head : Head) → length (fit_text s c head) ≤ line_top
unfolding fit_text pick
fit_short s c head =
    let a = sent_message s c head in
    by_test (message_fits s.group a) (λ e. rw e (write_room s.group a e)) (λ e. rw e (omega arith))

pub rest_short : (s : Numbers) (c : Controller) (v : Verdict) (second : Sent) → length (rest_text s c v second) ≤ line_top
unfolding rest_text
rest_short s c v None = verdict_short v
rest_short s c v (Some head) = fit_short s c head

pub put_short : (s : Numbers) (c : Controller) (second : Sent) (v : Verdict) (first : Sent) → length (put_text s c second v first) ≤ 2 * line_top
unfolding put_text
put_short s c second v None = let a = verdict_short v in omega arith
put_short s c second v (Some head) =
    let a = length-append (fit_text s c head) (rest_text s c v second) in
    let b = fit_short s c head in
    let d = rest_short s c v second in omega arith

settles_short : (c : Core) (next : Settling) (told : Standing) → length (settles_to c next told).text ≤ 2 * line_top
unfolding settles_to
settles_short c next (Ok More) = omega arith
settles_short c next (Ok Whole) = omega arith
settles_short c next (Err why) = let a = refusal_room why in omega arith

closed_short : length (refusal_line Closed) ≤ 2 * line_top
closed_short = let a = refusal_room Closed in omega arith

waits_short : (c : Core) (head : Head) → length (waits_for c head).text ≤ 2 * line_top
unfolding waits_for
waits_short c head = by_kind (λ (h : Head). length (waits_for c h).text ≤ 2 * line_top) (λ v. omega arith) (λ h n. rw n closed_short) (start_seen head)

hears_short : (go : Message → Turn) (c : Core) (a : Message) (v : Verdict) → length (go a).text ≤ 2 * line_top → length (hears go c a v).text ≤ 2 * line_top
unfolding hears
hears_short go c a (Ok tt) h = h
hears_short go c a (Err why) h = let b = refusal_room why in omega arith

turn_short : (c : Core) (line : List ℕ) (stage : Stage) → length (turn_by advancing c line stage).text ≤ 2 * line_top
unfolding turn_by
turn_short c line AtSettings = settles_short c (settle_line c.settling line).next (settle_line c.settling line).answer
turn_short c line Waiting =
    hears_short (λ a. waits_for c a.head) c (read_line (group_in c) line).message (read_line (group_in c) line).verdict (waits_short c (read_line (group_in c) line).message.head)
turn_short c line Running = hears_short (advancing c) c (read_line (group_in c) line).message (read_line (group_in c) line).verdict (put_short _ _ _ _ _)
turn_short c line Ended = omega arith

pub line_short : (x : Session) (piece : List ℕ) → length (line_turn x piece).text ≤ 2 * line_top
line_short x piece = turn_short x.core (line_in x.carry (take (feed_at piece + 1) piece)) x.core.stage

-- THE WAYS THAT A CALL CAN GO
module _ (x : Session) (piece : List ℕ) where
  -- without a line feed
  pub fed_holds : (room : ℕ) → feed_at piece ≡ length piece → fed x piece room ≡ piece_held x piece
  unfolding fed pick
  fed_holds room e = rw (eq-eqb (feed_at piece) (length piece) e)

  pub text_none : feed_at piece ≡ length piece → fed_text x piece ≡ []
  unfolding fed_text pick
  text_none e = rw (eq-eqb (feed_at piece) (length piece) e)

  -- with one, and room
  pub fed_line : (room : ℕ) → (feed_at piece ≡ length piece → ⊥) → fed x piece room ≡ line_done x (feed_at piece + 1) (line_turn x piece) room
  unfolding fed pick
  fed_line room n = rw (ne_eqb (feed_at piece) (length piece) n)

  pub text_line : (feed_at piece ≡ length piece → ⊥) → fed_text x piece ≡ (line_turn x piece).text
  unfolding fed_text pick
  text_line n = rw (ne_eqb (feed_at piece) (length piece) n)

module _ (x : Session) (end : ℕ) (t : Turn) (room : ℕ) where
  pub done_room : length t.text ≤ room → line_done x end t room ≡ record { next = record { core = t.next; carry = record { len = 0; bytes = x.carry.bytes } }; took = end; wrote = length t.text; verdict = Ok tt }
  unfolding pick
  done_room h = rw (le-ltb room (length t.text) h)

  pub done_none : room < length t.text → line_done x end t room ≡ record { next = x; took = 0; wrote = 0; verdict = Err Room }
  unfolding pick
  done_none h = rw (lt-ltb room (length t.text) h)

-- a line put at the front of a buffer
pub front : (bytes buf : List ℕ) → length bytes ≤ length buf → buffer_of bytes buf ≡ bytes ++ drop (length bytes) buf
front bytes buf h = sym (puts_room bytes buf h).1

pub front_take : (bytes buf : List ℕ) → length bytes ≤ length buf → take (length bytes) (buffer_of bytes buf) ≡ bytes
front_take bytes buf h = rw (front bytes buf h) (take_at bytes (drop (length bytes) buf) (length bytes) refl)

front_none : (bytes buf : List ℕ) → length buf < length bytes → buffer_of bytes buf ≡ buf
front_none bytes buf h = sym (puts_short bytes buf h).1

-- TWO LINES' ROOM IS ENOUGH for any call
pub room : (x : Session) (piece : List ℕ) (lent : ℕ) → 2 * line_top ≤ lent → (fed x piece lent).verdict ≡ Ok tt
room x piece lent h =
    by_test (eqb (feed_at piece) (length piece))
    (λ e. rw (fed_holds x piece lent (eqb-true (feed_at piece) (length piece) e)))
    (λ e.
    let a = line_short x piece in
    let l : length (line_turn x piece).text ≤ lent = omega arith in rw (fed_line x piece lent (eqb-false (feed_at piece) (length piece) e), done_room x (feed_at piece + 1) (line_turn x piece) lent l))

-- and then a call with bytes to take takes some
pub progress : (x : Session) (piece : List ℕ) (lent : ℕ) → 2 * line_top ≤ lent → 1 ≤ length piece → 1 ≤ (fed x piece lent).took
progress x piece lent h k =
    by_test (eqb (feed_at piece) (length piece))
    (λ e. rw (fed_holds x piece lent (eqb-true (feed_at piece) (length piece) e)) k)
    (λ e.
    let a = line_short x piece in
    let l : length (line_turn x piece).text ≤ lent = omega arith in
    rw (fed_line x piece lent (eqb-false (feed_at piece) (length piece) e), done_room x (feed_at piece + 1) (line_turn x piece) lent l) (omega arith))

-- 16: WITH TOO LITTLE ROOM nothing is taken, written or changed, the lent buffer with it
pub short : (x : Session) (piece buf : List ℕ) → length buf < length (fed_text x piece)
    → (fed x piece (length buf) ≡ record { next = x; took = 0; wrote = 0; verdict = Err Room }) × (buffer_of (fed_text x piece) buf ≡ buf)
short x piece buf h =
    by_test (eqb (feed_at piece) (length piece))
    (λ e. let z = ap {B = ℕ} (λ (l : List ℕ). length l) (text_none x piece (eqb-true (feed_at piece) (length piece) e)) in absurd (omega arith))
    (λ e.
    let n = eqb-false (feed_at piece) (length piece) e in
    let z = ap {B = ℕ} (λ (l : List ℕ). length l) (text_line x piece n) in
    (fed_line x piece (length buf) n ∙ done_none x (feed_at piece + 1) (line_turn x piece) (length buf) (omega arith), front_none (fed_text x piece) buf h))

-- no call takes more than it was offered
pub took_few : (x : Session) (piece : List ℕ) (lent : ℕ) → (fed x piece lent).took ≤ length piece
took_few x piece lent =
    by_test (eqb (feed_at piece) (length piece))
    (λ e. rw (fed_holds x piece lent (eqb-true (feed_at piece) (length piece) e)) (omega arith))
    (λ e.
    let n = eqb-false (feed_at piece) (length piece) e in
    rw (fed_line x piece lent n)
    (by_lt lent (length (line_turn x piece).text)
    (λ l. rw (done_none x (feed_at piece + 1) (line_turn x piece) lent l) (omega arith))
    (λ l. rw (done_room x (feed_at piece + 1) (line_turn x piece) lent l) (within n (until_short 10 piece)))))
  where
    within : (feed_at piece ≡ length piece → ⊥) → feed_at piece ≤ length piece → feed_at piece + 1 ≤ length piece
    within n h = by_lt (feed_at piece) (length piece) (λ l. omega arith) (λ l. absurd (n (omega arith)))

-- nor writes more than there is room for
done_few : (x : Session) (end : ℕ) (t : Turn) (lent : ℕ) → (line_done x end t lent).wrote ≤ lent
done_few x end t lent = by_lt lent (length t.text) (λ l. rw (done_none x end t lent l) (omega arith)) (λ l. rw (done_room x end t lent l) l)

pub wrote_few : (x : Session) (piece : List ℕ) (lent : ℕ) → (fed x piece lent).wrote ≤ lent
wrote_few x piece lent =
    by_test (eqb (feed_at piece) (length piece))
    (λ e. rw (fed_holds x piece lent (eqb-true (feed_at piece) (length piece) e)) (omega arith))
    (λ e. rw (fed_line x piece lent (eqb-false (feed_at piece) (length piece) e)) (done_few x (feed_at piece + 1) (line_turn x piece) lent))

-- the same of what a call answered
module _ (x : Session) (piece : List ℕ) (lent : ℕ) (r : Fed) (e : r ≡ fed x piece lent) where
  pub call_took : r.took ≤ length piece
  call_took = rw e (took_few x piece lent)

  pub call_wrote : r.wrote ≤ lent
  call_wrote = rw e (wrote_few x piece lent)

pub finish_wrote : (x : Session) (lent : ℕ) (r : Fed) → r ≡ finished x lent → r.wrote ≤ lent
finish_wrote x lent r e = rw e (done_few x 0 (last_turn x) lent)

-- a buffer keeps its length
pub buffer_length : (bytes buf : List ℕ) → length (buffer_of bytes buf) ≡ length buf
buffer_length bytes buf =
    by_lt (length buf) (length bytes) (λ l. rw (front_none bytes buf l))
    (λ l. rw (front bytes buf l) (let a = length-append bytes (drop (length bytes) buf) in let b = length-drop (length bytes) buf in omega arith))
