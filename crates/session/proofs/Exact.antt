-- RUNS OF CALLS, joined; and a call as a run on exactly the bytes that it takes. Assumes nothing.
use Prim.Native.Nat.{ℕ, zero, suc, ◌+◌, ◌-◌, ◌≤◌, ◌<◌}
use native.Mathlib.Omega.{arith}
use mathlib.Core.Path.{◌≡◌, refl, sym, ap, ap₂, subst, ◌∙◌}
use mathlib.Core.List.{List, [], ◌∷◌, ◌++◌, append-nil, append_assoc}
use mathlib.Core.Bool.{Bool, true}
use lib.Dec.{eqb}
use lib.ListN.{length, take, drop, replicate, length-append, length-replicate}
use lib.Seq.{drop-length, take-length, take-add, take-take}
use borrow.Author.Tests.{eqb-true, eqb-false, lt-ltb, le-ltb}
use Rattle.units.specs.Pick.{pick}
use Rattle.fields.specs.Text.{line_feed, until}
use Rattle.fields.proofs.Cases.{by_test, by_lt}
use Rattle.fields.proofs.Texts.{until_append, until_lacks}
use Rattle.lines.specs.Writing.{buffer_of}
use Rattle.session.specs.declared.feed.Fed.{Fed}
use Rattle.session.specs.declared.feed.Session.{Session}
use Rattle.fields.specs.Lines.{feed_at}
use Rattle.session.specs.Feeding.{line_done, fed, fed_text, line_turn}
use Rattle.session.specs.Pieces.{Feeds}
use Rattle.session.specs.Pieces.Feeds.{none, more}
use Rattle.session.specs.Repeat.{Run, run_on}
use Rattle.session.specs.Serving.{first_text}
use Rattle.session.specs.Turn.{Turn}
use Rattle.fields.proofs.Lines.{feed_line}
use Rattle.session.proofs.Repeating.{run_goes, run_none, run_stays}
use Rattle.session.proofs.Room.{done_room, fed_holds, fed_line, front, front_take, short, text_line, text_none}

-- ONE RUN AFTER ANOTHER is a run
pub feeds_then : {x y z : Session} {a b s t : List ℕ} → Feeds x a s y → Feeds y b t z → Feeds x (a ++ b) (s ++ t) z
feeds_then none g = g
feeds_then {b = b} {t = t} (more {x} {y} piece rest buf {out} f) g =
    let d = drop (fed x piece (length buf)).took piece in
    let w = take (fed x piece (length buf)).wrote (buffer_of (fed_text x piece) buf) in
    let h = rw (append_assoc d rest b) at (feeds_then f g) in rw (append_assoc piece rest b, append_assoc w out t) (more piece (rest ++ b) buf h)

-- WHAT A CALL WROTE
module _ (x : Session) (piece : List ℕ) (room : ℕ) where
  first_none : room < length (fed_text x piece) → first_text x piece room ≡ []
  unfolding first_text pick
  first_none h = rw (lt-ltb room (length (fed_text x piece)) h)

  pub first_all : length (fed_text x piece) ≤ room → first_text x piece room ≡ fed_text x piece
  unfolding first_text pick
  first_all h = rw (le-ltb room (length (fed_text x piece)) h)

module _ (x : Session) (piece buf : List ℕ) where
  abbrev f : Fed
  f = fed x piece (length buf)

  abbrev t : List ℕ
  t = first_text x piece (length buf)

  wrote_all : length (fed_text x piece) ≤ length buf → f.wrote ≡ length (fed_text x piece)
  wrote_all h =
      by_test (eqb (feed_at piece) (length piece))
      (λ e. let j = eqb-true (feed_at piece) (length piece) e in rw (fed_holds x piece (length buf) j, text_none x piece j))
      (λ e.
      let j = eqb-false (feed_at piece) (length piece) e in
      rw (fed_line x piece (length buf) j, text_line x piece j, done_room x (feed_at piece + 1) (line_turn x piece) (length buf) (rw (← text_line x piece j) h)))

  pub first_is : (f.wrote ≡ length t) × (buffer_of (fed_text x piece) buf ≡ buffer_of t buf)
  first_is =
      by_lt (length buf) (length (fed_text x piece))
      (λ h.
      let p = short x piece buf h in
      let z = first_none x piece (length buf) h in
      (ap (λ (r : Fed). r.wrote) p.0 ∙ ap (λ (u : List ℕ). length u) (sym z), p.1 ∙ sym (front [] buf (omega arith)) ∙ ap (λ (u : List ℕ). buffer_of u buf) (sym z)))
      (λ h. let z = first_all x piece (length buf) h in (wrote_all h ∙ ap (λ (u : List ℕ). length u) (sym z), ap (λ (u : List ℕ). buffer_of u buf) (sym z)))

  pub first_fits : length t ≤ length buf
  first_fits = by_lt (length buf) (length (fed_text x piece)) (λ h. rw (first_none x piece (length buf) h) (omega arith)) (λ h. rw (first_all x piece (length buf) h) h)

  -- a call that takes all that it is offered
  taken_all : f.took ≡ length piece → Feeds x piece t f.next
  taken_all e =
      let d : drop f.took piece ++ [] ≡ [] = rw (e, drop-length piece) in
      let w : take f.wrote (buffer_of (fed_text x piece) buf) ≡ t = ap₂ (λ (n : ℕ) (b : List ℕ). take n b) first_is.0 first_is.1 ∙ front_take t buf first_fits in
      let l : Feeds f.next (drop f.took piece ++ []) [] f.next = rw d none in
      let g : Feeds x (piece ++ []) (take f.wrote (buffer_of (fed_text x piece) buf) ++ []) f.next = more piece [] buf l in
      let h : Feeds x piece (take f.wrote (buffer_of (fed_text x piece) buf)) f.next =
      subst (λ (i : List ℕ). Feeds x i (take f.wrote (buffer_of (fed_text x piece) buf)) f.next) (append-nil piece) (subst (λ (o : List ℕ). Feeds x (piece ++ []) o f.next) (append-nil _) g) in
      subst (λ (o : List ℕ). Feeds x piece o f.next) w h

-- A LINE ALONE: what comes behind its line feed does not matter
module _ (piece : List ℕ) (n : feed_at piece ≡ length piece → ⊥) where
  abbrev alone : List ℕ
  alone = take (feed_at piece + 1) piece

  alone_until : until line_feed alone ≡ until line_feed piece
  unfolding until
  alone_until = ap (until line_feed) (feed_line piece n) ∙ until_append line_feed (until line_feed piece) (line_feed ∷ []) (until_lacks line_feed piece) ∙ append-nil (until line_feed piece)

  alone_feed : feed_at alone ≡ feed_at piece
  alone_feed = ap (λ (l : List ℕ). length l) alone_until

  alone_length : length alone ≡ feed_at piece + 1
  alone_length = ap (λ (l : List ℕ). length l) (feed_line piece n) ∙ length-append (until line_feed piece) (line_feed ∷ []) ∙ (let z : feed_at piece + 1 ≡ feed_at piece + 1 = refl in z)

  alone_not : feed_at alone ≡ length alone → ⊥
  alone_not e = let a = alone_feed in let b = alone_length in omega arith

  alone_turn : (x : Session) → line_turn x alone ≡ line_turn x piece
  alone_turn x = rw (alone_feed, take-take (feed_at piece + 1) (feed_at piece + 1) piece (omega arith))

  alone_fed : (x : Session) (room : ℕ) → fed x alone room ≡ fed x piece room
  alone_fed x room =
      fed_line x alone room alone_not ∙ ap (λ (i : ℕ). line_done x (i + 1) (line_turn x alone) room) alone_feed
      ∙ ap (λ (t : Turn). line_done x (feed_at piece + 1) t room) (alone_turn x) ∙ sym (fed_line x piece room n)

  alone_text : (x : Session) (room : ℕ) → first_text x alone room ≡ first_text x piece room
  unfolding first_text
  alone_text x room = rw (text_line x alone alone_not ∙ ap (λ (t : Turn). t.text) (alone_turn x) ∙ sym (text_line x piece n))

-- what a call wrote, by the room alone
pub first_wrote : (x : Session) (piece : List ℕ) (room : ℕ) → (fed x piece room).wrote ≡ length (first_text x piece room)
first_wrote x piece room = subst (λ (n : ℕ). (fed x piece n).wrote ≡ length (first_text x piece n)) (length-replicate {A = ℕ} room 0) (first_is x piece (replicate room 0)).0

-- A CALL is a run on the bytes that it takes
module _ (x : Session) (piece : List ℕ) where
  abbrev Exact : ℕ → Type 0
  Exact room = Feeds x (take (fed x piece room).took piece) (first_text x piece room) (fed x piece room).next

  exact_by : (buf : List ℕ) → Exact (length buf)
  exact_by buf =
      by_test (eqb (feed_at piece) (length piece))
      (λ e. held (eqb-true (feed_at piece) (length piece) e))
      (λ e. by_lt (length buf) (length (fed_text x piece)) too_little (line (eqb-false (feed_at piece) (length piece) e)))
    where
      held : feed_at piece ≡ length piece → Exact (length buf)
      held e =
          let k : (fed x piece (length buf)).took ≡ length piece = ap (λ (r : Fed). r.took) (fed_holds x piece (length buf) e) in
          subst (λ (i : List ℕ). Feeds x i (first_text x piece (length buf)) (fed x piece (length buf)).next) (sym (ap (λ (n : ℕ). take n piece) k ∙ take-length piece)) (taken_all x piece buf k)

      too_little : length buf < length (fed_text x piece) → Exact (length buf)
      too_little h = rw ((short x piece buf h).0, first_none x piece (length buf) h) none

      line : (feed_at piece ≡ length piece → ⊥) → length (fed_text x piece) ≤ length buf → Exact (length buf)
      line n h =
          let l : length (line_turn x piece).text ≤ length buf = rw (← text_line x piece n) h in
          let k : (fed x piece (length buf)).took ≡ feed_at piece + 1 = ap (λ (r : Fed). r.took) (fed_line x piece (length buf) n ∙ done_room x (feed_at piece + 1) (line_turn x piece) (length buf) l) in
          let a = taken_all x (take (feed_at piece + 1) piece) buf (ap (λ (r : Fed). r.took) (alone_fed piece n x (length buf)) ∙ k ∙ sym (alone_length piece n)) in
          rw k (rw (alone_fed piece n x (length buf), alone_text piece n x (length buf)) at a)

  pub fed_exact : (room : ℕ) → Exact room
  fed_exact room = subst Exact (length-replicate {A = ℕ} room 0) (exact_by (replicate room 0))

-- SO ARE CALLS ONE AFTER ANOTHER, where each of them is
module _ {A : Type 0} (goes : List ℕ → ℕ → Bool) (step : A → List ℕ → ℕ → Run A) (into : A → Session)
    (exact : (x : A) (input : List ℕ) (room : ℕ) → goes input room ≡ true → Feeds (into x) (take (step x input room).took input) (step x input room).text (into (step x input room).next)) where
  abbrev Calls : A → List ℕ → Run A → Type 0
  Calls x input r = Feeds (into x) (take r.took input) r.text (into r.next)

  pub run_exact : (n : ℕ) (x : A) (input : List ℕ) (room : ℕ) → Calls x input (run_on goes step n x input room)
  run_exact zero x input room = subst (Calls x input) (sym (run_none goes step x input room)) none
  run_exact (suc n) x input room =
      by_test (goes input room)
      (λ e.
      let a = step x input room in
      let r = run_on goes step n a.next (drop a.took input) (room - length a.text) in
      let f = feeds_then (exact x input room e) (run_exact n a.next (drop a.took input) (room - length a.text)) in
      subst (Calls x input) (sym (run_goes goes step x input room n e)) (rw (take-add a.took r.took input) f))
      (λ e. subst (Calls x input) (sym (run_stays goes step x input room (suc n) e)) none)
