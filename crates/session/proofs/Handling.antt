-- A BLOCK HANDLED: what it takes and writes, and that it is a run of calls of `feed` on exactly the bytes that it takes. Assumes nothing.
use Prim.Native.Nat.{ℕ, zero, suc, ◌+◌, ◌-◌, ◌*◌, ◌≤◌}
use native.Mathlib.Omega.{arith}
use mathlib.Core.Path.{◌≡◌, refl, sym, ap, ap₂, ◌∙◌}
use mathlib.Core.List.{List, ◌++◌}
use mathlib.Core.Bool.{Bool, true, false, ◌&&◌}
use lib.Dec.{leb, ltb}
use lib.ListN.{length, take, drop, length-drop}
use borrow.Author.Tests.{lt-ltb, le-ltb, ltb-true, le-leb, leb-true}
use borrow.Rule.Slice.PartMut.{mid_of, put_mid}
use Rattle.units.specs.Refusal.{Verdict}
use Rattle.units.specs.Limits.{line_top}
use Rattle.units.proofs.Every.{and_left, and_right}
use Rattle.fields.proofs.Cases.{by_lt}
use Rattle.lines.specs.Writing.{buffer_of}
use Rattle.fields.proofs.Puts.{mid_rest}
use Rattle.session.specs.declared.feed.Fed.{Fed}
use Rattle.session.specs.declared.feed.Session.{Session}
use Rattle.session.specs.Booting.{input_of}
use Rattle.session.specs.Feeding.{finished, last_turn, session_start}
use Rattle.session.specs.Handling.{Hands, calls_on, handled, handled_text, room_verdict, serve_run}
use Rattle.session.specs.Handling.Hands.{none as no-hands, more as more-hands}
use Rattle.session.specs.Pieces.{Feeds}
use Rattle.session.specs.Pieces.Feeds.{none}
use Rattle.session.specs.Repeat.{run_on}
use Rattle.session.specs.Serving.{served, served_text}
use Rattle.session.specs.Station.{station}
use Rattle.session.proofs.Exact.{feeds_then, run_exact}
use Rattle.session.proofs.Repeating.{Going, Moves, Moving, call_within, goes_lent, kept_length, lent_length, run_few, run_goes, stops}
use Rattle.session.proofs.Room.{buffer_length, front_take}
use Rattle.session.proofs.Serving.{served_exact, served_text_lem, serve_took, serve_takes, serve_wrote}
use Rattle.session.proofs.Whole.{whole}

-- WHETHER THERE IS ANOTHER CALL
module _ (input : List ℕ) (room : ℕ) where
  calls_on_lem : 1 ≤ length input → 2 * line_top ≤ room → calls_on input room ≡ true
  unfolding calls_on
  calls_on_lem h r = rw (lt-ltb 0 (length input) (omega arith), le-leb (2 * line_top) room r)

  calls_some : calls_on input room ≡ true → 1 ≤ length input
  unfolding calls_on
  calls_some e = let a = ltb-true 0 (length input) (and_left (ltb 0 (length input)) (leb (2 * line_top) room) e) in omega arith

  calls_room : calls_on input room ≡ true → 2 * line_top ≤ room
  unfolding calls_on
  calls_room e = leb-true (2 * line_top) room (and_right (ltb 0 (length input)) (leb (2 * line_top) room) e)

  serve_moves : (x : Session) → calls_on input room ≡ true → Moves calls_on serve_run x input room
  serve_moves x e = record { some = serve_takes x input room (calls_room e) (calls_some e); few = serve_took x input room; fits = rw (← served_text_lem x input room) (serve_wrote x input room) }

moving : Moving calls_on serve_run
moving x input room e = serve_moves input room x e

-- A CALL OF `handle` IS A RUN OF CALLS OF `feed`, takes no more than it was offered and writes no more than there is room for
module _ (x : Session) (input : List ℕ) (room : ℕ) where
  pub handled_exact : Feeds x (take (handled x input room).took input) (handled_text x input room) (handled x input room).next
  unfolding handled handled_text
  handled_exact = run_exact calls_on serve_run (λ y. y) (λ y i n e. served_exact y i n) (length input) x input room

  handled_text_lem : (handled x input room).wrote ≡ length (handled_text x input room)
  unfolding handled handled_text
  handled_text_lem = refl

  pub handled_few : ((handled x input room).took ≤ length input) × ((handled x input room).wrote ≤ room)
  unfolding handled
  handled_few = run_few calls_on serve_run moving (length input) x input room

  -- with two lines' room, and something offered, it takes something
  pub handled_some : 2 * line_top ≤ room → 1 ≤ length input → 1 ≤ (handled x input room).took
  unfolding handled
  handled_some r h = goes (length input) h
    where
      goes : (n : ℕ) → 1 ≤ n → 1 ≤ (run_on calls_on serve_run n x input room).took
      goes zero k = absurd (omega arith)
      goes (suc n) k = let e = calls_on_lem input room h r in let m = (serve_moves input room x e).some in rw (run_goes calls_on serve_run x input room n e) (omega arith)

-- WHAT A CALLER KNOWS of a call that answered r and left the buffer at `after`
pub record Handed (x : Session) (input : List ℕ) (r : Fed) (after : List ℕ) : Type 0 where
  pub few : r.took ≤ length input
  pub room : r.wrote ≤ length after
  pub calls : Feeds x (take r.took input) (take r.wrote after) r.next

pub handed : (x : Session) (input before : List ℕ) (r : Fed) (after : List ℕ) → (r ≡ handled x input (length before)) × (after ≡ buffer_of (handled_text x input (length before)) before)
    → Handed x input r after
handed x input before r after h =
    let n = length before in
    let f = handled_few x input n in
    let t = handled_text_lem x input n in
    let w : take (handled x input n).wrote (buffer_of (handled_text x input n) before) ≡ handled_text x input n =
    ap (λ (k : ℕ). take k (buffer_of (handled_text x input n) before)) t ∙ front_take (handled_text x input n) before (omega arith) in
    let l = buffer_length (handled_text x input n) before in rw (h.0, h.1) (record { few = f.0; room = omega arith; calls = rw w (handled_exact x input n) })

pub handed_some : (x : Session) (input : List ℕ) (room : ℕ) (r : Fed) → r ≡ handled x input room → 2 * line_top ≤ room → 1 ≤ length input → 1 ≤ r.took
handed_some x input room r e h k = rw e (handled_some x input room h k)

-- THE WHOLE INPUT in pieces handed over one after another, then its end: what was to be written is exactly the station program's output
hands_feed : {x y : Session} {input : List ℕ} {texts : List (List ℕ)} → Hands x input texts y → Feeds x input (input_of texts) y
unfolding input_of
hands_feed no-hands = none
hands_feed (more-hands f h) = feeds_then f (hands_feed h)

pub hands_whole : {input : List ℕ} {texts : List (List ℕ)} {y : Session} → Hands session_start input texts y → (buf : List ℕ) → line_top ≤ length buf
    → input_of texts ++ take (finished y (length buf)).wrote (buffer_of (last_turn y).text buf) ≡ station input
hands_whole h buf l = whole (hands_feed h) buf l

-- THE WAYS OF THE LOOP
abbrev pub Calling : Session → List ℕ → List ℕ → Session → ℕ → ℕ → List ℕ → Type 0
Calling = Going calls_on serve_run

module _ (x₀ : Session) (input before : List ℕ) {x : Session} {at filled : ℕ} {now : List ℕ} (h : Calling x₀ input before x at filled now) where
  abbrev rest : List ℕ
  rest = drop at input

  abbrev left : ℕ
  left = length before - filled

  pub same_length : length now ≡ length before
  same_length = kept_length calls_on serve_run x₀ input before h

  abbrev test : Bool
  test = ltb at (length input) && leb (2 * line_top) (length now - filled)

  test_is : calls_on rest left ≡ test
  unfolding calls_on
  test_is =
      let l : length rest ≡ length input - at = length-drop at input in
      rw (l, ← same_length) (ap (λ (b : Bool). b && leb (2 * line_top) (length now - filled)) (by_lt at (length input) (λ k. lt-ltb 0 (length input - at) (omega arith) ∙ sym (lt-ltb at (length input) k)) (λ k. le-ltb 0 (length input - at) (omega arith) ∙ sym (le-ltb at (length input) k))))

  pub ends : test ≡ false → {v : Verdict} {room : ℕ} → room ≡ length now → v ≡ room_verdict room
      → (record { next = x; took = at; wrote = filled; verdict = v } ≡ handled x₀ input (length before)) × (now ≡ buffer_of (handled_text x₀ input (length before)) before)
  unfolding handled handled_text
  ends e {v} {room} re ve =
      let q = stops calls_on serve_run x₀ input before h (test_is ∙ e) in
      let u : v ≡ room_verdict (length before) = ve ∙ ap room_verdict (re ∙ same_length) in
      (rw (q.0, u) (ap (λ (n : ℕ). record { next = x; took = at; wrote = n; verdict = room_verdict (length before) }) h.wrote), q.2)

  module _ (e : test ≡ true) where
    go : calls_on rest left ≡ true
    go = test_is ∙ e

    -- one call of `serve` on what is left
    pub goes_served : {r : Fed} {w now' : List ℕ}
        → (r ≡ served x (mid_of at (length input - at) input) (length (mid_of filled (length now - filled) now)))
        × (w ≡ buffer_of (served_text x (mid_of at (length input - at) input) (length (mid_of filled (length now - filled) now))) (mid_of filled (length now - filled) now))
        → now' ≡ put_mid filled (length now - filled) now w
        → (1 ≤ r.took) × (at + r.took ≤ length input) × (filled + r.wrote ≤ length now) × Calling x₀ input before r.next (at + r.took) (filled + r.wrote) now'
    goes_served {r} {w} {now'} s l =
        let m = serve_moves rest left x go in
        let pe : mid_of at (length input - at) input ≡ rest = mid_rest at input in
        let ne = lent_length calls_on serve_run x₀ input before h in
        let re : r ≡ served x rest left = s.0 ∙ ap₂ (λ (i : List ℕ) (n : ℕ). served x i n) pe ne in
        let we : w ≡ buffer_of (served_text x rest left) (mid_of filled (length now - filled) now) = s.1 ∙ ap (λ (t : List ℕ). buffer_of t (mid_of filled (length now - filled) now)) (ap₂ (λ (i : List ℕ) (n : ℕ). served_text x i n) pe ne) in
        let te : r.wrote ≡ length (served_text x rest left) = ap (λ (f : Fed). f.wrote) re ∙ served_text_lem x rest left in
        let g = goes_lent calls_on serve_run x₀ input before h m go {y = r.next} {end = r.took} {len = r.wrote} {t = served_text x rest left} refl (ap (λ (f : Fed). f.next) re) (ap (λ (f : Fed). f.took) re) te we l in
        (rw re m.some, rw re (call_within calls_on serve_run x₀ input before h m go), g.0, g.1)
