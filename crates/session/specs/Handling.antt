-- A BLOCK OF INPUT: as much of it as there is room to answer, by calls of `serve` one after another, each lent the rest of the buffer.
-- That this is a run of calls of `feed` on exactly the bytes that it takes is proofs/Handling.antt.
use Rattle.std.specs.Prelude.{ℕ, ◌*◌, List, [], ◌∷◌, ◌++◌, Bool, ◌&&◌, leb, ltb, length, Err, Ok}
use Rattle.units.specs.declared.refusal.Refusal.TheVariants.{Room}
use Rattle.units.specs.Refusal.{Verdict}
use Rattle.units.specs.Limits.{line_top}
use Rattle.units.specs.Pick.{pick}
use Rattle.session.specs.declared.feed.Fed.{Fed}
use Rattle.session.specs.declared.feed.Session.{Session}
use Rattle.session.specs.Pieces.{Feeds}
use Rattle.session.specs.Repeat.{Run, run_on}
use Rattle.session.specs.Serving.{served, served_text}

-- another call: something is left of the block, and room for two lines
unfoldable pub calls_on : List ℕ → ℕ → Bool
calls_on input room = ltb 0 (length input) && leb (2 * line_top) room

abbrev pub serve_run : Session → List ℕ → ℕ → Run Session
serve_run x input room = record { next = (served x input room).next; took = (served x input room).took; text = served_text x input room }

abbrev pub handle_run : Session → List ℕ → ℕ → Run Session
handle_run x input room = run_on calls_on serve_run (length input) x input room

-- 16: with less than two lines' room nothing is taken, written or changed
unfoldable pub room_verdict : ℕ → Verdict
room_verdict room = pick (ltb room (2 * line_top)) (Err Room) (Ok tt)

abbrev pub handled_by : Run Session → ℕ → Fed
handled_by r room = record { next = r.next; took = r.took; wrote = length r.text; verdict = room_verdict room }

unfoldable pub handled : Session → List ℕ → ℕ → Fed
handled x input room = handled_by (handle_run x input room) room

unfoldable pub handled_text : Session → List ℕ → ℕ → List ℕ
handled_text x input room = (handle_run x input room).text

-- PIECES HANDED OVER one after another, as a program does it: for each the bytes taken, and the bytes to write, which a run of calls says of just these
pub data Hands : Session → List ℕ → List (List ℕ) → Session → Type 0 where
  none : {x : Session} → Hands x [] [] x
  more : {x y z : Session} {taken text rest : List ℕ} {texts : List (List ℕ)} → Feeds x taken text y → Hands y rest texts z → Hands x (taken ++ rest) (text ∷ texts) z
