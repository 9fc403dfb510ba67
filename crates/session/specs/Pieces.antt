-- AN INPUT CUT INTO PIECES: a run of calls, and what a session stands for between two of them.
use Rattle.std.specs.Prelude.{ℕ, ◌≡◌, true, List, [], ◌++◌, length, take, drop}
use Rattle.fields.specs.Text.{line_feed, lacks}
use Rattle.fields.specs.Cut.{Holds}
use Rattle.lines.specs.Writing.{buffer_of}
use Rattle.session.specs.declared.feed.Session.{Session}
use Rattle.session.specs.Feeding.{fed, fed_text}
use Rattle.session.specs.Reach.{CoreFits}

-- A RUN OF CALLS from one session to another: the bytes offered, and the bytes written. Each call is offered some next piece and lent some buffer;
-- what it did not take is offered again, in whatever pieces. A call refused by 16 takes and writes nothing.
pub data Feeds : Session → List ℕ → List ℕ → Session → Type 0 where
  none : {x : Session} → Feeds x [] [] x
  more : {x y : Session} (piece rest buf : List ℕ) {out : List ℕ} → Feeds (fed x piece (length buf)).next (drop (fed x piece (length buf)).took piece ++ rest) out y
      → Feeds x (piece ++ rest) (take (fed x piece (length buf)).wrote (buffer_of (fed_text x piece) buf) ++ out) y

-- a session that has read p of a line
pub record Stands (x : Session) (p : List ℕ) : Type 0 where
  pub fits : CoreFits x.core
  pub unended : lacks line_feed p ≡ true
  pub held : Holds x.carry p
