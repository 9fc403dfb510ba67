-- WHAT A BLOCK OF INPUT LEADS TO: the bytes that the session takes, and the bytes that are handed to the write.
use Rattle.std.specs.Prelude.{ℕ, ◌≤◌, ◌≡◌, Bool, true, List, length, take}
use Rattle.session.specs.declared.feed.Session.{Session}
use Rattle.session.specs.Handling.{Hands}
use Rattle.session.specs.Pieces.{Feeds}

-- a piece handed over: some of it is taken, and what a run of calls says of just these bytes is handed to the write
pub record Hand (x : Session) (piece : List ℕ) (took : ℕ) (text : List ℕ) (y : Session) : Type 0 where
  pub some : 1 ≤ took
  pub few : took ≤ length piece
  pub calls : Feeds x (take took piece) text y

-- a block handed over piece by piece: all of it, where all that it led to was written
pub record Handover (x : Session) (block : List ℕ) (written : Bool) (y : Session) : Type 0 where
  pub took : ℕ
  pub texts : List (List ℕ)
  pub pieces : Hands x (take took block) texts y
  pub all : written ≡ true → take took block ≡ block
