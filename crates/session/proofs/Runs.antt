-- EVERY INPUT CAN BE FED: with two lines' room lent each time there is a run of calls that takes all of it, from any session. Assumes nothing.
use Prim.Native.Nat.{ℕ, zero, suc, ◌*◌, ◌≤◌}
use native.Mathlib.Omega.{arith}
use mathlib.Core.Path.{subst}
use mathlib.Core.List.{List, [], ◌∷◌, ◌++◌, append-nil}
use lib.ListN.{length, take, drop, length-append, length-drop}
use Rattle.units.specs.Limits.{line_top}
use Rattle.lines.specs.Writing.{buffer_of}
use Rattle.session.specs.declared.feed.Session.{Session}
use Rattle.session.specs.Feeding.{fed, fed_text}
use Rattle.session.specs.Pieces.{Feeds}
use Rattle.session.specs.Pieces.Feeds.{none, more}
use Rattle.session.proofs.Room.{progress}

pub record Runs (x : Session) (input : List ℕ) : Type 0 where
  pub out : List ℕ
  pub end : Session
  pub calls : Feeds x input out end

module _ (buf : List ℕ) (h : 2 * line_top ≤ length buf) where
  runs_by : (n : ℕ) (x : Session) (input : List ℕ) → length input ≤ n → Runs x input
  runs_by zero x [] l = record { out = []; end = x; calls = none }
  runs_by zero x (b ∷ bs) l = absurd (omega arith)
  runs_by (suc n) x [] l = record { out = []; end = x; calls = none }
  runs_by (suc n) x (b ∷ bs) l =
      let piece = b ∷ bs in
      let f = fed x piece (length buf) in
      let p = progress x piece (length buf) h (omega arith) in
      let a = length-drop f.took piece in
      let d = length-append (drop f.took piece) [] in
      let r = runs_by n f.next (drop f.took piece ++ []) (omega arith) in
      let w = take f.wrote (buffer_of (fed_text x piece) buf) in
      record { out = w ++ r.out; end = r.end; calls = subst (λ (i : List ℕ). Feeds x i (w ++ r.out) r.end) (append-nil piece) (more piece [] buf r.calls) }

  pub runs : (x : Session) (input : List ℕ) → Runs x input
  runs x input = runs_by (length input) x input (omega arith)
