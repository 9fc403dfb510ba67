-- THE PROGRAMS OF A RUN OF STATIONS: what each was handed since its boot and what it wrote, so that a run over turns can be held to sessions that are fed bytes.
use Rattle.std.specs.Prelude.{ℕ, ◌≡◌, true}
use mathlib.Core.List.{List, [], ◌∷◌, ◌++◌, Memᴰ}
use Rattle.std.proofs.Math.Option.{Option, none, some}
use Rattle.units.specs.declared.settings.Numbers.{Numbers}
use Rattle.lines.specs.Reading.{ended_once}
use Rattle.session.specs.declared.feed.Session.{Session}
use Rattle.session.specs.declared.stage.Core.{Core}
use Rattle.session.specs.Booting.{led, told, input_of}
use Rattle.session.specs.Feeding.{session_start}
use Rattle.session.specs.Pieces.{Feeds}
use Rattle.fields.specs.Lines.{lines_of}
use Rattle.session.specs.Turn.{core_start, turn}
use Rattle.group.specs.World.{empty, EventOf, hand, store, crash, put, Asks, On, OnwardBy, here, next}
use Rattle.group.specs.Premises.{Meters}
use Rattle.group.specs.Stations.{Stations, Given, line, boot, turns, later, Booted, OnwardStations}

-- a program since its boot: the lines of its settings, every line handed to it since, and all the bytes that it wrote
pub record Life : Type 0 where
  pub settings : List (List ℕ)
  pub since : List (List ℕ)
  pub wrote : List ℕ

abbrev pub lines_in : Life → List (List ℕ)
lines_in l = l.settings ++ l.since

abbrev pub born : List (List ℕ) → Life
born lines = record { settings = lines; since = []; wrote = told core_start lines }

-- a line handed to a program that runs is one turn of it
abbrev pub lived_on : List ℕ → Option Core → Option Life → Option Life
lived_on l none life = life
lived_on l (some c) none = none
lived_on l (some c) (some a) = some (record { settings = a.settings; since = a.since ++ (l ∷ []); wrote = a.wrote ++ (turn c l).text })

abbrev pub lives_after : (ℕ → Option Core) → (ℕ → Option Life) → EventOf Given → ℕ → Option Life
lives_after up before (hand i (line l)) = put before i (lived_on l (up i) (before i))
lives_after up before (hand i (boot ls)) = put before i (some (born ls))
lives_after up before (store i label) = before
lives_after up before (crash i) = put before i none

-- the life of each number's program at the end of a run, none while it does not run
unfoldable pub lives : {P : Asks Core (List ℕ) Given} {w v : Stations} → OnwardBy turns P w v → ℕ → Option Life
lives here = λ i. none
lives (next {v} on e k) = lives_after v.up (lives on) e

-- ---- WHAT IS SAID OF THEM
-- a program stands where its lines lead, and wrote exactly their texts
pub record Goes (s : Numbers) (c : Core) (l : Life) : Type 0 where
  pub booted : Booted s (led core_start l.settings)
  pub core : c ≡ led core_start (lines_in l)
  pub text : l.wrote ≡ told core_start (lines_in l)

abbrev pub GoesIn : Numbers → Option Core → Option Life → Type 0
GoesIn s none none = Unit {0}
GoesIn s none (some l) = ⊥
GoesIn s (some c) none = ⊥
GoesIn s (some c) (some l) = Goes s c l

-- a line of what some program has written, at the end of the run or at an earlier moment of it
pub data Written {P : Asks Core (List ℕ) Given} : (w : Stations) → OnwardBy turns P empty w → List ℕ → Type 0 where
  now : {w : Stations} {run : OnwardBy turns P empty w} {x : List ℕ} (i : ℕ) (l : Life) → lives run i ≡ some l → Memᴰ x (lines_of l.wrote) → Written w run x
  before : {w : Stations} {run : OnwardBy turns P empty w} {x : List ℕ} (e : EventOf Given) (k : On P w e) → Written w run x → Written (later w e) (next run e k) x

pub record ByTurns (s : Numbers) (meters : Meters) (w : Stations) (run : OnwardStations s meters empty w) : Type 0 where
  -- each number's program is where its lines lead, those of its settings and all that were handed since, and wrote exactly their texts
  pub stands : (i : ℕ) → GoesIn s (w.up i) (lives run i)
  -- what was ever sent is the lines of these texts, no more and no less
  pub sent_only : (x : List ℕ) → Memᴰ x w.sent → Written w run x
  pub sent_all : (x : List ℕ) → Written w run x → Memᴰ x w.sent
  -- where each line handed is one line, its only line feed last: a session that is fed all their bytes, in any pieces, comes to the same and writes the same
  pub fed : (i : ℕ) (c : Core) (l : Life) → w.up i ≡ some c → lives run i ≡ some l → ((x : List ℕ) → Memᴰ x (lines_in l) → ended_once x ≡ true)
      → {out : List ℕ} {y : Session} → Feeds session_start (input_of (lines_in l)) out y → (y.core ≡ c) × (out ≡ l.wrote)
