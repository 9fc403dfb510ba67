-- A GROUP OF STATIONS: the world with the station program in a controller's place. What is handed is a whole line, what comes of it is the program's `turn`.
use Rattle.std.specs.Prelude.{ℕ, ◌≡◌, Err, Ok}
use mathlib.Core.List.{List, [], ◌∷◌, ◌++◌, Memᴰ}
use Rattle.std.proofs.Math.Option.{Option, none, some}
use Rattle.units.specs.declared.labels.RoundLabel.{RoundLabel}
use Rattle.units.specs.Refusal.{Verdict}
use Rattle.units.specs.declared.settings.Numbers.{Numbers}
use Rattle.vote.specs.declared.digest.Digest.{Digest}
use Rattle.message.specs.declared.head.Head.{Head}
use Rattle.message.specs.declared.head.Head.TheVariants.{Vote, Setpoints}
use Rattle.lines.specs.Reading.{read_line}
use Rattle.lines.specs.Writing.{spell_line}
use Rattle.controller.specs.declared.state.Controller.{Controller}
use Rattle.session.specs.declared.stage.Core.{Core}
use Rattle.session.specs.declared.stage.Stage.{Stage}
use Rattle.session.specs.declared.stage.Stage.TheVariants.{Settling as AtSettings, Waiting, Running, Ended}
use Rattle.session.specs.Booting.{led, told}
use Rattle.session.specs.Demand.{spoken_in}
use Rattle.fields.specs.Lines.{lines_of}
use Rattle.session.specs.Turn.{numbers_in, group_in, core_start, turn}
use Rattle.group.specs.World.{Mark, WorldOf, EventOf, put, Takes, after_by, OnwardBy, confirms}
use Rattle.group.specs.Premises.{Meters}
use Rattle.group.specs.Demand.{Right}
use Rattle.group.specs.Wire.{Wire, KeptLine, read_as, read_all, from}

-- the program of each number, none while it does not run; every line that any of them ever wrote, X among them, the last first
abbrev pub Stations : Type 0
Stations = WorldOf Core (List ℕ)

-- what is handed to a number: a line, or a boot, which starts its program anew with the lines of its settings
pub data Given : Type 0 where
  line : List ℕ → Given
  boot : List (List ℕ) → Given

-- lines put ahead of those before, one by one
unfoldable pub puts : List (List ℕ) → List (List ℕ) → List (List ℕ)
puts [] before = before
puts (l ∷ ls) before = puts ls (l ∷ before)

-- F that a running program reads confirms its label
abbrev pub confirming : ℕ → Head → Verdict → Stage → List Mark
confirming i head v AtSettings = []
confirming i head v Waiting = []
confirming i head (Ok tt) Running = confirms i head
confirming i head (Err why) Running = []
confirming i head v Ended = []

-- a line handed to a number whose program does not run is lost
abbrev pub turned : Stations → ℕ → List ℕ → Option Core → Stations
turned w i l none = w
turned w i l (some c) =
    record {
      up = put w.up i (some (turn c l).next);
      sent = puts (lines_of (turn c l).text) w.sent;
      stored = w.stored;
      confirmed = confirming i (spoken_in c l).head (read_line (group_in c) l).verdict c.stage ++ w.confirmed;
    }

abbrev pub turns : Takes Core (List ℕ) Given
turns w i (line l) = turned w i l (w.up i)
turns w i (boot ls) = record { up = put w.up i (some (led core_start ls)); sent = puts (lines_of (told core_start ls)) w.sent; stored = w.stored; confirmed = w.confirmed }

abbrev pub later : Stations → EventOf Given → Stations
later = after_by turns

-- ---- the wire that stations make
-- before its first B a program has no controller
abbrev pub controller_at : Core → Stage → Option Controller
controller_at c AtSettings = none
controller_at c Waiting = none
controller_at c Running = some c.controller
controller_at c Ended = none

abbrev pub controller_in : Option Core → Option Controller
controller_in none = none
controller_in (some c) = controller_at c c.stage

-- the lines that can be read; X is none of them (`x_refused`, proofs/Stations.antt)
abbrev pub kept_if : Verdict → List ℕ → List (List ℕ) → List (List ℕ)
kept_if (Ok tt) l ls = l ∷ ls
kept_if (Err why) l ls = ls

unfoldable pub spoken : Numbers → List (List ℕ) → List (List ℕ)
spoken s [] = []
spoken s (l ∷ ls) = kept_if (read_line s.group l).verdict l (spoken s ls)

abbrev pub wire_in : Numbers → Stations → Wire
wire_in s w = record { up = λ i. controller_in (w.up i); sent = spoken s w.sent; stored = w.stored; confirmed = w.confirmed }

-- ---- THE PREMISES: those of Wire.antt on a line that a program reads; nothing is asked of other lines
abbrev pub Asked : Numbers → Meters → Stations → ℕ → List ℕ → Option Core → Type 0
Asked s meters w i l none = Unit {0}
Asked s meters w i l (some c) = KeptLine s meters (wire_in s w) i l

-- "one set of settings": the lines lead a new program to its first B, with the group's settings
pub record Booted (s : Numbers) (c : Core) : Type 0 where
  pub waits : c.stage ≡ Waiting
  pub settings : numbers_in c ≡ s

abbrev pub KeptGiven : Numbers → Meters → Stations → ℕ → Given → Type 0
KeptGiven s meters w i (line l) = Asked s meters w i l (w.up i)
KeptGiven s meters w i (boot ls) = Booted s (led core_start ls)

abbrev pub OnwardStations : Numbers → Meters → Stations → Stations → Type 0
OnwardStations s meters w v = OnwardBy turns (KeptGiven s meters) w v

-- ---- WHAT DEMAND 3 SAYS of what stations write: of every line ever written that is read as an S or a D
pub record Demand3Stations (s : Numbers) (meters : Meters) (w v : Stations) : Type 0 where
  -- an S is right, by the lines D that are ever written
  pub right : (x : List ℕ) → Memᴰ x w.sent → (read_line s.group x).verdict ≡ Ok tt → (i : ℕ) (label : RoundLabel) (digest : Digest) → (read_as s x).head ≡ Setpoints i label digest
      → Right s meters (read_all s (spoken s v.sent)) label digest (read_as s x).targets
  -- another of the same label, written at any time by any station, has the same bytes but for its sender
  pub same : (x y : List ℕ) → Memᴰ x w.sent → Memᴰ y v.sent → (read_line s.group x).verdict ≡ Ok tt → (read_line s.group y).verdict ≡ Ok tt
      → (i j : ℕ) (label : RoundLabel) (d e : Digest) → (read_as s x).head ≡ Setpoints i label d → (read_as s y).head ≡ Setpoints j label e → y ≡ spell_line s.group (from j label d (read_as s x))
  -- no number ever releases two digests for a label
  pub one : (x y : List ℕ) → Memᴰ x v.sent → Memᴰ y v.sent → (read_line s.group x).verdict ≡ Ok tt → (read_line s.group y).verdict ≡ Ok tt
      → (i : ℕ) (label : RoundLabel) (d e : Digest) → (read_as s x).head ≡ Vote i label d → (read_as s y).head ≡ Vote i label e → d ≡ e
