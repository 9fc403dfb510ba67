-- THE PREMISES of demand 3, each a clause on what is handed to a number, and the runs that keep them.
-- "one set of settings" is that a run has one `s`, one order of digests that it has one `stepped`; "one controller to a number" is that `up` has one for each, and the clause `own_number`.
use Rattle.std.specs.Prelude.{ℕ, ◌≤◌, ◌≡◌, true}
use mathlib.Core.List.{List, Memᴰ}
use Rattle.units.specs.declared.labels.RoundLabel.{RoundLabel}
use Rattle.units.specs.declared.settings.Numbers.{Numbers}
use Rattle.vote.specs.declared.digest.Digest.{Digest}
use Rattle.message.specs.declared.head.Head.TheVariants.{Reading, Vote, Floor, Start}
use Rattle.message.specs.declared.value.Message.{Message}
use Rattle.message.specs.View.{is_exchanged, is_telling}
use Rattle.controller.specs.declared.state.Controller.{Controller}
use Rattle.group.specs.World.{Mark, mark, WorldOf, empty, Asks, OnwardBy, World, hands}

-- the meters: the one reading of each label and run
abbrev pub Meters : Type 0
Meters = RoundLabel → ℕ → ℕ

-- a number has released a digest for a label: its D was sent
pub record Released (sent : List Message) (i : ℕ) (label : RoundLabel) (digest : Digest) : Type 0 where
  pub line : Message
  pub among : Memᴰ line sent
  pub said : line.head ≡ Vote i label digest

-- ---- what may be handed to the number i, clause by clause

-- "one reading per meter and label"
abbrev pub OneReading : Meters → Message → Type 0
OneReading meters a = (label : RoundLabel) (run raw : ℕ) → a.head ≡ Reading label run raw → raw ≡ meters label run

-- "one controller to a number": B names the number that it is handed to
abbrev pub OwnNumber : ℕ → Message → Type 0
OwnNumber i a = (own : ℕ) (floor : RoundLabel) → a.head ≡ Start own floor → own ≡ i

-- "a floor confirmed only once stored"
abbrev pub StoredFirst : List Mark → ℕ → Message → Type 0
StoredFirst stored i a = (label : RoundLabel) → a.head ≡ Floor label → Memᴰ (mark i label) stored

-- "a restart given at least the highest floor ever confirmed to that number, in whatever order they came back"
abbrev pub HighestFloor : List Mark → ℕ → Message → Type 0
HighestFloor confirmed i a = (own : ℕ) (floor : RoundLabel) → a.head ≡ Start own floor → (label : RoundLabel) → Memᴰ (mark i label) confirmed → label.0 ≤ floor.0

-- AS DEMAND 3 WORDS THEM, of x, which says the message a; "no line altered or made up" is that what controllers send each other (Q R A U D S) was sent
pub record KeptAs {C L : Type 0} (meters : Meters) (w : WorldOf C L) (i : ℕ) (x : L) (a : Message) : Type 0 where
  pub one_reading : OneReading meters a
  pub own_number : OwnNumber i a
  pub not_made_up : is_exchanged a.head ≡ true → Memᴰ x w.sent
  pub stored_first : StoredFirst w.stored i a
  pub highest_floor : HighestFloor w.confirmed i a

abbrev pub Kept : Meters → World → ℕ → Message → Type 0
Kept meters w i a = KeptAs meters w i a a

-- WHAT IS ENOUGH: F may be handed at any moment, Q, A and S may be made up, but not what a controller takes anything from (R U D); and a restart is given at least every label that the number has voted on
pub record Enough (meters : Meters) (w : World) (i : ℕ) (a : Message) : Type 0 where
  pub one_reading : OneReading meters a
  pub own_number : OwnNumber i a
  pub not_made_up : is_telling a.head ≡ true → Memᴰ a w.sent
  pub not_voted : (own : ℕ) (floor : RoundLabel) → a.head ≡ Start own floor → (label : RoundLabel) (digest : Digest) → Released w.sent i label digest → label.0 ≤ floor.0

-- ---- runs of messages
abbrev pub Handing : Type 1
Handing = Asks Controller Message Message

abbrev pub Onward : Numbers → Handing → World → World → Type 0
Onward s P w v = OnwardBy (hands s) P w v

-- a run: all that came, from nothing
abbrev pub Run : Numbers → Handing → World → Type 0
Run s P w = Onward s P empty w
