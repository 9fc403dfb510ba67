-- CHANGING WHAT A GROUP GOES BY, its order of digests or its settings: all controllers are stopped, what is under way is lost, and all start anew, none below a label already voted on.
use Rattle.std.specs.Prelude.{ℕ, ◌≤◌, ◌⊎◌, ◌≡◌}
use mathlib.Core.List.{Memᴰ}
use Rattle.units.specs.declared.labels.RoundLabel.{RoundLabel}
use Rattle.vote.specs.declared.digest.Digest.{Digest}
use Rattle.message.specs.declared.head.Head.{Head}
use Rattle.message.specs.declared.head.Head.TheVariants.{Vote, Setpoints, Start}
use Rattle.message.specs.declared.value.Message.{Message}
use Rattle.group.specs.World.{mark, World}
use Rattle.group.specs.Premises.{Handing}

-- after the change: the premise P on what is handed and, beside it, that every B, whatever number it names, has a floor at or above `low`
pub record FloorsFrom (low : RoundLabel) (P : Handing) (w : World) (i : ℕ) (a : Message) : Type 0 where
  pub kept : P w i a
  pub floors : (own : ℕ) (floor : RoundLabel) → a.head ≡ Start own floor → low.0 ≤ floor.0

-- before it: no floor that was ever confirmed, to any number, is above `low`
abbrev pub Covers : RoundLabel → World → Type 0
Covers low w = (i : ℕ) (label : RoundLabel) → Memᴰ (mark i label) w.confirmed → label.0 ≤ low.0

-- a D or an S of the label
abbrev pub About : Head → RoundLabel → Type 0
About h label = (i : ℕ) × (digest : Digest) × ((h ≡ Vote i label digest) ⊎ (h ≡ Setpoints i label digest))
