-- The round of document 01's session: its settings, the state of a start, what was read, and the state and targets that come of it.
use Rattle.std.specs.Prelude.{ℕ, List, ◌∷◌, replicate}
use Rattle.std.specs.Float.{binary64}
use Rattle.std.specs.Float.Ieee.{of_bits}
use Rattle.units.specs.declared.labels.RoundLabel.{RoundLabel}
use Rattle.units.specs.declared.labels.StateLabel.{StateLabel}
use Rattle.units.specs.declared.estimate.Estimate.{Estimate}
use Rattle.units.specs.declared.settings.Numbers.{Numbers}
use Rattle.floats.specs.Bits.{of_whole, nought}
use Rattle.floats.specs.Ranges.{blank}
use Rattle.filter.specs.declared.compute.Computed.{Computed}
use Rattle.cases.specs.Table.{spelt}

-- two runs, and nothing at the other places
abbrev pub two : {A : Type 0} → A → A → A → List A
two a b none = a ∷ b ∷ replicate 14 none

-- "G 2 2", "N 1 300 99", "K 0 C-101 1.0047 3", "K 1 C-102 1.0000 1"
abbrev pub settings : Numbers
settings = record { group = record { g = 2; m = 2 }; q = 1; r = 300; p = 99; factors = two 10047 10000 0; weights = two 3 1 0 }

-- "each x = +0 and P = p"
abbrev pub first : Estimate
first = record { x = nought; variance = of_whole 99 }

abbrev pub start : List Estimate
start = two first first blank

-- "M 1 0 200000", "M 1 1 199060"
abbrev pub readings : List ℕ
readings = two 200000 199060 0

-- "S 0 1 0 0003 ..": label 1, base state label 0, both runs
abbrev pub label : RoundLabel
label = record { 0 = 1 }

abbrev pub base : StateLabel
base = record { 0 = 0 }

abbrev pub mask : ℕ
mask = 3

-- "U 0 1 40E8876000000000 4052C00000000000 40E84CA000000000 4052C00000000000" and the targets of S
abbrev pub issued : Computed
issued =
    record {
      state = two (spelt 0x40E8_8760_0000_0000 0x4052_C000_0000_0000) (spelt 0x40E8_4CA0_0000_0000 0x4052_C000_0000_0000) blank;
      targets = two (of_bits binary64 0x40F2_4F80_0000_0000) (of_bits binary64 0x40D8_6A00_0000_0000) nought;
    }
