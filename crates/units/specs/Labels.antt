-- "A round label and a state label are counted apart": the few places where the two meet.
use Rattle.std.specs.Prelude.{ℕ, ◌-◌, Bool, leb, ltb}
use Rattle.units.specs.declared.labels.RoundLabel.{RoundLabel}
use Rattle.units.specs.declared.labels.StateLabel.{StateLabel}
use Rattle.units.specs.Limits.{label_top}
use Rattle.units.specs.Within.{within}

-- 1..4,294,967,295
abbrev pub round_fits : RoundLabel → Bool
round_fits l = within 1 label_top l.0

-- 0..4,294,967,295
abbrev pub state_label_fits : StateLabel → Bool
state_label_fits s = leb s.0 label_top

-- a floor may be 0
abbrev pub floor_fits : RoundLabel → Bool
floor_fits l = leb l.0 label_top

-- the state label is below the label
abbrev pub before : StateLabel → RoundLabel → Bool
before s l = ltb s.0 l.0

-- n = label - state label; 0 where the state is not before the round
abbrev pub correction : RoundLabel → StateLabel → ℕ
correction l s = l.0 - s.0

-- "set the state label to the round's label"
abbrev pub issued_state : RoundLabel → StateLabel
issued_state l = record { 0 = l.0 }

-- label - 1
abbrev pub just_before : RoundLabel → StateLabel
just_before l = record { 0 = l.0 - 1 }
