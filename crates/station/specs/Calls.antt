-- WHAT THE SYSTEM ANSWERS to a read or a write, and whether it is called again.
use Rattle.std.specs.Prelude.{ℕ, zero, suc, ◌-◌, min, Bool, true, false, eqb, ℤ, pos, negsuc, Result, Ok, Err}
use Rattle.units.specs.Pick.{pick}
use Rattle.station.specs.declared.call.Stop.{Stop}
use Rattle.station.specs.declared.call.Stop.TheVariants.{Again, Failed}

-- errno's EINTR, 4: a signal came before a byte was moved
abbrev pub is_interrupt : ℤ → Bool
is_interrupt (pos n) = eqb n 4
is_interrupt (negsuc n) = false

-- a negative answer is a failure; else it is how many bytes were moved
unfoldable pub outcome_of : ℤ → ℤ → ℕ → Result ℕ Stop
outcome_of (pos n) error most = Ok (min n most)
outcome_of (negsuc n) error most = Err (pick (is_interrupt error) Again Failed)

-- after a write that failed, or took nothing, there is no other
unfoldable pub writes_left : ℕ → Result ℕ Stop → ℕ
writes_left left (Ok zero) = 0
writes_left left (Ok (suc n)) = left
writes_left left (Err Again) = left - 1
writes_left left (Err Failed) = 0

-- a read is made again only where it was interrupted
unfoldable pub reads_again : Result ℕ Stop → Bool
reads_again (Ok n) = false
reads_again (Err Again) = true
reads_again (Err Failed) = false
