-- Plans: an effect on the controller, what is sent, and what the step says. "The step answers what to send as values."
use Rattle.std.specs.Prelude.{Option, None, Some, Ok, Err}
use Rattle.units.specs.declared.refusal.Refusal.{Refusal}
use Rattle.message.specs.declared.head.Head.{Head}
use Rattle.plan.specs.declared.planned.Change.{Change}
use Rattle.plan.specs.declared.planned.Change.TheVariants.{Nothing as Unchanged, Reading, More}
use Rattle.plan.specs.declared.planned.Effect.{Effect}
use Rattle.plan.specs.declared.planned.Effect.TheVariants.{Keep, Go, Begin, Add, Merge, Adopt, Count, Issue, Restart}
use Rattle.plan.specs.declared.planned.Plan.{Plan}

-- a message that goes out, or none
abbrev pub Sent : Type 0
Sent = Option Head

-- "Every refusal leaves the controller .. unchanged", but for 12, 13 and 14
abbrev pub refuse : Refusal → Plan
refuse why = record { effect = Keep; first = None; second = None; verdict = Err why }

abbrev pub does : Effect → Plan
does effect = record { effect = effect; first = None; second = None; verdict = Ok tt }

abbrev pub sends : Effect → Head → Plan
sends effect head = record { effect = effect; first = Some head; second = None; verdict = Ok tt }

abbrev pub both : Effect → Head → Head → Plan
both effect one two = record { effect = effect; first = Some one; second = Some two; verdict = Ok tt }

-- a message behind what is sent already, with no gap
unfoldable pub afterwards : Effect → Head → Sent → Plan
afterwards effect head None = sends effect head
afterwards effect head (Some one) = both effect one head

-- how much an effect changes: nothing, one reading, or more than that
unfoldable pub change_of : Effect → Change
change_of Keep = Unchanged
change_of (Go phase) = More
change_of (Begin label run raw) = More
change_of (Add run raw) = Reading run raw
change_of (Merge mask) = More
change_of (Adopt state phase) = More
change_of (Count seat digest phase) = More
change_of (Issue seat digest chosen) = More
change_of (Restart own floor) = More
