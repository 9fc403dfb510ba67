-- THE LINE THAT IS READ, of which 601 bytes are held at most, leads where the whole line leads. Assumes nothing.
use Prim.Native.Nat.{ℕ}
use mathlib.Core.Path.{◌≡◌, sym, ap, ◌∙◌}
use mathlib.Core.List.{List, ◌++◌}
use Rattle.message.specs.declared.value.Message.{Message}
use Rattle.fields.specs.declared.cut.Carry.{Carry}
use Rattle.fields.specs.Cut.{Holds, line_in}
use Rattle.fields.proofs.Carrying.{line_first}
use Rattle.session.specs.declared.stage.Core.{Core}
use Rattle.session.specs.declared.stage.Stage.{Stage}
use Rattle.session.specs.Turn.{Turn, turn_by}
use Rattle.session.proofs.Long.{first_enough}

pub line_same : (k : Carry) (p q : List ℕ) → Holds k p → (go : Core → Message → Turn) (c : Core) (stage : Stage) → turn_by go c (line_in k q) stage ≡ turn_by go c (p ++ q) stage
line_same k p q h go c stage =
    sym (first_enough go c (line_in k q) stage) ∙ ap (λ (l : List ℕ). turn_by go c l stage) (line_first k p q h) ∙ first_enough go c (p ++ q) stage
