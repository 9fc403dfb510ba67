-- `Kept::on` meets its contract. Assumes nothing.
use Prim.Native.Nat.{ℕ}
use mathlib.Core.Path.{ap, ◌∙◌}
use lib.ListN.{take}
use Rattle.store.proofs.Answered.{kept_made, take_few}
use Rattle.store.proofs.kept.Kept.on.Goals as goal

pub returns : goal.returns
returns c =
    let a = c.args in
    let block = a.block.now in
    kept_made a.self block a.buf.now _ _ _ _ _ c.kept_room.ensures (ap (λ (n : ℕ). take n block) c.min-room.ensures ∙ take_few c.kept_room.result block) c.put_part.ensures c.on.ensures
