-- `Kept::write` meets its contract. Assumes nothing.
use Prim.Native.Nat.{ℕ}
use mathlib.Core.Path.{ap, ◌∙◌}
use lib.ListN.{take}
use Rattle.store.proofs.Answered.{kept_found, kept_full, take_few}
use Rattle.store.proofs.kept.Kept.write.Goals as goal

pub returns-then-lines-gt-ROWS : goal.returns-then-lines-gt-ROWS
returns-then-lines-gt-ROWS c = kept_full _ _ _ _ _ _ c.lines.ensures c.if-lines-gt-ROWS.true

pub returns : goal.returns
returns c =
    let held = c.args.held.now in
    kept_found _ held _ _ _ _ _ _ _ c.lines.ensures c.if-lines-gt-ROWS.false (ap (λ (n : ℕ). take n held) c.min.ensures ∙ take_few c.args.self.len held) c.write_runs.ensures
