-- `Core::first` meets its contract. Assumes nothing.
use Rattle.session.proofs.Turns.{heard_settles, heard_waits, heard_runs, heard_ended}
use mathlib.Core.Logic.{⊎_elim}
use Rattle.session.proofs.stage.Core.first.Goals as goal

pub returns-in-Settling : goal.returns-in-Settling
returns-in-Settling c = let a = c.args in (c.unread.ensures, λ n. ⊎_elim (λ e. heard_settles a.self _ _ e) (λ e. heard_ended a.self _ _ e) c.in-Settling.is)

pub returns-in-Waiting : goal.returns-in-Waiting
returns-in-Waiting c =
    let a = c.args in
    (c.first.ensures.0, λ n. let l = rw c.numbers.ensures at (c.first.ensures.1 n) in ⊎_elim (λ e. heard_waits a.self _ _ e l) (λ e. heard_runs a.self _ _ e l) c.in-Waiting.is)
