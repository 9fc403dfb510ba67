-- `Core::settle` meets its contract. Assumes nothing.
use Rattle.session.proofs.Writes.{wrote_quiet, wrote_refusing}
use Rattle.session.proofs.Turns.{settles_more, settles_whole, settles_refused}
use Rattle.std.specs.Prelude.{Ok}
use mathlib.Core.Path.{ap, ◌∙◌}
use Rattle.session.proofs.stage.Core.settle.Goals as goal

pub returns-in-More : goal.returns-in-More
returns-in-More c = let a = c.args in wrote_quiet _ _ a.out.now (settles_more a.self a.settled.next (c.in-Ok.is ∙ ap Ok c.in-More.is)) c.settled.ensures c.quiet.ensures

pub returns-in-Whole : goal.returns-in-Whole
returns-in-Whole c = let a = c.args in wrote_quiet _ _ a.out.now (settles_whole a.self a.settled.next (c.in-Ok.is ∙ ap Ok c.in-Whole.is)) c.settled-in-Whole.ensures c.quiet-in-Whole.ensures

pub returns-in-Err : goal.returns-in-Err
returns-in-Err c =
    let a = c.args in
    wrote_refusing _ _ _ a.out.now (settles_refused a.self a.settled.next _ c.in-Err.is) c.settled-in-Err.ensures c.refuse.ensures
