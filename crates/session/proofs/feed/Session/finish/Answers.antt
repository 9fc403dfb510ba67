-- `Session::finish` meets its contract. Assumes nothing.
use Prim.Native.Nat.{ℕ}
use mathlib.Core.Path.{ap, ◌∙◌}
use Rattle.session.specs.Feeding.{last_of}
use Rattle.session.proofs.Feeds.{finish_done}
use Rattle.session.proofs.feed.Session.finish.Goals as goal

pub returns : goal.returns
returns c =
    let a = c.args in
    let k = a.self.core in
    let l = c.last_of-last.ensures ∙ ap (λ (n : ℕ). last_of k.settling n k.stage) c.len.ensures in
    finish_done a.self _ _ _ _ a.out.now _ c.settled.ensures l c.put_verdict.ensures c.line_done.ensures
