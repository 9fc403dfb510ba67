-- `Carry::cut` meets its contract. Assumes nothing.
use native.Mathlib.Omega.{arith}
use mathlib.Core.Path.{ap}
use Rattle.fields.specs.Text.{scanned}
use Rattle.fields.proofs.Holding.{feed_within, cut_none_made, cut_made}
use Rattle.fields.proofs.cut.Carry.cut.Goals as goal

pub returns-then-feed-piece : goal.returns-then-feed-piece
unfolding scanned
returns-then-feed-piece c = let a = c.args in cut_none_made a.self c.hold-carry.result a.piece.now _ (ap (λ s. s.feed) c.scan-feed.ensures) c.if-feed-piece.true c.hold-carry.ensures

pub overflow_add-feed : goal.overflow_add-feed
unfolding scanned
overflow_add-feed c = let w = feed_within c.args.piece.now _ (ap (λ s. s.feed) c.scan-feed.ensures) in omega (arith, w, c.if-feed-piece.false)

pub overflow_add-result : goal.overflow_add-result
unfolding scanned
overflow_add-result c = let w = feed_within c.args.piece.now _ (ap (λ s. s.feed) c.scan-feed.ensures) in omega (arith, w, c.if-feed-piece.false)

pub returns : goal.returns
unfolding scanned
returns c = let a = c.args in cut_made a.self c.hold-carry-2.result a.piece.now _ (ap (λ s. s.feed) c.scan-feed.ensures) c.if-feed-piece.false c.hold-carry-2.ensures
