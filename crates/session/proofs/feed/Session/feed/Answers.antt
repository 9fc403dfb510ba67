-- `Session::feed` meets its contract. Assumes nothing.
use native.Mathlib.Omega.{arith}
use Rattle.fields.proofs.Holding.{feed_within}
use Rattle.session.proofs.Feeds.{feed_held, feed_heard, feed_turned}
use Rattle.session.proofs.feed.Session.feed.Goals as goal

pub returns-then-feed-input : goal.returns-then-feed-input
returns-then-feed-input c = let a = c.args in feed_held a.self a.input.now _ c.first-feed.ensures.0 _ a.out.now c.if-feed-input.true c.hold.ensures

pub overflow_add-feed : goal.overflow_add-feed
overflow_add-feed c = let a = c.args in omega (arith, feed_within a.input.now _ c.first-feed.ensures.0, c.if-feed-input.false)

pub turn-turned-requires : goal.turn-turned-requires
turn-turned-requires c = let a = c.args in feed_heard a.self a.input.now _ c.first-feed.ensures.0 _ c.first-feed.ensures.1 c.if-feed-input.false

pub overflow_add-feed-2 : goal.overflow_add-feed-2
overflow_add-feed-2 c = let a = c.args in omega (arith, feed_within a.input.now _ c.first-feed.ensures.0, c.if-feed-input.false)

pub returns : goal.returns
returns c =
    let a = c.args in
    feed_turned a.self a.input.now _ c.first-feed.ensures.0 _ _ a.out.now _ c.if-feed-input.false c.turn-turned.ensures c.line_done.ensures
