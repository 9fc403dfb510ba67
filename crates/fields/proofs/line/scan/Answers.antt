-- `scan` meets its contract: after some bytes, the tabs passed and those left make the whole. Assumes nothing.
use Rattle.fields.proofs.Scans.{scan_feed, scan_end, scan_tab, scan_other}
use Rattle.fields.proofs.line.scan.Goals as goal
use Rattle.fields.proofs.line.scan.Goals.{then-b-eq-TAB, else-b-eq-TAB}

pub returns-then-b-eq-LINE_FEED : goal.returns-then-b-eq-LINE_FEED
returns-then-b-eq-LINE_FEED c = scan_feed _ _ _ c.loop-feed.invariant c.loop-feed-test.true c.if-b-eq-LINE_FEED.true

pub loop-feed-preserved : goal.loop-feed-preserved
loop-feed-preserved c = let l = c.loop-feed in let n = c.if-b-eq-LINE_FEED.false in
    elim c.if-b-eq-TAB.branch [
      | then-b-eq-TAB w ↦ rw w.tabs-is (scan_tab _ _ _ l.invariant c.loop-feed-test.true n w.if-b-eq-TAB.true)
      | else-b-eq-TAB w ↦ rw w.tabs-is (scan_other _ _ _ l.invariant c.loop-feed-test.true n w.if-b-eq-TAB.false)
    ]

pub returns : goal.returns
returns c = scan_end _ _ _ c.loop-feed.invariant c.loop-feed-test.false
