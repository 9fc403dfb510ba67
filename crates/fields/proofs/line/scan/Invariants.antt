-- `scan` meets its contract: after some bytes, the tabs passed and those left make the whole. Assumes nothing.
use Rattle.fields.proofs.Scans.{Passed}
use Rattle.fields.proofs.line.scan.Given as goal

abbrev pub invariant-loop-feed : goal.invariant-loop-feed
invariant-loop-feed l = Passed l.line l.feed l.tabs
