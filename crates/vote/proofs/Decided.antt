-- What a decided vote says: every completion has the chosen digest as winner, nothing is out of range, and the chosen digest is legal, for somebody voted it. Assumes nothing.
use Rattle.std.specs.Prelude.{Ok, Some}
use Prim.Native.Nat.{◌≤◌}
use mathlib.Core.Path.{◌≡◌, subst}
use mathlib.Core.Bool.{true}
use Rattle.vote.specs.declared.digest.Digest.{Digest}
use Rattle.vote.specs.declared.votes.Votes.{Votes}
use Rattle.vote.specs.Digest.{legal}
use Rattle.vote.specs.Vote.{Answers, Decides, ballots, votes_fit}
use Rattle.vote.specs.Decision.{decision}
use Rattle.vote.proofs.Answer.{decision_exact}
use Rattle.vote.proofs.Counting.{all_voted, as_it_is}
use Rattle.vote.proofs.Facts.{group_legal, round}

module _ (v : Votes) (d : Digest) (e : decision v ≡ Ok (Some d)) where
  pub decided_fit : votes_fit v ≡ true
  decided_fit = (subst (Answers v) e (decision_exact v)).0

  pub decided_for : Decides v d
  decided_for = (subst (Answers v) e (decision_exact v)).1

  pub decided_legal : legal v.group.m v.label d ≡ true
  decided_legal =
      let q = subst (Answers v) e (decision_exact v) in
      all_voted _ (ballots v) (group_legal v q.0) d (q.1 (ballots v) (as_it_is v.group.m v.label (ballots v))).voted

  pub decided_small : v.group.m ≤ 16
  decided_small = (round v decided_fit).runs_high
