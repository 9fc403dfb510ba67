use Rattle.std.proofs.Common.{rules, ◌≡◌, eqb, arith}
use Rattle.std.specs.List.{count_by}
use Rattle.std.proofs.lemmas.List.Sums.{count_by-le-length}
use Rattle.vote.proofs.Turns.{tally_counted}
use Rattle.vote.proofs.ranks.tally.Goals as goal

pub returns : goal.returns
returns c =
    let l = c.args.ranks in
    let s : c.count.result ≡ count_by (λ y. eqb y c.args.x) l = search rules in
    (omega (arith, s, tally_counted c.args.x l), omega (arith, s, count_by-le-length (λ y. eqb y c.args.x) l))
