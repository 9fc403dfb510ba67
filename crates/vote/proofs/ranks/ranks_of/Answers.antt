use Rattle.std.proofs.Common.{rules, arith}
use Rattle.units.proofs.Chains.{by_place}
use Rattle.vote.specs.Vote.{nobody, rank_of, ballot_of}
use Rattle.vote.proofs.ranks.ranks_of.Goals as goal

pub returns : goal.returns
returns c = by_place (λ s. rank_of (ballot_of s)) nobody 0 c.args.seats c.map.result 7 (omega arith) c.map.ensures.items.long
    (λ i lt. let t = c.map.ensures.items.at i nobody 0 lt in search (rules, t))
