use Rattle.std.proofs.Common.{rules, ◌≡◌, max, arith}
use Rattle.std.specs.List.{fold}
use Rattle.vote.proofs.Turns.{largest_folded}
use Rattle.vote.proofs.ranks.largest_of.Goals as goal

pub returns : goal.returns
returns c = let s : c.fold.result ≡ fold (λ m x. max m x) 0 c.args.found = search rules in omega (arith, s, largest_folded 0 c.args.found)
