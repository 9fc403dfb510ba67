-- `Count::on` meets its contract. Assumes nothing.
use Rattle.std.proofs.Common.{rules, tests, ◌∙◌}
use Rattle.std.proofs.lemmas.Iterator.{YieldsList-from_slice}
use Rattle.std.proofs.lemmas.Iterator.Consumers.{fold_from_yields_List}
use Rattle.store.specs.Kept.{count_byte}
use Rattle.store.proofs.Counted.{counted_fold}
use Rattle.store.proofs.count.Count.on.Goals as goal

pub returns : goal.returns
returns c =
    fold_from_yields_List _ count_byte _ _ c.fold.ensures.ran (YieldsList-from_slice c.args.bytes.now cc) (λ a x b q k. search (rules, tests))
    ∙ counted_fold c.args.self c.args.bytes.now
