-- `settings_of` meets its contract. Assumes nothing.
use mathlib.Core.Bool.{cond}
use lib.Dec.{ltb}
use lib.ListN.{length, get_or}
use Rattle.std.proofs.Common.{rules, tests}
use Rattle.units.proofs.Counted.{made_at}
use Rattle.message.specs.Settings.{no_certificate}
use Rattle.store.specs.Row.{no_row}
use Rattle.store.specs.Runs.{factor_at}
use Rattle.store.proofs.Fills.{settings_made}
use Rattle.store.proofs.picked.settings_of.Goals as goal

pub returns : goal.returns
returns c =
    let runs = c.args.runs.now in
    settings_made runs _ _ _
    c.from_fn.ensures.items.long (made_at _ _ (factor_at (length runs) (λ j. get_or runs j no_row)) (λ i y q k. search (rules, tests)) 0 _ 16 c.from_fn.ensures.items)
    c.from_fn-2.ensures.items.long (made_at _ _ (λ i. cond (ltb i (length runs)) 1 0) (λ i y q k. search (rules, tests)) 0 _ 16 c.from_fn-2.ensures.items)
    c.from_fn-3.ensures.items.long (made_at _ _ (λ i. (get_or runs i no_row).certificate) (λ i y q k. search (rules, tests)) no_certificate _ 16 c.from_fn-3.ensures.items)
