-- `Certificate::in_range` meets its contract: its length, and all sixteen bytes, as `every` says it. Assumes nothing.
use Rattle.std.proofs.Common.{nat_lt, rules}
use borrow.Author.Tests.{tests}
use Rattle.units.proofs.Chains.{placed_all, and_long}
use Rattle.units.proofs.Every.{then_both, else_both}
use Rattle.message.specs.Settings.{byte_place, certificate_fits}
use Rattle.message.proofs.certificate.Certificate.in_range.Goals as goal

pub returns-then-len_in_range : goal.returns-then-len_in_range
unfolding certificate_fits
returns-then-len_in_range c =
    then_both (and_long c.args.self.bytes 16 (search rules) c.len_in_range.ensures) c.if-len_in_range.true
    (placed_all c.args.self.bytes 0 16 c.all.new.self (λ i. byte_place (nat_lt i c.args.self.len)) c.all.ensures.ran (cc) (cc) (λ x b q k. search (rules, tests)) (search rules))

pub returns-else-len_in_range : goal.returns-else-len_in_range
unfolding certificate_fits
returns-else-len_in_range c = else_both _ (and_long c.args.self.bytes 16 (search rules) c.len_in_range.ensures) c.if-len_in_range.false
