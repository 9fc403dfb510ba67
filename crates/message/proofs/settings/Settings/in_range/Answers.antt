-- `Settings::in_range` meets its contract: the numbers, and all sixteen certificates, as `every` says it. Assumes nothing.
use Rattle.std.proofs.Common.{◌≡◌, Bool, ◌&&◌, length, nat_lt, ◌∙◌, rules}
use borrow.Author.Tests.{tests, eq-eqb}
use Rattle.units.specs.Settings.{numbers_fit}
use Rattle.units.proofs.Every.{and_true, then_both, else_both}
use Rattle.units.proofs.Chains.{placed_all}
use Rattle.message.specs.declared.settings.Settings.{Settings}
use Rattle.message.specs.Settings.{certificate_fits, no_certificate, sixteen, settings_fit}
use Rattle.message.proofs.settings.Settings.in_range.Goals as goal

headed : (s : Settings) {r : Bool} → r ≡ numbers_fit s.numbers → length s.numbers.factors ≡ 16 → length s.numbers.weights ≡ 16 → length s.certificates ≡ 16
    → r ≡ (numbers_fit s.numbers && sixteen s)
headed s p x y z = rw (eq-eqb _ 16 x, eq-eqb _ 16 y, eq-eqb _ 16 z) (p ∙ and_true (numbers_fit s.numbers))

pub returns-then-in_range : goal.returns-then-in_range
unfolding settings_fit
returns-then-in_range c =
    then_both (headed c.args.self c.in_range.ensures (search rules) (search rules) (search rules)) c.if-in_range.true
    (placed_all c.args.self.certificates no_certificate 16 c.all.new.self (λ i. certificate_fits (nat_lt i c.args.self.numbers.group.m)) c.all.ensures.ran (cc) (cc)
    (λ x b q k. search (rules, tests)) (search rules))

pub returns-else-in_range : goal.returns-else-in_range
unfolding settings_fit
returns-else-in_range c = else_both _ (headed c.args.self c.in_range.ensures (search rules) (search rules) (search rules)) c.if-in_range.false
