-- `bad_serial` meets its contract. Assumes nothing.
use mathlib.Core.Path.{◌≡◌}
use mathlib.Core.Bool.{true, not}
use Rattle.std.proofs.Common.{rules, tests, ◌∙◌}
use Rattle.std.proofs.lemmas.Iterator.{YieldsList-from_slice}
use Rattle.std.proofs.lemmas.Iterator.Search.{position_from_yields_List}
use native.Mathlib.Omega.{arith}
use lib.ListN.{length, take}
use Rattle.units.proofs.Scan.{length_mapped}
use Rattle.message.specs.Settings.{certificate_fits, no_certificate}
use Rattle.store.proofs.Firsts.{place_taken}
use Rattle.store.proofs.stored.bad_serial.Goals as goal

pub returns : goal.returns
returns c =
    let s = c.args.serials in
    let long : length s.each ≡ 16 = search (c.well_formed, length_mapped) in
    position_from_yields_List (λ x. not (certificate_fits true x)) _ _ _ c.position.ensures.ran (YieldsList-from_slice (take s.m s.each) cc) (λ x b q k. search (rules, tests))
    ∙ place_taken (λ x. not (certificate_fits true x)) s.each no_certificate s.m (omega (arith, c.requires, long))
