-- `reading_in` meets its contract. Assumes nothing.
use mathlib.Core.Path.{◌≡◌}
use native.Mathlib.Omega.{arith}
use Rattle.lines.proofs.Straights.{field_on, trod_after, reading_decimal}
use Rattle.lines.proofs.straight.reading_in.Goals as goal

pub returns : goal.returns
returns c = λ at e.
    let one = trod_after c.requires (omega arith) c.limit_at.ensures c.after_tab.ensures (field_on c.ok.ensures.value c.in_ok-label.was) in
    let two = trod_after one (omega arith) c.limit_at-2.ensures c.after_tab-2.ensures (field_on c.ok-2.ensures.value c.in_ok-run.was) in
    let three = trod_after two (omega arith) c.limit_at-3.ensures c.after_tab-3.ensures (field_on c.ok-3.ensures.value c.in_ok-raw.was) in
    let q : c.in_ok-raw.raw.next ≡ at = cc in rw q at three

pub after_tab-requires : goal.after_tab-requires
after_tab-requires c = reading_decimal _ _ _ _ c.limit_at.ensures

pub after_tab-requires-2 : goal.after_tab-requires-2
after_tab-requires-2 c = reading_decimal _ _ _ _ c.limit_at-2.ensures

pub after_tab-requires-3 : goal.after_tab-requires-3
after_tab-requires-3 c = reading_decimal _ _ _ _ c.limit_at-3.ensures
