-- `Settling::take_text` meets its contract. Assumes nothing.
use native.Mathlib.Omega.{arith}
use mathlib.Core.Path.{sym, ◌∙◌}
use Rattle.lines.proofs.Settlings.{sizes_text, filter_text, run_text, over_text}
use Rattle.lines.proofs.settle.Settling.take_text.Goals as goal

pub returns-in-1 : goal.returns-in-1
returns-in-1 c = c.led.ensures ∙ c.take_sizes.ensures ∙ sym (sizes_text _ _ c.in-1.is)

pub returns-in-2 : goal.returns-in-2
returns-in-2 c = c.led-in-2.ensures ∙ c.take_filter.ensures ∙ sym (filter_text _ _ c.in-2.is)

pub returns-in_default : goal.returns-in_default
returns-in_default c =
    c.stop.ensures ∙ sym (over_text _ _ (λ e. omega (arith, e)) (λ e. omega (arith, e)) (omega (arith, c.if-runs_of-turn_of.true, c.turn_of.ensures, c.runs_of.ensures)))

pub returns-in_default-2 : goal.returns-in_default-2
returns-in_default-2 c =
    c.led-in_default-2.ensures ∙ c.take_run.ensures
    ∙ sym (run_text _ _ (λ e. omega (arith, e)) (λ e. omega (arith, e)) (omega (arith, c.if-runs_of-turn_of.false, c.turn_of.ensures, c.runs_of.ensures)))
