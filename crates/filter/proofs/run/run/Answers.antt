-- `run` meets its contract: the code's calls, in the definition's order. Assumes nothing.
use Rattle.std.proofs.Common.{◌≡◌, ℕ, Bool, true, false, sym, ap, ◌∙◌}
use lib.Ieee.{Float}
use Rattle.units.specs.declared.estimate.Estimate.{Estimate}
use Rattle.units.specs.Limits.{variance_top}
use Rattle.floats.specs.Bits.{of_whole}
use Rattle.floats.proofs.Limits.{variance_top_lem}
use Rattle.filter.specs.declared.run.Outcome.TheVariants.{Updated, Predicted}
use Rattle.filter.specs.Run.{limited, grown, measured, gain, moved, shrunk, outcome}
use Rattle.filter.proofs.run.run.Goals as goal

module _ (e : Estimate) (n q r raw factor : ℕ) (p1 x p : Float) (g : p1 ≡ grown e.variance n q) where
  updated : (z k : Float) → z ≡ measured raw factor → k ≡ gain p1 r → x ≡ moved e.x k z → p ≡ shrunk k p1 → Updated x p ≡ outcome e n q r true raw factor
  unfolding outcome
  updated z k Z K X P = cc

  predicted : (top : Float) → top ≡ of_whole variance_top → p ≡ limited top p1 → Predicted p ≡ outcome e n q r false raw factor
  unfolding outcome
  predicted top H P = cc

pub returns-then-chosen : goal.returns-then-chosen
returns-then-chosen c =
    let gained = c in
    let then = gained in
    let a = then.args in
    updated a.e a.n a.q a.r a.raw a.factor _ _ _ then.grow-p1.ensures _ _ gained.measure-z.ensures gained.gain_of-k.ensures c.move_by.ensures c.shrink.ensures
    ∙ ap (λ (b : Bool). outcome a.e a.n a.q a.r b a.raw a.factor) (sym then.if-chosen.true)

pub returns-else-chosen : goal.returns-else-chosen
returns-else-chosen c =
    let a = c.args in
    predicted a.e a.n a.q a.r a.raw a.factor _ c.limit.result _ c.grow-p1.ensures _ variance_top_lem c.limit.ensures
    ∙ ap (λ (b : Bool). outcome a.e a.n a.q a.r b a.raw a.factor) (sym c.if-chosen.false)
