-- WHAT HOLDS OF A CORE ON THE WAY, by its stage: the settings were read from the start, and what came of them is in range.
use Rattle.std.specs.Prelude.{◌≡◌, true, List, ◌++◌, ℕ}
use Rattle.units.specs.Settings.{numbers_fit}
use Rattle.lines.specs.declared.settle.Settling.{Settling}
use Rattle.lines.specs.Settling.{settling_start, settle_all}
use Rattle.controller.specs.State.{controller_fits}
use Rattle.session.specs.declared.stage.Core.{Core}
use Rattle.session.specs.declared.stage.Stage.{Stage}
use Rattle.session.specs.declared.stage.Stage.TheVariants.{Settling as AtSettings, Waiting, Running, Ended}
use Rattle.session.specs.Turn.{numbers_in}

-- lines that led here from the start
pub record Reached (st : Settling) : Type 0 where
  pub lines : List (List ℕ)
  pub reads : (rest : List (List ℕ)) → settle_all (lines ++ rest) settling_start ≡ settle_all rest st

abbrev pub FitsAt : Core → Stage → Type 0
FitsAt c AtSettings = Reached c.settling
FitsAt c Waiting = numbers_fit (numbers_in c) ≡ true
FitsAt c Running = (numbers_fit (numbers_in c) ≡ true) × (controller_fits (numbers_in c) c.controller ≡ true)
FitsAt c Ended = Unit {0}

abbrev pub CoreFits : Core → Type 0
CoreFits c = FitsAt c c.stage
