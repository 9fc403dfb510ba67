-- THE STATION PROGRAM: input bytes to output bytes.
use Rattle.std.specs.Prelude.{ℕ, List, [], ◌∷◌, ◌++◌}
use Rattle.fields.specs.Lines.{lines_of}
use Rattle.lines.specs.Settling.{missing}
use Rattle.lines.specs.Writing.{refusal_line}
use Rattle.session.specs.declared.stage.Core.{Core}
use Rattle.session.specs.declared.stage.Stage.{Stage}
use Rattle.session.specs.declared.stage.Stage.TheVariants.{Settling as AtSettings, Waiting, Running, Ended}
use Rattle.session.specs.Turn.{core_start, turn}

-- input that ends within the settings lacks their next line
unfoldable pub closing : Core → Stage → List ℕ
closing c AtSettings = refusal_line (missing c.settling)
closing c Waiting = []
closing c Running = []
closing c Ended = []

unfoldable pub answers : Core → List (List ℕ) → List ℕ
answers c [] = closing c c.stage
answers c (l ∷ ls) = (turn c l).text ++ answers (turn c l).next ls

abbrev pub station : List ℕ → List ℕ
station input = answers core_start (lines_of input)
