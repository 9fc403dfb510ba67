-- FROM A NEW PROGRAM TO A RUNNING CONTROLLER: where lines lead, and what the lines of settings and a B lead to.
use Rattle.std.specs.Prelude.{ℕ, ◌≡◌, List, [], ◌∷◌, ◌++◌}
use Rattle.units.specs.declared.labels.RoundLabel.{RoundLabel}
use Rattle.message.specs.declared.head.Head.TheVariants.{Start}
use Rattle.message.specs.declared.settings.Settings.{Settings}
use Rattle.message.specs.Message.{plain}
use Rattle.lines.specs.Settings.{setting_lines}
use Rattle.lines.specs.Writing.{spell_line}
use Rattle.controller.specs.Start.{start_of}
use Rattle.session.specs.declared.feed.Session.{Session}
use Rattle.session.specs.declared.stage.Core.{Core}
use Rattle.session.specs.declared.stage.Stage.TheVariants.{Waiting, Running}
use Rattle.session.specs.Feeding.{session_start}
use Rattle.session.specs.Pieces.{Feeds}
use Rattle.session.specs.Turn.{core_start, turn}

-- where lines lead a program
unfoldable pub led : Core → List (List ℕ) → Core
led c [] = c
led c (l ∷ ls) = led (turn c l).next ls

-- .. and what it writes on the way: the texts of its turns, one after another
unfoldable pub told : Core → List (List ℕ) → List ℕ
told c [] = []
told c (l ∷ ls) = (turn c l).text ++ told (turn c l).next ls

-- a session that has gone just by the turns of these lines, and wrote just their texts
abbrev pub LedTo : List ℕ → List (List ℕ) → Session → Type 0
LedTo out ls y = (y.core ≡ led core_start ls) × (out ≡ told core_start ls)

-- lines as one input
unfoldable pub input_of : List (List ℕ) → List ℕ
input_of [] = []
input_of (l ∷ ls) = l ++ input_of ls

-- A NEW SESSION THAT WAS FED THE SETTINGS, line by line up to the one that makes them whole, has written nothing and waits for its first B, with just these settings ..
pub record Settles (s : Settings) : Type 0 where
  pub lines : List (List ℕ)
  pub rest : List (List ℕ)
  pub all : lines ++ rest ≡ setting_lines s
  pub end : Session
  pub calls : Feeds session_start (input_of lines) [] end
  pub waits : end.core.stage ≡ Waiting
  pub settings : end.core.settling.settings ≡ s
  -- .. and that it is led there, line by line
  pub core : end.core ≡ led core_start lines

-- .. and a B after them gives it a running controller, at its start
pub record Starts (s : Settings) (own : ℕ) (floor : RoundLabel) (lines : List (List ℕ)) : Type 0 where
  pub end : Session
  pub calls : Feeds session_start (input_of (lines ++ (spell_line s.numbers.group (plain (Start own floor)) ∷ []))) [] end
  pub runs : end.core.stage ≡ Running
  pub controller : end.core.controller ≡ start_of s.numbers own floor
