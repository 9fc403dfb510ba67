-- DOCUMENT 01'S 'The station program', sentence by sentence: what the definition of `turn` comes to. Assumes nothing.
use Rattle.std.specs.Prelude.{Ok, Err}
use Prim.Native.Nat.{ℕ, ◌<◌}
use mathlib.Core.Path.{◌≡◌, refl, ap, ◌∙◌}
use mathlib.Core.List.{List, [], ◌∷◌, ◌++◌}
use mathlib.Core.Option.{none}
use lib.ListN.{length}
use Rattle.units.specs.declared.labels.RoundLabel.{RoundLabel}
use Rattle.units.specs.declared.refusal.Refusal.{Refusal}
use Rattle.units.specs.declared.refusal.Refusal.TheVariants.{Closed, Long}
use Rattle.units.specs.Limits.{line_top}
use Rattle.units.proofs.InRange.{group_fits_lem}
use Rattle.message.specs.declared.head.Head.TheVariants.{Start}
use Rattle.message.specs.View.{as_start}
use Rattle.lines.specs.Reading.{read_line}
use Rattle.lines.specs.Settling.{settle_line}
use Rattle.lines.proofs.Refusing.{read_long}
use Rattle.lines.proofs.RoundTrip.{read_fits}
use Rattle.controller.specs.Answers.{Answer}
use Rattle.controller.specs.Effects.{applied}
use Rattle.controller.specs.Start.{start_of}
use Rattle.controller.specs.Step.{planned}
use Rattle.session.specs.declared.stage.Core.{Core}
use Rattle.session.specs.declared.stage.Stage.{Stage}
use Rattle.session.specs.declared.stage.Stage.TheVariants.{Settling as AtSettings, Waiting, Running, Ended}
use Rattle.session.specs.Demand.{spoken_in}
use Rattle.session.specs.Reach.{FitsAt, CoreFits}
use Rattle.session.specs.Station.{closing, answers}
use Rattle.session.specs.Turn.{Turn, numbers_in, group_in, settled_in, running_with, quiet, refusing, settles_to, waits_for, hears, sent_text, verdict_text, answer_text, step_turn, turn_by, stepping, turn}
use Rattle.session.proofs.Demand2.{turn_steps}
use Rattle.session.proofs.Same.{step_same}
use Rattle.session.proofs.Turns.{turn_ended, waits_other}

-- "Refused settings give X 15 and the end"
pub settings_end : (c : Core) (line : List ℕ) (why : Refusal) → c.stage ≡ AtSettings → (settle_line c.settling line).answer ≡ Err why
    → turn c line ≡ refusing (settled_in c Ended (settle_line c.settling line).next) why
unfolding turn_by settles_to
settings_end c line why s e = rw (s, e)

-- the end: nothing more is written, whatever comes
pub ended_quiet : (c : Core) (ls : List (List ℕ)) → c.stage ≡ Ended → answers c ls ≡ []
unfolding answers closing
ended_quiet c [] s = rw s
ended_quiet c (l ∷ ls) s = ap {B = List ℕ} (λ (t : Turn). t.text ++ answers t.next ls) (turn_ended stepping c l s) ∙ ended_quiet c ls s

-- "A line over 600 bytes is refused once, up to its line feed"
over_at : (c : Core) (line : List ℕ) (stage : Stage) → (stage ≡ AtSettings → ⊥) → (stage ≡ Ended → ⊥) → FitsAt c stage → line_top < length line → turn_by stepping c line stage ≡ refusing c Long
unfolding turn_by hears
over_at c line AtSettings p q f h = absurd (p refl)
over_at c line Waiting p q f h = rw (read_long (group_in c) line (group_fits_lem (numbers_in c) f) h)
over_at c line Running p q f h = rw (read_long (group_in c) line (group_fits_lem (numbers_in c) f.0) h)
over_at c line Ended p q f h = absurd (q refl)

pub long_once : (c : Core) (line : List ℕ) → (c.stage ≡ AtSettings → ⊥) → (c.stage ≡ Ended → ⊥) → CoreFits c → line_top < length line → turn c line ≡ refusing c Long
long_once c line p q f h = over_at c line c.stage p q f h

-- "Before the first B another line that passes 1 to 6 is 9", and changes nothing
waits_at : (c : Core) (line : List ℕ) (stage : Stage) → stage ≡ Waiting → (read_line (group_in c) line).verdict ≡ Ok tt → as_start (spoken_in c line).head ≡ none → turn_by stepping c line stage ≡ refusing c Closed
unfolding turn_by hears
waits_at c line stage s v n = rw (s, v) (waits_other c (spoken_in c line).head n)

pub waits_closed : (c : Core) (line : List ℕ) → c.stage ≡ Waiting → (read_line (group_in c) line).verdict ≡ Ok tt → as_start (spoken_in c line).head ≡ none → turn c line ≡ refusing c Closed
waits_closed c line s v n = waits_at c line c.stage s v n

-- B is what is waited for
pub first_start : (c : Core) (line : List ℕ) (own : ℕ) (floor : RoundLabel) → c.stage ≡ Waiting → (read_line (group_in c) line).verdict ≡ Ok tt → (spoken_in c line).head ≡ Start own floor
    → turn c line ≡ quiet (running_with c (start_of (numbers_in c) own floor))
unfolding turn_by hears waits_for
first_start c line own floor s v e = rw (s, v, e)

-- "a later B restarts"
pub later_start : (c : Core) (line : List ℕ) (own : ℕ) (floor : RoundLabel) → c.stage ≡ Running → CoreFits c → (read_line (group_in c) line).verdict ≡ Ok tt → (spoken_in c line).head ≡ Start own floor
    → turn c line ≡ quiet (running_with c (start_of (numbers_in c) own floor))
unfolding answer_text sent_text verdict_text planned applied
later_start c line own floor s f v e =
    let g : FitsAt c Running = rw s at f in
    turn_steps c line s v
    ∙ ap (λ (r : Answer). step_turn c r) (step_same (numbers_in c) c.controller (spoken_in c line) g.0 g.1 (read_fits (group_in c) line v))
    ∙ rw e
