-- The cases of a turn, as the code takes them. Assumes nothing.
use Rattle.std.specs.Prelude.{Err, Ok}
use Prim.Native.Nat.{ℕ}
use mathlib.Core.Path.{◌≡◌, refl}
use mathlib.Core.List.{List, [], ◌∷◌}
use mathlib.Core.Option.{none}
use denote.Enum.Declared.{tag_of}
use types.Run.{OneOf}
use Rattle.units.specs.declared.labels.RoundLabel.{RoundLabel}
use Rattle.units.specs.declared.refusal.Refusal.{Refusal}
use Rattle.units.specs.declared.refusal.Refusal.TheVariants.{Closed}
use Rattle.units.specs.Refusal.{Verdict}
use Rattle.message.specs.declared.head.Head.{Head}
use Rattle.message.specs.declared.head.Head.TheVariants.{Start}
use Rattle.message.specs.declared.value.Message.{Message}
use Rattle.message.specs.View.{as_start}
use Rattle.message.specs.contracts.head.Head.{the_type}
use Rattle.message.proofs.Views.{start_seen, unlisted, unlike}
use Rattle.lines.specs.declared.read.Line.{Line}
use Rattle.lines.specs.Settling.{Standing, settle_line}
use Rattle.lines.specs.declared.settle.Wanted.TheVariants.{More, Whole}
use Rattle.lines.specs.declared.settle.Settled.{Settled}
use Rattle.lines.specs.declared.settle.Settling.{Settling}
use Rattle.lines.specs.Reading.{read_line}
use Rattle.session.specs.declared.stage.Core.{Core}
use Rattle.session.specs.declared.stage.Stage.{Stage}
use Rattle.session.specs.declared.stage.Stage.TheVariants.{Settling as AtSettings, Waiting, Running, Ended}
use Rattle.session.specs.Feeding.{Heard}
use Rattle.session.specs.Turn.{Turn, quiet, refusing, settled_in, settles_to, hears, waits_for, group_in, turn_by}

module _ (c : Core) (next : Settling) {a : Standing} where
  pub settles_more : a ≡ Ok More → settles_to c next a ≡ quiet (settled_in c AtSettings next)
  unfolding settles_to
  settles_more e = rw e

  pub settles_whole : a ≡ Ok Whole → settles_to c next a ≡ quiet (settled_in c Waiting next)
  unfolding settles_to
  settles_whole e = rw e

  pub settles_refused : (why : Refusal) → a ≡ Err why → settles_to c next a ≡ refusing (settled_in c Ended next) why
  unfolding settles_to
  settles_refused why e = rw e

-- before the first B every kind but B is 9; the code's other arm is told the tags of all but B
pub waits_other : (c : Core) (head : Head) → as_start head ≡ none → waits_for c head ≡ refusing c Closed
unfolding waits_for
waits_other c head n = rw n

abbrev unstarting : List ℕ
unstarting = 0 ∷ 1 ∷ 2 ∷ 3 ∷ 4 ∷ 5 ∷ 6 ∷ 7 ∷ 8 ∷ 9 ∷ 10 ∷ 12 ∷ []

pub waits_unlisted : (c : Core) (head : Head) → OneOf unstarting (tag_of the_type head) → waits_for c head ≡ refusing c Closed
waits_unlisted c head o = waits_other c head (unlisted unstarting 11 (λ v. refl) tt (start_seen head) o)

-- the same, where that arm is told that the head is no B
pub waits_unlike : (c : Core) (head : Head) → ((own : ℕ) (floor : RoundLabel) → head ≡ Start own floor → ⊥) → waits_for c head ≡ refusing c Closed
waits_unlike c head n = waits_other c head (unlike (λ v. n v.0 v.1) (start_seen head))

module _ (go : Message → Turn) (c : Core) (a : Message) {v : Verdict} where
  pub hears_taken : v ≡ Ok tt → hears go c a v ≡ go a
  unfolding hears
  hears_taken e = rw e

  pub hears_refused : (why : Refusal) → v ≡ Err why → hears go c a v ≡ refusing c why
  unfolding hears
  hears_refused why e = rw e

-- by stage; what was read or settled stands as the code has it
module _ (go : Core → Message → Turn) (c : Core) (line : List ℕ) {s : Stage} where
  pub turn_settles : (st : Settled) → s ≡ AtSettings → st ≡ settle_line c.settling line → turn_by go c line s ≡ settles_to c st.next st.answer
  unfolding turn_by
  turn_settles st e h = rw (e, h)

  pub turn_waits : (l : Line) → s ≡ Waiting → l ≡ read_line (group_in c) line → turn_by go c line s ≡ hears (λ a. waits_for c a.head) c l.message l.verdict
  unfolding turn_by
  turn_waits l e h = rw (e, h)

  pub turn_runs : (l : Line) → s ≡ Running → l ≡ read_line (group_in c) line → turn_by go c line s ≡ hears (go c) c l.message l.verdict
  unfolding turn_by
  turn_runs l e h = rw (e, h)

  pub turn_ended : s ≡ Ended → turn_by go c line s ≡ quiet c
  unfolding turn_by
  turn_ended e = rw e

-- a line as it was read
module _ (c : Core) (text : List ℕ) (l : Line) {s : Stage} where
  pub heard_settles : s ≡ AtSettings → Heard c text l s
  unfolding Heard
  heard_settles e = rw e tt

  pub heard_ended : s ≡ Ended → Heard c text l s
  unfolding Heard
  heard_ended e = rw e tt

  pub heard_waits : s ≡ Waiting → l ≡ read_line (group_in c) text → Heard c text l s
  unfolding Heard
  heard_waits e h = rw e h

  pub heard_runs : s ≡ Running → l ≡ read_line (group_in c) text → Heard c text l s
  unfolding Heard
  heard_runs e h = rw e h

  pub waits_heard : s ≡ Waiting → Heard c text l s → l ≡ read_line (group_in c) text
  unfolding Heard
  waits_heard e h = rw e at h

  pub runs_heard : s ≡ Running → Heard c text l s → l ≡ read_line (group_in c) text
  unfolding Heard
  runs_heard e h = rw e at h
