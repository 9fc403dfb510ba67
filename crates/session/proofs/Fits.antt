-- A CORE STAYS IN RANGE: from the start on, whatever line comes. Assumes nothing.
use Rattle.std.specs.Prelude.{Err, Ok}
use Prim.Native.Nat.{ℕ}
use mathlib.Core.Path.{◌≡◌, refl, ◌∙◌}
use mathlib.Core.Bool.{true}
use mathlib.Core.List.{List, [], ◌∷◌, ◌++◌, append_assoc}
use lib.Dec.{ltb}
use Rattle.units.specs.Refusal.{Verdict}
use Rattle.units.specs.Labels.{floor_fits}
use Rattle.units.specs.Settings.{numbers_fit}
use Rattle.units.proofs.Every.{and_left, and_right}
use Rattle.units.proofs.InRange.{numbers_exact}
use Rattle.message.specs.declared.head.Head.{Head}
use Rattle.message.specs.declared.settings.Settings.{Settings}
use Rattle.message.specs.declared.value.Message.{Message}
use Rattle.message.proofs.InRange.{settings_exact}
use Rattle.message.proofs.Views.{by_kind, start_seen}
use Rattle.message.specs.Head.{head_fits}
use Rattle.message.specs.Message.{message_fits}
use Rattle.message.specs.Settings.{settings_fit}
use Rattle.lines.specs.Settling.{Standing, settling_start, settle_line, settle_on, settle_all}
use Rattle.lines.specs.declared.settle.Wanted.TheVariants.{More, Whole}
use Rattle.lines.specs.declared.settle.Settling.{Settling}
use Rattle.lines.specs.Reading.{read_line}
use Rattle.lines.proofs.RoundTrip.{read_fits}
use Rattle.lines.proofs.WholeSettings.{settings_only}
use Rattle.controller_laws.proofs.Fits.{start_fits as controller-start, told, step_fits}
use Rattle.session.specs.declared.stage.Core.{Core}
use Rattle.session.specs.declared.stage.Stage.{Stage}
use Rattle.session.specs.declared.stage.Stage.TheVariants.{Settling as AtSettings, Waiting, Running, Ended}
use Rattle.session.specs.Reach.{Reached, FitsAt, CoreFits}
use Rattle.session.specs.Turn.{Turn, numbers_in, group_in, core_start, settles_to, waits_for, hears, turn_by, stepping, turn}

-- AT THE START nothing is read
pub start_fits : CoreFits core_start
unfolding core_start
start_fits = record { lines = []; reads = λ rest. refl }

-- WHILE THE SETTINGS COME
module _ (st : Settling) (line : List ℕ) where
  one_more : (rest : List (List ℕ)) → settle_all (line ∷ rest) st ≡ settle_on (settle_all rest) (settle_line st line).next (settle_line st line).answer
  unfolding settle_all
  one_more rest = refl

  reads_on : (r : Reached st) (rest : List (List ℕ))
      → settle_all (r.lines ++ (line ∷ []) ++ rest) settling_start ≡ settle_on (settle_all rest) (settle_line st line).next (settle_line st line).answer
  reads_on r rest = rw append_assoc (r.reads (line ∷ rest) ∙ one_more rest)

  more_reached : Reached st → (settle_line st line).answer ≡ Ok More → Reached (settle_line st line).next
  more_reached r e = record { lines = r.lines ++ (line ∷ []); reads = λ rest. reads_on r rest ∙ rw e }

  -- whole settings are in range
  whole_fits : Reached st → (settle_line st line).answer ≡ Ok Whole → settings_fit (settle_line st line).next.settings ≡ true
  whole_fits r e = (settings_only (r.lines ++ (line ∷ []) ++ []) (settle_line st line).next (reads_on r [] ∙ rw e)).fits

settings_numbers : (s : Settings) → settings_fit s ≡ true → numbers_fit s.numbers ≡ true
settings_numbers s e = (numbers_exact s.numbers).1 ((settings_exact s).0 e).numbers

settles_fits : (c : Core) (line : List ℕ) (told : Standing) → (settle_line c.settling line).answer ≡ told → Reached c.settling
    → CoreFits (settles_to c (settle_line c.settling line).next told).next
unfolding settles_to
settles_fits c line (Ok More) e r = more_reached c.settling line r e
settles_fits c line (Ok Whole) e r = settings_numbers (settle_line c.settling line).next.settings (whole_fits c.settling line r e)
settles_fits c line (Err why) e r = tt

-- BEFORE THE FIRST B
kept : (c : Core) → c.stage ≡ Waiting → numbers_fit (numbers_in c) ≡ true → CoreFits c
kept c e f = rw e f

waits_fits : (c : Core) (head : Head) → head_fits (group_in c) head ≡ true → c.stage ≡ Waiting → numbers_fit (numbers_in c) ≡ true → CoreFits (waits_for c head).next
unfolding waits_for head_fits
waits_fits c head =
    by_kind (λ (h : Head). head_fits (group_in c) h ≡ true → c.stage ≡ Waiting → numbers_fit (numbers_in c) ≡ true → CoreFits (waits_for c h).next)
    (λ v h e f. (f, controller-start (numbers_in c) v.0 v.1 f (and_left (ltb v.0 (group_in c).g) (floor_fits v.1) h) (and_right (ltb v.0 (group_in c).g) (floor_fits v.1) h)))
    (λ k n. rw n (λ h e f. kept c e f)) (start_seen head)

-- A MESSAGE HEARD
hears_fits : (c : Core) (line : List ℕ) (go : Message → Turn) (v : Verdict) → (read_line (group_in c) line).verdict ≡ v → CoreFits c
    → ((a : Message) → message_fits (group_in c) a ≡ true → CoreFits (go a).next) → CoreFits (hears go c (read_line (group_in c) line).message v).next
unfolding hears
hears_fits c line go (Ok tt) e f g = g (read_line (group_in c) line).message (read_fits (group_in c) line e)
hears_fits c line go (Err why) e f g = f

turn_fits_at : (c : Core) (line : List ℕ) (stage : Stage) → c.stage ≡ stage → FitsAt c stage → CoreFits (turn_by stepping c line stage).next
unfolding turn_by
turn_fits_at c line AtSettings e f = settles_fits c line (settle_line c.settling line).answer refl f
turn_fits_at c line Waiting e f =
    hears_fits c line (λ a. waits_for c a.head) (read_line (group_in c) line).verdict refl (rw e f) (λ a m. waits_fits c a.head (told (group_in c) a m).head e f)
turn_fits_at c line Running e f =
    hears_fits c line (stepping c) (read_line (group_in c) line).verdict refl (rw e f) (λ a m. (f.0, step_fits (numbers_in c) c.controller a f.1))
turn_fits_at c line Ended e f = rw e tt

-- EVERY LINE leaves a core in range in range
pub turn_fits : (c : Core) (line : List ℕ) → CoreFits c → CoreFits (turn c line).next
turn_fits c line f = turn_fits_at c line c.stage refl f
