-- What `numbers_of`, `write`, `write_plain` and `write_refusal` need. Assumes nothing.
use Rattle.std.specs.Prelude.{Err}
use Prim.Native.Nat.{ℕ, ◌+◌, ◌*◌, ◌≤◌}
use mathlib.Core.Path.{◌≡◌, refl}
use mathlib.Core.List.{List, [], ◌∷◌, ◌++◌, append_assoc}
use mathlib.Core.Bool.{Bool, true, false, ◌&&◌}
use native.Mathlib.Omega.{arith}
use lib.ListN.{length, length-append}
use Rattle.units.specs.declared.refusal.Refusal.{Refusal}
use Rattle.units.specs.declared.refusal.Refusal.TheVariants.{Range}
use Rattle.units.specs.declared.settings.Group.{Group}
use Rattle.units.specs.Pick.{pick}
use Rattle.units.specs.Refusal.{number_of}
use Rattle.units.specs.Settings.{group_fits}
use Rattle.units.proofs.Every.{and_three}
use Rattle.units.proofs.InRange.{group_range}
use Rattle.floats.specs.Ranges.{state_fits, targets_fit}
use Rattle.message.specs.declared.head.Carried.{Carried}
use Rattle.message.specs.declared.value.Message.{Message}
use Rattle.message.specs.Head.{carried, head_fits}
use Rattle.message.specs.Message.{message_fits}
use Rattle.message.specs.Readings.{readings_fit}
use Rattle.lines.specs.declared.kind.Kind.{Kind}
use Rattle.lines.specs.declared.kind.Kind.TheVariants.{Refused as OfRefused}
use Rattle.lines.specs.Writing.{Written, line_of, spell_line, refusal_line, answer_of, buffer_of, write_answer, write_buffer}
use Rattle.lines.specs.Lists.{joined}
use Rattle.lines.specs.Values.{kind_is, head_values, raw_of, floats_of, target_of, numbers_of}
use Rattle.lines.proofs.Adding.{Roomy, roomy}
use Rattle.lines.proofs.Arrays.{floats_length}

-- WHAT A MESSAGE IN RANGE HAS IN RANGE
pub group_runs : (s : Group) → group_fits s ≡ true → (1 ≤ s.m) × (s.m ≤ 16)
group_runs s e = (group_range s e).runs

pub group_senders : (s : Group) → group_fits s ≡ true → (1 ≤ s.g) × (s.g ≤ 7)
group_senders s e = (group_range s e).controllers

pub record Fits (s : Group) (a : Message) : Type 0 where
  pub group : group_fits s ≡ true
  pub head : head_fits s a.head ≡ true
  pub readings : readings_fit (carried s a.head).readings a.readings ≡ true
  pub estimates : state_fits (carried s a.head).estimates a.estimates ≡ true
  pub targets : targets_fit (carried s a.head).targets a.targets ≡ true

pub message_fits_lem : (s : Group) (a : Message) → message_fits s a ≡ true → Fits s a
unfolding message_fits
message_fits_lem s a e =
    let c = carried s a.head in
    let G = group_fits s in
    let H = head_fits s a.head in
    let R = readings_fit c.readings a.readings in
    let E = state_fits c.estimates a.estimates in
    let T = targets_fit c.targets a.targets in
    let p = and_three (G && H && R) E T e in
    let q = and_three G H R p.0 in
    record { group = q.0; head = q.1; readings = q.2; estimates = p.1; targets = p.2 }

-- `numbers_of`
module _ (s : Group) (a : Message) (fit : message_fits s a ≡ true) (c : Carried) (ce : c ≡ carried s a.head) where
  room : Roomy s a.head a.readings
  room = roomy s a.head a.readings (group_runs s (message_fits_lem s a fit).group).1

  all_few : length (head_values a.head ++ joined (raw_of c.readings a.readings) 16) + 2 * c.estimates + c.targets ≤ 34
  all_few = rw ce room.all

  pub head_few : length (head_values a.head) ≤ 4
  head_few = room.head

  pub raws_few : (length (head_values a.head ++ joined (raw_of c.readings a.readings) 16) + 2 * c.estimates ≤ 34) × (c.estimates ≤ 16)
  raws_few = (omega (arith, all_few), rw ce room.runs)

  pub floats_few : (length (head_values a.head ++ joined (raw_of c.readings a.readings) 16 ++ joined (floats_of a.estimates) c.estimates) + c.targets ≤ 34) × (c.targets ≤ 16)
  floats_few = (
    omega (arith, all_few, length-append (head_values a.head ++ joined (raw_of c.readings a.readings) 16) (joined (floats_of a.estimates) c.estimates), floats_length a.estimates c.estimates),
    rw ce room.shares,
  )

  pub all_numbers : head_values a.head ++ joined (raw_of c.readings a.readings) 16 ++ joined (floats_of a.estimates) c.estimates ++ joined (target_of a.targets) c.targets ≡ numbers_of s a
  unfolding numbers_of
  all_numbers = rw ce (simp append_assoc)

-- `write` and `write_plain`: what may be written is, by a test
module _ (fit b : Bool) (be : b ≡ fit) (text buf : List ℕ) where
  pub write_range : b ≡ false → (Err Range ≡ write_answer fit text buf) × (buf ≡ write_buffer fit text buf)
  unfolding write_answer write_buffer pick
  write_range t = rw (← be, t) (refl, refl)

  pub write_put : b ≡ true → (line : List ℕ) (r : Written) (d : List ℕ) → text ≡ line → (r ≡ answer_of line buf) × (d ≡ buffer_of line buf)
      → (r ≡ write_answer fit text buf) × (d ≡ write_buffer fit text buf)
  unfolding write_answer write_buffer pick
  write_put t line r d e h = rw (← be, t, e) h

pub spelled : (s : Group) (a : Message) (k : Kind) (vs : List ℕ) → k ≡ kind_is a.head → vs ≡ numbers_of s a → spell_line s a ≡ line_of k vs
unfolding spell_line
spelled s a k vs ke ve = rw (ke, ve)

-- `write_refusal`
pub refusal_put : (why : Refusal) (n : ℕ) (vs buf : List ℕ) (r : Written) (d : List ℕ) → n ≡ number_of why → vs ≡ n ∷ []
    → (r ≡ answer_of (line_of OfRefused vs) buf) × (d ≡ buffer_of (line_of OfRefused vs) buf)
    → (r ≡ answer_of (refusal_line why) buf) × (d ≡ buffer_of (refusal_line why) buf)
unfolding refusal_line
refusal_put why n vs buf r d ne ve h = rw (← ne, ← ve) h
