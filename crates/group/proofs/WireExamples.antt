-- The premises on the wire can be met too: a script that passes the test, and whose messages can be written, is a run over lines. Assumes nothing.
use Prim.Native.Nat.{ℕ, ◌-◌}
use native.Mathlib.Omega.{arith}
use mathlib.Core.Path.{◌≡◌, sym, ap, subst, ◌∙◌}
use mathlib.Core.Bool.{true, not}
use mathlib.Core.List.Memᴰ
use mathlib.Core.List.{List, [], ◌∷◌}
use lib.Dec.{eqb, ltb}
use lib.ListN.{length}
use borrow.Author.Tests.{ltb-true}
use Rattle.units.specs.declared.settings.Numbers.{Numbers}
use Rattle.units.proofs.Every.{and_left, and_right}
use Rattle.message.specs.declared.head.Head.{Head}
use Rattle.message.specs.declared.head.Head.TheVariants.{Refused}
use Rattle.message.specs.declared.value.Message.{Message}
use Rattle.message.specs.Message.{plain}
use Rattle.lines.specs.declared.read.Line.{Line}
use Rattle.lines.specs.Reading.{read_line}
use Rattle.lines.specs.Table.{letter_of}
use Rattle.lines.specs.Values.{kind_is}
use Rattle.lines.specs.Writing.{spell_line}
use Rattle.lines.proofs.RoundTrip.{read_write}
use Rattle.lines.proofs.Saying.{not_x}
use Rattle.lines.proofs.Wire.{taken}
use Rattle.group.specs.World.{empty, hand, store, crash, next, World, after}
use Rattle.group.specs.Premises.{Meters, KeptAs, Kept, Run}
use Rattle.group.specs.Wire.{hears, OnwardLines, read_as}
use Rattle.group.specs.Scripts.{Act, give, pass, keep, fall, nth, event_of, played, fair, all_fair, writable, all_writable}
use Rattle.group.proofs.Examples.{at_place, fair_keeps}
use Rattle.group.proofs.Wire.{read_back, wire_of, takes_as}

module _ (s : Numbers) (meters : Meters) where
  -- a message that is read back from its line is handed as that line
  module _ (w : World) (i : ℕ) (a : Message) (k : Kept meters w i a) (e : read_line s.group (spell_line s.group a) ≡ taken a) where
    kept_line : KeptAs meters (wire_of s meters w) i (spell_line s.group a) (read_as s (spell_line s.group a))
    kept_line =
        subst (KeptAs meters (wire_of s meters w) i (spell_line s.group a)) (sym (ap (λ (l : Line). l.message) e))
        (record {
          one_reading = k.one_reading;
          own_number = k.own_number;
          not_made_up = λ t. Memᴰ.map (spell_line s.group) (k.not_made_up t);
          stored_first = k.stored_first;
          highest_floor = k.highest_floor;
        })

    spelled_hand : OnwardLines s meters empty (wire_of s meters w) → OnwardLines s meters empty (wire_of s meters (after s w (hand i a)))
    spelled_hand on =
        subst (OnwardLines s meters empty)
        (ap (λ (l : Line). hears s (wire_of s meters w) i l.message l.verdict) e ∙ takes_as s meters w i a (w.up i))
        (next on (hand i (spell_line s.group a)) (λ _. kept_line))

  -- what is given can be read back, where it can be written
  given_back : (i : ℕ) (head : Head) → writable s (give i head) ≡ true → read_line s.group (spell_line s.group (plain head)) ≡ taken (plain head)
  unfolding plain writable not_x
  given_back i head m = read_write s.group (plain head) (and_right (not (eqb (letter_of (kind_is head)) 88)) _ m) (and_left (not (eqb (letter_of (kind_is head)) 88)) _ m)

  act_line : (w : World) → Run s (Kept meters) w → (x : Act) → fair meters w x ≡ true → writable s x ≡ true → OnwardLines s meters empty (wire_of s meters w)
      → OnwardLines s meters empty (wire_of s meters (after s w (event_of w x)))
  unfolding fair
  act_line w run (give i head) f m on = spelled_hand w i (plain head) (fair_keeps meters w (give i head) f) (given_back i head m) on
  act_line w run (pass i n) f m on =
      spelled_hand w i (nth w.sent n) (fair_keeps meters w (pass i n) f)
      (read_back s meters run (nth w.sent n)
      (at_place w.sent (length w.sent - 1 - n) (plain (Refused 3)) (omega (arith, ltb-true n (length w.sent) (and_left (ltb n (length w.sent)) _ f))))) on
  act_line w run (keep i label) f m on = next on (store i label) tt
  act_line w run (fall i) f m on = next on (crash i) tt

  pub scripted_lines : (w : World) (script : List Act) → Run s (Kept meters) w → OnwardLines s meters empty (wire_of s meters w) → all_fair s meters w script ≡ true → all_writable s script ≡ true
      → OnwardLines s meters empty (wire_of s meters (played s w script))
  unfolding played all_fair all_writable
  scripted_lines w [] run on f m = on
  scripted_lines w (x ∷ more) run on f m =
      scripted_lines (after s w (event_of w x)) more (next run (event_of w x) (fair_keeps meters w x (and_left (fair meters w x) _ f)))
      (act_line w run x (and_left (fair meters w x) _ f) (and_left (writable s x) _ m) on) (and_right (fair meters w x) _ f) (and_right (writable s x) _ m)
