-- A message that carries no array: its line is of its head's numbers alone. Assumes nothing.
use mathlib.Core.Path.{◌≡◌, sym, ap, ap₂, ◌∙◌}
use mathlib.Core.List.{append-nil}
use mathlib.Core.Bool.{Bool, true, false, ◌&&◌}
use Rattle.units.specs.declared.settings.Group.{Group}
use Rattle.units.specs.Settings.{group_fits}
use Rattle.message.specs.declared.head.Head.{Head}
use Rattle.message.specs.declared.value.Message.{Message}
use Rattle.message.specs.Head.{carry, carried, head_fits, is_plain}
use Rattle.message.specs.Message.{plain, message_fits}
use Rattle.message.proofs.Plain.{carries_none, plain_fit}
use Rattle.lines.specs.Lists.{joined}
use Rattle.lines.specs.Values.{head_values, numbers_of}
use Rattle.lines.specs.Writing.{plain_fits}
use Rattle.lines.proofs.Adding.{no_raws}

pub head_alone : (s : Group) (a : Message) → carried s a.head ≡ carry 0 0 0 → numbers_of s a ≡ head_values a.head
unfolding numbers_of joined
head_alone s a e = rw (e, no_raws a.readings 16, append-nil (head_values a.head))

module _ (s : Group) (head : Head) where
  -- such a kind is written exactly where its message is in range
  pub plain_same : is_plain head ≡ true → plain_fits s head ≡ message_fits s (plain head)
  unfolding plain_fits
  plain_same e = ap (λ (b : Bool). b && message_fits s (plain head)) e

  pub plain_values : is_plain head ≡ true → head_values head ≡ numbers_of s (plain head)
  unfolding plain
  plain_values e = sym (head_alone s (plain head) (carries_none s head e))

  -- the test of `write_plain`
  pub plain_test : (p g h : Bool) → p ≡ is_plain head → g ≡ group_fits s → h ≡ head_fits s head → (p && g && h) ≡ plain_fits s head
  unfolding plain_fits
  plain_test true g h pe ge he = ap₂ ◌&&◌ ge he ∙ sym (plain_fit s head (carries_none s head (sym pe))) ∙ ap (λ (b : Bool). b && message_fits s (plain head)) pe
  plain_test false g h pe ge he = ap (λ (b : Bool). b && message_fits s (plain head)) pe
