-- THE ROUND TRIPS OF MESSAGES: what was written is read back, what is accepted is what would be written, in range, and room is known. Assumes nothing.
use Rattle.std.specs.Prelude.{Ok}
use Prim.Native.Nat.{ℕ, ◌≤◌}
use mathlib.Core.Path.{◌≡◌, refl, sym, ap, ◌∙◌}
use mathlib.Core.List.{List, [], ◌∷◌, ◌++◌}
use mathlib.Core.Bool.{true}
use native.Mathlib.Omega.{arith}
use lib.ListN.{length, get_or, drop}
use borrow.Author.Tests.{le-ltb}
use Rattle.units.specs.declared.refusal.Refusal.{Refusal}
use Rattle.units.specs.declared.settings.Group.{Group}
use Rattle.units.specs.Limits.{line_top}
use Rattle.units.specs.Pick.{pick}
use Rattle.units.specs.Refusal.{number_of}
use Rattle.message.specs.declared.head.Head.TheVariants.{Refused}
use Rattle.message.specs.declared.value.Message.{Message}
use Rattle.message.specs.Head.{carried}
use Rattle.message.specs.Message.{plain, message_fits}
use Rattle.fields.specs.Text.{lacks}
use Rattle.lines.specs.declared.kind.Kind.{Kind}
use Rattle.lines.specs.declared.read.Line.{Line}
use Rattle.lines.specs.Lists.{joined}
use Rattle.lines.specs.Reading.{read_line}
use Rattle.lines.specs.Values.{message_of, kind_is, head_values, numbers_of}
use Rattle.lines.specs.Writing.{line_of, spell_line, refusal_line, write_answer, write_buffer}
use Rattle.lines.proofs.Adding.{no_raws}
use Rattle.lines.proofs.Meaning.{Meant, meaning}
use Rattle.lines.proofs.Rows.{count_range}
use Rattle.lines.proofs.Saying.{not_x, saying, readable}
use Rattle.lines.proofs.Sending.{message_fits_lem}
use Rattle.lines.proofs.Wire.{taken, text_of, line_accepted, line_back, line_ends, line_short}

-- READING WHAT WAS WRITTEN gives the message back, for every message in range but X, which is only written
pub read_write : (s : Group) (a : Message) → message_fits s a ≡ true → not_x a.head ≡ true → read_line s (spell_line s a) ≡ taken a
unfolding spell_line
read_write s a f x =
    let F = message_fits_lem s a f in
    let w = saying s a a.head refl F in
    line_back (kind_is a.head) s (numbers_of s a) F.group (readable a.head x) w.fit ∙ ap taken w.back

-- WHATEVER IS ACCEPTED is spelled exactly as the writer writes it, and is in range
pub record Spelt (s : Group) (line : List ℕ) (a : Message) : Type 0 where
  pub only : line ≡ spell_line s a
  pub fits : message_fits s a ≡ true

spelt_from : (s : Group) (line : List ℕ) (a : Message) (k : Kind) (vs : List ℕ) → a ≡ message_of s k vs → line ≡ line_of k vs → Meant k s vs → Spelt s line a
unfolding spell_line
spelt_from s line a k vs e l m = record { only = l ∙ sym (rw (e, m.kind, m.back)); fits = rw e m.fits }

pub line_only : (s : Group) (line : List ℕ) (a : Message) → read_line s line ≡ taken a → Spelt s line a
line_only s line a e =
    let c = line_accepted s line a e in
    spelt_from s line a c.kind c.numbers c.message c.spelt (meaning c.kind s c.numbers c.group c.readable c.fit)

pub read_fits : (s : Group) (line : List ℕ) → (read_line s line).verdict ≡ Ok tt → message_fits s (read_line s line).message ≡ true
read_fits s line e = (line_only s line (read_line s line).message (whole (read_line s line) e)).fits
  where
    whole : (l : Line) → l.verdict ≡ Ok tt → l ≡ taken l.message
    whole l d = rw (← d)

-- HOW LONG A LINE IS
values_few : (s : Group) (a : Message) → message_fits s a ≡ true → length (numbers_of s a) ≤ 34
values_few s a f = let c = (saying s a a.head refl (message_fits_lem s a f)).fit.counted in let b = count_range (kind_is a.head) s (get_or (numbers_of s a) 2 0) in omega arith

pub write_room : (s : Group) (a : Message) → message_fits s a ≡ true → length (spell_line s a) ≤ line_top
unfolding spell_line
write_room s a f = line_short (kind_is a.head) (numbers_of s a) (values_few s a f)

pub refusal_room : (why : Refusal) → length (refusal_line why) ≤ line_top
unfolding refusal_line
refusal_room why = line_short _ (number_of why ∷ []) (omega arith)

-- so a buffer of lineTop bytes is always enough
pub write_done : (s : Group) (a : Message) (buf : List ℕ) → message_fits s a ≡ true → line_top ≤ length buf
    → (write_answer (message_fits s a) (spell_line s a) buf ≡ Ok (length (spell_line s a))) × (write_buffer (message_fits s a) (spell_line s a) buf ≡ spell_line s a ++ drop (length (spell_line s a)) buf)
unfolding write_answer write_buffer pick
write_done s a buf f h =
    let l : length (spell_line s a) ≤ length buf = let r = write_room s a f in omega arith in
    rw (f, le-ltb (length buf) (length (spell_line s a)) l) (refl, refl)

-- and it ends in its only line feed
pub line_feed_lem : (s : Group) (a : Message) → (spell_line s a ≡ text_of (kind_is a.head) (numbers_of s a) ++ (10 ∷ [])) × (lacks 10 (text_of (kind_is a.head) (numbers_of s a)) ≡ true)
unfolding spell_line
line_feed_lem s a = line_ends (kind_is a.head) (numbers_of s a)

-- the line of a refusal is that of the message X
pub refusal_is : (s : Group) (why : Refusal) → refusal_line why ≡ spell_line s (plain (Refused (number_of why)))
unfolding refusal_line spell_line plain numbers_of kind_is head_values carried joined
refusal_is s why = rw (no_raws _ 16)
