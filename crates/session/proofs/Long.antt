-- A LINE OVER 600 BYTES is 1 whatever its bytes, so its first 601 are enough; and what a last line without its line feed leads to. Assumes nothing.
use Prim.Native.Nat.{ℕ, ◌<◌}
use native.Mathlib.Omega.{arith}
use mathlib.Core.Path.{◌≡◌, refl, sym, ap, ◌∙◌}
use mathlib.Core.Bool.{true}
use mathlib.Core.List.{List}
use lib.ListN.{length, take}
use lib.Seq.{length-take-le, take_all}
use borrow.Author.Tests.{lt-ltb, le-ltb}
use Rattle.units.specs.declared.settings.Group.{Group}
use Rattle.units.specs.Limits.{line_top}
use Rattle.units.specs.Pick.{pick}
use Rattle.units.specs.Settings.{group_fits}
use Rattle.message.specs.declared.value.Message.{Message}
use Rattle.fields.specs.Text.{line_feed, lacks}
use Rattle.fields.proofs.Cases.{by_lt}
use Rattle.fields.specs.Cut.{carry_top}
use Rattle.lines.specs.declared.read.Line.{Line}
use Rattle.lines.specs.declared.settle.Settled.{Settled}
use Rattle.lines.specs.declared.settle.Settling.{Settling}
use Rattle.lines.specs.Reading.{refused_line, read_line}
use Rattle.lines.specs.Settling.{stopped, settle_line}
use Rattle.lines.proofs.Refusing.{read_long, settle_long, read_alike, read_unended, settle_unended}
use Rattle.session.specs.declared.stage.Core.{Core}
use Rattle.session.specs.declared.stage.Stage.{Stage}
use Rattle.session.specs.declared.stage.Stage.TheVariants.{Settling as AtSettings, Waiting, Running, Ended}
use Rattle.session.specs.Feeding.{unended}
use Rattle.session.specs.Turn.{Turn, group_in, settles_to, waits_for, hears, turn_by}

-- two lines over 600 bytes lead to the same
same_long : (l k : List ℕ) → line_top < length l → line_top < length k → (go : Core → Message → Turn) (c : Core) (stage : Stage) → turn_by go c l stage ≡ turn_by go c k stage
unfolding turn_by
same_long l k a b go c AtSettings = ap (λ (r : Settled). settles_to c r.next r.answer) (settle_long c.settling l a ∙ sym (settle_long c.settling k b))
same_long l k a b go c Waiting = ap (λ (r : Line). hears (λ m. waits_for c m.head) c r.message r.verdict) (read_alike (group_in c) l k a b)
same_long l k a b go c Running = ap (λ (r : Line). hears (go c) c r.message r.verdict) (read_alike (group_in c) l k a b)
same_long l k a b go c Ended = refl

-- the first 601 bytes of a line are enough
pub first_enough : (go : Core → Message → Turn) (c : Core) (l : List ℕ) (stage : Stage) → turn_by go c (take carry_top l) stage ≡ turn_by go c l stage
first_enough go c l stage =
    by_lt (length l) carry_top
    (λ h. ap (λ (k : List ℕ). turn_by go c k stage) (take_all carry_top l (omega arith)))
    (λ h. let n = length-take-le carry_top l h in same_long (take carry_top l) l (omega arith) (omega arith) go c stage)

-- THE LAST LINE, WITHOUT ITS LINE FEED: 1 over 600 bytes, and 2 up to there
pub read_last : (s : Group) (p : List ℕ) → group_fits s ≡ true → lacks line_feed p ≡ true → read_line s p ≡ refused_line (unended (length p))
unfolding pick
read_last s p g e = by_lt line_top (length p) (λ h. rw (lt-ltb line_top (length p) h) (read_long s p g h)) (λ h. rw (le-ltb line_top (length p) h) (read_unended p h e s g))

pub settle_last : (st : Settling) (p : List ℕ) → lacks line_feed p ≡ true → settle_line st p ≡ stopped st (unended (length p))
unfolding pick
settle_last st p e = by_lt line_top (length p) (λ h. rw (lt-ltb line_top (length p) h) (settle_long st p h)) (λ h. rw (le-ltb line_top (length p) h) (settle_unended p h e st))
