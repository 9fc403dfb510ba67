-- THE GROUP ON THE WIRE: the world with lines of bytes for messages. What is handed is read by `read_line`, what is sent is written by `spell_line`.
use Rattle.std.specs.Prelude.{ℕ, ◌≡◌, Err, None, Ok, Some}
use mathlib.Core.List.{List, ◌∷◌, ◌++◌, map, Memᴰ}
use Rattle.std.proofs.Math.Option.{Option, none, some}
use Rattle.units.specs.declared.labels.RoundLabel.{RoundLabel}
use Rattle.units.specs.Refusal.{Verdict}
use Rattle.units.specs.declared.settings.Numbers.{Numbers}
use Rattle.vote.specs.declared.digest.Digest.{Digest}
use Rattle.message.specs.declared.head.Head.TheVariants.{Vote, Setpoints}
use Rattle.message.specs.declared.value.Message.{Message}
use Rattle.lines.specs.Reading.{read_line}
use Rattle.lines.specs.Writing.{spell_line}
use Rattle.plan.specs.Plan.{Sent}
use Rattle.controller.specs.declared.state.Controller.{Controller}
use Rattle.controller.specs.Answers.{Answer}
use Rattle.controller.specs.Sent.{sent_message}
use Rattle.controller.specs.Step.{stepped}
use Rattle.group.specs.World.{WorldOf, EventOf, put, with_up, Takes, after_by, OnwardBy, confirms, rising}
use Rattle.group.specs.Premises.{Meters, KeptAs}
use Rattle.group.specs.Demand.{Right}

-- what is sent is a line, its line feed with it
abbrev pub Wire : Type 0
Wire = WorldOf Controller (List ℕ)

-- what a step sends, as lines
abbrev pub spelling : Numbers → Controller → Sent → List (List ℕ) → List (List ℕ)
spelling s c None before = before
spelling s c (Some head) before = spell_line s.group (sent_message s c head) ∷ before

abbrev pub spelled_by : Numbers → Answer → List (List ℕ) → List (List ℕ)
spelled_by s r before = spelling s r.next r.second (spelling s r.next r.first before)

abbrev pub takes : Numbers → Wire → ℕ → Message → Option Controller → Wire
takes s w i a none = with_up w i (rising s a.head)
takes s w i a (some c) =
    let r = stepped s c a in
    record { up = put w.up i (some r.next); sent = spelled_by s r w.sent; stored = w.stored; confirmed = confirms i a.head ++ w.confirmed }

-- a line that is refused, by 1 to 6, changes nothing; its X goes to the host
abbrev pub hears : Numbers → Wire → ℕ → Message → Verdict → Wire
hears s w i a (Ok tt) = takes s w i a (w.up i)
hears s w i a (Err why) = w

-- the message that a line is read as
abbrev pub read_as : Numbers → List ℕ → Message
read_as s line = (read_line s.group line).message

abbrev pub reads : Numbers → Takes Controller (List ℕ) (List ℕ)
reads s w i line = hears s w i (read_as s line) (read_line s.group line).verdict

abbrev pub afterwards : Numbers → Wire → EventOf (List ℕ) → Wire
afterwards s = after_by (reads s)

-- THE PREMISES, on the message that a line is read as, and that its bytes were sent. Nothing is asked of a line that is refused: bytes may be damaged in any way that the reader sees
abbrev pub KeptLine : Numbers → Meters → Wire → ℕ → List ℕ → Type 0
KeptLine s meters w i line = (read_line s.group line).verdict ≡ Ok tt → KeptAs meters w i line (read_as s line)

abbrev pub OnwardLines : Numbers → Meters → Wire → Wire → Type 0
OnwardLines s meters w v = OnwardBy (reads s) (KeptLine s meters) w v

-- ---- what demand 3 says of bytes

abbrev pub read_all : Numbers → List (List ℕ) → List Message
read_all s sent = map (read_as s) sent

-- the same S from another number
abbrev pub from : ℕ → RoundLabel → Digest → Message → Message
from j label digest a = record { head = Setpoints j label digest; readings = a.readings; estimates = a.estimates; targets = a.targets }

pub record Demand3Lines (s : Numbers) (meters : Meters) (w v : Wire) : Type 0 where
  -- every line S sent so far is right, by the lines D that are ever sent
  pub right : (x : List ℕ) → Memᴰ x w.sent → (i : ℕ) (label : RoundLabel) (digest : Digest) → (read_as s x).head ≡ Setpoints i label digest
      → Right s meters (read_all s v.sent) label digest (read_as s x).targets
  -- a line S of the same label, sent at any time, has the same bytes but for its sender
  pub same : (x y : List ℕ) → Memᴰ x w.sent → Memᴰ y v.sent → (i j : ℕ) (label : RoundLabel) (d e : Digest) → (read_as s x).head ≡ Setpoints i label d → (read_as s y).head ≡ Setpoints j label e
      → y ≡ spell_line s.group (from j label d (read_as s x))
  -- no number ever releases two digests for a label
  pub one : (x y : List ℕ) → Memᴰ x v.sent → Memᴰ y v.sent → (i : ℕ) (label : RoundLabel) (d e : Digest) → (read_as s x).head ≡ Vote i label d → (read_as s y).head ≡ Vote i label e → d ≡ e
