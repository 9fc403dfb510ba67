-- DOCUMENT 01'S SESSION: its settings, the messages that its lines say after `B 0 0`, and what is answered to each.
use Rattle.std.specs.Prelude.{ℕ, List, [], ◌∷◌, ◌++◌, map, replicate, take, None, Some}
use Rattle.units.specs.declared.estimate.Estimate.{Estimate}
use Rattle.units.specs.declared.labels.RoundLabel.{RoundLabel}
use Rattle.units.specs.declared.settings.Group.{Group}
use Rattle.units.specs.declared.settings.Numbers.{Numbers}
use Rattle.units.specs.Refusal.{verdict_number}
use Rattle.floats.specs.Bits.{bits_of}
use Rattle.vote.specs.declared.digest.Digest.{Digest}
use Rattle.message.specs.declared.head.Head.{Head}
use Rattle.message.specs.declared.head.Head.TheVariants.{Reading, Advert, Update, Vote, Setpoints, CollectingEnds, Floor}
use Rattle.message.specs.declared.value.Message.{Message}
use Rattle.message.specs.Head.{carried}
use Rattle.message.specs.Message.{plain}
use Rattle.plan.specs.Plan.{Sent}
use Rattle.controller.specs.declared.state.Controller.{Controller}
use Rattle.controller.specs.Answers.{Answer}
use Rattle.controller.specs.Sent.{sent_message}
use Rattle.controller.specs.Step.{stepped}

-- a line sent: its head, and the bits of its floats in order
pub record Line : Type 0 where
  pub head : Head
  pub floats : List ℕ

-- what an answer says: the lines sent, and document 01's number, 0 where the message was taken
pub record Said : Type 0 where
  pub sent : List Line
  pub number : ℕ

unfoldable pub estimate_bits : List Estimate → List ℕ
estimate_bits [] = []
estimate_bits (e ∷ more) = bits_of e.x ∷ bits_of e.variance ∷ estimate_bits more

-- U has x and P for each run, S a target
unfoldable pub line : Group → Message → Line
line s a =
    record {
      head = a.head;
      floats = estimate_bits (take (carried s a.head).estimates a.estimates) ++ map bits_of (take (carried s a.head).targets a.targets);
    }

unfoldable pub whole : Numbers → Controller → Sent → List Line → List Line
whole s c None more = more
whole s c (Some head) more = line s.group (sent_message s c head) ∷ more

unfoldable pub said : Numbers → Answer → Said
said s r = record { sent = whole s r.next r.first (whole s r.next r.second []); number = verdict_number r.verdict }

-- a chain of steps: what each answers
unfoldable pub chain : Numbers → Controller → List Message → List Said
chain s c [] = []
chain s c (a ∷ more) = let r = stepped s c a in said s r ∷ chain s r.next more

-- N 1 300 99, K 0 C-101 1.0047 3, K 1 C-102 1.0000 1, for a group of g controllers
abbrev pub sized : ℕ → Numbers
sized g =
    record {
      group = record { g = g; m = 2 };
      q = 1;
      r = 300;
      p = 99;
      factors = 10047 ∷ 10000 ∷ replicate 14 0;
      weights = 3 ∷ 1 ∷ replicate 14 0;
    }

-- G 2 2
unfoldable pub numbers : Numbers
numbers = sized 2

abbrev pub first : RoundLabel
first = record { 0 = 1 }

abbrev pub digest : Digest
digest = record { mask = 3; state = record { 0 = 0 } }

-- M 1 0 200000, M 1 1 199060, E 1, F 1, A 1 0, M 1 0 5
unfoldable pub lines : List Message
lines =
    plain (Reading first 0 200000)
    ∷ plain (Reading first 1 199060)
    ∷ plain (CollectingEnds first)
    ∷ plain (Floor first)
    ∷ plain (Advert 1 (record { 0 = 0 }))
    ∷ plain (Reading first 0 5)
    ∷ []

abbrev pub taken : List Line → Said
taken sent = record { sent = sent; number = 0 }

abbrev pub sends : Head → List ℕ → Line
sends head floats = record { head = head; floats = floats }

-- "Output, whole": F 1; D 0 1 0 0003; S 0 1 0 0003 and two targets; U 0 1 and two estimates; X 8
unfoldable pub answers : List Said
answers =
    taken []
    ∷ taken []
    ∷ taken (sends (Floor first) [] ∷ [])
    ∷ taken
    (sends (Vote 0 first digest) []
    ∷ sends (Setpoints 0 first digest) (0x40F2_4F80_0000_0000 ∷ 0x40D8_6A00_0000_0000 ∷ [])
    ∷ [])
    ∷ taken
    (sends (Update 0 (record { 0 = 1 })) (0x40E8_8760_0000_0000 ∷ 0x4052_C000_0000_0000 ∷ 0x40E8_4CA0_0000_0000 ∷ 0x4052_C000_0000_0000 ∷ [])
    ∷ [])
    ∷ record { sent = []; number = 8 }
    ∷ []
