-- "What a step doesn't name stays": where each reading, each vote and the state after a step come from.
use Rattle.std.specs.Prelude.{ℕ, ◌≡◌, true, get_or, Some}
use Rattle.units.specs.declared.labels.RoundLabel.{RoundLabel}
use Rattle.units.specs.Mask.{in_mask}
use Rattle.vote.specs.declared.digest.Digest.{Digest}
use Rattle.message.specs.declared.head.Head.{Head}
use Rattle.message.specs.declared.head.Head.TheVariants.{Reading, Reply, Vote, Floor, Start}
use Rattle.message.specs.declared.value.Message.{Message}
use Rattle.plan.specs.declared.brief.Phase.TheVariants.{Pending}
use Rattle.plan.specs.Votes.{own_digest}
use Rattle.controller.specs.declared.state.Controller.{Controller}
use Rattle.controller.specs.Answers.{Answer}
use Rattle.controller.specs.State.{brief_of, ballot_at}

-- the message is no B
abbrev pub NoStart : Head → Type 0
NoStart h = (own : ℕ) (floor : RoundLabel) → h ≡ Start own floor → ⊥

-- a reading held after a step, for a run: it was held, or the message said it for the label that is current now
pub data ReadingFrom (c : Controller) (a : Message) (n : Controller) (i : ℕ) : Type 0 where
  was_held : n.label ≡ c.label → in_mask c.held i ≡ true → get_or n.readings i 0 ≡ get_or c.readings i 0 → ReadingFrom c a n i
  by_reading : (raw : ℕ) → a.head ≡ Reading n.label i raw → get_or n.readings i 0 ≡ raw → ReadingFrom c a n i
  by_reply : (sender mask : ℕ) → a.head ≡ Reply sender n.label mask → in_mask mask i ≡ true → get_or n.readings i 0 ≡ get_or a.readings i 0 → ReadingFrom c a n i

-- a vote held after a step: it was held, or the message is its D, or it is our own and goes out with this F
pub data VoteFrom (c : Controller) (a : Message) (r : Answer) (seat : ℕ) (d : Digest) : Type 0 where
  was_cast : r.next.label ≡ c.label → ballot_at c seat ≡ Some d → VoteFrom c a r seat d
  by_digest : a.head ≡ Vote seat r.next.label d → VoteFrom c a r seat d
  by_floor : a.head ≡ Floor r.next.label → c.phase ≡ Pending → seat ≡ c.own → d ≡ own_digest (brief_of c)
      → r.first ≡ Some (Vote c.own r.next.label (own_digest (brief_of c))) → VoteFrom c a r seat d
