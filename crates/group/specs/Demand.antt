-- DEMAND 3: the votes released for a label, the one state of a label, and what every S must be.
use Rattle.std.specs.Prelude.{ℕ, ◌≡◌, true, ◌&&◌, eqb, Float, None, Some}
use mathlib.Core.List.{List, [], ◌∷◌, Memᴰ}
use Rattle.units.specs.declared.estimate.Estimate.{Estimate}
use Rattle.units.specs.declared.labels.RoundLabel.{RoundLabel}
use Rattle.units.specs.declared.labels.StateLabel.{StateLabel}
use Rattle.units.specs.declared.settings.Numbers.{Numbers}
use Rattle.units.specs.Labels.{issued_state}
use Rattle.units.specs.Limits.{controllers_top, runs_top}
use Rattle.units.specs.Pick.{pick}
use Rattle.units.specs.Tab.{tab}
use Rattle.vote.specs.declared.digest.Digest.{Digest}
use Rattle.vote.specs.Digest.{Ballot}
use Rattle.vote.specs.declared.votes.Votes.{Votes}
use Rattle.vote.specs.Vote.{Wins, ballots, votes_fit}
use Rattle.filter.specs.Compute.{computed}
use Rattle.message.specs.declared.head.Head.{Head}
use Rattle.message.specs.declared.head.Head.TheVariants.{Setpoints}
use Rattle.message.specs.declared.value.Message.{Message}
use Rattle.message.specs.View.{on_vote}
use Rattle.controller.specs.Start.{start_estimates}
use Rattle.group.specs.World.{World}
use Rattle.group.specs.Premises.{Meters, Released}

-- ---- the votes released for a label

-- a D of the number j for the label is its vote; any other message leaves what was found before
abbrev pub vote_if : ℕ → RoundLabel → Ballot → Head → Ballot
vote_if j label found head = on_vote (λ sender l digest. pick (eqb sender j && eqb l.0 label.0) (Some digest) found) found head

unfoldable pub vote_of : List Message → ℕ → RoundLabel → Ballot
vote_of [] j label = None
vote_of (x ∷ sent) j label = vote_if j label (vote_of sent j label) x.head

-- all of them, each in its seat
unfoldable pub released : Numbers → List Message → RoundLabel → Votes
released s sent label = record { group = s.group; label = label; seats = tab (λ j. record { ballot = vote_of sent j label }) 0 controllers_top }

-- "the winning vote": none of them is out of range, and 'The vote' has this digest as their winner
abbrev pub WonBy : Numbers → List Message → RoundLabel → Digest → Type 0
WonBy s sent label digest = (votes_fit (released s sent label) ≡ true) × Wins (ballots (released s sent label)) digest

-- ---- the readings and the state of a label

-- what the meters say for a label, by run
unfoldable pub readings_of : Meters → RoundLabel → List ℕ
readings_of meters label = tab (meters label) 0 runs_top

module _ (s : Numbers) (meters : Meters) (sent : List Message) where
  -- an S of the label was sent, and named that digest
  pub record Issued (label : RoundLabel) (digest : Digest) : Type 0 where
    pub line : Message
    pub among : Memᴰ line sent
    pub by : ℕ
    pub said : line.head ≡ Setpoints by label digest

  -- the state of a state label, fixed by the run: the start's, or what computing gives for an issued label from the winner of its votes, its readings and the state that the winner names
  pub data Canon : StateLabel → List Estimate → Type 0 where
    at_start : Canon (record { 0 = 0 }) (start_estimates s.group.m s.p)
    of_issued : (label : RoundLabel) (digest : Digest) (base : List Estimate) → Issued label digest → WonBy s sent label digest → Canon digest.state base
        → Canon (issued_state label) (computed label digest.state base s digest.mask (readings_of meters label)).state

  -- what an S must be: its digest is the winner of the votes released for its label, its targets are what the definition gives from the readings of the label and the state that the digest names
  pub record Right (label : RoundLabel) (digest : Digest) (targets : List Float) : Type 0 where
    pub wins : WonBy s sent label digest
    pub base : List Estimate
    pub named : Canon digest.state base
    pub given : targets ≡ (computed label digest.state base s digest.mask (readings_of meters label)).targets

-- demand 3, of a run to the world w and whatever came of it, the world v
pub record Demand3 (s : Numbers) (meters : Meters) (w v : World) : Type 0 where
  -- every S sent so far is right, by all votes that are ever released
  pub right : (x : Message) → Memᴰ x w.sent → (i : ℕ) (label : RoundLabel) (digest : Digest) → x.head ≡ Setpoints i label digest → Right s meters v.sent label digest x.targets
  -- "nothing later makes any controller issue otherwise": an S of the same label, sent at any time, has the same digest and the same targets in every bit
  pub same : (x y : Message) → Memᴰ x w.sent → Memᴰ y v.sent → (i j : ℕ) (label : RoundLabel) (d e : Digest) → x.head ≡ Setpoints i label d → y.head ≡ Setpoints j label e
      → (d ≡ e) × (x.targets ≡ y.targets)
  -- no number ever releases two digests for a label
  pub one : (i : ℕ) (label : RoundLabel) (d e : Digest) → Released v.sent i label d → Released v.sent i label e → d ≡ e
