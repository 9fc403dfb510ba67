-- Digests of one label: which are legal, when two are the same, and their order.
use Rattle.std.specs.Prelude.{ℕ, ◌+◌, ◌*◌, ◌-◌, ◌/◌, ◌%◌, ◌^◌, ◌<◌, ◌⊎◌, ◌≡◌, Bool, ◌&&◌, leb, eqb, Option, Result}
use Rattle.std.specs.Int.Count.{ones}
use Rattle.units.specs.declared.labels.RoundLabel.{RoundLabel}
use Rattle.units.specs.declared.refusal.Refusal.{Refusal}
use Rattle.units.specs.Labels.{before, just_before}
use Rattle.units.specs.Limits.{runs_top}
use Rattle.units.specs.Mask.{mask_end, mask_fits}
use Rattle.vote.specs.declared.digest.Digest.{Digest}

-- a vote, or none yet
abbrev pub Ballot : Type 0
Ballot = Option Digest

-- what a set of votes is decided for, if anything, or why it was refused
abbrev pub Decision : Type 0
Decision = Result (Option Digest) Refusal

-- the winner among the votes that are there, if any, or why it was refused
abbrev pub Poll : Type 0
Poll = Result (Option Digest) Refusal

-- "A mask .. isn't 0000 and has no bit at m or above", "The state label is below the label"
unfoldable pub legal : ℕ → RoundLabel → Digest → Bool
legal m label d = leb m runs_top && mask_fits m d.mask && before d.state label

unfoldable pub same : Digest → Digest → Bool
same d e = eqb d.mask e.mask && eqb d.state.0 e.state.0

-- THE ORDER: e is larger than d. "Digests of one label are ordered by the state label, then the number of measurements, then the mask as a number"
abbrev pub Lex : Digest → Digest → Type 0
Lex d e =
    (d.state.0 < e.state.0)
    ⊎ ((d.state.0 ≡ e.state.0) × ((ones d.mask < ones e.mask) ⊎ ((ones d.mask ≡ ones e.mask) × (d.mask < e.mask))))

-- the same order as the digits of one number, for the code: `lex_rank` and `rank_lex` of proofs/Lexicographic.antt, for legal digests of one label.
-- Everything above this definition goes by those and by the laws of proofs/Order.antt alone.
unfoldable pub rank : Digest → ℕ
rank d = d.state.0 * 2 ^ 21 + ones d.mask * 2 ^ 16 + d.mask

-- the legal digest of a rank
unfoldable pub unrank : ℕ → Digest
unrank n = record { mask = n % 2 ^ 16; state = record { 0 = n / 2 ^ 21 % 2 ^ 32 } }

-- "The full digest has all m runs and state label = label - 1; none is larger"
unfoldable pub full : ℕ → RoundLabel → Digest
full m label = record { mask = mask_end m - 1; state = just_before label }

-- run 0 alone on the state of a start: none is smaller
unfoldable pub least : Digest
least = record { mask = 1; state = record { 0 = 0 } }
