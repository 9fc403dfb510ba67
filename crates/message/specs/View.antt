-- WHAT KIND A MESSAGE IS, asked about one kind at a time: all that is said above by kinds is said by these, so that a further kind touches nobody else.
use Rattle.std.specs.Prelude.{ℕ, ◌≡◌, Bool, true, false}
use Rattle.std.proofs.Math.Option.{Option, none, some}
use Rattle.units.specs.declared.labels.RoundLabel.{RoundLabel}
use Rattle.units.specs.declared.labels.StateLabel.{StateLabel}
use Rattle.vote.specs.declared.digest.Digest.{Digest}
use Rattle.message.specs.declared.head.Head.{Head}
use Rattle.message.specs.declared.head.Head.TheVariants.{Reading, Query, Reply, Advert, Update, Vote, Setpoints, Due, CollectingEnds, VotingEnds, Floor, Start, Refused}

-- what is made of a value that is there, or else this
abbrev pub on_some {ℓ κ} : {A : Type ℓ} {B : Type κ} → (A → B) → B → Option A → B
on_some f z none = z
on_some f z (some v) = f v

-- a head is of the kind that `make` makes, or the view has nothing to say of it
pub data Seen {A : Type 0} (make : A → Head) (view : Head → Option A) : Head → Type 0 where
  it : (v : A) → Seen make view (make v)
  other : {h : Head} → view h ≡ none → Seen make view h

-- M
abbrev pub as_reading : Head → Option (RoundLabel × ℕ × ℕ)
as_reading (Reading label run raw) = some (label, run, raw)
as_reading (Query sender label mask) = none
as_reading (Reply sender label mask) = none
as_reading (Advert sender state) = none
as_reading (Update sender state) = none
as_reading (Vote sender label digest) = none
as_reading (Setpoints sender label digest) = none
as_reading (Due label) = none
as_reading (CollectingEnds label) = none
as_reading (VotingEnds label) = none
as_reading (Floor label) = none
as_reading (Start own floor) = none
as_reading (Refused number) = none

abbrev pub on_reading {ℓ} : {A : Type ℓ} → (RoundLabel → ℕ → ℕ → A) → A → Head → A
on_reading f z h = on_some (λ v. f v.0 v.1 v.2) z (as_reading h)

abbrev pub to_reading : (RoundLabel × ℕ × ℕ) → Head
to_reading v = Reading v.0 v.1 v.2

-- R
abbrev pub as_reply : Head → Option (ℕ × RoundLabel × ℕ)
as_reply (Reply sender label mask) = some (sender, label, mask)
as_reply (Reading label run raw) = none
as_reply (Query sender label mask) = none
as_reply (Advert sender state) = none
as_reply (Update sender state) = none
as_reply (Vote sender label digest) = none
as_reply (Setpoints sender label digest) = none
as_reply (Due label) = none
as_reply (CollectingEnds label) = none
as_reply (VotingEnds label) = none
as_reply (Floor label) = none
as_reply (Start own floor) = none
as_reply (Refused number) = none

abbrev pub on_reply {ℓ} : {A : Type ℓ} → (ℕ → RoundLabel → ℕ → A) → A → Head → A
on_reply f z h = on_some (λ v. f v.0 v.1 v.2) z (as_reply h)

abbrev pub to_reply : (ℕ × RoundLabel × ℕ) → Head
to_reply v = Reply v.0 v.1 v.2

-- U
abbrev pub as_update : Head → Option (ℕ × StateLabel)
as_update (Update sender state) = some (sender, state)
as_update (Reading label run raw) = none
as_update (Query sender label mask) = none
as_update (Reply sender label mask) = none
as_update (Advert sender state) = none
as_update (Vote sender label digest) = none
as_update (Setpoints sender label digest) = none
as_update (Due label) = none
as_update (CollectingEnds label) = none
as_update (VotingEnds label) = none
as_update (Floor label) = none
as_update (Start own floor) = none
as_update (Refused number) = none

abbrev pub on_update {ℓ} : {A : Type ℓ} → (ℕ → StateLabel → A) → A → Head → A
on_update f z h = on_some (λ v. f v.0 v.1) z (as_update h)

abbrev pub to_update : (ℕ × StateLabel) → Head
to_update v = Update v.0 v.1

-- D
abbrev pub as_vote : Head → Option (ℕ × RoundLabel × Digest)
as_vote (Vote sender label digest) = some (sender, label, digest)
as_vote (Reading label run raw) = none
as_vote (Query sender label mask) = none
as_vote (Reply sender label mask) = none
as_vote (Advert sender state) = none
as_vote (Update sender state) = none
as_vote (Setpoints sender label digest) = none
as_vote (Due label) = none
as_vote (CollectingEnds label) = none
as_vote (VotingEnds label) = none
as_vote (Floor label) = none
as_vote (Start own floor) = none
as_vote (Refused number) = none

abbrev pub on_vote {ℓ} : {A : Type ℓ} → (ℕ → RoundLabel → Digest → A) → A → Head → A
on_vote f z h = on_some (λ v. f v.0 v.1 v.2) z (as_vote h)

abbrev pub to_vote : (ℕ × RoundLabel × Digest) → Head
to_vote v = Vote v.0 v.1 v.2

-- S
abbrev pub as_issue : Head → Option (ℕ × RoundLabel × Digest)
as_issue (Setpoints sender label digest) = some (sender, label, digest)
as_issue (Reading label run raw) = none
as_issue (Query sender label mask) = none
as_issue (Reply sender label mask) = none
as_issue (Advert sender state) = none
as_issue (Update sender state) = none
as_issue (Vote sender label digest) = none
as_issue (Due label) = none
as_issue (CollectingEnds label) = none
as_issue (VotingEnds label) = none
as_issue (Floor label) = none
as_issue (Start own floor) = none
as_issue (Refused number) = none

abbrev pub on_issue {ℓ} : {A : Type ℓ} → (ℕ → RoundLabel → Digest → A) → A → Head → A
on_issue f z h = on_some (λ v. f v.0 v.1 v.2) z (as_issue h)

abbrev pub to_issue : (ℕ × RoundLabel × Digest) → Head
to_issue v = Setpoints v.0 v.1 v.2

-- F
abbrev pub as_floor : Head → Option RoundLabel
as_floor (Floor label) = some label
as_floor (Reading label run raw) = none
as_floor (Query sender label mask) = none
as_floor (Reply sender label mask) = none
as_floor (Advert sender state) = none
as_floor (Update sender state) = none
as_floor (Vote sender label digest) = none
as_floor (Setpoints sender label digest) = none
as_floor (Due label) = none
as_floor (CollectingEnds label) = none
as_floor (VotingEnds label) = none
as_floor (Start own floor) = none
as_floor (Refused number) = none

abbrev pub on_floor {ℓ} : {A : Type ℓ} → (RoundLabel → A) → A → Head → A
on_floor f z h = on_some (λ v. f v) z (as_floor h)

abbrev pub to_floor : RoundLabel → Head
to_floor v = Floor v

-- B
abbrev pub as_start : Head → Option (ℕ × RoundLabel)
as_start (Start own floor) = some (own, floor)
as_start (Reading label run raw) = none
as_start (Query sender label mask) = none
as_start (Reply sender label mask) = none
as_start (Advert sender state) = none
as_start (Update sender state) = none
as_start (Vote sender label digest) = none
as_start (Setpoints sender label digest) = none
as_start (Due label) = none
as_start (CollectingEnds label) = none
as_start (VotingEnds label) = none
as_start (Floor label) = none
as_start (Refused number) = none

abbrev pub on_start {ℓ} : {A : Type ℓ} → (ℕ → RoundLabel → A) → A → Head → A
on_start f z h = on_some (λ v. f v.0 v.1) z (as_start h)

abbrev pub to_start : (ℕ × RoundLabel) → Head
to_start v = Start v.0 v.1

-- ---- classes of kinds
-- what controllers send each other: Q R A U D S
abbrev pub is_exchanged : Head → Bool
is_exchanged (Query sender label mask) = true
is_exchanged (Reply sender label mask) = true
is_exchanged (Advert sender state) = true
is_exchanged (Update sender state) = true
is_exchanged (Vote sender label digest) = true
is_exchanged (Setpoints sender label digest) = true
is_exchanged (Reading label run raw) = false
is_exchanged (Due label) = false
is_exchanged (CollectingEnds label) = false
is_exchanged (VotingEnds label) = false
is_exchanged (Floor label) = false
is_exchanged (Start own floor) = false
is_exchanged (Refused number) = false

-- of these, the ones from which a controller takes anything: R U D
abbrev pub is_telling : Head → Bool
is_telling h = on_reply (λ sender label mask. true) (on_update (λ sender state. true) (on_vote (λ sender label digest. true) false h) h) h
