-- What is in range of a message's head, by document 01's table of quantities and its list of lines.
use Rattle.std.specs.Prelude.{ℕ, Bool, true, false, ◌&&◌, leb, ltb}
use Rattle.units.specs.declared.settings.Group.{Group}
use Rattle.units.specs.Labels.{round_fits, state_label_fits, floor_fits}
use Rattle.units.specs.Limits.{raw_top}
use Rattle.units.specs.Mask.{mask_fits}
use Rattle.units.specs.Refusal.{is_number}
use Rattle.vote.specs.Digest.{legal}
use Rattle.message.specs.declared.head.Carried.{Carried}
use Rattle.message.specs.declared.head.Head.{Head}
use Rattle.message.specs.declared.head.Head.TheVariants.{Reading, Query, Reply, Advert, Update, Vote, Setpoints, Due, CollectingEnds, VotingEnds, Floor, Start, Refused}
use Rattle.message.specs.View.{on_reply, on_update, on_issue}

unfoldable pub head_fits : Group → Head → Bool
head_fits s (Reading label run raw) = round_fits label && ltb run s.m && leb raw raw_top
head_fits s (Query sender label mask) = ltb sender s.g && round_fits label && mask_fits s.m mask
head_fits s (Reply sender label mask) = ltb sender s.g && round_fits label && mask_fits s.m mask
head_fits s (Advert sender state) = ltb sender s.g && state_label_fits state
head_fits s (Update sender state) = ltb sender s.g && state_label_fits state
head_fits s (Vote sender label digest) = ltb sender s.g && round_fits label && legal s.m label digest
head_fits s (Setpoints sender label digest) = ltb sender s.g && round_fits label && legal s.m label digest
head_fits s (Due label) = round_fits label
head_fits s (CollectingEnds label) = round_fits label
head_fits s (VotingEnds label) = round_fits label
head_fits s (Floor label) = round_fits label
head_fits s (Start own floor) = ltb own s.g && floor_fits floor
head_fits s (Refused number) = is_number number

-- a mask of runs with readings, and how many runs' estimates and targets
abbrev pub carry : ℕ → ℕ → ℕ → Carried
carry readings estimates targets = record { readings = readings; estimates = estimates; targets = targets }

-- R carries one raw for each set bit, U the estimates of all m runs, S their targets, any other kind nothing
unfoldable pub carried : Group → Head → Carried
carried s h =
    on_reply (λ sender label mask. carry mask 0 0)
    (on_update (λ sender state. carry 0 s.m 0)
    (on_issue (λ sender label digest. carry 0 0 s.m)
    (carry 0 0 0) h) h) h

-- any kind but those three
unfoldable pub is_plain : Head → Bool
is_plain h = on_reply (λ sender label mask. false) (on_update (λ sender state. false) (on_issue (λ sender label digest. false) true h) h) h
