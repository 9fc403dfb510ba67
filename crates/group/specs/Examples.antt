-- THE PREMISES CAN BE MET: document 01's session without its last line and with controller 1 sending its A; three controllers of whom one crashes after its vote and restarts, with two labels issued;
-- and a run in which lines come twice, floors come back out of order, a round ends by 12, and all three issue one label, each from other votes.
use Rattle.std.specs.Prelude.{ℕ, List, [], ◌∷◌, eqb, replicate}
use Rattle.units.specs.declared.labels.RoundLabel.{RoundLabel}
use Rattle.units.specs.declared.labels.StateLabel.{StateLabel}
use Rattle.units.specs.declared.settings.Numbers.{Numbers}
use Rattle.units.specs.Pick.{pick}
use Rattle.vote.specs.declared.digest.Digest.{Digest}
use Rattle.message.specs.declared.head.Head.TheVariants.{Reading, Query, Reply, Advert, Update, Vote, Setpoints, Due, CollectingEnds, VotingEnds, Floor, Start}
use Rattle.message.specs.declared.settings.Settings.{Settings}
use Rattle.lines.specs.Settling.{no_one, certificate_of}
use Rattle.controller_laws.specs.Session.{Line, sends, sized}
use Rattle.group.specs.Premises.{Meters}
use Rattle.group.specs.Scripts.{Act, give, pass, keep, fall}

abbrev pub round : ℕ → RoundLabel
round n = record { 0 = n }

abbrev pub state_of : ℕ → StateLabel
state_of n = record { 0 = n }

-- both runs, from the state of a label
abbrev pub both_runs : ℕ → Digest
both_runs n = record { mask = 3; state = state_of n }

-- the meters of document 01's session, the same at every label
unfoldable pub steady : Meters
steady label run = pick (eqb run 0) 200000 199060

-- the session. Controller 1 is in round 2, and so its C leads to Q and to the session's A
unfoldable pub session_acts : List Act
session_acts =
    give 0 (Start 0 (round 0))
    ∷ give 0 (Reading (round 1) 0 200000)
    ∷ give 0 (Reading (round 1) 1 199060)
    ∷ give 0 (CollectingEnds (round 1))
    ∷ keep 0 (round 1)
    ∷ give 0 (Floor (round 1))
    ∷ give 1 (Start 1 (round 0))
    ∷ give 1 (Reading (round 2) 0 200000)
    ∷ give 1 (Due (round 2))
    ∷ pass 0 4
    ∷ []

-- what is sent: F 1, D 0 1 0 0003, S 0 1 0 0003 with its targets; Q 1 2 0002, A 1 0; U 0 1 with its estimates
unfoldable pub session_says : List Line
session_says =
    sends (Floor (round 1)) []
    ∷ sends (Vote 0 (round 1) (both_runs 0)) []
    ∷ sends (Setpoints 0 (round 1) (both_runs 0)) (0x40F2_4F80_0000_0000 ∷ 0x40D8_6A00_0000_0000 ∷ [])
    ∷ sends (Query 1 (round 2) 2) []
    ∷ sends (Advert 1 (state_of 0)) []
    ∷ sends (Update 0 (state_of 1)) (0x40E8_8760_0000_0000 ∷ 0x4052_C000_0000_0000 ∷ 0x40E8_4CA0_0000_0000 ∷ 0x4052_C000_0000_0000 ∷ [])
    ∷ []

-- "K 0 C-101 1.0047 3" and "K 1 C-102 1.0000 1": the settings with the session's certificates, for stations
abbrev pub certified : Numbers → Settings
certified s = record { numbers = s; certificates = certificate_of (67 ∷ 45 ∷ 49 ∷ 48 ∷ 49 ∷ []) ∷ certificate_of (67 ∷ 45 ∷ 49 ∷ 48 ∷ 50 ∷ []) ∷ replicate 14 no_one }

-- ---- one crashes and returns
-- the same settings for a group of three; controller 2 never starts
unfoldable pub three : Numbers
three = sized 3

-- Round 1: controller 0 votes, crashes, and is restarted at its floor; its vote still counts, and it takes no reading of round 1 again (8).
-- Controller 1 votes, gets the D of controller 0, and issues. Round 2: controller 0 asks; U brings it the state of label 1, and R a reading; both vote, and both issue
unfoldable pub returning : List Act
returning =
    give 0 (Start 0 (round 0))
    ∷ give 1 (Start 1 (round 0))
    ∷ give 0 (Reading (round 1) 0 200000)
    ∷ give 0 (Reading (round 1) 1 199060)
    ∷ give 0 (CollectingEnds (round 1))
    ∷ keep 0 (round 1)
    ∷ give 0 (Floor (round 1))
    ∷ fall 0
    ∷ give 0 (Start 0 (round 1))
    ∷ give 0 (Reading (round 1) 0 200000)
    ∷ give 1 (Reading (round 1) 0 200000)
    ∷ give 1 (Reading (round 1) 1 199060)
    ∷ give 1 (CollectingEnds (round 1))
    ∷ keep 1 (round 1)
    ∷ give 1 (Floor (round 1))
    ∷ pass 1 1
    ∷ give 0 (Reading (round 2) 0 200000)
    ∷ give 1 (Reading (round 2) 0 200000)
    ∷ give 1 (Reading (round 2) 1 199060)
    ∷ give 0 (Due (round 2))
    ∷ pass 1 6
    ∷ pass 0 7
    ∷ pass 1 5
    ∷ pass 0 8
    ∷ give 0 (CollectingEnds (round 2))
    ∷ keep 0 (round 2)
    ∷ give 0 (Floor (round 2))
    ∷ give 1 (CollectingEnds (round 2))
    ∷ keep 1 (round 2)
    ∷ give 1 (Floor (round 2))
    ∷ pass 1 10
    ∷ pass 0 12
    ∷ []

unfoldable pub returning_says : List Line
returning_says =
    sends (Floor (round 1)) []
    ∷ sends (Vote 0 (round 1) (both_runs 0)) []
    ∷ sends (Floor (round 1)) []
    ∷ sends (Vote 1 (round 1) (both_runs 0)) []
    ∷ sends (Setpoints 1 (round 1) (both_runs 0)) (0x40F2_4F80_0000_0000 ∷ 0x40D8_6A00_0000_0000 ∷ [])
    ∷ sends (Query 0 (round 2) 2) []
    ∷ sends (Advert 0 (state_of 0)) []
    ∷ sends (Update 1 (state_of 1)) (0x40E8_8760_0000_0000 ∷ 0x4052_C000_0000_0000 ∷ 0x40E8_4CA0_0000_0000 ∷ 0x4052_C000_0000_0000 ∷ [])
    ∷ sends (Reply 1 (round 2) 2) []
    ∷ sends (Floor (round 2)) []
    ∷ sends (Vote 0 (round 2) (both_runs 1)) []
    ∷ sends (Floor (round 2)) []
    ∷ sends (Vote 1 (round 2) (both_runs 1)) []
    ∷ sends (Setpoints 1 (round 2) (both_runs 1)) (0x40FD_69EB_9310_5726 ∷ 0x40E3_9BF2_620A_E4C4 ∷ [])
    ∷ sends (Setpoints 0 (round 2) (both_runs 1)) (0x40FD_69EB_9310_5726 ∷ 0x40E3_9BF2_620A_E4C4 ∷ [])
    ∷ []

-- ---- everything late, twice or in another order
-- Controller 0 goes to round 2 before the floor of round 1 has come back; F 2 comes back before F 1, which is then of another label (10). Its timer ends round 2 undecided (12). It is given a B while it runs.
-- Round 3: controller 1 gets the D of controller 0 twice, and issues from the votes of 0 and 1; 2 issues from those of 1 and 2; 0 from those of 0 and 2
unfoldable pub mixed : List Act
mixed =
    give 0 (Start 0 (round 0))
    ∷ give 1 (Start 1 (round 0))
    ∷ give 2 (Start 2 (round 0))
    ∷ give 0 (Reading (round 1) 0 200000)
    ∷ give 0 (CollectingEnds (round 1))
    ∷ keep 0 (round 1)
    ∷ give 0 (Reading (round 2) 0 200000)
    ∷ give 0 (CollectingEnds (round 2))
    ∷ keep 0 (round 2)
    ∷ give 0 (Floor (round 2))
    ∷ give 0 (Floor (round 1))
    ∷ give 0 (VotingEnds (round 2))
    ∷ give 0 (Start 0 (round 2))
    ∷ give 0 (Reading (round 3) 0 200000)
    ∷ give 0 (Reading (round 3) 1 199060)
    ∷ give 0 (CollectingEnds (round 3))
    ∷ keep 0 (round 3)
    ∷ give 0 (Floor (round 3))
    ∷ give 1 (Reading (round 3) 0 200000)
    ∷ give 1 (Reading (round 3) 1 199060)
    ∷ pass 1 4
    ∷ pass 1 4
    ∷ give 1 (CollectingEnds (round 3))
    ∷ keep 1 (round 3)
    ∷ give 1 (Floor (round 3))
    ∷ give 2 (Reading (round 3) 0 200000)
    ∷ give 2 (Reading (round 3) 1 199060)
    ∷ give 2 (CollectingEnds (round 3))
    ∷ keep 2 (round 3)
    ∷ give 2 (Floor (round 3))
    ∷ pass 2 6
    ∷ pass 0 9
    ∷ []

-- no act is refused but the late F and the round's end
unfoldable pub mixed_numbers : List ℕ
mixed_numbers = 0 ∷ 0 ∷ 0 ∷ 0 ∷ 0 ∷ 0 ∷ 0 ∷ 0 ∷ 0 ∷ 0 ∷ 10 ∷ 12 ∷ replicate 20 0

unfoldable pub mixed_says : List Line
mixed_says =
    sends (Floor (round 1)) []
    ∷ sends (Floor (round 2)) []
    ∷ sends (Vote 0 (round 2) (record { mask = 1; state = state_of 0 })) []
    ∷ sends (Floor (round 3)) []
    ∷ sends (Vote 0 (round 3) (both_runs 0)) []
    ∷ sends (Floor (round 3)) []
    ∷ sends (Vote 1 (round 3) (both_runs 0)) []
    ∷ sends (Setpoints 1 (round 3) (both_runs 0)) (0x40F2_9576_72A0_7A45 ∷ 0x40D8_C748_98D5_F85C ∷ [])
    ∷ sends (Floor (round 3)) []
    ∷ sends (Vote 2 (round 3) (both_runs 0)) []
    ∷ sends (Setpoints 2 (round 3) (both_runs 0)) (0x40F2_9576_72A0_7A45 ∷ 0x40D8_C748_98D5_F85C ∷ [])
    ∷ sends (Setpoints 0 (round 3) (both_runs 0)) (0x40F2_9576_72A0_7A45 ∷ 0x40D8_C748_98D5_F85C ∷ [])
    ∷ []
