-- WHY EACH PREMISE IS THERE: schedules that break one premise, and two S of one label that differ come of each. They are computed in proofs/Schedules.antt.
use Rattle.std.specs.Prelude.{ℕ, suc, List, [], ◌∷◌, ◌++◌, replicate}
use Rattle.std.proofs.Math.Option.{Option, none, some}
use Rattle.units.specs.declared.settings.Numbers.{Numbers}
use Rattle.units.specs.Pick.{pick}
use Rattle.vote.specs.declared.digest.Digest.{Digest}
use Rattle.message.specs.declared.head.Head.TheVariants.{Reading, Vote, Setpoints, CollectingEnds, Floor, Start}
use Rattle.message.specs.declared.value.Message.{Message}
use Rattle.message.specs.View.{on_issue}
use Rattle.controller.specs.declared.state.Controller.{Controller}
use Rattle.controller.specs.Answers.{Answer}
use Rattle.controller.specs.Step.{stepped}
use Rattle.controller_laws.specs.Session.{Line, line, sends, numbers}
use Rattle.group.specs.World.{empty, after_by, World, after_answer, handed}
use Rattle.group.specs.Scripts.{Act, give, pass, keep, fall, event_of, fair}
use Rattle.group.specs.Examples.{round, state_of, both_runs, steady, three}

-- ---- a schedule and what comes of it

-- what a running controller does with a message: `stepped`, or a wrong rule in its place
abbrev pub Stepping : Type 0
Stepping = Numbers → Controller → Message → Answer

abbrev pub handed_by : Stepping → Numbers → World → ℕ → Message → Option Controller → World
handed_by step s w i a none = handed s w i a none
handed_by step s w i a (some c) = after_answer s w i a.head (step s c a)

abbrev pub playing : Stepping → Numbers → World → Act → World
playing step s w x = after_by (λ v i a. handed_by step s v i a (v.up i)) w (event_of w x)

unfoldable pub played_by : Stepping → Numbers → World → List Act → World
played_by step s w [] = w
played_by step s w (x ∷ more) = played_by step s (playing step s w x) more

-- the acts that break a premise, by their place in the script, counted from 0
unfoldable pub unfair_by : Stepping → Numbers → World → ℕ → List Act → List ℕ
unfair_by step s w n [] = []
unfair_by step s w n (x ∷ more) =
    let rest = unfair_by step s (playing step s w x) (suc n) more in
    pick (fair steady w x) rest (n ∷ rest)

-- the S that were sent, the oldest first
unfoldable pub issue_if : Numbers → Message → List Line → List Line
issue_if s x later = on_issue (λ sender label digest. line s.group x ∷ later) later x.head

unfoldable pub issues : Numbers → List Message → List Line → List Line
issues s [] later = later
issues s (x ∷ sent) later = issues s sent (issue_if s x later)

pub record Outcome : Type 0 where
  pub unfair : List ℕ
  pub issued : List Line

unfoldable pub comes_of : Stepping → Numbers → List Act → Outcome
comes_of step s script = record { unfair = unfair_by step s empty 0 script; issued = issues s (played_by step s empty script).sent [] }

-- ---- the acts of a number in a round
abbrev pub up : ℕ → Act
up i = give i (Start i (round 0))

abbrev pub low : ℕ → ℕ → Act
low i n = give i (Reading (round n) 0 200000)

abbrev pub high : ℕ → ℕ → Act
high i n = give i (Reading (round n) 1 199060)

-- collecting ends, the floor is stored, F comes back
abbrev pub votes : ℕ → ℕ → List Act
votes i n = give i (CollectingEnds (round n)) ∷ keep i (round n) ∷ give i (Floor (round n)) ∷ []

-- a vote for run 0 alone, and one for both runs
abbrev pub one : ℕ → ℕ → List Act
one i n = low i n ∷ votes i n

abbrev pub both : ℕ → ℕ → List Act
both i n = low i n ∷ high i n ∷ votes i n

abbrev pub run0 : ℕ → Digest
run0 n = record { mask = 1; state = state_of n }

-- an S for both runs from the start's state, of label 1 and of label 2
abbrev pub both_at1 : ℕ → Line
both_at1 i = sends (Setpoints i (round 1) (both_runs 0)) (0x40F2_4F80_0000_0000 ∷ 0x40D8_6A00_0000_0000 ∷ [])

abbrev pub both_at2 : ℕ → Line
both_at2 i = sends (Setpoints i (round 2) (both_runs 0)) (0x40F2_7291_8E5D_34FE ∷ 0x40D8_98C2_1326_F152 ∷ [])

-- two S of label 1: run 0 alone, and both runs
abbrev pub parted : List Line
parted = sends (Setpoints 1 (round 1) (run0 0)) (0x40E2_6588_0000_0000 ∷ 0x40C8_8760_0000_0000 ∷ []) ∷ both_at1 2 ∷ []

-- ---- "a restart given at least the highest floor": controller 0 votes for run 0, restarts at 0 (act 13) and votes for both runs; 1 issues by its first vote, 2 by its second
unfoldable pub floor_forgotten : List Act
floor_forgotten =
    (up 0 ∷ up 1 ∷ up 2 ∷ [])
    ++ one 0 1
    ++ one 1 1
    ++ (pass 1 1 ∷ fall 0 ∷ give 0 (Start 0 (round 0)) ∷ [])
    ++ both 0 1
    ++ both 2 1
    ++ (pass 2 6 ∷ [])

-- ---- ".. ever confirmed, in whatever order they came back": F 2 comes back, then F 1; controller 0 restarts at the last, 1 (act 17)
unfoldable pub last_floor : List Act
last_floor =
    (up 0 ∷ up 1 ∷ up 2 ∷ low 0 1 ∷ give 0 (CollectingEnds (round 1)) ∷ keep 0 (round 1) ∷ [])
    ++ one 0 2
    ++ (give 0 (Floor (round 1)) ∷ [])
    ++ one 1 2
    ++ (pass 1 2 ∷ fall 0 ∷ give 0 (Start 0 (round 1)) ∷ [])
    ++ both 0 2
    ++ both 2 2
    ++ (pass 2 7 ∷ [])

abbrev pub parted_later : List Line
parted_later = sends (Setpoints 1 (round 2) (run0 0)) (0x40E2_88C3_C028_DB9D ∷ 0x40C8_B65A_558B_CF7C ∷ []) ∷ both_at2 2 ∷ []

-- ---- "a floor confirmed only once stored": F 1 is handed to controller 0 unstored (act 5); it votes, crashes, and is restarted at the highest floor that is stored, 0 (act 12)
unfoldable pub floor_unstored : List Act
floor_unstored =
    (up 0 ∷ up 1 ∷ up 2 ∷ low 0 1 ∷ give 0 (CollectingEnds (round 1)) ∷ give 0 (Floor (round 1)) ∷ [])
    ++ one 1 1
    ++ (pass 1 1 ∷ fall 0 ∷ give 0 (Start 0 (round 0)) ∷ [])
    ++ both 0 1
    ++ both 2 1
    ++ (pass 2 6 ∷ [])

-- ---- "one reading per meter and label": in a group of two, controller 1 gets another reading of meter 0 (act 7); each issues by its own full vote
unfoldable pub two_readings : List Act
two_readings = (up 0 ∷ up 1 ∷ []) ++ both 0 1 ++ (give 1 (Reading (round 1) 0 5) ∷ high 1 1 ∷ []) ++ votes 1 1

abbrev pub parted_targets : List Line
parted_targets = both_at1 0 ∷ sends (Setpoints 1 (round 1) (both_runs 0)) (0x40E2_3996_2418_9375 ∷ 0x40C8_4CC8_3020_C49C ∷ []) ∷ []

-- ---- "no line altered or made up": controller 1 is handed a D of controller 0 that was never sent (act 7)
unfoldable pub vote_made_up : List Act
vote_made_up = (up 0 ∷ up 1 ∷ up 2 ∷ []) ++ one 1 1 ++ (give 1 (Vote 0 (round 1) (run0 0)) ∷ []) ++ both 0 1 ++ both 2 1 ++ (pass 2 4 ∷ [])

-- ---- "one controller to a number": another controller, at place 5, is started as number 0 (act 3); the two vote apart
unfoldable pub twins : List Act
twins =
    (up 0 ∷ up 1 ∷ up 2 ∷ give 5 (Start 0 (round 0)) ∷ [])
    ++ one 0 1
    ++ one 1 1
    ++ (pass 1 1 ∷ [])
    ++ both 5 1
    ++ both 2 1
    ++ (pass 2 6 ∷ [])

-- ---- "one set of settings": of a group of two, controller 0 has document 01's settings, controller 1 other weights; each issues by its own full vote
unfoldable pub other_weights : Numbers
other_weights =
    record {
      group = numbers.group;
      q = numbers.q;
      r = numbers.r;
      p = numbers.p;
      factors = numbers.factors;
      weights = 1 ∷ 1 ∷ replicate 14 0;
    }

abbrev pub apart : List Outcome
apart = comes_of stepped numbers (up 0 ∷ both 0 1) ∷ comes_of stepped other_weights (up 1 ∷ both 1 1) ∷ []

abbrev pub apart_says : List Outcome
apart_says =
    record { unfair = []; issued = both_at1 0 ∷ [] }
    ∷ record { unfair = []; issued = sends (Setpoints 1 (round 1) (both_runs 0)) (0x40E8_6A00_0000_0000 ∷ 0x40E8_6A00_0000_0000 ∷ []) ∷ [] }
    ∷ []

-- ---- what comes of them, with the right step
abbrev pub broken : List Outcome
broken =
    comes_of stepped three floor_forgotten
    ∷ comes_of stepped three last_floor
    ∷ comes_of stepped three floor_unstored
    ∷ comes_of stepped numbers two_readings
    ∷ comes_of stepped three vote_made_up
    ∷ comes_of stepped three twins
    ∷ []

abbrev pub broken_says : List Outcome
broken_says =
    record { unfair = 13 ∷ []; issued = parted }
    ∷ record { unfair = 17 ∷ []; issued = parted_later }
    ∷ record { unfair = 5 ∷ 12 ∷ []; issued = parted }
    ∷ record { unfair = 7 ∷ []; issued = parted_targets }
    ∷ record { unfair = 7 ∷ []; issued = parted }
    ∷ record { unfair = 3 ∷ []; issued = parted }
    ∷ []
