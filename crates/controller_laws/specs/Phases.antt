-- Groups of phases that document 01 names together, and a seat that takes a digest.
use Rattle.std.specs.Prelude.{◌≡◌, None, Some}
use Rattle.vote.specs.declared.digest.Digest.{Digest}
use Rattle.vote.specs.Digest.{Ballot}
use Rattle.plan.specs.declared.brief.Phase.{Phase}
use Rattle.plan.specs.declared.brief.Phase.TheVariants.{Idle, Collecting, Pending, Voting}

-- "not idle"
abbrev pub Busy : Phase → Type 0
Busy Idle = ⊥
Busy Collecting = Unit {0}
Busy Pending = Unit {0}
Busy Voting = Unit {0}

-- before our vote: collecting or pending
abbrev pub Early : Phase → Type 0
Early Idle = ⊥
Early Collecting = Unit {0}
Early Pending = Unit {0}
Early Voting = ⊥

-- "idle or collecting"
abbrev pub Open : Phase → Type 0
Open Idle = Unit {0}
Open Collecting = Unit {0}
Open Pending = ⊥
Open Voting = ⊥

-- "Pending or voting"
abbrev pub Fixed : Phase → Type 0
Fixed Idle = ⊥
Fixed Collecting = ⊥
Fixed Pending = Unit {0}
Fixed Voting = Unit {0}

-- a seat takes a digest: it is empty, or holds that digest already
abbrev pub Free : Ballot → Digest → Type 0
Free None d = Unit {0}
Free (Some e) d = e ≡ d
