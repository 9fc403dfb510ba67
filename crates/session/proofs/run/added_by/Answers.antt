-- `added_by` meets its contract. Assumes nothing.
use Rattle.session.proofs.Adding.{no_reading, reading_added}
use Rattle.session.proofs.run.added_by.Goals as goal

pub returns-in_default : goal.returns-in_default
returns-in_default c = no_reading _ _ _

pub returns-in_default-head : goal.returns-in_default-head
returns-in_default-head c = no_reading _ _ _

pub returns : goal.returns
returns c =
    reading_added _ _ _ c.in-Reading.label c.in-Reading.run' c.in-Reading.raw c.in-Ok.is c.in-Reading.is c.reading_change.ensures
