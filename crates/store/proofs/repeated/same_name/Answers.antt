-- `same_name` meets its contract. Assumes nothing.
use Rattle.units.proofs.Scan.{length_mapped}
use Rattle.store.proofs.Looking.{names_same}
use Rattle.store.proofs.repeated.same_name.Goals as goal

pub returns : goal.returns
returns c = names_same _ _ _ (search (c.well_formed, length_mapped)) (search (c.well_formed, length_mapped)) c.eq.ensures
