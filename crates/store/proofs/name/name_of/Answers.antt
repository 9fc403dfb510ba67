-- `name_of` meets its contract. Assumes nothing.
use Rattle.store.proofs.Names.{name_copied}
use Rattle.store.proofs.name.name_of.Goals as goal

pub returns : goal.returns
returns c = name_copied c.args.text.now c.min-n.result c.copy_from_slice.new.self c.min-n.ensures c.copy_from_slice.ensures.after
