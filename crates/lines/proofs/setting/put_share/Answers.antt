-- `put_share` meets its contract. Assumes nothing.
use Rattle.lines.proofs.Runs.{tabs_put, share_is}
use Rattle.fields.specs.Put.{written}
use Rattle.fields.specs.declared.spelling.Spelling.TheVariants.{Decimal, Factor}
use Rattle.lines.proofs.setting.put_share.Goals as goal

pub returns : goal.returns
returns c =
    let a = c.args in
    rw (← share_is a.factor a.weight)
    (tabs_put a.buf.now _ _ (written Factor a.factor) (written Decimal a.weight) a.at _ _ (rw c.from.ensures at c.put_field-next.ensures) (rw c.from-2.ensures at c.put_field.ensures))
