-- `put_who` meets its contract. Assumes nothing.
use Rattle.lines.proofs.Runs.{tabs_put, who_is}
use Rattle.fields.specs.Put.{written}
use Rattle.fields.specs.declared.spelling.Spelling.TheVariants.{Decimal}
use Rattle.lines.proofs.setting.put_who.Goals as goal

pub returns : goal.returns
returns c =
    let a = c.args in
    rw (← who_is a.run a.certificate.now)
    (tabs_put a.buf.now _ _ (written Decimal a.run) a.certificate.now 1 _ _ c.put_field-at.ensures c.put_certificate.ensures)
