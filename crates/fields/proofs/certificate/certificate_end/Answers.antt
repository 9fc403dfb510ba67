-- `certificate_end` meets its contract. Assumes nothing.
use mathlib.Core.Path.{◌∙◌}
use native.Mathlib.Omega.{arith}
use Rattle.fields.proofs.Certificates.{certificate_past, certificate_shown}
use Rattle.fields.proofs.certificate.certificate_end.Goals as goal

pub returns-in_err-get : goal.returns-in_err-get
returns-in_err-get c = let a = c.args in c.from_residual.ensures ∙ certificate_past a.text.now a.at (omega (arith, c.in_err-get.ensures.lookup.0))

pub returns : goal.returns
returns c = let p = c.in_ok-get.ensures.lookup.0 in c.then_some.ensures ∙ certificate_shown c.args.text.now _ c.args.at _ p.2 c.shown-n.ensures _ c.ends_at.ensures
