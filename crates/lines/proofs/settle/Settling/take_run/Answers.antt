-- `Settling::take_run` meets its contract: what each field says decides, from the left. Assumes nothing.
use mathlib.Core.Path.{◌≡◌, refl, sym, ap, ◌∙◌}
use mathlib.Core.Bool.{true, not}
use native.Mathlib.Omega.{arith}
use lib.ListN.{length}
use borrow.Author.Tests.{eq-eqb, ne_eqb}
use Rattle.units.proofs.Picked.{by_yes, by_no}
use Rattle.fields.specs.Text.{first_field, later_fields}
use Rattle.lines.specs.declared.kind.Kind.TheVariants.{Run}
use Rattle.lines.specs.declared.settle.Settled.{Settled}
use Rattle.lines.specs.Settling.{is_kind, certificate_of, expecting, stopped, settle_run, settle_certificate, settle_factor, settle_weight}
use Rattle.lines.proofs.Settlings.{Judged, judged, Cut, cut, not_cut, end_on, end_out, settled_err, weight_kept, was_kind, was_not, kind_start}
use Rattle.lines.proofs.settle.Settling.take_run.Goals as goal
use Rattle.lines.proofs.settle.Settling.take_run.Goals.{After-read_at, In_ok-end, After-read_at-2, After-read_at-3}

tests : (c : After-read_at) → let text = c.args.line.text.now in (is_kind Run (first_field text) ≡ true) × (length (later_fields text) ≡ 4)
tests c = (was_kind c.is_kind.ensures (ap not c.if-not-is_kind.false), sym c.args.line.counted ∙ c.if-line-ne4.false)

run : (c : After-read_at) → Judged c.args.self c.args.line.text.now 0 0 c.read_at.result
run c =
    judged _ _ 2 0 0 c.turn_of-turn.ensures c.limit_at.ensures c.read_at.ensures (kind_start Run _ (tests c).0) (omega (arith, (tests c).1))

opened : (c : After-read_at) {r : Settled} → r ≡ settle_run c.args.self (later_fields c.args.line.text.now) → r ≡ expecting c.args.self Run c.args.line.text.now (settle_run c.args.self (later_fields c.args.line.text.now))
opened c e = by_yes _ (tests c).0 e

end : (c : In_ok-end) → length (later_fields c.args.line.text.now) ≡ 4 → Judged c.args.self c.args.line.text.now 0 0 c.read_at.result → Cut c.args.line.text.now c.in_ok-run.run'.next c.in_ok-end.end
end c four j = cut _ _ _ c.certificate_end.ensures four (j.more c.in_ok-run.was) _ (end_on c.ok_or.ensures.value c.in_ok-end.was)

factor : (c : After-read_at-2) → length (later_fields c.args.line.text.now) ≡ 4 → Cut c.args.line.text.now c.in_ok-run.run'.next c.in_ok-end.end
    → Judged c.args.self c.args.line.text.now 2 1 c.read_at-2.result
factor c four x = judged _ _ _ 2 1 c.turn_of-turn.ensures c.limit_at-2.ensures c.read_at-2.ensures x.next (omega (arith, four))

weight : (c : After-read_at-3) → length (later_fields c.args.line.text.now) ≡ 4 → Judged c.args.self c.args.line.text.now 2 1 c.read_at-2.result → Judged c.args.self c.args.line.text.now 3 2 c.read_at-3.result
weight c four j = judged _ _ _ 3 2 c.turn_of-turn.ensures c.limit_at-3.ensures c.read_at-3.ensures (j.more c.in_ok-factor.was) (omega (arith, four))

pub returns-then-not-is_kind : goal.returns-then-not-is_kind
returns-then-not-is_kind c = by_no _ (was_not c.is_kind.ensures (ap not c.if-not-is_kind.true)) refl

pub returns-then-line-ne4 : goal.returns-then-line-ne4
unfolding settle_run
returns-then-line-ne4 c =
    by_yes _ (was_kind c.is_kind.ensures (ap not c.if-not-is_kind.false)) (by_no _ (ne_eqb _ _ (λ q. c.if-line-ne4.true (c.args.line.counted ∙ q))) refl)

pub returns-in_err-run : goal.returns-in_err-run
unfolding settle_run
returns-in_err-run c =
    let k = (goal.at.returns-in_err-run c).After-read_at in
    opened k (by_yes _ (eq-eqb _ _ (tests k).1) ((run k).after _ c.in_err-run.was (settled_err _ _ _ c.from_residual.ensures.1)))

pub returns-in_err-end : goal.returns-in_err-end
unfolding settle_run settle_certificate
returns-in_err-end c =
    let k = (goal.at.returns-in_err-end c).After-read_at in
    let (none, why) = end_out c.ok_or.ensures.value c.in_err-end.was in
    opened k
    (by_yes _ (eq-eqb _ _ (tests k).1)
    ((run k).after _ c.in_ok-run.was
    (by_no _ (not_cut _ _ _ c.certificate_end.ensures (tests k).1 ((run k).more c.in_ok-run.was) none)
    (settled_err _ _ _ c.from_residual-in_err-end.ensures.1 ∙ ap (stopped _) why))))

pub overflow_add-end : goal.overflow_add-end
overflow_add-end c =
    let k = goal.at.overflow_add-end c in let a = k.After-read_at in
    omega (arith, (end k.In_ok-end (tests a).1 (run a)).inside)

pub returns-in_err-factor : goal.returns-in_err-factor
unfolding settle_run settle_certificate settle_factor
returns-in_err-factor c =
    let k = goal.at.returns-in_err-factor c in let a = k.After-read_at in let four = (tests a).1 in let x = end k.In_ok-end four (run a) in
    opened a
    (by_yes _ (eq-eqb _ _ four)
    ((run a).after _ c.in_ok-run.was
    (by_yes _ x.shown ((factor k.After-read_at-2 four x).after _ c.in_err-factor.was (settled_err _ _ _ c.from_residual-in_err-factor.ensures.1)))))

pub returns-in_err-weight : goal.returns-in_err-weight
unfolding settle_run settle_certificate settle_factor settle_weight
returns-in_err-weight c =
    let k = goal.at.returns-in_err-weight c in let a = k.After-read_at in let four = (tests a).1 in let x = end k.In_ok-end four (run a) in
    let f = factor k.After-read_at-2 four x in
    opened a
    (by_yes _ (eq-eqb _ _ four)
    ((run a).after _ c.in_ok-run.was
    (by_yes _ x.shown
    (f.after _ c.in_ok-factor.was ((weight k.After-read_at-3 four f).after _ c.in_err-weight.was (settled_err _ _ _ c.from_residual-in_err-weight.ensures.1))))))

pub certificate_of-certificate-requires : goal.certificate_of-certificate-requires
certificate_of-certificate-requires c =
    let k = goal.at.certificate_of-certificate-requires c in let a = k.After-read_at in let x = end k.In_ok-end (tests a).1 (run a) in
    (x.after, x.inside, x.short)

pub returns : goal.returns
unfolding settle_run settle_certificate settle_factor settle_weight
returns c =
    let k = goal.at.returns c in let a = k.After-read_at in let four = (tests a).1 in let x = end k.In_ok-end four (run a) in
    let f = factor k.After-read_at-2 four x in
    opened a
    (by_yes _ (eq-eqb _ _ four)
    ((run a).after _ c.in_ok-run.was
    (by_yes _ x.shown
    (f.after _ c.in_ok-factor.was
    ((weight k.After-read_at-3 four f).after _ c.in_ok-weight.was
    (weight_kept _ _ _ _ _ _ _ c.turn_of-turn.ensures (c.certificate_of-certificate.ensures ∙ ap certificate_of x.bytes) c.with_run.ensures))))))
