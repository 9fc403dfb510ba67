-- Document 01's cases hold: one test over the table, which the checker computes, and one law from the test to the statement. Assumes nothing.
use Rattle.std.specs.Prelude.{Err, None, Ok, Some}
use mathlib.Core.Path.{◌≡◌, refl, ap, subst}
use mathlib.Core.Bool.{Bool, true, false, ◌&&◌}
use mathlib.Core.List.{List, [], ◌∷◌}
use Rattle.units.proofs.Every.{no_way, and_left, and_right}
use Rattle.vote.specs.Digest.{Decision, same}
use Rattle.vote.specs.Vote.{Answers}
use Rattle.vote.specs.Decision.{decision}
use Rattle.vote.proofs.Order.{same_true}
use Rattle.vote.proofs.Answer.{decision_exact}
use Rattle.vote.proofs.Computes.{digest_computes, judge_computes}
use Rattle.floats.specs.Bits.{of_whole, same_float}
use Rattle.floats.specs.Ranges.{same_estimate}
use Rattle.floats.proofs.Limits.{same_is}
use Rattle.floats.proofs.Places.{same_estimate_is}
use Rattle.floats.proofs.Computes.{float_computes, range_computes}
use Rattle.filter.specs.Run.{measured}
use Rattle.filter.proofs.Computes.{run_computes}
use Rattle.cases.specs.Table.{RunCase, Part, chosen, left, Row, judged, run, votes_of, numbered, spelt, new_estimate, Measures, Holds, Each, table}

-- ---- the test

same_decision : Decision → Decision → Bool
same_decision (Err a) (Err b) = false
same_decision (Err a) (Ok None) = false
same_decision (Err a) (Ok (Some e)) = false
same_decision (Ok None) (Err b) = false
same_decision (Ok None) (Ok None) = true
same_decision (Ok None) (Ok (Some e)) = false
same_decision (Ok (Some d)) (Err b) = false
same_decision (Ok (Some d)) (Ok None) = false
same_decision (Ok (Some d)) (Ok (Some e)) = same d e

measures : RunCase → Part → Bool
measures c (chosen z) = same_float (measured c.raw c.factor) (of_whole z)
measures c left = true

leaves : RunCase → Bool
leaves c = same_estimate (new_estimate c) (numbered c.new_x c.new_variance) && same_estimate (new_estimate c) (spelt c.x_bits c.variance_bits)

test : Row → Bool
test (judged c) = same_decision (decision (votes_of c)) c.verdict
test (run c) = measures c c.part && leaves c

test_each : List Row → Bool
test_each [] = true
test_each (r ∷ rs) = test r && test_each rs

-- ---- the law

same_decision_lem : (a b : Decision) → same_decision a b ≡ true → a ≡ b
unfolding same_decision
same_decision_lem (Err a) (Err b) h = no_way h
same_decision_lem (Err a) (Ok None) h = no_way h
same_decision_lem (Err a) (Ok (Some e)) h = no_way h
same_decision_lem (Ok None) (Err b) h = no_way h
same_decision_lem (Ok None) (Ok None) h = refl
same_decision_lem (Ok None) (Ok (Some e)) h = no_way h
same_decision_lem (Ok (Some d)) (Err b) h = no_way h
same_decision_lem (Ok (Some d)) (Ok None) h = no_way h
same_decision_lem (Ok (Some d)) (Ok (Some e)) h = ap (λ d. Ok (Some d)) (same_true d e h)

measures_is : (c : RunCase) (p : Part) → measures c p ≡ true → Measures c p
unfolding measures
measures_is c (chosen z) h = same_is (measured c.raw c.factor) (of_whole z) h
measures_is c left h = tt

leaves_number : (c : RunCase) → leaves c ≡ true → new_estimate c ≡ numbered c.new_x c.new_variance
unfolding leaves
leaves_number c h = same_estimate_is (new_estimate c) (numbered c.new_x c.new_variance) (and_left _ (same_estimate (new_estimate c) (spelt c.x_bits c.variance_bits)) h)

leaves_bits : (c : RunCase) → leaves c ≡ true → new_estimate c ≡ spelt c.x_bits c.variance_bits
unfolding leaves
leaves_bits c h = same_estimate_is (new_estimate c) (spelt c.x_bits c.variance_bits) (and_right (same_estimate (new_estimate c) (numbered c.new_x c.new_variance)) _ h)

holds : (r : Row) → test r ≡ true → Holds r
unfolding test
holds (judged c) h = subst (Answers (votes_of c)) (same_decision_lem (decision (votes_of c)) c.verdict h) (decision_exact (votes_of c))
holds (run c) h =
    let a : leaves c ≡ true = and_right (measures c c.part) (leaves c) h in
    (measures_is c c.part (and_left (measures c c.part) (leaves c) h), leaves_number c a, leaves_bits c a)

each : (rs : List Row) → test_each rs ≡ true → Each rs
unfolding test_each
each [] h = tt
each (r ∷ rs) h = (holds r (and_left (test r) (test_each rs) h), each rs (and_right (test r) (test_each rs) h))

-- what the checker opens of the test
unfoldable test_computes : Unit {0}
unfolding test_each test same_decision measures leaves
test_computes = tt

-- v1 to v12, c1 and c2
pub cases : Each table
unfolding table test_computes digest_computes judge_computes range_computes run_computes float_computes
cases = each table refl
