-- Three digits or fewer are a number below a thousand. Assumes nothing.
use Rattle.std.proofs.Common.{rules, tests, arith, ◌≡◌, ℕ, List, [], ◌∷◌, ◌+◌, ◌*◌, ◌%◌, ◌≤◌, length}
use Rattle.std.specs.List.{fold}
use Rattle.std.proofs.lemmas.Iterator.{YieldsList-from_slice}
use Rattle.std.proofs.lemmas.Iterator.Consumers.{fold_from_yields_List}
use Rattle.line_vectors.proofs.number.Goals as goal

abbrev more : ℕ → ℕ → ℕ
more n b = n % 4294967296 * 10 + b % 16 % 10

more_within : (n b top : ℕ) → n ≤ top → more n b ≤ top * 10 + 9
more_within n b top h = omega arith

few : (digits : List ℕ) → length digits ≤ 3 → fold more 0 digits ≤ 999
few [] h = omega arith
few (a ∷ []) h = omega (arith, more_within 0 a 0 (omega arith))
few (a ∷ b ∷ []) h = omega (arith, more_within _ b 9 (more_within 0 a 0 (omega arith)))
few (a ∷ b ∷ c ∷ []) h = omega (arith, more_within _ c 99 (more_within _ b 9 (more_within 0 a 0 (omega arith))))
few (a ∷ b ∷ c ∷ d ∷ ds) h = absurd (omega arith)

pub returns : goal.returns
returns c = λ h.
    let digits = c.args.digits.now in
    let n : c.fold-n.result ≡ fold more 0 digits = fold_from_yields_List _ more _ _ c.fold-n.ensures.ran (YieldsList-from_slice digits cc) (λ a x b q k. search (rules, tests)) in
    omega (arith, few digits h, n)
