-- The two sums from run 0 upward, as the folds that the code runs. Assumes nothing.
use Rattle.std.proofs.Common.{◌≡◌, ℕ, ◌+◌, List, [], ◌∷◌, sym, refl, ◌∙◌, add-zero, zero-add, add_assoc}
use Rattle.std.specs.List.{fold, sum}
use lib.Ieee.{Float, binary64, add}
use Rattle.units.specs.declared.estimate.Estimate.{Estimate}
use Rattle.filter.specs.Share.{add_all, sum_of}

pub added : (t : Float) (es : List Estimate) → fold (λ (s : Float) (e : Estimate). add binary64 s e.x) t es ≡ add_all t es
unfolding add_all
added t [] = refl
added t (e ∷ es) = added (add binary64 t e.x) es

summed_onto : (n : ℕ) (ws : List ℕ) → fold (λ a w. a + w) n ws ≡ n + sum_of ws
unfolding sum_of
summed_onto n [] = sym (add-zero n)
summed_onto n (w ∷ ws) = summed_onto (n + w) ws ∙ add_assoc n w (sum_of ws)

pub summed : (ws : List ℕ) → sum ws ≡ sum_of ws
summed ws = summed_onto 0 ws ∙ zero-add (sum_of ws)
