-- What a controller computes from what it holds is what the definition gives from the meters' readings and the state that the digest names. Assumes nothing.
use Prim.Native.Nat.{ℕ, ◌<◌, ◌≤◌}
use native.Mathlib.Omega.{arith}
use native.Mathlib.Nat.{zero-add}
use mathlib.Core.Path.{◌≡◌, sym, ap, ◌∙◌}
use mathlib.Core.Bool.{true}
use lib.Bits.{bit_and}
use lib.Dec.{eqb}
use lib.ListN.{get_or}
use borrow.Author.Tests.{eqb-true}
use Rattle.units.specs.declared.labels.RoundLabel.{RoundLabel}
use Rattle.units.specs.declared.labels.StateLabel.{StateLabel}
use Rattle.units.specs.declared.settings.Numbers.{Numbers}
use Rattle.units.specs.Mask.{in_mask}
use Rattle.units.proofs.Every.{and_left, and_right}
use Rattle.units.proofs.Tab.{get_d_tab}
use Rattle.units.proofs.Masks.{in_and}
use Rattle.vote.specs.declared.digest.Digest.{Digest}
use Rattle.filter.specs.declared.compute.Computed.{Computed}
use Rattle.filter.specs.Compute.{new_state, set_points, computed}
use Rattle.filter.proofs.Laws.{computed_same}
use Rattle.plan.specs.Votes.{possessed}
use Rattle.controller.specs.declared.state.Controller.{Controller}
use Rattle.controller.specs.State.{brief_of}
use Rattle.controller_laws.proofs.Ways.{same_state_lem}
use Rattle.group.specs.Premises.{Meters}
use Rattle.group.specs.Demand.{readings_of}

reading_of : (meters : Meters) (label : RoundLabel) (i : ℕ) → i < 16 → get_or (readings_of meters label) i 0 ≡ meters label i
unfolding readings_of
reading_of meters label i k = get_d_tab (meters label) 0 0 16 i k ∙ ap (meters label) (zero-add i)

-- 13 is not given: the chosen runs are held, and the chosen state is the one that is here
module _ (c : Controller) (d : Digest) (p : possessed (brief_of c) d ≡ true) where
  pub chosen_state : d.state ≡ c.state
  unfolding possessed
  chosen_state = same_state_lem d.state c.state (eqb-true _ _ (and_right (eqb (bit_and d.mask c.held) d.mask) _ p))

  chosen_held : (i : ℕ) → in_mask d.mask i ≡ true → in_mask c.held i ≡ true
  unfolding possessed
  chosen_held i e =
      let q : bit_and d.mask c.held ≡ d.mask = eqb-true _ _ (and_left (eqb (bit_and d.mask c.held) d.mask) _ p) in
      and_right (in_mask d.mask i) _ (sym (in_and d.mask c.held i) ∙ ap (λ (n : ℕ). in_mask n i) q ∙ e)

  -- with readings that are the meters'
  module _ (s : Numbers) (meters : Meters) (small : s.group.m ≤ 16) (reads : (i : ℕ) → i < 16 → in_mask c.held i ≡ true → get_or c.readings i 0 ≡ meters c.label i) where
    same_computed : computed c.label c.state c.estimates s d.mask c.readings ≡ computed c.label d.state c.estimates s d.mask (readings_of meters c.label)
    same_computed =
        computed_same c.label c.state c.estimates s d.mask c.readings (readings_of meters c.label)
        (λ i k e. let l : i < 16 = omega arith in reads i l (chosen_held i e) ∙ sym (reading_of meters c.label i l))
        ∙ ap (λ (b : StateLabel). computed c.label b c.estimates s d.mask (readings_of meters c.label)) (sym chosen_state)

    pub issued_state_lem : new_state c.label c.state c.estimates s d.mask c.readings ≡ (computed c.label d.state c.estimates s d.mask (readings_of meters c.label)).state
    issued_state_lem = ap (λ (x : Computed). x.state) same_computed

    pub issued_targets : set_points s (new_state c.label c.state c.estimates s d.mask c.readings)
        ≡ (computed c.label d.state c.estimates s d.mask (readings_of meters c.label)).targets
    issued_targets = ap (λ (x : Computed). x.targets) same_computed
