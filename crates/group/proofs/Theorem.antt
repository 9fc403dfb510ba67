-- DEMAND 3, proved: first from what is enough, then from the premises as they are worded. Assumes nothing beyond the premises.
use Rattle.std.specs.Prelude.{Ok, Some}
use Prim.Native.Nat.{ℕ, ◌≤◌}
use native.Mathlib.Omega.{arith}
use mathlib.Core.Path.{◌≡◌, refl, sym, ap, subst, ◌∙◌}
use mathlib.Core.Bool.{◌&&◌}
use mathlib.Core.List.{List, Memᴰ}
use lib.Dec.{leb}
use lib.Ieee.{Float}
use borrow.Author.Tests.{leb-true}
use Rattle.units.specs.declared.estimate.Estimate.{Estimate}
use Rattle.units.specs.declared.labels.RoundLabel.{RoundLabel}
use Rattle.units.specs.declared.labels.StateLabel.{StateLabel}
use Rattle.units.specs.declared.settings.Numbers.{Numbers}
use Rattle.units.specs.Labels.{round_fits}
use Rattle.units.specs.Settings.{group_fits}
use Rattle.units.proofs.Every.{and_left, and_right}
use Rattle.vote.specs.declared.digest.Digest.{Digest}
use Rattle.vote.specs.Vote.{seats_fit, votes_fit}
use Rattle.vote.proofs.Answer.{one_winner}
use Rattle.filter.specs.declared.compute.Computed.{Computed}
use Rattle.filter.specs.Compute.{computed}
use Rattle.message.specs.declared.head.Head.TheVariants.{Setpoints}
use Rattle.message.specs.declared.value.Message.{Message}
use Rattle.controller_laws.proofs.Ways.{same_round_lem}
use Rattle.group.specs.World.{World}
use Rattle.group.specs.Premises.{Meters, Kept, Enough, Onward, Run}
use Rattle.group.specs.Demand.{released, WonBy, readings_of, Canon, at_start, of_issued, Right, Demand3}
use Rattle.group.proofs.Later.{continued, stays_sent}
use Rattle.group.proofs.Once.{once}
use Rattle.group.proofs.Sound.{Sound, sound}
use Rattle.group.proofs.Weaker.{weaker, weaker_on}
use Rattle.vote.specs.Digest.{Poll}

-- ---- the state of a label is one
module _ (s : Numbers) (meters : Meters) (sent : List Message) where
  same_won : {d e : Digest} → ◌≡◌ {A = Poll} (Ok (Some d)) (Ok (Some e)) → d ≡ e
  same_won q = cc

  -- equal labels have one winner
  same_winner : (l k : RoundLabel) (d e : Digest) → l ≡ k → WonBy s sent l d → WonBy s sent k e → d ≡ e
  same_winner l k d e p a b = same_won (one_winner (released s sent k) (Ok (Some d)) (Ok (Some e)) (subst (λ (x : RoundLabel). WonBy s sent x d) p a) b)

  -- a label that has a winner is not 0
  won_round : (label : RoundLabel) (d : Digest) → WonBy s sent label d → 1 ≤ label.0
  unfolding votes_fit released
  won_round label d e =
      let v = released s sent label in
      let f = and_left (group_fits v.group && round_fits v.label) (seats_fit v.group v.label v.seats) e.0 in
      leb-true 1 label.0 (and_left (leb 1 label.0) _ (and_right (group_fits v.group) (round_fits v.label) f))

  -- what computing gives, from equal inputs
  computed_as : (l k : RoundLabel) (d e : Digest) (es fs : List Estimate) → l ≡ k → d ≡ e → es ≡ fs
      → computed l d.state es s d.mask (readings_of meters l) ≡ computed k e.state fs s e.mask (readings_of meters k)
  computed_as l k d e es fs p q r = λ i. computed (p i) (q i).state (r i) s (q i).mask (readings_of meters (p i))

  canon_same : {l k : StateLabel} {es fs : List Estimate} → l ≡ k → Canon s meters sent l es → Canon s meters sent k fs → es ≡ fs
  canon_same p at_start at_start = refl
  canon_same p at_start (of_issued label d base i w c) = let z : 0 ≡ label.0 = ap (λ (x : StateLabel). x.0) p in absurd (omega (arith, won_round label d w))
  canon_same p (of_issued label d base i w c) at_start = let z : label.0 ≡ 0 = ap (λ (x : StateLabel). x.0) p in absurd (omega (arith, won_round label d w))
  canon_same p (of_issued label d base i w c) (of_issued label₂ e base₂ i₂ w₂ c₂) =
      let l = same_round_lem label label₂ (ap (λ (x : StateLabel). x.0) p) in
      let q = same_winner label label₂ d e l w w₂ in
      ap (λ (x : Computed). x.state) (computed_as label label₂ d e base base₂ l q (canon_same (ap (λ (x : Digest). x.state) q) c c₂))

  -- "that state itself fixed by the run"
  pub canon_one : {l : StateLabel} {es fs : List Estimate} → Canon s meters sent l es → Canon s meters sent l fs → es ≡ fs
  canon_one a b = canon_same refl a b

  -- two S of one label that are right agree
  pub right_one : (label : RoundLabel) (d e : Digest) (t u : List Float) → Right s meters sent label d t → Right s meters sent label e u → (d ≡ e) × (t ≡ u)
  right_one label d e t u a b =
      let q = same_winner label label d e refl a.wins b.wins in
      (q, a.given ∙ ap (λ (x : Computed). x.targets) (computed_as label label d e a.base b.base refl q (canon_same (ap (λ (x : Digest). x.state) q) a.named b.named)) ∙ sym b.given)

module _ (s : Numbers) (meters : Meters) where
  -- what holds of a run, by all the messages of the run itself
  pub sound_run : {w : World} → (run : Run s (Enough meters) w) → Sound s meters w.sent (once s meters run).lines (once s meters run).unique w
  sound_run {w} run = let o = once s meters run in sound s meters w.sent o.lines o.unique run (λ x m. m)

  every_right : {w : World} → Run s (Enough meters) w → (x : Message) → Memᴰ x w.sent → (i : ℕ) (label : RoundLabel) (d : Digest) → x.head ≡ Setpoints i label d
      → Right s meters w.sent label d x.targets
  every_right run x m i label d e = ((sound_run run).said x m).issue i label d e

  -- from what is enough: F at any moment, and a restart at least at every label that its number voted on
  pub demand3_weaker : {w v : World} → Run s (Enough meters) w → Onward s (Enough meters) w v → Demand3 s meters w v
  demand3_weaker {v = v} run on =
      let all = continued run on in
      record {
        right = λ x m i label d e. every_right all x (stays_sent s on x m) i label d e;
        same = λ x y m n i j label d e p q.
            right_one s meters v.sent label d e x.targets y.targets (every_right all x (stays_sent s on x m) i label d p) (every_right all y n j label e q);
        one = (once s meters all).unique;
      }

  -- DEMAND 3: for every run that keeps the premises, to w, and however it goes on, to v
  pub demand3 : {w v : World} → Run s (Kept meters) w → Onward s (Kept meters) w v → Demand3 s meters w v
  demand3 run on = demand3_weaker (weaker s meters run) (weaker_on s meters run on)
