-- M AND R PUT SETS OF READINGS TOGETHER: what is held after them is the join of what was held and what they say. Assumes nothing.
use Prim.Native.Nat.{ℕ, ◌<◌}
use native.Mathlib.Omega.{arith}
use native.Mathlib.Decide.{ℕ_discrete}
use mathlib.Core.Path.{◌≡◌, refl, sym, ap, subst, ◌∙◌}
use mathlib.Core.Bool.{Bool, true, false, not, ◌&&◌}
use mathlib.Core.List.{List}
use mathlib.Core.Logic.{by_cases}
use lib.Bits.{bit_and}
use lib.Dec.{eqb, leb, ltb}
use lib.ListN.{length, get_or, set, replicate, length-set}
use lib.Seq.{ext_get_or, get_or-set_same, get_or-set_other}
use borrow.Author.Tests.{eqb-true, eqb-false, eq-eqb, ltb-true}
use Rattle.units.specs.declared.refusal.Refusal.TheVariants.{Clash}
use Rattle.units.specs.declared.settings.Numbers.{Numbers}
use Rattle.units.specs.Labels.{round_fits}
use Rattle.units.specs.Limits.{raw_top}
use Rattle.units.specs.Mask.{in_mask}
use Rattle.units.proofs.Every.{every_at, every_all, and_three}
use Rattle.units.proofs.Masks.{in_and}
use Rattle.units.proofs.Picked.{by_yes, by_no}
use Rattle.message.specs.declared.head.Head.{Head}
use Rattle.message.specs.declared.head.Head.TheVariants.{Reading, Reply}
use Rattle.message.specs.declared.value.Message.{Message}
use Rattle.message.specs.Head.{head_fits}
use Rattle.plan.specs.declared.brief.Phase.TheVariants.{Collecting}
use Rattle.plan.specs.declared.planned.Plan.{Plan}
use Rattle.controller.specs.declared.state.Controller.{Controller}
use Rattle.controller.specs.Answers.{Answer}
use Rattle.controller.specs.Effects.{held_by, carried_by, applied}
use Rattle.controller.specs.Merge.{Set, run_bit, agree_place, agree_at, agrees, merged_at, merged, single, agreed, together, join}
use Rattle.controller.specs.Step.{inputs_fit, stepped}
use Rattle.controller_laws.specs.Reasons.Clashed.{by_reading, by_reply}
use Rattle.controller_laws.specs.Reasons.Refuses.{is_clash}
use Rattle.controller_laws.specs.Reasons.Rests.{known}
use Rattle.controller_laws.specs.Ways.{Leads}
use Rattle.controller_laws.specs.Ways.Leads.{refused, unchanged, adds, merges}
use Rattle.controller_laws.specs.Ways.Goes.{led}
use Rattle.controller_laws.proofs.Fits.{inputs}
use Rattle.controller_laws.proofs.Held.{merged_length, merged_place}
use Rattle.controller_laws.proofs.InRange.{inputs_exact}
use Rattle.controller_laws.proofs.Masks.{in_run, not_in_run, or_run}
use Rattle.controller_laws.proofs.OneWay.{goes_one}
use Rattle.controller_laws.proofs.Valid.{sized}

-- ---- one reading, beside sixteen places
module _ (held : ℕ) (readings : List ℕ) (size : length readings ≡ 16) (run raw : ℕ) (r : run < 16) where
  abbrev one : List ℕ
  one = (single run raw).readings

  here_one : get_or one run 0 ≡ raw
  here_one = get_or-set_same (replicate 16 0) run raw 0 r

  -- put with the others it stands at its run
  merged_one : merged (run_bit run) one readings ≡ set readings run raw
  merged_one =
      ext_get_or 0 (merged (run_bit run) one readings) (set readings run raw) (merged_length (run_bit run) one readings ∙ sym (length-set readings run raw ∙ size))
      (λ i k. place i (omega (arith, merged_length (run_bit run) one readings)))
    where
      place : (i : ℕ) → i < 16 → get_or (merged (run_bit run) one readings) i 0 ≡ get_or (set readings run raw) i 0
      place i k =
          merged_place (run_bit run) one readings i k
          ∙ by_cases (ℕ_discrete i run)
          (λ e. subst (λ (j : ℕ). merged_at (in_mask (run_bit run) j) (get_or one j 0) (get_or readings j 0) ≡ get_or (set readings run raw) j 0) (sym e)
          (ap (λ (t : Bool). merged_at t (get_or one run 0) (get_or readings run 0)) (in_run run r) ∙ here_one ∙ sym (get_or-set_same readings run raw 0 (omega (arith, size)))))
          (λ n. ap (λ (t : Bool). merged_at t (get_or one i 0) (get_or readings i 0)) (not_in_run run i r k n) ∙ sym (get_or-set_other readings run i raw 0 n))

  -- it agrees with the others where its run's place does
  one_agrees : agree_place (in_mask held run) raw (get_or readings run 0) ≡ true → agreed (record { mask = held; readings = readings }) (single run raw) ≡ true
  unfolding agrees
  one_agrees h = every_all (agree_at (bit_and (run_bit run) held) one readings) 16 place
    where
      place : (i : ℕ) → i < 16 → agree_at (bit_and (run_bit run) held) one readings i ≡ true
      place i k =
          ap (λ (t : Bool). agree_place t (get_or one i 0) (get_or readings i 0)) (in_and (run_bit run) held i)
          ∙ by_cases (ℕ_discrete i run)
          (λ e. subst (λ (j : ℕ). agree_place (in_mask (run_bit run) j && in_mask held j) (get_or one j 0) (get_or readings j 0) ≡ true) (sym e)
          (ap (λ (t : Bool). agree_place (t && in_mask held run) (get_or one run 0) (get_or readings run 0)) (in_run run r)
          ∙ ap (λ (n : ℕ). agree_place (in_mask held run) n (get_or readings run 0)) here_one ∙ h))
          (λ n. ap (λ (t : Bool). agree_place (t && in_mask held i) (get_or one i 0) (get_or readings i 0)) (not_in_run run i r k n))

  one_differs : agreed (record { mask = held; readings = readings }) (single run raw) ≡ true → in_mask held run ≡ true → raw ≡ get_or readings run 0
  unfolding agrees
  one_differs h t =
      let p = every_at (agree_at (bit_and (run_bit run) held) one readings) 16 run h r in
      sym here_one
      ∙ eqb-true _ _
      (ap (λ (b : Bool). agree_place (b && true) (get_or one run 0) (get_or readings run 0)) (sym (in_run run r))
      ∙ ap (λ (b : Bool). agree_place (in_mask (run_bit run) run && b) (get_or one run 0) (get_or readings run 0)) (sym t)
      ∙ ap (λ (b : Bool). agree_place b (get_or one run 0) (get_or readings run 0)) (sym (in_and (run_bit run) held run)) ∙ p)

  -- a reading that is held already
  one_known : get_or readings run 0 ≡ raw → set readings run raw ≡ readings
  one_known e =
      ext_get_or 0 (set readings run raw) readings (length-set readings run raw)
      (λ i k. by_cases (ℕ_discrete i run)
      (λ q. subst (λ (j : ℕ). get_or (set readings run raw) j 0 ≡ get_or readings j 0) (sym q) (get_or-set_same readings run raw 0 (omega (arith, size)) ∙ sym e))
      (λ n. get_or-set_other readings run i raw 0 n))

-- what does not hold fails
apart : (b : Bool) → (b ≡ true → ⊥) → b ≡ false
apart true n = absurd (n refl)
apart false n = refl

same_set : {a b : Set} → a.mask ≡ b.mask → a.readings ≡ b.readings → a ≡ b
same_set p q = λ i. record { mask = p i; readings = q i }

module _ (a b : Set) where
  joins : agreed a b ≡ true → {x : Set} → x ≡ together a b → x ≡ join a b
  unfolding join
  joins h e = by_yes _ h e

  stands : agreed a b ≡ false → a ≡ join a b
  unfolding join
  stands h = by_no _ h refl

module _ (s : Numbers) (c : Controller) (a : Message) (i : inputs_fit s c a ≡ true) (e : c.phase ≡ Collecting) where
  -- what is held after a way that the message leads
  after : {h : Head} {p : Plan} → a.head ≡ h → Leads s c a h p → held_by (applied s a c p.effect) ≡ held_by (stepped s c a).next
  after {p = p} u w = ap (λ (r : Answer). held_by r.next) (goes_one s c a (led i (subst (λ (h : Head). Leads s c a h p) (sym u) w)))

  -- R (collecting): "all its readings are added; if one clashes, none is"
  pub reply_joins : (sender mask : ℕ) → a.head ≡ Reply sender c.label mask → (sender ≡ c.own → ⊥) → held_by (stepped s c a).next ≡ join (held_by c) (carried_by mask a.readings)
  unfolding applied
  reply_joins sender mask u ne = told (agreed (held_by c) (carried_by mask a.readings)) refl
    where
      told : (t : Bool) → agreed (held_by c) (carried_by mask a.readings) ≡ t → held_by (stepped s c a).next ≡ join (held_by c) (carried_by mask a.readings)
      told true t = joins (held_by c) (carried_by mask a.readings) t (sym (after u (merges {sender = sender} {mask = mask} ne e (ap not t))))
      told false t = sym (after u (refused Clash (is_clash (by_reply {sender = sender} {mask = mask} ne e (ap not t))))) ∙ stands (held_by c) (carried_by mask a.readings) t

  -- M of the current label (collecting): "added; the same value again changes nothing; another value is 11"
  pub reading_joins : (run raw : ℕ) → a.head ≡ Reading c.label run raw → held_by (stepped s c a).next ≡ join (held_by c) (single run raw)
  unfolding applied head_fits
  reading_joins run raw u = told (in_mask c.held run) refl
    where
      size : length c.readings ≡ 16
      size = ((inputs_exact s c a).0 i).controller.by_run

      small : run < 16
      small =
          let q = inputs s c a i in
          let h = and_three (round_fits c.label) (ltb run s.group.m) (leb raw raw_top) (subst (λ (x : Head). head_fits s.group x ≡ true) u q.message.head) in
          omega (arith, ltb-true run s.group.m h.1, (sized s q.numbers).m_high)

      old : c.state.0 < c.label.0
      old = (((inputs_exact s c a).0 i).controller.busy (rw e tt)).1

      told : (t : Bool) → in_mask c.held run ≡ t → held_by (stepped s c a).next ≡ join (held_by c) (single run raw)
      told false t =
          joins (held_by c) (single run raw) (one_agrees c.held c.readings size run raw small (ap (λ (b : Bool). agree_place b raw (get_or c.readings run 0)) t))
          (sym (after u (adds {run = run} {raw = raw} e old t)) ∙ same_set refl (sym (merged_one c.held c.readings size run raw small)))
      told true t = held (eqb (get_or c.readings run 0) raw) refl
        where
          held : (b : Bool) → eqb (get_or c.readings run 0) raw ≡ b → held_by (stepped s c a).next ≡ join (held_by c) (single run raw)
          held true b =
              let k = eqb-true (get_or c.readings run 0) raw b in
              joins (held_by c) (single run raw)
              (one_agrees c.held c.readings size run raw small (ap (λ (x : Bool). agree_place x raw (get_or c.readings run 0)) t ∙ eq-eqb raw (get_or c.readings run 0) (sym k)))
              (sym (after u (unchanged (known {run = run} {raw = raw} e old t k)))
              ∙ same_set (sym (or_run c.held run small t)) (sym (merged_one c.held c.readings size run raw small ∙ one_known c.held c.readings size run raw small k)))
          held false b =
              let k = eqb-false (get_or c.readings run 0) raw b in
              sym (after u (refused Clash (is_clash (by_reading {run = run} {raw = raw} e old t k))))
              ∙ stands (held_by c) (single run raw) (apart (agreed (held_by c) (single run raw)) (λ h. k (sym (one_differs c.held c.readings size run raw small h t))))
