-- NO LABEL IS VOTED ON, OR ISSUED, BOTH BEFORE A CHANGE AND AFTER IT, where every start after it is given at least the highest floor ever confirmed to anybody. Assumes nothing beyond that and the premises.
use Prim.Native.Nat.{ℕ, ◌≤◌, ◌<◌}
use native.Mathlib.Omega.{arith}
use mathlib.Core.Path.{◌≡◌, refl, sym, subst}
use mathlib.Core.List.Memᴰ
use mathlib.Core.List.{Memᴰ}
use mathlib.Core.Logic.{inl, inr, ⊎_elim}
use mathlib.Core.Option.{Option, none, some}
use Rattle.units.specs.declared.labels.RoundLabel.{RoundLabel}
use Rattle.units.specs.declared.settings.Numbers.{Numbers}
use Rattle.units.proofs.Every.{absurd_by}
use Rattle.message.specs.declared.head.Head.{Head}
use Rattle.message.specs.declared.value.Message.{Message}
use Rattle.controller.specs.declared.state.Controller.{Controller}
use Rattle.controller.specs.Start.{start_of}
use Rattle.controller.specs.Step.{stepped}
use Rattle.controller_laws.specs.Outcomes.{SentBy}
use Rattle.controller_laws.specs.Outcomes.SentBy.{query, reply, advert, update, floor, vote, setpoints}
use Rattle.controller_laws.specs.Phases.{Busy}
use Rattle.controller_laws.proofs.Outcomes.{sent_by_lem, start_step}
use Rattle.controller_laws.proofs.Rises.{vote_busy, label_rises, busy_step}
use Rattle.group.specs.World.{mark, here, next, World, hand, store, crash, with_up, rising, handed}
use Rattle.group.specs.Premises.{Meters, Kept, Enough, Handing, Run}
use Rattle.group.specs.Changing.{FloorsFrom, Covers, About}
use Rattle.group.proofs.Sent.{no_one, same_one, put_cases, risen_by, new_or_old, fresh_head, start_or_not}
use Rattle.group.proofs.Once.{once}
use Rattle.group.proofs.Votes.{won_released}
use Rattle.group.proofs.Weaker.{weaker, voted_confirmed}
use Rattle.group.proofs.Theorem.{demand3_weaker}

-- ---- after the change

-- a step sends D and S of its own label, and only while not idle
about_own : {s : Numbers} {c : Controller} {h : Head} {n : Controller} {k : Head} → SentBy s c h n k → (label : RoundLabel) → About k label → (c.label ≡ label) × Busy c.phase
about_own (query e) label (i, d, q) = absurd_by (⊎_elim (λ p. cc) (λ p. cc) q)
about_own (reply mask e) label (i, d, q) = absurd_by (⊎_elim (λ p. cc) (λ p. cc) q)
about_own (advert e) label (i, d, q) = absurd_by (⊎_elim (λ p. cc) (λ p. cc) q)
about_own (update e) label (i, d, q) = absurd_by (⊎_elim (λ p. cc) (λ p. cc) q)
about_own (floor e) label (i, d, q) = absurd_by (⊎_elim (λ p. cc) (λ p. cc) q)
about_own (vote e p) label (i, d, inl q) = (cc, rw p tt)
about_own (vote e p) label (i, d, inr q) = absurd_by (cc)
about_own (setpoints t) label (i, d, inl q) = absurd_by (cc)
about_own (setpoints t) label (i, d, inr q) = (cc, vote_busy t.vote)

module _ (s : Numbers) (low : RoundLabel) (P : Handing) where
  -- a controller at or above the floor, and above it in any round
  record High (c : Controller) : Type 0 where
    pub label : low.0 ≤ c.label.0
    pub busy : Busy c.phase → low.0 < c.label.0

  record Above (w : World) : Type 0 where
    pub each : (i : ℕ) (c : Controller) → w.up i ≡ some c → High c
    pub said : (x : Message) → Memᴰ x w.sent → (label : RoundLabel) → About x.head label → low.0 < label.0

  start_high : (own : ℕ) (floor : RoundLabel) → low.0 ≤ floor.0 → High (start_of s own floor)
  unfolding start_of
  start_high own top l = record { label = l; busy = λ b. absurd b }

  step_high : (w : World) (i : ℕ) (c : Controller) (a : Message) → FloorsFrom low P w i a → High c → High (stepped s c a).next
  step_high w i c a p h =
      ⊎_elim
      (λ k. ⊎_elim (λ z. subst High (sym z) h) (λ z. subst High (sym z) (start_high k.0 k.1 (p.floors k.0 k.1 k.2))) (start_step s c a k.0 k.1 k.2))
      (λ n. record {
        label = omega (arith, h.label, label_rises s c a n);
        busy = λ b. ⊎_elim (λ k. omega (arith, h.label)) (λ k. omega (arith, h.busy k, label_rises s c a n)) (busy_step s c a n b);
      })
      (start_or_not a.head)

  above_put : (w : World) → Above w → (i : ℕ) (u : Option Controller) → ((n : Controller) → u ≡ some n → High n) → Above (with_up w i u)
  above_put w o i u f = record { each = λ j c e. ⊎_elim (λ p. f c p.1) (λ p. o.each j c p.1) (put_cases w.up i u j c e); said = o.said }

  above_handed : (w : World) → Above w → (i : ℕ) (a : Message) → FloorsFrom low P w i a → (u : Option Controller) → w.up i ≡ u → Above (handed s w i a u)
  above_handed w o i a p none e =
      above_put w o i (rising s a.head)
      (λ n k. let z = risen_by s a.head n k in subst High (sym z.is) (start_high z.own z.low (p.floors z.own z.low z.by)))
  above_handed w o i a p (some c) e =
      record {
        each = λ j n q.
            ⊎_elim (λ k. subst High (same_one k.1) (step_high w i c a p (o.each i c e))) (λ k. o.each j n k.1) (put_cases w.up i (some (stepped s c a).next) j n q);
        said = λ x m label k.
            ⊎_elim (λ f. own f.head (sent_by_lem s c a f.head f.out) label (subst (λ (h : Head). About h label) (fresh_head s (stepped s c a) w.sent x f) k))
            (λ z. o.said x z label k) (new_or_old s (stepped s c a) w.sent x m);
      }
    where
      own : (h : Head) → SentBy s c a.head (stepped s c a).next h → (label : RoundLabel) → About h label → low.0 < label.0
      own h q label k = let z = about_own q label k in subst (λ (l : RoundLabel). low.0 < l.0) z.0 ((o.each i c e).busy z.1)

  above : {w : World} → Run s (FloorsFrom low P) w → Above w
  above here = record { each = λ i c e. no_one e; said = λ x m. absurd (Memᴰ.not-nil m) }
  above (next {v} run (hand i a) p) = above_handed v (above run) i a p (v.up i) refl
  above (next {v} run (store i label) p) = let o = above run in record { each = o.each; said = o.said }
  above (next {v} run (crash i) p) = above_put v (above run) i none (λ n e. no_one e)

  -- such a run keeps P, so that what holds of all of these holds of it: `demand3`, where P is `Kept`
  pub changed_run : {w : World} → Run s (FloorsFrom low P) w → Run s P w
  changed_run here = here
  changed_run (next run (hand i a) p) = next (changed_run run) (hand i a) p.kept
  changed_run (next run (store i label) p) = next (changed_run run) (store i label) p
  changed_run (next run (crash i) p) = next (changed_run run) (crash i) p

  -- EVERY VOTE AND EVERY S OF SUCH A RUN IS ABOVE THE FLOOR
  pub above_floors : {w : World} → Run s (FloorsFrom low P) w → (x : Message) → Memᴰ x w.sent → (label : RoundLabel) → About x.head label → low.0 < label.0
  above_floors run = (above run).said

-- ---- before the change
module _ (s : Numbers) (meters : Meters) where
  -- a label that was voted on or issued was confirmed to somebody
  about_confirmed : {w : World} → Run s (Enough meters) w → (x : Message) → Memᴰ x w.sent → (label : RoundLabel) → About x.head label
      → (j : ℕ) × Memᴰ (mark j label) w.confirmed
  about_confirmed run x m label (i, d, inl e) = (i, voted_confirmed s meters run i label d (record { line = x; among = m; said = e }))
  about_confirmed {w} run x m label (i, d, inr e) =
      let o = once s meters run in
      let q = won_released s w.sent o.lines o.unique label d ((demand3_weaker s meters run here).right x m i label d e).wins in
      (q.0, voted_confirmed s meters run q.0 label d q.1)

  -- EVERY VOTE AND EVERY S IS AT OR BELOW THE HIGHEST FLOOR EVER CONFIRMED
  pub below_floors : {w : World} → Run s (Enough meters) w → (low : RoundLabel) → Covers low w → (x : Message) → Memᴰ x w.sent → (label : RoundLabel) → About x.head label → label.0 ≤ low.0
  below_floors run low f x m label k = let q = about_confirmed run x m label k in f q.0 label q.1

-- NOTHING IS VOTED ON OR ISSUED TWICE: a run to w by the settings s, then one to v by the settings t whose floors cover it have no label in common
pub not_again : (s t : Numbers) (meters : Meters) (low : RoundLabel) (P : Handing) {w v : World} → Run s (Kept meters) w → Covers low w → Run t (FloorsFrom low P) v
    → (x y : Message) → Memᴰ x w.sent → Memᴰ y v.sent → (label : RoundLabel) → About x.head label → About y.head label → ⊥
not_again s t meters low P before f after x y m n label k l =
    let z = below_floors s meters (weaker s meters before) low f x m label k in absurd (omega (arith, above_floors t low P after y n label l))
