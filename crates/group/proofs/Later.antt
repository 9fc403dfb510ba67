-- What comes later: a run that goes on is a run, and what was sent stays sent. Assumes nothing.
use Prim.Native.Nat.{ℕ}
use mathlib.Core.Path.{◌≡◌, subst}
use mathlib.Core.List.Memᴰ
use mathlib.Core.List.{List, Memᴰ}
use mathlib.Core.Logic.{⊎_elim}
use mathlib.Core.Option.{Option, none, some}
use Rattle.units.specs.declared.settings.Numbers.{Numbers}
use Rattle.message.specs.declared.value.Message.{Message}
use Rattle.controller.specs.declared.state.Controller.{Controller}
use Rattle.controller.specs.Step.{stepped}
use Rattle.group.specs.World.{Mark, WorldOf, hand, store, crash, Takes, Asks, OnwardBy, here, next, World, Event, handed, after}
use Rattle.group.specs.Premises.{Meters, StoredFirst, HighestFloor, KeptAs, Handing, Onward, Run}
use Rattle.group.proofs.Sent.{Fresh, new_or_old, still_sent}

pub continued : {C L H : Type 0} {takes : Takes C L H} {P : Asks C L H} {u w v : WorldOf C L} → OnwardBy takes P u w → OnwardBy takes P w v → OnwardBy takes P u v
continued run here = run
continued run (next on e p) = next (continued run on) e p

module _ (s : Numbers) (w : World) (x : Message) (m : Memᴰ x w.sent) where
  handed_keeps : (i : ℕ) (a : Message) (u : Option Controller) → Memᴰ x (handed s w i a u).sent
  handed_keeps i a none = m
  handed_keeps i a (some c) = still_sent s (stepped s c a) w.sent x m

  pub after_keeps : (e : Event) → Memᴰ x (after s w e).sent
  after_keeps (hand i a) = handed_keeps i a (w.up i)
  after_keeps (store i label) = m
  after_keeps (crash i) = m

-- every message sent is among those of every later world
pub stays_sent : (s : Numbers) {P : Handing} {w v : World} → Onward s P w v → (x : Message) → Memᴰ x w.sent → Memᴰ x v.sent
stays_sent s here x m = m
stays_sent s (next {v} on e p) x m = after_keeps s v x (stays_sent s on x m) e

-- what holds of every message that a step sends holds of every message of a run
module _ (s : Numbers) (Q : Message → Type 0) (each : (c : Controller) (a x : Message) → Fresh s (stepped s c a) x → Q x) where
  every_handed : (w : World) → ((x : Message) → Memᴰ x w.sent → Q x) → (i : ℕ) (a : Message) (u : Option Controller) → (x : Message) → Memᴰ x (handed s w i a u).sent → Q x
  every_handed w f i a none x m = f x m
  every_handed w f i a (some c) x m = ⊎_elim (λ q. each c a x q) (λ q. f x q) (new_or_old s (stepped s c a) w.sent x m)

  pub every_sent : {P : Handing} {w : World} → Run s P w → (x : Message) → Memᴰ x w.sent → Q x
  every_sent here x m = absurd (Memᴰ.not-nil m)
  every_sent (next {v} run (hand i a) p) x m = every_handed v (λ y n. every_sent run y n) i a (v.up i) x m
  every_sent (next {v} run (store i label) p) x m = every_sent run x m
  every_sent (next {v} run (crash i) p) x m = every_sent run x m

-- ---- A CRASH INSIDE A TURN: where less was sent than the world has, and the premises hold of that, they hold of the world. Each clause asks that something was sent, and none that something was not
pub more_sent : {C L : Type 0} (meters : Meters) (w v : WorldOf C L) (i : ℕ) (x : L) (a : Message) → ((y : L) → Memᴰ y w.sent → Memᴰ y v.sent) → w.stored ≡ v.stored → w.confirmed ≡ v.confirmed
    → KeptAs meters w i x a → KeptAs meters v i x a
more_sent meters w v i x a f p q k =
    record {
      one_reading = k.one_reading;
      own_number = k.own_number;
      not_made_up = λ t. f x (k.not_made_up t);
      stored_first = subst (λ (l : List Mark). StoredFirst l i a) p k.stored_first;
      highest_floor = subst (λ (l : List Mark). HighestFloor l i a) q k.highest_floor;
    }
