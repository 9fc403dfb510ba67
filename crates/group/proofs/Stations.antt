-- DEMAND 3 OF STATIONS: a run of stations is a run over lines. Assumes nothing beyond the premises.
use Rattle.std.specs.Prelude.{Err, Ok}
use Prim.Native.Nat.{ℕ}
use mathlib.Core.Path.{◌≡◌, refl, sym, ap, subst, ◌∙◌}
use mathlib.Core.Bool.{true}
use mathlib.Core.List.{List, [], ◌∷◌, ◌++◌}
use mathlib.Core.Option.{Option, none, some}
use lib.Dec.{eqb, ltb}
use Rattle.units.specs.declared.labels.RoundLabel.{RoundLabel}
use Rattle.units.specs.declared.refusal.Refusal.{Refusal}
use Rattle.units.specs.declared.refusal.Refusal.TheVariants.{Closed}
use Rattle.units.specs.Refusal.{Verdict}
use Rattle.units.specs.declared.settings.Group.{Group}
use Rattle.units.specs.declared.settings.Numbers.{Numbers}
use Rattle.units.specs.Labels.{floor_fits}
use Rattle.units.specs.Pick.{pick}
use Rattle.units.specs.Settings.{numbers_fit}
use Rattle.units.proofs.Every.{and_left, and_right, absurd_by}
use Rattle.message.specs.declared.head.Head.{Head}
use Rattle.message.specs.declared.head.Head.TheVariants.{Start}
use Rattle.message.specs.declared.value.Message.{Message}
use Rattle.message.specs.Head.{head_fits}
use Rattle.message.specs.View.{as_start}
use Rattle.message.proofs.Views.{start_seen, by_kind}
use Rattle.fields.proofs.Cases.{by_test}
use Rattle.lines.specs.declared.settle.Settling.{Settling}
use Rattle.lines.specs.Reading.{read_line}
use Rattle.lines.proofs.RoundTrip.{read_fits}
use Rattle.controller.specs.declared.state.Controller.{Controller}
use Rattle.controller.specs.Start.{start_of, started}
use Rattle.controller_laws.proofs.Fits.{told as in_range}
use Rattle.session.specs.declared.stage.Core.{Core}
use Rattle.session.specs.declared.stage.Stage.{Stage}
use Rattle.session.specs.declared.stage.Stage.TheVariants.{Settling as AtSettings, Waiting, Running, Ended}
use Rattle.session.specs.Booting.{led, told}
use Rattle.session.specs.Demand.{spoken_in, step_by}
use Rattle.session.specs.Reach.{FitsAt, CoreFits}
use Rattle.fields.specs.Lines.{lines_of}
use Rattle.session.specs.Turn.{Turn, numbers_in, group_in, core_start, running_with, quiet, refusing, hears, step_turn, turn_by, turn}
use Rattle.session.proofs.Demand2.{turn_steps}
use Rattle.session.proofs.Fits.{start_fits, turn_fits}
use Rattle.session.proofs.Program.{waits_closed, first_start}
use Rattle.group.specs.World.{Mark, empty, EventOf, hand, store, crash, put, On, here, next, confirms, rising}
use Rattle.group.specs.Premises.{Meters}
use Rattle.group.specs.Wire.{Wire, takes, hears as hears-line, afterwards, OnwardLines, Demand3Lines}
use Rattle.group.specs.Stations.{Stations, Given, line, boot, puts, confirming, turned, later, controller_at, controller_in, spoken, wire_in, Asked, Booted, KeptGiven, OnwardStations, Demand3Stations}
use Rattle.group.proofs.Later.{continued}
use Rattle.group.proofs.Sent.{put_same}
use Rattle.group.proofs.Texts.{in_spoken, spoken_x, quiet_sent, spoken_step, turn_text, turn_whole, spoken_text, puts_both}
use Rattle.group.proofs.Wire.{demand3_lines}

-- ---- the turns of a program past its settings
abbrev pub Past : Stage → Type 0
Past AtSettings = ⊥
Past Waiting = Unit {0}
Past Running = Unit {0}
Past Ended = ⊥

abbrev sure_of : ℕ → Core → List ℕ → List Mark
sure_of i c ln = confirming i (spoken_in c ln).head (read_line (group_in c) ln).verdict c.stage

data Way (c : Core) (ln : List ℕ) : Type 0 where
  refuses : (why : Refusal) → turn c ln ≡ refusing c why → ((i : ℕ) → sure_of i c ln ≡ []) → ((w : Wire) (i : ℕ) → w.up i ≡ controller_in (some c) → afterwards (numbers_in c) w (hand i ln) ≡ w)
      → Way c ln
  rises : (own : ℕ) (floor : RoundLabel) → c.stage ≡ Waiting → (read_line (group_in c) ln).verdict ≡ Ok tt → (spoken_in c ln).head ≡ Start own floor → Way c ln
  steps : c.stage ≡ Running → (read_line (group_in c) ln).verdict ≡ Ok tt → Way c ln

unsure : (i : ℕ) (h : Head) (v : Verdict) (stage : Stage) → stage ≡ Waiting → confirming i h v stage ≡ []
unsure i h v stage e = rw e

hears_as : (s : Numbers) (w : Wire) (i : ℕ) (a : Message) (v : Verdict) (u : Option Controller) → v ≡ Ok tt → w.up i ≡ u → hears-line s w i a v ≡ takes s w i a u
hears_as s w i a v u e q = rw (e, q)

-- a message that is not B, to a number whose program waits for one
unread : (s : Numbers) (w : Wire) (i : ℕ) (a : Message) (v : Verdict) → v ≡ Ok tt → w.up i ≡ none → rising s a.head ≡ none → hears-line s w i a v ≡ w
unread s w i a v e n r =
    hears_as s w i a v none e n
    ∙ (λ k. record { up = λ j. (ap (λ (x : Option Controller). put w.up i x j) (r ∙ sym n) ∙ put_same w.up i j) k; sent = w.sent; stored = w.stored; confirmed = w.confirmed })

way : (c : Core) (ln : List ℕ) (stage : Stage) → c.stage ≡ stage → Past stage → (v : Verdict) → (read_line (group_in c) ln).verdict ≡ v → Way c ln
unfolding turn_by hears
way c ln AtSettings e p v ev = absurd p
way c ln Waiting e p (Ok tt) ev =
    by_kind (λ (k : Head). (spoken_in c ln).head ≡ k → Way c ln) (λ v q. rises v.0 v.1 e ev q)
    (λ k n q. refuses Closed (waits_closed c ln e ev (ap as_start q ∙ n)) (λ i. unsure i (spoken_in c ln).head (read_line (group_in c) ln).verdict c.stage e)
    (λ w i u. unread (numbers_in c) w i (spoken_in c ln) _ ev (u ∙ ap (controller_at c) e) (ap (rising (numbers_in c)) q ∙ rw n))) (start_seen (spoken_in c ln).head) refl
way c ln Waiting e p (Err why) ev =
    refuses why (rw (e, ev)) (λ i. unsure i (spoken_in c ln).head (read_line (group_in c) ln).verdict c.stage e)
    (λ w i u. ap (hears-line (numbers_in c) w i (spoken_in c ln)) ev)
way c ln Running e p (Ok tt) ev = steps e ev
way c ln Running e p (Err why) ev =
    refuses why (rw (e, ev))
    (λ i. ap (confirming i (spoken_in c ln).head (read_line (group_in c) ln).verdict) e ∙ ap (λ (x : Verdict). confirming i (spoken_in c ln).head x Running) ev)
    (λ w i u. ap (hears-line (numbers_in c) w i (spoken_in c ln)) ev)
way c ln Ended e p v ev = absurd p

-- ---- what holds of every program that runs
pub record Fine (s : Numbers) (c : Core) : Type 0 where
  pub settings : numbers_in c ≡ s
  pub fits : CoreFits c
  pub past : Past c.stage

abbrev pub FineIn : Numbers → Option Core → Type 0
FineIn s none = Unit {0}
FineIn s (some c) = Fine s c

abbrev pub Sound : Numbers → Stations → Type 0
Sound s w = (i : ℕ) → FineIn s (w.up i)

way_of : (c : Core) (ln : List ℕ) → Past c.stage → Way c ln
way_of c ln p = way c ln c.stage refl p (read_line (group_in c) ln).verdict refl

-- past its settings a program keeps them
abbrev Kept : Core → Turn → Type 0
Kept c t = (t.next.settling ≡ c.settling) × Past t.next.stage

next_past : (c : Core) (ln : List ℕ) → Past c.stage → Way c ln → Kept c (turn c ln)
next_past c ln p (refuses why e q r) = subst (Kept c) (sym e) (refl, p)
next_past c ln p (rises own floor s v e) = subst (Kept c) (sym (first_start c ln own floor s v e)) (refl, tt)
next_past c ln p (steps s v) = subst (Kept c) (sym (turn_steps c ln s v)) (refl, tt)

pub led_past : (c : Core) (ls : List (List ℕ)) → Past c.stage → ((led c ls).settling ≡ c.settling) × Past (led c ls).stage
unfolding led
led_past c [] p = (refl, p)
led_past c (l ∷ ls) p =
    let n = next_past c l p (way_of c l p) in
    let r = led_past (turn c l).next ls n.1 in (r.0 ∙ n.0, r.1)

-- a program that runs a controller goes on with one
runs_on : (c : Core) (ln : List ℕ) → c.stage ≡ Running → Way c ln → (turn c ln).next.stage ≡ Running
runs_on c ln e (refuses why q r t) = ap (λ (t : Turn). t.next.stage) q ∙ e
runs_on c ln e (rises own floor s v q) = let z : Running ≡ Waiting = sym e ∙ s in absurd_by (cc)
runs_on c ln e (steps s v) = ap (λ (t : Turn). t.next.stage) (turn_steps c ln s v)

led_runs : (c : Core) (ls : List (List ℕ)) → c.stage ≡ Running → (led c ls).stage ≡ Running
unfolding led
led_runs c [] e = e
led_runs c (l ∷ ls) e = led_runs (turn c l).next ls (runs_on c l e (way_of c l (subst Past (sym e) tt)))

-- what is written on the way to the first B is read by nobody
boot_spoken : (s : Numbers) (c : Core) (ls old : List (List ℕ)) → (led c ls).stage ≡ Waiting → spoken s (puts (lines_of (told c ls)) old) ≡ spoken s old
unfolding led told
boot_spoken s c [] old e = quiet_sent s old
boot_spoken s c (l ∷ ls) old e =
    let n : c.stage ≡ Running → ⊥ = λ r. let z : Waiting ≡ Running = sym e ∙ led_runs c (l ∷ ls) r in absurd_by (cc) in
    let u = (turn c l).text in
    let r = told (turn c l).next ls in
    ap (λ (x : List (List ℕ)). spoken s (puts x old)) (turn_whole c l r)
    ∙ ap (spoken s) (puts_both (lines_of u) (lines_of r) old)
    ∙ boot_spoken s (turn c l).next ls (puts (lines_of u) old) e
    ∙ spoken_text c s u old n (turn_text c l)

fine_next : (s : Numbers) (c : Core) (ln : List ℕ) → Fine s c → Fine s (turn c ln).next
fine_next s c ln f =
    let n = next_past c ln f.past (way_of c ln f.past) in
    record { settings = ap (λ (x : Settling). x.settings.numbers) n.0 ∙ f.settings; fits = turn_fits c ln f.fits; past = n.1 }

led_fits : (c : Core) (ls : List (List ℕ)) → CoreFits c → CoreFits (led c ls)
unfolding led
led_fits c [] f = f
led_fits c (l ∷ ls) f = led_fits (turn c l).next ls (turn_fits c l f)

put_fine : (s : Numbers) (up : ℕ → Option Core) (i : ℕ) (x : Option Core) → ((j : ℕ) → FineIn s (up j)) → FineIn s x → (j : ℕ) → FineIn s (put up i x j)
unfolding put pick
put_fine s up i x f g j = by_test (eqb j i) (λ t. rw t g) (λ t. rw t (f j))

-- ---- a turn is what happens on the wire
put_in : (up : ℕ → Option Core) (i : ℕ) (x : Option Core) (j : ℕ) → controller_in (put up i x j) ≡ put (λ k. controller_in (up k)) i (controller_in x) j
unfolding put pick
put_in up i x j = by_test (eqb j i) (λ t. rw t) (λ t. rw t)

start_rises : (s : Numbers) (own : ℕ) (floor : RoundLabel) → numbers_fit s ≡ true → ltb own s.group.g ≡ true → floor_fits floor ≡ true → rising s (Start own floor) ≡ some (start_of s own floor)
unfolding started pick
start_rises s own floor f o l = rw (f, o, l)

start_head : (s : Group) (h : Head) (own : ℕ) (floor : RoundLabel) → h ≡ Start own floor → head_fits s h ≡ true → (ltb own s.g ≡ true) × (floor_fits floor ≡ true)
unfolding head_fits
start_head s h own floor e f =
    let g : head_fits s (Start own floor) ≡ true = subst (λ (x : Head). head_fits s x ≡ true) e f in
    (and_left (ltb own s.g) (floor_fits floor) g, and_right (ltb own s.g) (floor_fits floor) g)

module _ (w : Stations) (i : ℕ) (ln : List ℕ) (c : Core) (u : w.up i ≡ some c) where
  abbrev s : Numbers
  s = numbers_in c

  abbrev made : Turn → List Mark → Stations
  made t sure = record { up = put w.up i (some t.next); sent = puts (lines_of t.text) w.sent; stored = w.stored; confirmed = sure ++ w.confirmed }

  -- the wire of the stations after a turn
  wire_made : (t : Turn) (sure : List Mark) (d : Option Controller) (out : List (List ℕ)) → controller_in (some t.next) ≡ d → spoken s (puts (lines_of t.text) w.sent) ≡ out
      → ◌≡◌ {A = Wire} (wire_in s (made t sure)) (record { up = put (wire_in s w).up i d; sent = out; stored = w.stored; confirmed = sure ++ w.confirmed })
  wire_made t sure d out p q = λ k.
      record {
        up = λ j. (put_in w.up i (some t.next) j ∙ ap (λ (x : Option Controller). put (wire_in s w).up i x j) p) k;
        sent = q k;
        stored = w.stored;
        confirmed = sure ++ w.confirmed;
      }

  no_step : (why : Refusal) → wire_in s w ≡ wire_in s (made (refusing c why) [])
  no_step why =
      sym (wire_made (refusing c why) [] (controller_in (w.up i)) (spoken s w.sent) (ap controller_in (sym u)) (spoken_x s why w.sent)
      ∙ (λ k. record { up = λ j. put_same (wire_in s w).up i j k; sent = spoken s w.sent; stored = w.stored; confirmed = w.confirmed }))

  wire_turn : CoreFits c → Way c ln → afterwards s (wire_in s w) (hand i ln) ≡ wire_in s (made (turn c ln) (sure_of i c ln))
  wire_turn f (refuses why e q r) = r (wire_in s w) i (ap controller_in u) ∙ no_step why ∙ sym (λ t. wire_in s (made (e t) (q i t)))
  wire_turn f (rises own floor st v e) =
      let m = (in_range (group_in c) (spoken_in c ln) (read_fits (group_in c) ln v)).head in
      let h = start_head (group_in c) (spoken_in c ln).head own floor e m in
      let g : numbers_fit s ≡ true = subst (λ (x : Stage). FitsAt c x) st f in
      let r : rising s (spoken_in c ln).head ≡ some (start_of s own floor) = ap (rising s) e ∙ start_rises s own floor g h.0 h.1 in
      let z : sure_of i c ln ≡ [] = ap (confirming i (spoken_in c ln).head (read_line (group_in c) ln).verdict) st in
      hears_as s (wire_in s w) i (spoken_in c ln) _ none v (ap controller_in u ∙ ap (controller_at c) st)
      ∙ sym ((λ t. wire_in s (made (first_start c ln own floor st v e t) (z t)))
      ∙ wire_made (quiet (running_with c (start_of s own floor))) [] (rising s (spoken_in c ln).head) (spoken s w.sent) (sym r) (quiet_sent s w.sent))
  wire_turn f (steps st v) =
      let z : sure_of i c ln ≡ confirms i (spoken_in c ln).head =
      ap (confirming i (spoken_in c ln).head (read_line (group_in c) ln).verdict) st ∙ ap (λ (x : Verdict). confirming i (spoken_in c ln).head x Running) v in
      hears_as s (wire_in s w) i (spoken_in c ln) _ (some c.controller) v (ap controller_in u ∙ ap (controller_at c) st)
      ∙ sym ((λ t. wire_in s (made (turn_steps c ln st v t) (z t)))
      ∙ wire_made (step_turn c (step_by c ln)) (confirms i (spoken_in c ln).head) (some (step_by c ln).next) _ refl (spoken_step s c.controller (spoken_in c ln) w.sent))

module _ (s : Numbers) (meters : Meters) where
  abbrev Follow : Stations → Stations → Type 0
  Follow w v = OnwardLines s meters (wire_in s w) (wire_in s v) × Sound s v

  pub turned_wire : (w : Stations) (i : ℕ) (ln : List ℕ) (c : Core) → w.up i ≡ some c → Fine s c → afterwards s (wire_in s w) (hand i ln) ≡ wire_in s (turned w i ln (some c))
  turned_wire w i ln c u f =
      subst (λ (n : Numbers). afterwards n (wire_in n w) (hand i ln) ≡ wire_in n (turned w i ln (some c))) f.settings (wire_turn w i ln c u f.fits (way_of c ln f.past))

  handed : (w : Stations) → Sound s w → (i : ℕ) (ln : List ℕ) (x : Option Core) → w.up i ≡ x → FineIn s x → Asked s meters w i ln x → Follow w (turned w i ln x)
  handed w g i ln none u f k = (here, g)
  handed w g i ln (some c) u f k =
      (subst (OnwardLines s meters (wire_in s w)) (turned_wire w i ln c u f) (next here (hand i ln) k), put_fine s w.up i (some (turn c ln).next) g (fine_next s c ln f))

  -- a crash, or a boot: no controller stands there, and nothing that is read was written
  pub fallen : (w : Stations) (i : ℕ) (x : Option Core) (sent : List (List ℕ)) → controller_in x ≡ none → spoken s sent ≡ spoken s w.sent
      → ◌≡◌ {A = Wire} (afterwards s (wire_in s w) (crash i)) (wire_in s (record { up = put w.up i x; sent = sent; stored = w.stored; confirmed = w.confirmed }))
  fallen w i x sent e q = λ k.
      record {
        up = λ j. sym (put_in w.up i x j ∙ ap (λ (y : Option Controller). put (wire_in s w).up i y j) e) k;
        sent = sym q k;
        stored = w.stored;
        confirmed = w.confirmed;
      }

  pub boot_wire : (w : Stations) (i : ℕ) (lines : List (List ℕ)) → Booted s (led core_start lines) → afterwards s (wire_in s w) (crash i) ≡ wire_in s (later w (hand i (boot lines)))
  boot_wire w i lines b =
      fallen w i (some (led core_start lines)) (puts (lines_of (told core_start lines)) w.sent) (ap (controller_at (led core_start lines)) b.waits) (boot_spoken s core_start lines w.sent b.waits)

  booted : (lines : List (List ℕ)) → Booted s (led core_start lines) → Fine s (led core_start lines)
  booted lines b = record { settings = b.settings; fits = led_fits core_start lines start_fits; past = subst Past (sym b.waits) tt }

  happens : (w : Stations) → Sound s w → (e : EventOf Given) → On (KeptGiven s meters) w e → Follow w (later w e)
  happens w g (hand i (line ln)) k = handed w g i ln (w.up i) refl (g i) k
  happens w g (store i label) k = (next here (store i label) tt, g)
  happens w g (crash i) k = (subst (OnwardLines s meters (wire_in s w)) (fallen w i none w.sent refl refl) (next here (crash i) tt), put_fine s w.up i none g tt)
  happens w g (hand i (boot lines)) b = (
    subst (OnwardLines s meters (wire_in s w)) (boot_wire w i lines b) (next here (crash i) tt),
    put_fine s w.up i (some (led core_start lines)) g (booted lines b),
  )

  pub follows : {w v : Stations} → Sound s w → OnwardStations s meters w v → Follow w v
  follows g here = (here, g)
  follows g (next {v} on e k) =
      let a = follows g on in
      let b = happens v a.1 e k in (continued a.0 b.0, b.1)

  pub spoken_none : ◌≡◌ {A = Wire} (wire_in s empty) empty
  unfolding spoken
  spoken_none = refl

  lines_demand : {w v : Stations} → OnwardStations s meters empty w → OnwardStations s meters w v → Demand3Lines s meters (wire_in s w) (wire_in s v)
  lines_demand {w} {v} run on =
      let a = follows (λ i. tt) run in
      let b = follows a.1 on in
      demand3_lines s meters (subst (λ (x : Wire). OnwardLines s meters x (wire_in s w)) spoken_none a.0) b.0

  -- DEMAND 3 OF WHAT STATIONS WRITE: every run of stations that keeps the premises, to w, and however it goes on, to v
  pub demand3_stations : {w v : Stations} → OnwardStations s meters empty w → OnwardStations s meters w v → Demand3Stations s meters w v
  demand3_stations {w} {v} run on =
      let d = lines_demand run on in
      record {
        right = λ x m t. d.right x (in_spoken s w.sent x m t);
        same = λ x y m n t u. d.same x y (in_spoken s w.sent x m t) (in_spoken s v.sent y n u);
        one = λ x y m n t u. d.one x y (in_spoken s v.sent x m t) (in_spoken s v.sent y n u);
      }
