-- DEMAND 3 ON THE WIRE: a run over lines is a run over messages, since what is written is read back as it was. Assumes nothing beyond the premises.
use Rattle.std.specs.Prelude.{Err, None, Ok, Some}
use Prim.Native.Nat.{ℕ}
use mathlib.Core.Path.{◌≡◌, refl, sym, ap, subst, ◌∙◌}
use mathlib.Core.List.Memᴰ
use mathlib.Core.List.{List, [], ◌∷◌, map, Memᴰ}
use mathlib.Core.Option.{Option, none, some}
use Rattle.units.specs.declared.labels.RoundLabel.{RoundLabel}
use Rattle.units.specs.Refusal.{Verdict}
use Rattle.units.specs.declared.settings.Numbers.{Numbers}
use Rattle.units.proofs.Every.{absurd_by}
use Rattle.vote.specs.declared.digest.Digest.{Digest}
use Rattle.message.specs.declared.head.Head.{Head}
use Rattle.message.specs.declared.head.Head.TheVariants.{Vote, Setpoints, Refused}
use Rattle.message.specs.declared.value.Message.{Message}
use Rattle.message.specs.Message.{plain}
use Rattle.lines.specs.declared.read.Line.{Line}
use Rattle.lines.specs.Reading.{read_line}
use Rattle.lines.specs.Writing.{spell_line}
use Rattle.lines.proofs.RoundTrip.{read_write}
use Rattle.lines.proofs.Saying.{not_x_lem}
use Rattle.lines.proofs.Wire.{taken}
use Rattle.plan.specs.Plan.{Sent}
use Rattle.controller.specs.declared.state.Controller.{Controller}
use Rattle.controller.specs.Answers.{Answer}
use Rattle.controller.specs.Sent.{with_targets, sent_message}
use Rattle.controller.specs.Step.{stepped}
use Rattle.controller_laws.specs.Outcomes.{SentBy}
use Rattle.controller_laws.specs.Outcomes.SentBy.{query, reply, advert, update, floor, vote, setpoints}
use Rattle.controller_laws.proofs.Outcomes.{sent_by_lem}
use Rattle.group.specs.World.{empty, EventOf, hand, store, crash, On, here, next, World, sending, sent_by, handed, after}
use Rattle.group.specs.Premises.{Meters, Released, KeptAs, Kept, Onward, Run}
use Rattle.group.specs.Demand.{Right}
use Rattle.group.specs.Wire.{Wire, spelling, spelled_by, takes, hears, read_as, afterwards, KeptLine, OnwardLines, read_all, from, Demand3Lines}
use Rattle.group.proofs.Later.{continued, every_sent}
use Rattle.group.proofs.Named.{sent_in_range}
use Rattle.group.proofs.Sent.{fresh_head}
use Rattle.group.proofs.Theorem.{demand3}
use Rattle.group.proofs.Weaker.{weaker}

-- ---- what is sent
no_x : {s : Numbers} {c : Controller} {h : Head} {n : Controller} {k : Head} → SentBy s c h n k → (number : ℕ) → k ≡ Refused number → ⊥
no_x (query e) number q = absurd_by (cc)
no_x (reply mask e) number q = absurd_by (cc)
no_x (advert e) number q = absurd_by (cc)
no_x (update e) number q = absurd_by (cc)
no_x (floor e) number q = absurd_by (cc)
no_x (vote e p) number q = absurd_by (cc)
no_x (setpoints t) number q = absurd_by (cc)

-- S has its targets and nothing else
abbrev Bare : Message → Type 0
Bare x = (i : ℕ) (label : RoundLabel) (d : Digest) → x.head ≡ Setpoints i label d → x ≡ with_targets (Setpoints i label d) x.targets

bare_sent : (s : Numbers) (n : Controller) (h k : Head) → h ≡ k → (i : ℕ) (label : RoundLabel) (d : Digest) → k ≡ Setpoints i label d
    → sent_message s n h ≡ with_targets (Setpoints i label d) (sent_message s n h).targets
unfolding sent_message
bare_sent s n h k p i label d q = subst (λ (x : Head). sent_message s n x ≡ with_targets (Setpoints i label d) (sent_message s n x).targets) (sym (p ∙ q)) refl

module _ (s : Numbers) (meters : Meters) where
  -- what is written is read back
  pub read_back : {w : World} → Run s (Kept meters) w → (x : Message) → Memᴰ x w.sent → read_line s.group (spell_line s.group x) ≡ taken x
  read_back run x m =
      read_write s.group x (sent_in_range s meters (weaker s meters run) x m)
      (not_x_lem x.head (every_sent s (λ y. (number : ℕ) → y.head ≡ Refused number → ⊥) (λ c a y f number e. no_x (sent_by_lem s c a f.head f.out) number (sym (fresh_head s (stepped s c a) [] y f) ∙ e)) run x m))

  sent_bare : {w : World} → Run s (Kept meters) w → (x : Message) → Memᴰ x w.sent → Bare x
  sent_bare run =
      every_sent s Bare
      (λ c a y f i label d e. subst (λ (z : Message). z ≡ with_targets (Setpoints i label d) z.targets) (sym f.whole)
      (bare_sent s (stepped s c a).next f.head y.head (sym (fresh_head s (stepped s c a) [] y f)) i label d e)) run

  -- ---- a world of messages, with its lines
  abbrev pub wire_of : World → Wire
  wire_of w = record { up = w.up; sent = map (spell_line s.group) w.sent; stored = w.stored; confirmed = w.confirmed }

  spelled_one : (c : Controller) (t : Sent) (old : List Message) → spelling s c t (map (spell_line s.group) old) ≡ map (spell_line s.group) (sending s c t old)
  spelled_one c None old = refl
  spelled_one c (Some head) old = refl

  spelled : (r : Answer) (old : List Message) → spelled_by s r (map (spell_line s.group) old) ≡ map (spell_line s.group) (sent_by s r old)
  spelled r old = ap (spelling s r.next r.second) (spelled_one r.next r.first old) ∙ spelled_one r.next r.second (sending s r.next r.first old)

  pub takes_as : (w : World) (i : ℕ) (a : Message) (u : Option Controller) → takes s (wire_of w) i a u ≡ wire_of (handed s w i a u)
  takes_as w i a none = refl
  takes_as w i a (some c) = λ t.
      let v = handed s w i a (some c) in record { up = v.up; sent = spelled (stepped s c a) w.sent t; stored = v.stored; confirmed = v.confirmed }

  -- a line that was sent is read as the message that was sent
  genuine : {w : World} → Run s (Kept meters) w → (line : List ℕ) → Memᴰ line (wire_of w).sent → Memᴰ (read_as s line) w.sent
  genuine {w} run line m =
      let q = Memᴰ.of_map (spell_line s.group) w.sent m in
      let e : read_as s line ≡ q.0 = ap (λ (l : List ℕ). read_as s l) (sym q.2) ∙ ap (λ (l : Line). l.message) (read_back run q.0 q.1) in
      subst (λ (x : Message). Memᴰ x w.sent) (sym e) q.1

  kept : {w : World} → Run s (Kept meters) w → (i : ℕ) (line : List ℕ) → KeptAs meters (wire_of w) i line (read_as s line) → Kept meters w i (read_as s line)
  kept run i line k =
      record {
        one_reading = k.one_reading;
        own_number = k.own_number;
        not_made_up = λ t. genuine run line (k.not_made_up t);
        stored_first = k.stored_first;
        highest_floor = k.highest_floor;
      }

  -- ---- what happens on the wire happens in the world of messages
  abbrev Led : World → Wire → Type 0
  Led w u = (v : World) × Onward s (Kept meters) w v × (u ≡ wire_of v)

  heard : (w : World) → Run s (Kept meters) w → (i : ℕ) (line : List ℕ) → KeptLine s meters (wire_of w) i line → (v : Verdict) → (read_line s.group line).verdict ≡ v
      → Led w (hears s (wire_of w) i (read_as s line) v)
  heard w run i line k (Ok tt) e = (after s w (hand i (read_as s line)), next here (hand i (read_as s line)) (kept run i line (k e)), takes_as w i (read_as s line) (w.up i))
  heard w run i line k (Err why) e = (w, here, refl)

  happens : (w : World) → Run s (Kept meters) w → (e : EventOf (List ℕ)) → On (KeptLine s meters) (wire_of w) e → Led w (afterwards s (wire_of w) e)
  happens w run (hand i line) k = heard w run i line k (read_line s.group line).verdict refl
  happens w run (store i label) k = (after s w (store i label), next here (store i label) tt, refl)
  happens w run (crash i) k = (after s w (crash i), next here (crash i) tt, refl)

  follows : {v u : Wire} (w : World) → Run s (Kept meters) w → v ≡ wire_of w → OnwardLines s meters v u → Led w u
  follows w run e here = (w, here, e)
  follows w run e (next on x k) =
      let a = follows w run e on in
      let b = happens a.0 (continued run a.1) x (subst (λ (y : Wire). On (KeptLine s meters) y x) a.2 k) in
      (b.0, continued a.1 b.1, ap (λ (y : Wire). afterwards s y x) a.2 ∙ b.2)

  -- ---- the lines are read as the messages
  read_all_lem : (sent : List Message) → ((x : Message) → Memᴰ x sent → read_line s.group (spell_line s.group x) ≡ taken x) → read_all s (map (spell_line s.group) sent) ≡ sent
  read_all_lem [] f = refl
  read_all_lem (x ∷ sent) f = λ t. ap (λ (l : Line). l.message) (f x (Memᴰ.head refl)) t ∷ read_all_lem sent (λ y m. f y (Memᴰ.tail m)) t

  -- two S of one label that agree are the same but for the sender
  same_but : (a b : Message) (i j : ℕ) (label : RoundLabel) (d e : Digest) → a ≡ with_targets (Setpoints i label d) a.targets → b ≡ with_targets (Setpoints j label e) b.targets → d ≡ e → a.targets ≡ b.targets
      → b ≡ from j label d a
  unfolding plain
  same_but a b i j label d e p q r t =
      q ∙ (λ k. with_targets (Setpoints j label (sym r k)) (sym t k)) ∙ sym (ap (from j label d) p)

  module _ (w v : World) (run : Run s (Kept meters) w) (on : Onward s (Kept meters) w v) where
    all : Run s (Kept meters) v
    all = continued run on

    lines_right : (x : List ℕ) → Memᴰ x (wire_of w).sent → (i : ℕ) (label : RoundLabel) (d : Digest) → (read_as s x).head ≡ Setpoints i label d
        → Right s meters (read_all s (wire_of v).sent) label d (read_as s x).targets
    lines_right x m i label d e =
        subst (λ (sent : List Message). Right s meters sent label d (read_as s x).targets) (sym (read_all_lem v.sent (read_back all)))
        ((demand3 s meters run on).right (read_as s x) (genuine run x m) i label d e)

    lines_same : (x y : List ℕ) → Memᴰ x (wire_of w).sent → Memᴰ y (wire_of v).sent → (i j : ℕ) (label : RoundLabel) (d e : Digest) → (read_as s x).head ≡ Setpoints i label d
        → (read_as s y).head ≡ Setpoints j label e → y ≡ spell_line s.group (from j label d (read_as s x))
    lines_same x y m n i j label d e p q =
        let a = genuine run x m in
        let b = genuine all y n in
        let z = (demand3 s meters run on).same (read_as s x) (read_as s y) a b i j label d e p q in
        let g = Memᴰ.of_map (spell_line s.group) v.sent n in
        let h : g.0 ≡ read_as s y = sym (ap (λ (l : List ℕ). read_as s l) (sym g.2) ∙ ap (λ (l : Line). l.message) (read_back all g.0 g.1)) in
        sym g.2 ∙ ap (spell_line s.group) (h ∙ same_but (read_as s x) (read_as s y) i j label d e (sent_bare run (read_as s x) a i label d p) (sent_bare all (read_as s y) b j label e q) z.0 z.1)

    released_as : (x : List ℕ) → Memᴰ x (wire_of v).sent → (i : ℕ) (label : RoundLabel) (d : Digest) → (read_as s x).head ≡ Vote i label d → Released v.sent i label d
    released_as x m i label d e = record { line = read_as s x; among = genuine all x m; said = e }

    lines_demand : Demand3Lines s meters (wire_of w) (wire_of v)
    lines_demand =
        record {
          right = lines_right;
          same = lines_same;
          one = λ x y m n i label d e p q. (demand3 s meters run on).one i label d e (released_as x m i label d p) (released_as y n i label e q);
        }

  -- DEMAND 3 OF THE BYTES: every run over lines that keeps the premises, to w, and however it goes on, to v
  pub demand3_lines : {w v : Wire} → OnwardLines s meters empty w → OnwardLines s meters w v → Demand3Lines s meters w v
  demand3_lines {w} {v} run on =
      let a = follows empty here refl run in
      let b = follows a.0 a.1 a.2 on in
      subst (λ (x : Wire). Demand3Lines s meters x v) (sym a.2) (subst (Demand3Lines s meters (wire_of a.0)) (sym b.2) (lines_demand a.0 b.0 a.1 b.1))
