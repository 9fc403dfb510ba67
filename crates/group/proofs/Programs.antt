-- A RUN OF STATIONS IS MADE OF PROGRAMS THAT GO BY TURNS, each as a session goes that is fed its lines in any pieces. Assumes nothing.
use Rattle.std.specs.Prelude.{Ok}
use Prim.Native.Nat.{ℕ}
use mathlib.Core.Path.{◌≡◌, refl, sym, ap, subst, ◌∙◌}
use mathlib.Core.Bool.{true}
use mathlib.Core.List.Memᴰ
use mathlib.Core.List.{List, [], ◌∷◌, ◌++◌, append-nil, append_assoc, Memᴰ}
use mathlib.Core.Logic.{◌⊎◌, inl, inr, ⊎_elim}
use mathlib.Core.Option.{Option, none, some}
use lib.Dec.{eqb}
use Rattle.units.specs.declared.labels.RoundLabel.{RoundLabel}
use Rattle.units.specs.declared.settings.Numbers.{Numbers}
use Rattle.units.specs.Pick.{pick}
use Rattle.message.specs.declared.head.Head.TheVariants.{Start}
use Rattle.fields.proofs.Cases.{by_test}
use Rattle.lines.specs.Reading.{ended_once, read_line}
use Rattle.controller.specs.Start.{start_of}
use Rattle.session.specs.declared.feed.Session.{Session}
use Rattle.session.specs.declared.stage.Core.{Core}
use Rattle.session.specs.declared.stage.Stage.TheVariants.{Running}
use Rattle.session.specs.Booting.{led, told, input_of}
use Rattle.session.specs.Feeding.{session_start}
use Rattle.session.specs.Pieces.{Feeds}
use Rattle.fields.specs.Lines.{lines_of}
use Rattle.session.specs.Turn.{core_start, quiet, turn}
use Rattle.session.proofs.Led.{lines_led}
use Rattle.session.proofs.Program.{first_start, later_start}
use Rattle.session.proofs.Whole.{led_on, told_on}
use Rattle.group.specs.World.{empty, EventOf, hand, store, crash, put, On, here, next}
use Rattle.group.specs.Premises.{Meters}
use Rattle.group.specs.Wire.{read_as}
use Rattle.group.specs.Stations.{Stations, Given, line, boot, puts, turned, later, Booted, KeptGiven, OnwardStations}
use Rattle.group.specs.Programs.{Life, lines_in, born, lived_on, lives_after, lives, Goes, GoesIn, Written, now, before, ByTurns}
use Rattle.group.proofs.Sent.{no_one, same_one, put_cases, put_there, put_same}
use Rattle.group.proofs.Stations.{Past, Fine, FineIn, led_past, follows}
use Rattle.group.proofs.Texts.{told_whole}

-- ---- lines put ahead of others
puts_old : (ls old : List (List ℕ)) (x : List ℕ) → Memᴰ x old → Memᴰ x (puts ls old)
unfolding puts
puts_old [] old x m = m
puts_old (l ∷ ls) old x m = puts_old ls (l ∷ old) x (Memᴰ.tail m)

puts_new : (ls old : List (List ℕ)) (x : List ℕ) → Memᴰ x ls → Memᴰ x (puts ls old)
unfolding puts
puts_new [] old x m = absurd (Memᴰ.not-nil m)
puts_new (l ∷ ls) old x m = ⊎_elim (λ e. puts_old ls (l ∷ old) x (Memᴰ.head e)) (λ n. puts_new ls (l ∷ old) x n) (Memᴰ.cases_cons m)

puts_cases : (ls old : List (List ℕ)) (x : List ℕ) → Memᴰ x (puts ls old) → Memᴰ x ls ⊎ Memᴰ x old
unfolding puts
puts_cases [] old x m = inr m
puts_cases (l ∷ ls) old x m =
    ⊎_elim (λ n. inl (Memᴰ.tail n)) (λ n. ⊎_elim (λ e. inl (Memᴰ.head e)) (λ k. inr k) (Memᴰ.cases_cons n)) (puts_cases ls (l ∷ old) x m)

module _ (s : Numbers) (meters : Meters) where
  -- ---- where each program stands
  put_goes : (up : ℕ → Option Core) (ls : ℕ → Option Life) (i : ℕ) (x : Option Core) (l : Option Life) → ((j : ℕ) → GoesIn s (up j) (ls j)) → GoesIn s x l
      → (j : ℕ) → GoesIn s (put up i x j) (put ls i l j)
  unfolding put pick
  put_goes up ls i x l f g j = by_test (eqb j i) (λ t. rw t g) (λ t. rw t (f j))

  lived : (ln : List ℕ) (c : Core) (l : Option Life) → GoesIn s (some c) l → GoesIn s (some (turn c ln).next) (lived_on ln (some c) l)
  unfolding led told
  lived ln c none g = absurd g
  lived ln c (some l) g =
      let all = append_assoc l.settings l.since (ln ∷ []) in
      let d = led core_start (lines_in l) in
      record {
        booted = g.booted;
        core = ap (λ (x : Core). (turn x ln).next) g.core ∙ sym (led_on core_start (lines_in l) (ln ∷ [])) ∙ ap (led core_start) all;
        text = (λ k. g.text k ++ (turn (g.core k) ln).text) ∙ ap (λ (t : List ℕ). told core_start (lines_in l) ++ t) (sym (append-nil (turn d ln).text))
            ∙ sym (told_on core_start (lines_in l) (ln ∷ [])) ∙ ap (told core_start) all;
      }

  stands_turned : (w : Stations) (ls : ℕ → Option Life) → ((j : ℕ) → GoesIn s (w.up j) (ls j)) → (i : ℕ) (ln : List ℕ) (x : Option Core) → w.up i ≡ x
      → (j : ℕ) → GoesIn s ((turned w i ln x).up j) (put ls i (lived_on ln x (ls i)) j)
  stands_turned w ls g i ln none u j = subst (GoesIn s (w.up j)) (sym (put_same ls i j)) (g j)
  stands_turned w ls g i ln (some c) u j =
      put_goes w.up ls i (some (turn c ln).next) (lived_on ln (some c) (ls i)) g (lived ln c (ls i) (subst (λ (x : Option Core). GoesIn s x (ls i)) u (g i))) j

  goes_born : (lines : List (List ℕ)) → Booted s (led core_start lines) → Goes s (led core_start lines) (born lines)
  goes_born lines b = record { booted = b; core = ap (led core_start) (sym (append-nil lines)); text = ap (told core_start) (sym (append-nil lines)) }

  stands_after : (w : Stations) (ls : ℕ → Option Life) → ((j : ℕ) → GoesIn s (w.up j) (ls j)) → (e : EventOf Given) → On (KeptGiven s meters) w e → (j : ℕ) → GoesIn s ((later w e).up j) (lives_after w.up ls e j)
  stands_after w ls g (hand i (line ln)) k = stands_turned w ls g i ln (w.up i) refl
  stands_after w ls g (store i label) k = g
  stands_after w ls g (crash i) k = put_goes w.up ls i none none g tt
  stands_after w ls g (hand i (boot lines)) k = put_goes w.up ls i (some (led core_start lines)) (some (born lines)) g (goes_born lines k)

  all_stand : {w : Stations} (run : OnwardStations s meters empty w) (i : ℕ) → GoesIn s (w.up i) (lives run i)
  unfolding lives
  all_stand here i = tt
  all_stand (next {v} on e k) i = stands_after v (lives on) (λ j. all_stand on j) e k i

  -- the life of a program that runs
  life_of : (c : Core) (l : Option Life) → GoesIn s (some c) l → (a : Life) × (l ≡ some a) × Goes s c a
  life_of c none g = absurd g
  life_of c (some a) g = (a, refl, g)

  goes_of : (x : Option Core) (y : Option Life) (c : Core) (l : Life) → x ≡ some c → y ≡ some l → GoesIn s x y → Goes s c l
  goes_of x y c l p q g = subst (GoesIn s (some c)) q (subst (λ (z : Option Core). GoesIn s z y) p g)

  -- ---- what was sent is what they wrote
  stays : (w : Stations) (x : List ℕ) → Memᴰ x w.sent → (e : EventOf Given) → Memᴰ x (later w e).sent
  stays w x m (hand i (line ln)) = by (w.up i)
    where
      by : (u : Option Core) → Memᴰ x (turned w i ln u).sent
      by none = m
      by (some c) = puts_old (lines_of (turn c ln).text) w.sent x m
  stays w x m (store i label) = m
  stays w x m (crash i) = m
  stays w x m (hand i (boot lines)) = puts_old (lines_of (told core_start lines)) w.sent x m

  -- the lines of what was written before, and of one turn more
  wrote_on : (c : Core) (l : Life) (ln : List ℕ) → Goes s c l → lines_of (l.wrote ++ (turn c ln).text) ≡ lines_of l.wrote ++ lines_of (turn c ln).text
  wrote_on c l ln g =
      ap (λ (t : List ℕ). lines_of (t ++ (turn c ln).text)) g.text ∙ told_whole core_start (lines_in l) (turn c ln).text ∙ ap (λ (t : List ℕ). lines_of t ++ lines_of (turn c ln).text) (sym g.text)

  only_turned : {w : Stations} (run : OnwardStations s meters empty w) (i : ℕ) (ln : List ℕ) (k : KeptGiven s meters w i (line ln)) (u : Option Core) → w.up i ≡ u → (x : List ℕ)
      → Memᴰ x (turned w i ln u).sent → ((y : List ℕ) → Memᴰ y w.sent → Written w run y) → Written (later w (hand i (line ln))) (next run (hand i (line ln)) k) x
  unfolding lives
  only_turned run i ln k none e x m f = before (hand i (line ln)) k (f x m)
  only_turned {w} run i ln k (some c) e x m f =
      let a = life_of c (lives run i) (subst (λ (u : Option Core). GoesIn s u (lives run i)) e (all_stand run i)) in
      ⊎_elim
      (λ n. now i _ (put_there (lives run) i _ ∙ (λ t. lived_on ln (e t) (a.1 t)))
      (subst (Memᴰ x) (sym (wrote_on c a.0 ln a.2)) (Memᴰ.append_right (lines_of a.0.wrote) n)))
      (λ n. before (hand i (line ln)) k (f x n)) (puts_cases (lines_of (turn c ln).text) w.sent x m)

  sent_only : {w : Stations} (run : OnwardStations s meters empty w) (x : List ℕ) → Memᴰ x w.sent → Written w run x
  unfolding lives
  sent_only here x m = absurd (Memᴰ.not-nil m)
  sent_only (next {v} on (hand i (line ln)) k) x m = only_turned on i ln k (v.up i) refl x m (λ y n. sent_only on y n)
  sent_only (next on (store i label) k) x m = before (store i label) k (sent_only on x m)
  sent_only (next on (crash i) k) x m = before (crash i) k (sent_only on x m)
  sent_only (next {v} on (hand i (boot lines)) k) x m =
      ⊎_elim (λ n. now i (born lines) (put_there (lives on) i (some (born lines))) n) (λ n. before (hand i (boot lines)) k (sent_only on x n))
      (puts_cases (lines_of (told core_start lines)) v.sent x m)

  -- all that a program that runs has written was sent
  abbrev Told : Stations → (ℕ → Option Life) → Type 0
  Told w ls = (i : ℕ) (l : Life) → ls i ≡ some l → (x : List ℕ) → Memᴰ x (lines_of l.wrote) → Memᴰ x w.sent

  told_turned : (w : Stations) (ls : ℕ → Option Life) → Told w ls → (i : ℕ) (ln : List ℕ) (u : Option Core) (y : Option Life) → ls i ≡ y → GoesIn s u y → (l : Life) → lived_on ln u y ≡ some l
      → (x : List ℕ) → Memᴰ x (lines_of l.wrote) → Memᴰ x (turned w i ln u).sent
  told_turned w ls f i ln none y q g l e x m = f i l (q ∙ e) x m
  told_turned w ls f i ln (some c) none q g l e x m = no_one e
  told_turned w ls f i ln (some c) (some a) q g l e x m =
      ⊎_elim (λ n. puts_old (lines_of (turn c ln).text) w.sent x (f i a q x n)) (λ n. puts_new (lines_of (turn c ln).text) w.sent x n)
      (Memᴰ.append_cases (lines_of a.wrote) (subst (Memᴰ x) (ap (λ (b : Life). lines_of b.wrote) (sym (same_one e)) ∙ wrote_on c a ln g) m))

  told_put : (w : Stations) (ls : ℕ → Option Life) (e : EventOf Given) (i : ℕ) (y : Option Life) → Told w ls → ((l : Life) → y ≡ some l → (x : List ℕ) → Memᴰ x (lines_of l.wrote) → Memᴰ x (later w e).sent)
      → Told (later w e) (put ls i y)
  told_put w ls e i y f g j l q x m = elim (put_cases ls i y j l q) [ inl p ↦ g l p.1 x m | inr p ↦ stays w x (f j l p.1 x m) e ]

  told_all : {w : Stations} (run : OnwardStations s meters empty w) → Told w (lives run)
  unfolding lives
  told_all here = λ i l q x m. no_one q
  told_all (next {v} on (hand i (line ln)) k) =
      told_put v (lives on) (hand i (line ln)) i _ (told_all on) (λ l q x m. told_turned v (lives on) (told_all on) i ln (v.up i) (lives on i) refl (all_stand on i) l q x m)
  told_all (next {v} on (store i label) k) = told_all on
  told_all (next {v} on (crash i) k) = told_put v (lives on) (crash i) i none (told_all on) (λ l q x m. no_one q)
  told_all (next {v} on (hand i (boot lines)) k) =
      told_put v (lives on) (hand i (boot lines)) i (some (born lines)) (told_all on)
      (λ l q x m. puts_new (lines_of (told core_start lines)) v.sent x (subst (λ (b : Life). Memᴰ x (lines_of b.wrote)) (sym (same_one q)) m))

  sent_all : {w : Stations} {run : OnwardStations s meters empty w} (x : List ℕ) → Written w run x → Memᴰ x w.sent
  sent_all {run = run} x (now i l q m) = told_all run i l q x m
  sent_all x (before {w} e k m) = stays w x (sent_all x m) e

  -- ---- a session that is fed the same bytes
  fed_same : {w : Stations} (run : OnwardStations s meters empty w) (i : ℕ) (c : Core) (l : Life) → w.up i ≡ some c → lives run i ≡ some l → ((x : List ℕ) → Memᴰ x (lines_in l) → ended_once x ≡ true)
      → {out : List ℕ} {y : Session} → Feeds session_start (input_of (lines_in l)) out y → (y.core ≡ c) × (out ≡ l.wrote)
  fed_same {w} run i c l p q f d =
      let g = goes_of (w.up i) (lives run i) c l p q (all_stand run i) in
      let r = lines_led (lines_in l) f d in (r.0 ∙ sym g.core, r.1 ∙ sym g.text)

  -- EVERY RUN OF STATIONS
  pub by_turns : {w : Stations} (run : OnwardStations s meters empty w) → ByTurns s meters w run
  by_turns run = record { stands = all_stand run; sent_only = sent_only run; sent_all = λ x d. sent_all x d; fed = fed_same run }

  -- ---- ANOTHER NUMBER, OR THE SAME ONE AGAIN: B to a program that runs leads where a boot with the same settings and the same B lead, and writes the same
  pub starts_anew : {w : Stations} (run : OnwardStations s meters empty w) (i : ℕ) (c : Core) (l : Life) → w.up i ≡ some c → lives run i ≡ some l → c.stage ≡ Running
      → (ln : List ℕ) (j : ℕ) (floor : RoundLabel) → (read_line s.group ln).verdict ≡ Ok tt → (read_as s ln).head ≡ Start j floor
      → turn c ln ≡ turn (led core_start l.settings) ln
  starts_anew {w} run i c l p q e ln j floor v h =
      let g = goes_of (w.up i) (lives run i) c l p q (all_stand run i) in
      let f : Fine s c = subst (FineIn s) p ((follows s meters (λ k. tt) run).1 i) in
      let d = led core_start l.settings in
      let b = g.booted in
      let st : c.settling ≡ d.settling = ap (λ (x : Core). x.settling) (g.core ∙ led_on core_start l.settings l.since) ∙ (led_past d l.since (subst Past (sym b.waits) tt)).0 in
      later_start c ln j floor e f.fits (ap (λ (n : Numbers). (read_line n.group ln).verdict) f.settings ∙ v) (ap (λ (n : Numbers). (read_line n.group ln).message.head) f.settings ∙ h)
      ∙ (λ k. quiet (record { stage = Running; settling = st k; controller = start_of (st k).settings.numbers j floor }))
      ∙ sym (first_start d ln j floor b.waits (ap (λ (n : Numbers). (read_line n.group ln).verdict) b.settings ∙ v) (ap (λ (n : Numbers). (read_line n.group ln).message.head) b.settings ∙ h))
