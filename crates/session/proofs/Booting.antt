-- DEMAND 1'S PREMISE CAN BE MET: settings in range, written line by line and fed, lead a new session past them, and a B to a running controller. Assumes nothing.
use Rattle.std.specs.Prelude.{Ok, Err}
use Prim.Native.Nat.{ℕ, ◌+◌}
use native.Mathlib.Omega.{arith}
use mathlib.Core.Path.{◌≡◌, refl, sym, ap, subst, ◌∙◌}
use mathlib.Core.Bool.{true}
use mathlib.Core.List.{List, [], ◌∷◌, ◌++◌, append-nil}
use lib.Dec.{leb}
use lib.ListN.{length, take, drop, length-append}
use lib.Seq.{take-length, drop-length}
use borrow.Author.Tests.{eqb-true}
use Rattle.units.specs.declared.labels.RoundLabel.{RoundLabel}
use Rattle.units.specs.declared.settings.Numbers.{Numbers}
use Rattle.units.specs.Limits.{line_top}
use Rattle.units.specs.Pick.{pick}
use Rattle.units.proofs.Every.{no_way}
use Rattle.fields.specs.Text.{line_feed, until, lacks}
use Rattle.fields.proofs.Cases.{by_test, absurd_by}
use Rattle.fields.proofs.Texts.{until_append}
use Rattle.fields.specs.Lines.{feed_at}
use Rattle.message.specs.declared.head.Head.TheVariants.{Start}
use Rattle.message.specs.declared.settings.Settings.{Settings}
use Rattle.message.specs.Message.{message_fits, plain}
use Rattle.message.specs.Settings.{settings_fit}
use Rattle.lines.specs.declared.read.Line.{Line}
use Rattle.lines.specs.Settling.{Standing, settle_line, missing, settle_on, settle_all}
use Rattle.lines.specs.declared.settle.Wanted.TheVariants.{More, Whole}
use Rattle.lines.specs.declared.settle.Settled.{Settled}
use Rattle.lines.specs.declared.settle.Settling.{Settling}
use Rattle.lines.specs.Reading.{ended_once, read_line}
use Rattle.lines.specs.Settings.{setting_lines}
use Rattle.lines.specs.Values.{kind_is}
use Rattle.lines.specs.Writing.{spell_line, buffer_of}
use Rattle.lines.proofs.RoundTrip.{read_write, line_feed_lem}
use Rattle.lines.proofs.Saying.{not_x}
use Rattle.lines.proofs.SettingTrip.{takes}
use Rattle.lines.proofs.WholeSettings.{whole, settings_back}
use Rattle.lines.proofs.Wire.{taken}
use Rattle.controller.specs.Start.{start_of}
use Rattle.session.specs.declared.feed.Fed.{Fed}
use Rattle.session.specs.declared.feed.Session.{Session}
use Rattle.session.specs.declared.stage.Core.{Core}
use Rattle.session.specs.declared.stage.Stage.TheVariants.{Settling as AtSettings, Waiting}
use Rattle.session.specs.Booting.{led, input_of, Settles, Starts}
use Rattle.session.specs.Feeding.{line_turn, line_done, fed, fed_text, session_start}
use Rattle.session.specs.Pieces.{Feeds, Stands}
use Rattle.session.specs.Pieces.Feeds.{none, more}
use Rattle.session.specs.Turn.{Turn, core_start, settled_in, running_with, quiet, stepping, turn}
use Rattle.session.proofs.Program.{first_start}
use Rattle.session.proofs.Room.{fed_line, done_room}
use Rattle.session.proofs.Turns.{settles_more, settles_whole, turn_settles}
use Rattle.session.proofs.Whole.{start_stands, line_turn_lem, next_stands}

-- lines that are answered by nothing, each with its line feed at its end, and where they lead
data Quietly : Core → List (List ℕ) → Core → Type 0 where
  here : {c : Core} → Quietly c [] c
  then : {c : Core} {line : List ℕ} {ls : List (List ℕ)} {d e : Core} → feed_at line + 1 ≡ length line → turn c line ≡ quiet d → Quietly d ls e → Quietly c (line ∷ ls) e

quietly_led : {c e : Core} {ls : List (List ℕ)} → Quietly c ls e → led c ls ≡ e
unfolding led
quietly_led here = refl
quietly_led (then {ls = ls} w t q) = ap (λ (u : Turn). led u.next ls) t ∙ quietly_led q

quietly_on : {c d e : Core} {ls ms : List (List ℕ)} → Quietly c ls d → Quietly d ms e → Quietly c (ls ++ ms) e
quietly_on here r = r
quietly_on (then w t q) r = then w t (quietly_on q r)

-- ---- one such line is one call, with no room lent
module _ (x : Session) (line : List ℕ) (s : Stands x []) (w : feed_at line + 1 ≡ length line) (d : Core) (t : turn x.core line ≡ quiet d) where
  abbrev after : Session
  after = record { core = d; carry = record { len = 0; bytes = x.carry.bytes } }

  turned : line_turn x line ≡ quiet d
  turned = line_turn_lem x [] line s ∙ ap (λ (n : ℕ). turn x.core (take n line)) w ∙ ap (turn x.core) (take-length line) ∙ t

  call : fed x line 0 ≡ record { next = after; took = length line; wrote = 0; verdict = Ok tt }
  call =
      fed_line x line 0 (λ e. omega arith) ∙ ap (λ (u : Turn). line_done x (feed_at line + 1) u 0) turned ∙ done_room x (feed_at line + 1) (quiet d) 0 (omega arith)
      ∙ ap (λ (n : ℕ). record { next = after; took = n; wrote = 0; verdict = Ok tt }) w

  after_stands : Stands after []
  after_stands = subst (λ (u : Turn). Stands (record { core = u.next; carry = record { len = 0; bytes = x.carry.bytes } }) []) turned (next_stands x [] line s)

  fed_on : {rest out : List ℕ} {z : Session} → Feeds after rest out z → Feeds x (line ++ rest) out z
  fed_on {rest} {out} {z} f =
      subst (λ (r : Fed). Feeds r.next (drop r.took line ++ rest) out z → Feeds x (line ++ rest) (take r.wrote (buffer_of (fed_text x line) []) ++ out) z) call (more line rest [])
      (subst (λ (l : List ℕ). Feeds after (l ++ rest) out z) (sym (drop-length line)) f)

record Reaches (x : Session) (ls : List (List ℕ)) (e : Core) : Type 0 where
  pub end : Session
  pub calls : Feeds x (input_of ls) [] end
  pub core : end.core ≡ e

reaches : {c e : Core} {ls : List (List ℕ)} → Quietly c ls e → (x : Session) → Stands x [] → x.core ≡ c → Reaches x ls e
unfolding input_of
reaches here x s q = record { end = x; calls = none; core = q }
reaches (then {line} {ls} {d} w t k) x s q =
    let u : turn x.core line ≡ quiet d = ap (λ (c : Core). turn c line) q ∙ t in
    let r = reaches k (after x line s w d u) (after_stands x line s w d u) refl in
    record { end = r.end; calls = fed_on x line s w d u r.calls; core = r.core }

-- ---- the lines of the settings
-- a line that is taken ends with its line feed
taken_ends : (st : Settling) (line : List ℕ) → takes (settle_line st line).answer ≡ true → ended_once line ≡ true
unfolding settle_line pick
taken_ends st line = by_test (leb (length line) line_top) (λ a. rw a (by_test (ended_once line) (λ b. rw b (λ e. refl)) (λ b. rw b (λ e. no_way e)))) (λ a. rw a (λ e. no_way e))

settle_ends : (st : Settling) (line : List ℕ) (told : Standing) → (settle_line st line).answer ≡ told → takes told ≡ true → feed_at line + 1 ≡ length line
settle_ends st line told p k = eqb-true (feed_at line + 1) (length line) (taken_ends st line (ap takes p ∙ k))

-- up to the one that makes the settings whole
record Boots (c : Core) (ls : List (List ℕ)) (end : Settling) : Type 0 where
  pub lines : List (List ℕ)
  pub rest : List (List ℕ)
  pub all : lines ++ rest ≡ ls
  pub at : Core
  pub quietly : Quietly c lines at
  pub waits : at.stage ≡ Waiting
  pub settling : at.settling ≡ end

boots : (ls : List (List ℕ)) (c : Core) (end : Settling) → c.stage ≡ AtSettings → settle_all ls c.settling ≡ whole end → Boots c ls end
unfolding settle_all
boots [] c end s e = let z : ◌≡◌ {A = Standing} (Err (missing c.settling)) (Ok Whole) = ap (λ (u : Settled). u.answer) e in absurd_by (cc)
boots (l ∷ ls) c end s e = told (λ d p q. boots ls d end p q) (settle_line c.settling l).answer refl
  where
    told : ((d : Core) → d.stage ≡ AtSettings → settle_all ls d.settling ≡ whole end → Boots d ls end) → (x : Standing) → (settle_line c.settling l).answer ≡ x → Boots c (l ∷ ls) end
    told go (Ok More) p =
        let b = go (settled_in c AtSettings (settle_line c.settling l).next) refl (ap (settle_on (settle_all ls) (settle_line c.settling l).next) (sym p) ∙ e) in
        record {
          lines = l ∷ b.lines;
          rest = b.rest;
          all = ap (λ (k : List (List ℕ)). l ∷ k) b.all;
          at = b.at;
          quietly = then (settle_ends c.settling l (Ok More) p refl) (turn_settles stepping c l (settle_line c.settling l) s refl ∙ settles_more c (settle_line c.settling l).next p) b.quietly;
          waits = b.waits;
          settling = b.settling;
        }
    told go (Ok Whole) p =
        record {
          lines = l ∷ [];
          rest = ls;
          all = refl;
          at = settled_in c Waiting (settle_line c.settling l).next;
          quietly = then (settle_ends c.settling l (Ok Whole) p refl) (turn_settles stepping c l (settle_line c.settling l) s refl ∙ settles_whole c (settle_line c.settling l).next p) here;
          waits = refl;
          settling = ap (λ (u : Settled). u.next) (ap (settle_on (settle_all ls) (settle_line c.settling l).next) (sym p) ∙ e);
        }
    told go (Err why) p = let z : ◌≡◌ {A = Standing} (Err why) (Ok Whole) = ap (λ (u : Settled). u.answer) (ap (settle_on (settle_all ls) (settle_line c.settling l).next) (sym p) ∙ e) in absurd_by (cc)

-- ---- a line that is written
written_ends : (t : List ℕ) → lacks line_feed t ≡ true → feed_at (t ++ (line_feed ∷ [])) + 1 ≡ length (t ++ (line_feed ∷ []))
unfolding until pick
written_ends t e =
    let a : feed_at (t ++ (line_feed ∷ [])) ≡ length t = ap length (until_append line_feed t (line_feed ∷ []) e ∙ append-nil t) in
    let b = length-append t (line_feed ∷ []) in
    omega arith

module _ (s : Settings) (fit : settings_fit s ≡ true) where
  booting : Boots core_start (setting_lines s) (record { line = 3 + s.numbers.group.m; settings = s })
  unfolding core_start
  booting = boots (setting_lines s) core_start _ refl (settings_back s fit)

  led_there : (ms : List (List ℕ)) (e : Core) → Quietly core_start ms e → Reaches session_start ms e
  unfolding session_start
  led_there ms e q = reaches q session_start start_stands refl

  -- THE SETTINGS, FED
  pub settings_lead : Settles s
  settings_lead =
      let b = booting in
      let r = led_there b.lines b.at b.quietly in
      record {
        lines = b.lines;
        rest = b.rest;
        all = b.all;
        end = r.end;
        calls = r.calls;
        waits = ap (λ (c : Core). c.stage) r.core ∙ b.waits;
        settings = ap (λ (c : Core). c.settling.settings) r.core ∙ ap (λ (x : Settling). x.settings) b.settling;
        core = r.core ∙ sym (quietly_led b.quietly);
      }

  -- AND A B AFTER THEM
  module _ (own : ℕ) (floor : RoundLabel) (good : message_fits s.numbers.group (plain (Start own floor)) ≡ true) where
    abbrev line : List ℕ
    line = spell_line s.numbers.group (plain (Start own floor))

    read_b : read_line s.numbers.group line ≡ taken (plain (Start own floor))
    unfolding plain not_x kind_is
    read_b = read_write s.numbers.group (plain (Start own floor)) good refl

    numbers_there : booting.at.settling.settings.numbers ≡ s.numbers
    numbers_there = ap (λ (x : Settling). x.settings.numbers) booting.settling

    line_ends : feed_at line + 1 ≡ length line
    line_ends = let e = line_feed_lem s.numbers.group (plain (Start own floor)) in rw e.0 (written_ends _ e.1)

    read_there : read_line booting.at.settling.settings.numbers.group line ≡ taken (plain (Start own floor))
    read_there = ap (λ (k : Numbers). read_line k.group line) numbers_there ∙ read_b

    b_turn : turn booting.at line ≡ quiet (running_with booting.at (start_of booting.at.settling.settings.numbers own floor))
    unfolding plain
    b_turn = first_start booting.at line own floor booting.waits (ap (λ (l : Line). l.verdict) read_there) (ap (λ (l : Line). l.message.head) read_there)

    pub start_leads : Starts s own floor settings_lead.lines
    unfolding settings_lead
    start_leads =
        let b = booting in
        let r = led_there (b.lines ++ (line ∷ [])) _ (quietly_on b.quietly (then line_ends b_turn here)) in
        record {
          end = r.end;
          calls = r.calls;
          runs = ap (λ (c : Core). c.stage) r.core;
          controller = ap (λ (c : Core). c.controller) r.core ∙ ap (λ (k : Numbers). start_of k own floor) numbers_there;
        }
