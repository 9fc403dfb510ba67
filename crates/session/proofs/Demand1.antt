-- DEMAND 1 ON BYTES: after any bytes whatever, in any pieces, a bad line leaves everything as it was but for its X, save where a refusal is the round's end. Assumes nothing.
use Rattle.std.specs.Prelude.{Err, Ok}
use Prim.Native.Nat.{ℕ, ◌+◌, ◌≤◌, ◌<◌}
use native.Mathlib.Omega.{arith}
use mathlib.Core.Path.{◌≡◌, refl, sym, ap, subst, ◌∙◌}
use mathlib.Core.Bool.{true, false, true≢false}
use mathlib.Core.List.{List, [], ◌++◌}
use lib.ListN.{length, drop}
use Rattle.units.specs.declared.refusal.Refusal.{Refusal}
use Rattle.message.specs.declared.head.Head.{Head}
use Rattle.fields.specs.Text.{line_feed, lacks}
use Rattle.fields.specs.Lines.{feed_at, unfinished, line_at, lines_of}
use Rattle.fields.proofs.Lines.{feed_none}
use Rattle.lines.specs.Writing.{refusal_line, buffer_of}
use Rattle.controller.specs.declared.state.Controller.{Controller}
use Rattle.controller.specs.Answers.{Answer}
use Rattle.controller_laws.specs.Endings.{Ended as EndedBy}
use Rattle.controller_laws.specs.Endings.Ended.{by_time, by_lack, by_age}
use Rattle.controller_laws.specs.Ways.{ends_round}
use Rattle.controller_laws.proofs.Refusals.{refused_ends}
use Rattle.session.specs.declared.feed.Fed.{Fed}
use Rattle.session.specs.declared.feed.Session.{Session}
use Rattle.session.specs.declared.stage.Stage.TheVariants.{Settling as AtSettings}
use Rattle.session.specs.Demand.{spoken_in, step_by, verdict_of, Unmoved, AllElse, RoundOver, Untouched, Demand1}
use Rattle.session.specs.Feeding.{line_turn, fed, fed_text, session_start}
use Rattle.session.specs.Pieces.{Feeds, Stands}
use Rattle.session.specs.Station.{answers}
use Rattle.session.specs.Turn.{Turn, numbers_in, refusing, answer_text, stepping, turn}
use Rattle.session.proofs.Room.{fed_line, text_line, done_room, front, short}
use Rattle.session.proofs.Verdicts.{refused_turn, over_turn}
use Rattle.session.proofs.Whole.{start_stands, line_turn_lem, next_stands, run, whole_from}

-- what ends a round keeps all but the phase, and the seat of the vote that came
all_else : {c : Controller} {h : Head} {why : Refusal} {r : Answer} → EndedBy c h why r → AllElse c r.next
all_else (by_time e) = record { phase = refl; own = refl; label = refl; state = refl; estimates = refl; held = refl; readings = refl }
all_else (by_lack v) = record { phase = refl; own = refl; label = refl; state = refl; estimates = refl; held = refl; readings = refl }
all_else (by_age v) = record { phase = refl; own = refl; label = refl; state = refl; estimates = refl; held = refl; readings = refl }

-- A CALL WITH A WHOLE LINE AND ROOM
module _ (x : Session) (piece buf : List ℕ) (n : feed_at piece ≡ length piece → ⊥) (t : Turn) (e : line_turn x piece ≡ t) where
  abbrev after : Fed
  after = record { next = record { core = t.next; carry = record { len = 0; bytes = x.carry.bytes } }; took = feed_at piece + 1; wrote = length t.text; verdict = Ok tt }

  fed_is : length t.text ≤ length buf → fed x piece (length buf) ≡ after
  fed_is l =
      let z = ap {B = ℕ} (λ (u : Turn). length u.text) e in
      fed_line x piece (length buf) n ∙ done_room x (feed_at piece + 1) (line_turn x piece) (length buf) (omega arith)
      ∙ ap (λ (u : Turn). record { next = record { core = u.next; carry = record { len = 0; bytes = x.carry.bytes } }; took = feed_at piece + 1; wrote = length u.text; verdict = Ok tt }) e

  text_is : fed_text x piece ≡ t.text
  text_is = text_line x piece n ∙ ap (λ (u : Turn). u.text) e

  buffer_is : length t.text ≤ length buf → buffer_of (fed_text x piece) buf ≡ t.text ++ drop (length t.text) buf
  buffer_is l = rw text_is (front t.text buf l)

module _ (x : Session) (p : List ℕ) (s : Stands x p) (past : x.core.stage ≡ AtSettings → ⊥) (piece buf : List ℕ) (n : feed_at piece ≡ length piece → ⊥) where
  abbrev line : List ℕ
  line = line_at p piece

  unmoved : (why : Refusal) → verdict_of x.core line ≡ Err why → ends_round why ≡ false → length (refusal_line why) ≤ length buf → Unmoved x piece buf why
  unmoved why v k l =
      let q = refused_turn x.core line why past k v in
      let e = line_turn_lem x p piece s ∙ q in
      let f = fed_is x piece buf n (refusing x.core why) e l in
      record {
        core = ap (λ (r : Fed). r.next.core) f;
        took = ap (λ (r : Fed). r.took) f;
        wrote = ap (λ (r : Fed). r.wrote) f;
        buffer = buffer_is x piece buf n (refusing x.core why) e l;
        after = λ {later} {out} {y} g last h.
            whole_from g [] (rw f (subst (λ (t : Turn). Stands (record { core = t.next; carry = record { len = 0; bytes = x.carry.bytes } }) []) e (next_stands x p piece s))) last h
            ∙ ap {B = List ℕ} (λ (r : Fed). answers r.next.core (lines_of later)) f;
      }

  over : (why : Refusal) → verdict_of x.core line ≡ Err why → ends_round why ≡ true → length (answer_text (numbers_in x.core) (step_by x.core line)) ≤ length buf → RoundOver x line piece buf why
  over why v k l =
      let q = over_turn x.core line why k past v in
      let e = line_turn_lem x p piece s ∙ q.turned in
      let f = fed_is x piece buf n (stepping x.core (spoken_in x.core line)) e l in
      let h = refused_ends (numbers_in x.core) x.core.controller (spoken_in x.core line) why q.verdict k in
      record {
        how = h;
        kept = all_else h;
        core = ap (λ (r : Fed). r.next.core) f;
        took = ap (λ (r : Fed). r.took) f;
        buffer = buffer_is x piece buf n (stepping x.core (spoken_in x.core line)) e l;
      }

  untouched : length buf < length (turn x.core line).text → Untouched x piece buf
  untouched l =
      let z = ap {B = ℕ} (λ (b : List ℕ). length b) (text_is x piece buf n (turn x.core line) (line_turn_lem x p piece s)) in
      let q = short x piece buf (omega arith) in
      record { call = q.0; buffer = q.1 }

  stands_demand : Demand1 x line piece buf
  stands_demand =
      record { fits = s.fits; answer = text_is x piece buf n (turn x.core line) (line_turn_lem x p piece s); refused = unmoved; round_over = over; no_room = untouched }

has_line : (piece : List ℕ) → lacks line_feed piece ≡ false → feed_at piece ≡ length piece → ⊥
has_line piece e q = true≢false (sym (feed_none piece q) ∙ e)

-- DEMAND 1: after a run of calls on any bytes whatever, past the settings, for every next piece that ends a line and every lent buffer
pub demand1 : {input out : List ℕ} {x : Session} → Feeds session_start input out x → (x.core.stage ≡ AtSettings → ⊥)
    → (piece buf : List ℕ) → lacks line_feed piece ≡ false → Demand1 x (line_at (unfinished input) piece) piece buf
demand1 {input} {out} {x} f past piece buf e =
    let r = run f [] start_stands in
    subst (λ (p : List ℕ). Demand1 x (line_at p piece) piece buf) (sym r.left) (stands_demand x r.now r.stands past piece buf (has_line piece e))
