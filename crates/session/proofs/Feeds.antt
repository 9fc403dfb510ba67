-- The cases of a call and of the end of the input, as the code takes them. Assumes nothing.
use Prim.Native.Nat.{ℕ, ◌+◌}
use mathlib.Core.Path.{◌≡◌, sym, ap, subst, ◌∙◌}
use mathlib.Core.List.{List}
use lib.ListN.{length, take}
use borrow.Author.Tests.{lt-ltb, le-ltb}
use Rattle.units.specs.Refusal.{Verdict}
use Rattle.units.specs.Pick.{pick}
use Rattle.fields.proofs.Cases.{by_lt}
use Rattle.fields.specs.Lines.{feed_at}
use Rattle.fields.specs.Cut.{line_ending, line_in}
use Rattle.lines.specs.declared.read.Line.{Line}
use Rattle.lines.specs.Writing.{Written, buffer_of}
use Rattle.session.specs.declared.feed.Fed.{Fed}
use Rattle.session.specs.declared.feed.Session.{Session}
use Rattle.session.specs.declared.stage.Core.{Core}
use Rattle.session.specs.declared.stage.Stage.TheVariants.{Ended}
use Rattle.session.specs.declared.turn.Turned.{Turned}
use Rattle.session.specs.Feeding.{Heard, Wrote, advancing, line_done, line_done_by, fed, fed_text, finished, piece_held, last_of, last_turn, line_turn}
use Rattle.session.specs.Turn.{Turn, settled_in, turn_by, verdict_text}
use Rattle.session.proofs.Room.{fed_holds, text_none, fed_line, text_line}
use Rattle.session.proofs.Writes.{Puts, puts_none, puts_same}

-- closing by what was written
done_by : (x : Session) (end : ℕ) (t : Turn) (r : Turned) (before after : List ℕ) → Wrote t before after r → line_done_by x end r.next r.written ≡ line_done x end t (length before)
unfolding line_done_by pick
done_by x end t r before after w = by_lt (length before) (length t.text)
    (λ h. let e = lt-ltb (length before) (length t.text) h in rw (w.0, w.1, e))
    (λ h. let e = le-ltb (length before) (length t.text) h in rw (w.0, w.1, e))

module _ (x : Session) (input : List ℕ) (n : ℕ) (e : n ≡ feed_at input) where
  pub feed_held : (r : Fed) (buf : List ℕ) → n ≡ length input → r ≡ piece_held x input → (r ≡ fed x input (length buf)) × (buf ≡ buffer_of (fed_text x input) buf)
  feed_held r buf k h =
      let j = sym e ∙ k in
      (h ∙ sym (fed_holds x input (length buf) j), (puts_none buf).1 ∙ ap (λ t. buffer_of t buf) (sym (text_none x input j)))

  -- what was read is what the line says
  pub feed_heard : (l : Line) → ((feed_at input ≡ length input → ⊥) → Heard x.core (line_ending x.carry input) l x.core.stage) → (n ≡ length input → ⊥)
      → Heard x.core (line_in x.carry (take (n + 1) input)) l x.core.stage
  feed_heard l h k = subst (λ i. Heard x.core (line_in x.carry (take (i + 1) input)) l x.core.stage) (sym e) (h (λ q. k (e ∙ q)))

  pub feed_turned : (r : Fed) (t : Turned) (before after : List ℕ) → (n ≡ length input → ⊥)
      → Wrote (turn_by advancing x.core (line_in x.carry (take (n + 1) input)) x.core.stage) before after t → r ≡ line_done_by x (n + 1) t.next t.written
      → (r ≡ fed x input (length before)) × (after ≡ buffer_of (fed_text x input) before)
  feed_turned r t before after k w h =
      let j : feed_at input ≡ length input → ⊥ = λ q. k (e ∙ q) in
      let v : Wrote (line_turn x input) before after t = subst (λ i. Wrote (turn_by advancing x.core (line_in x.carry (take (i + 1) input)) x.core.stage) before after t) e w in (
        h ∙ ap (λ i. line_done_by x (i + 1) t.next t.written) e ∙ done_by x (feed_at input + 1) (line_turn x input) t before after v ∙ sym (fed_line x input (length before) j),
        v.2 ∙ ap (λ u. buffer_of u before) (sym (text_line x input j)),
      )

-- the end of the input
pub finish_done : (x : Session) (n : Core) (v : Verdict) (w : Written) (r : Fed) (before after : List ℕ) → n ≡ settled_in x.core Ended x.core.settling
    → v ≡ last_of x.core.settling x.carry.len x.core.stage → Puts (verdict_text v) before after w → r ≡ line_done_by x 0 n w
    → (r ≡ finished x (length before)) × (after ≡ buffer_of (last_turn x).text before)
finish_done x n v w r before after e f p h =
    let q : Puts (last_turn x).text before after w = puts_same before (ap verdict_text (sym f)) p in
    (h ∙ done_by x 0 (last_turn x) (record { next = n; written = w }) before after (e, q.0, q.1), q.1)
