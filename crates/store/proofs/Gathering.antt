-- The lines of an export one after the other: where each ends, and the steps of the loop that gathers their rows. Assumes nothing.
use Prim.Native.Nat.{ℕ, ◌+◌, ◌-◌, ◌≤◌, ◌<◌, min}
use mathlib.Core.Path.{◌≡◌, refl, sym, ap, ◌∙◌}
use mathlib.Core.List.{List, [], ◌∷◌, ◌++◌}
use native.Mathlib.Numerals.{add-one}
use native.Mathlib.Omega.{arith}
use lib.ListN.{length, take, drop, set, length-drop, length-set, drop_of_length-le}
use lib.Seq.{drop-drop, take-length, take-suc-set}
use Rattle.units.specs.declared.refusal.Refusal.{Refusal}
use Rattle.std.proofs.Common.{Ok, Err}
use Rattle.fields.specs.declared.text.Scan.{Scan}
use Rattle.fields.specs.Lines.{feed_at, lines_of}
use Rattle.fields.specs.Text.{line_feed, until, scanned}
use Rattle.fields.proofs.Cases.{by_lt}
use Rattle.fields.proofs.Lines.{feed_split, feed_line, feed_none, lines_feed, lines_last, lines_none}
use Rattle.fields.proofs.Texts.{until_lacks, until_short}
use Rattle.store.specs.declared.row.Row.{Row}
use Rattle.store.specs.Row.{Entry, row_of}
use Rattle.store.specs.Rows.{Rows, rows, bad, before, rows_from, rows_of}

-- WHERE A LINE ENDS
module _ (export : List ℕ) (at : ℕ) where
  abbrev piece : List ℕ
  piece = drop at export

  abbrev end_at : ℕ
  end_at = min (length export) (at + feed_at piece + 1)

  feed_inside : at ≤ length export → at + feed_at piece ≤ length export
  feed_inside h = let a = until_short 10 piece in let b = length-drop at export in omega arith

  -- `line_end`, by what the scan of the rest gives
  module _ (h : at ≤ length export) (s : Scan) (e : s ≡ scanned (take (length export - at) (drop at export))) where
    scan_place : s.feed ≡ feed_at piece
    unfolding scanned
    scan_place = rw (e, ← length-drop at export, take-length piece)

    -- the end fits; it is behind the line feed, or the end of all
    pub end_fits : at + s.feed ≤ length export
    end_fits = let p = scan_place in let w = feed_inside h in omega arith

    pub end_after : at + s.feed < length export → at + s.feed + 1 ≡ end_at
    end_after l = let p = scan_place in omega arith

    pub end_last : length export ≤ at + s.feed → at + s.feed ≡ end_at
    end_last l = let p = scan_place in let w = feed_inside h in omega arith

-- bytes with no line feed are one line
one_line : (p : List ℕ) → 0 < length p → feed_at p ≡ length p → lines_of p ≡ p ∷ []
one_line [] g f = absurd (omega arith)
one_line (b ∷ bs) g f = lines_last b bs (feed_none (b ∷ bs) f)

-- A LINE OFF THE FRONT of what is left, up to where it ends
module _ (export : List ℕ) (at end : ℕ) (h : at < length export) (e : end ≡ min (length export) (at + feed_at (drop at export) + 1)) where
  line_fed : feed_at (drop at export) < length (drop at export) → lines_of (drop at export) ≡ take (end - at) (drop at export) ∷ lines_of (drop end export)
  line_fed l =
      let p = drop at export in
      let b = length-drop at export in
      let n : feed_at p ≡ length p → ⊥ = λ z. absurd (omega arith) in
      let k : end - at ≡ feed_at p + 1 = omega arith in
      let q : end ≡ at + (feed_at p + 1) = omega arith in
      ap lines_of (feed_split p n) ∙ lines_feed (until line_feed p) (drop (feed_at p + 1) p) (until_lacks line_feed p)
      ∙ rw (k, feed_line p n, q, drop-drop (feed_at p + 1) at export)

  line_last : length (drop at export) ≤ feed_at (drop at export) → lines_of (drop at export) ≡ take (end - at) (drop at export) ∷ lines_of (drop end export)
  line_last l =
      let p = drop at export in
      let a = until_short 10 p in
      let b = length-drop at export in
      let k : end - at ≡ length p = omega arith in
      one_line p (omega arith) (omega arith) ∙ rw (k, take-length p, drop_of_length-le export {i = end} (omega arith), lines_none)

  pub line_off : lines_of (drop at export) ≡ take (end - at) (drop at export) ∷ lines_of (drop end export)
  line_off = by_lt (feed_at (drop at export)) (length (drop at export)) line_fed line_last

-- ROWS AHEAD of others
unfoldable pub ahead : List Row → Rows → Rows
ahead [] more = more
ahead (r ∷ rs) more = before r (ahead rs more)

ahead_more : (rs : List Row) (r : Row) (more : Rows) → ahead (rs ++ (r ∷ [])) more ≡ ahead rs (before r more)
unfolding ahead
ahead_more [] r more = refl
ahead_more (x ∷ rs) r more = ap (before x) (ahead_more rs r more)

ahead_all : (rs : List Row) → ahead rs (rows []) ≡ rows rs
unfolding ahead
ahead_all [] = refl
ahead_all (x ∷ rs) = ap (before x) (ahead_all rs)

ahead_bad : (rs : List Row) (why : Refusal) (line : ℕ) → ahead rs (bad why line) ≡ bad why line
unfolding ahead
ahead_bad [] why line = refl
ahead_bad (x ∷ rs) why line = ap (before x) (ahead_bad rs why line)

-- THE LOOP: the first n lines are rows and end at a place
pub record Gathering (export : List ℕ) (done : List Row) (n at : ℕ) : Type 0 where
  pub here : at ≤ length export
  pub few : n + length (lines_of (drop at export)) ≤ 512
  pub long : length done ≡ 512
  pub same : rows_of export ≡ ahead (take n done) (rows_from (n + 1) (lines_of (drop at export)))

-- nothing is gathered yet
pub gather_start : (export : List ℕ) (done : List Row) → length done ≡ 512 → length (lines_of export) ≤ 512 → Gathering export done 0 0
unfolding ahead
gather_start export done e h = record { here = omega arith; few = omega arith; long = e; same = refl }

module _ (export : List ℕ) (done : List Row) (n at end : ℕ) (g : Gathering export done n at) (h : at < length export) (e : end ≡ min (length export) (at + feed_at (drop at export) + 1)) where
  -- there is room for a row more, and the line ends further on
  pub gather_on : (n < 512) × (at < end) × (end ≤ length export)
  gather_on = let f = g.few in let z = ap (λ (ls : List (List ℕ)). length ls) (line_off export at end h e) in (omega arith, omega arith, omega arith)

  module _ (x : Entry) (xe : x ≡ row_of (take (end - at) (drop at export))) where
    -- a bad line is told, and a good one is a row more
    pub gather_bad : (why : Refusal) → x ≡ Err why → bad why (n + 1) ≡ rows_of export
    unfolding rows_from
    gather_bad why v = sym (g.same ∙ rw (line_off export at end h e, ← xe, v) (ahead_bad (take n done) why (n + 1)))

    pub gather_more : (row : Row) → x ≡ Ok row → Gathering export (set done n row) (n + 1) end
    unfolding rows_from
    gather_more row v =
        let a : n < length done = let c = gather_on.0 in let d = g.long in omega arith in
        record {
          here = gather_on.2;
          few = let f = g.few in let z = ap (λ (ls : List (List ℕ)). length ls) (line_off export at end h e) in omega arith;
          long = length-set done n row ∙ g.long;
          same = g.same ∙ rw (line_off export at end h e, ← xe, v) (sym (rw (add-one n, take-suc-set done n row a) (ahead_more (take n done) row _)));
        }

-- at the end all are rows
pub gather_end : (export : List ℕ) (done : List Row) (n at : ℕ) → Gathering export done n at → length export ≤ at → rows (take n done) ≡ rows_of export
unfolding rows_from lines_of
gather_end export done n at g h = sym (g.same ∙ rw (drop_of_length-le export {i = at} h) (ahead_all (take n done)))
