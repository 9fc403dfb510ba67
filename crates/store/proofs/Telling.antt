-- THE PROGRAM'S OUTPUT: what is told from what is kept is `store_text` of the whole export, and its place. Assumes nothing.
use Prim.Native.Nat.{ℕ, ◌≤◌}
use native.Mathlib.Omega.{arith}
use mathlib.Core.Path.{◌≡◌, refl}
use mathlib.Core.List.{List, ◌++◌, flatten}
use lib.Dec.{leb, ltb}
use lib.ListN.{length, take, drop, length-append, length-drop}
use lib.Seq.{take_at}
use borrow.Author.Tests.{leb-true, leb-false, lt-leb, ltb-false, le-ltb}
use Rattle.units.specs.declared.refusal.Refusal.{Refusal}
use Rattle.units.specs.declared.refusal.Refusal.TheVariants.{Room}
use Rattle.units.specs.Pick.{pick}
use Rattle.fields.specs.Lines.{lines_of}
use Rattle.fields.proofs.Cases.{by_test}
use Rattle.lines.specs.Writing.{refusal_line}
use Rattle.lines.proofs.RoundTrip.{refusal_room}
use Rattle.store.specs.declared.kept.Kept.{Kept}
use Rattle.store.specs.declared.kept.Told.{Told}
use Rattle.store.specs.declared.stored.Place.{Place}
use Rattle.store.specs.declared.stored.Place.TheVariants.{Nowhere}
use Rattle.store.specs.declared.stored.Serials.{Serials}
use Rattle.store.specs.Kept.{Keeps, buffer_all, keep_top, kept_all, kept_start}
use Rattle.store.specs.Rows.{rows_top}
use Rattle.store.specs.Stored.{refused, Outcome, says, no, answer_in, buffer_in, outcome_of}
use Rattle.store.specs.Text.{kept_outcome, place_in, store_place, store_text, tell_buffer, tell_in, text_in, told_buffer, told_of}
use Rattle.store.proofs.Back.{store_room}
use Rattle.store.proofs.Counting.{counts_few, counts_many}
use Rattle.store.proofs.Enough.{store_enough}
use Rattle.store.proofs.Keeping.{keeps_all}

-- 19 BY THE COUNT, and else what is kept is enough
pub kept_stored : (k : Kept) (held export day : List ℕ) (s : Serials) → Keeps k held export → kept_outcome k held day s ≡ outcome_of export day s
unfolding kept_outcome outcome_of pick
kept_stored k held export day s h =
    by_test (leb k.count.lines rows_top)
    (λ e.
    rw (e, h.bytes) (store_enough export day s (counts_few h.count (leb-true k.count.lines rows_top e))))
    (λ e. rw (e, lt-leb (length (lines_of export)) rows_top (counts_many h.count (leb-false k.count.lines rows_top e))))

-- bytes over the front of a buffer
over_first : (bytes buf : List ℕ) → take (length bytes) (bytes ++ drop (length bytes) buf) ≡ bytes
over_first bytes buf = take_at bytes (drop (length bytes) buf) (length bytes) refl

over_long : (bytes buf : List ℕ) → length bytes ≤ length buf → length (bytes ++ drop (length bytes) buf) ≡ length buf
over_long bytes buf h = let a = length-append bytes (drop (length bytes) buf) in let b = length-drop (length bytes) buf in omega arith

-- an outcome told
abbrev told_in : Outcome → List ℕ → Told
told_in o buf = tell_in (answer_in o buf) (buffer_in o buf)

abbrev left_in : Outcome → List ℕ → List ℕ
left_in o buf = tell_buffer (answer_in o buf) (buffer_in o buf)

-- where there is room for it
told_is : (o : Outcome) (buf : List ℕ) → 600 ≤ length buf → ((text : List ℕ) → o ≡ says text → length text ≤ 600) → (take (told_in o buf).len (left_in o buf) ≡ text_in o) × ((told_in o buf).place ≡ place_in o)
unfolding pick
told_is (says text) buf r h = let q = h text refl in rw (le-ltb (length buf) (length text) (omega arith)) (over_first text buf, refl)
told_is (no why place) buf r h = let q = refusal_room why in rw (le-ltb (length buf) (length (refusal_line why)) (omega arith)) (over_first (refusal_line why) buf, refl)

-- anywhere
line_few : (why : Refusal) (place : Place) (buf : List ℕ) → ((tell_in (refused why place) buf).len ≤ length (tell_buffer (refused why place) buf)) × (length (tell_buffer (refused why place) buf) ≡ length buf)
unfolding pick
line_few why place buf =
    by_test (ltb (length buf) (length (refusal_line why)))
    (λ e. rw e (omega arith, refl))
    (λ e. rw e (let w = ltb-false (length buf) (length (refusal_line why)) e in let n = over_long (refusal_line why) buf w in (omega arith, n)))

few_in : (o : Outcome) (buf : List ℕ) → ((told_in o buf).len ≤ length (left_in o buf)) × (length (left_in o buf) ≡ length buf)
unfolding pick
few_in (says text) buf =
    by_test (ltb (length buf) (length text))
    (λ e. rw e (line_few Room Nowhere buf))
    (λ e. rw e (let w = ltb-false (length buf) (length text) e in let n = over_long text buf w in (omega arith, n)))
few_in (no why place) buf = line_few why place buf

-- WHAT IS WRITTEN IS `store_text`
pub told_text : (k : Kept) (held export day : List ℕ) (s : Serials) (buf : List ℕ) → Keeps k held export → 600 ≤ length buf
    → (take (told_of k held day s buf).len (told_buffer k held day s buf) ≡ store_text day s export) × ((told_of k held day s buf).place ≡ store_place day s export)
unfolding told_of told_buffer store_text store_place
told_text k held export day s buf h r = rw (kept_stored k held export day s h) (told_is (outcome_of export day s) buf r (store_room export day s))

-- and so from any blocks of it
pub blocks_told : (blocks : List (List ℕ)) (held day : List ℕ) (s : Serials) (buf : List ℕ) → keep_top ≤ length held → 600 ≤ length buf
    → (take (told_of (kept_all kept_start blocks held) (buffer_all kept_start blocks held) day s buf).len (told_buffer (kept_all kept_start blocks held) (buffer_all kept_start blocks held) day s buf) ≡ store_text day s (flatten blocks))
    × ((told_of (kept_all kept_start blocks held) (buffer_all kept_start blocks held) day s buf).place ≡ store_place day s (flatten blocks))
blocks_told blocks held day s buf h = told_text (kept_all kept_start blocks held) (buffer_all kept_start blocks held) (flatten blocks) day s buf (keeps_all blocks held h)

-- no more is told than the buffer has
pub told_few : (k : Kept) (held day : List ℕ) (s : Serials) (buf : List ℕ) → (told_of k held day s buf).len ≤ length (told_buffer k held day s buf)
unfolding told_of told_buffer
told_few k held day s buf = (few_in (kept_outcome k held day s) buf).0

-- as `Kept::answer` promises it
pub told_within : (k : Kept) (held day : List ℕ) (s : Serials) (buf : List ℕ) (r : Told) (out : List ℕ) → (r ≡ told_of k held day s buf) × (out ≡ told_buffer k held day s buf) → r.len ≤ length out
told_within k held day s buf r out h = rw (h.0, h.1) (told_few k held day s buf)
