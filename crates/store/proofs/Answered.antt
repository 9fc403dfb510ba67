-- What the functions that keep an export and answer from it need. Assumes nothing.
use Prim.Native.Nat.{ℕ, ◌≤◌, ◌<◌, min}
use Rattle.std.proofs.Common.{Ok}
use mathlib.Core.Path.{◌≡◌, refl, sym, ◌∙◌}
use mathlib.Core.List.{List}
use native.Mathlib.Omega.{arith}
use lib.ListN.{length, take}
use lib.Seq.{take_all}
use borrow.Author.Tests.{le-leb, lt-leb}
use Rattle.units.specs.declared.refusal.Refusal.{Refusal}
use Rattle.units.specs.declared.refusal.Refusal.TheVariants.{Full}
use Rattle.units.specs.Pick.{pick}
use Rattle.fields.proofs.Cases.{by_lt}
use Rattle.fields.specs.Put.{put, put_end}
use Rattle.lines.specs.Writing.{Written, answer_of, buffer_of, refusal_line}
use Rattle.store.specs.declared.count.Count.{Count}
use Rattle.store.specs.declared.kept.Kept.{Kept}
use Rattle.store.specs.declared.kept.Told.{Told}
use Rattle.store.specs.declared.stored.Place.{Place}
use Rattle.store.specs.declared.stored.Place.TheVariants.{Nowhere}
use Rattle.store.specs.declared.stored.Serials.{Serials}
use Rattle.store.specs.Kept.{counted_on, kept_buffer, kept_on, kept_room}
use Rattle.store.specs.Rows.{rows_top}
use Rattle.store.specs.Stored.{Stored, refused, answer_in, buffer_in, outcome_of}
use Rattle.store.specs.Text.{kept_outcome, tell_buffer, tell_in, wrote_len}

-- as many as there are
pub take_few : (n : ℕ) (l : List ℕ) → take (min n (length l)) l ≡ take n l
take_few n l =
    by_lt n (length l) (λ h. let e : min n (length l) ≡ n = omega arith in rw e)
    (λ h. let e : min n (length l) ≡ length l = omega arith in rw e (take_all (length l) l (omega arith) ∙ sym (take_all n l h)))

-- a block kept: what there was room for was put, and all of it was counted
pub kept_made : (k : Kept) (block buf part out : List ℕ) (room len : ℕ) (count : Count) → room ≡ kept_room k.len (length buf) → part ≡ take room block → (len ≡ put_end buf k.len part) × (out ≡ put buf k.len part) → count ≡ counted_on k.count block
    → (◌≡◌ {A = Kept} (record { len = len; count = count }) (kept_on k block buf)) × (out ≡ kept_buffer k block buf)
unfolding kept_on kept_buffer
kept_made k block buf part out room len count r p h c = rw (c, h.0, h.1, p, r) (refl, refl)

-- an answer told
module _ (answer : Stored) (buf : List ℕ) where
  pub told_done : (len : ℕ) → answer ≡ Ok len → (◌≡◌ {A = Told} (record { len = len; place = Nowhere }) (tell_in answer buf)) × (buf ≡ tell_buffer answer buf)
  told_done len e = rw e (refl, refl)

  pub told_line : (why : Refusal) (place : Place) (w : Written) (out : List ℕ) (len : ℕ) → answer ≡ refused why place → (w ≡ answer_of (refusal_line why) buf) × (out ≡ buffer_of (refusal_line why) buf) → wrote_len w ≡ len
      → (◌≡◌ {A = Told} (record { len = len; place = place }) (tell_in answer buf)) × (out ≡ tell_buffer answer buf)
  told_line why place w out len e h n = rw (e, ← n, ← h.0) (refl, h.1)

-- what is kept answered
module _ (k : Kept) (held day : List ℕ) (s : Serials) (buf : List ℕ) where
  pub kept_full : (lines : ℕ) → lines ≡ k.count.lines → rows_top < lines → (refused Full Nowhere ≡ answer_in (kept_outcome k held day s) buf) × (buf ≡ buffer_in (kept_outcome k held day s) buf)
  unfolding kept_outcome pick
  kept_full lines e h = rw (lt-leb k.count.lines rows_top (rw e at h)) (refl, refl)

  pub kept_found : (lines : ℕ) (export : List ℕ) (r : Stored) (out : List ℕ) → lines ≡ k.count.lines → lines ≤ rows_top → export ≡ take k.len held → (r ≡ answer_in (outcome_of export day s) buf) × (out ≡ buffer_in (outcome_of export day s) buf)
      → (r ≡ answer_in (kept_outcome k held day s) buf) × (out ≡ buffer_in (kept_outcome k held day s) buf)
  unfolding kept_outcome pick
  kept_found lines export r out e h x o = rw (le-leb k.count.lines rows_top (rw e at h), ← x) o
