-- WHAT IS KEPT OF AN EXPORT that comes in blocks: after any of them its first 307,201 bytes and the count of all its lines. Assumes nothing.
use Prim.Native.Nat.{ℕ, ◌-◌, ◌≤◌, min}
use native.Mathlib.Omega.{arith}
use mathlib.Core.Path.{◌≡◌, refl, sym, ap, ◌∙◌}
use mathlib.Core.List.{List, [], ◌∷◌, ◌++◌, append-nil, append_assoc, flatten}
use lib.ListN.{length, take}
use lib.Seq.{take-nil}
use Rattle.fields.proofs.Carrying.{first_len, first_bytes}
use Rattle.fields.proofs.Puts.{put_long}
use Rattle.store.specs.declared.kept.Kept.{Kept}
use Rattle.store.specs.Kept.{Keeps, buffer_all, keep_top, kept_all, kept_buffer, kept_on, kept_part, kept_start}
use Rattle.store.proofs.Counting.{counts_start, counts_on}

-- NOTHING KEPT
pub keeps_start : (buf : List ℕ) → Keeps kept_start buf []
keeps_start buf = record { len = ap {B = ℕ} (λ (l : List ℕ). length l) (sym (take-nil keep_top)); bytes = sym (take-nil keep_top); count = counts_start }

-- the buffer's length stays
pub kept_long : (k : Kept) (block buf : List ℕ) → length (kept_buffer k block buf) ≡ length buf
unfolding kept_buffer
kept_long k block buf = put_long buf k.len (kept_part k block buf)

-- A BLOCK MORE KEPT, as any first bytes of a stream are
part_is : (k : Kept) (block buf : List ℕ) → keep_top ≤ length buf → kept_part k block buf ≡ take (keep_top - k.len) block
part_is k block buf r = let z : min (length buf) keep_top - k.len ≡ keep_top - k.len = omega arith in ap (λ (n : ℕ). take n block) z

pub keeps_on : (k : Kept) (buf s block : List ℕ) → keep_top ≤ length buf → Keeps k buf s → Keeps (kept_on k block buf) (kept_buffer k block buf) (s ++ block)
unfolding kept_on kept_buffer
keeps_on k buf s block r h =
    record {
      len = rw (part_is k block buf r) (first_len keep_top k.len buf s block r h.len h.bytes);
      bytes = rw (part_is k block buf r) (first_bytes keep_top k.len buf s block r h.len h.bytes);
      count = counts_on block h.count;
    }

-- ANY BLOCKS KEPT
keeps_more : (k : Kept) (blocks : List (List ℕ)) (buf s : List ℕ) → keep_top ≤ length buf → Keeps k buf s → Keeps (kept_all k blocks buf) (buffer_all k blocks buf) (s ++ flatten blocks)
unfolding kept_all buffer_all flatten
keeps_more k [] buf s r h = rw (append-nil s) h
keeps_more k (block ∷ blocks) buf s r h =
    rw (append_assoc s block (flatten blocks)) at (keeps_more (kept_on k block buf) blocks (kept_buffer k block buf) (s ++ block) (rw (kept_long k block buf) r) (keeps_on k buf s block r h))

pub keeps_all : (blocks : List (List ℕ)) (buf : List ℕ) → keep_top ≤ length buf → Keeps (kept_all kept_start blocks buf) (buffer_all kept_start blocks buf) (flatten blocks)
keeps_all blocks buf r = keeps_more kept_start blocks buf [] r (keeps_start buf)

-- one block more
module _ (block : List ℕ) where
  pub kept_more : (k : Kept) (blocks : List (List ℕ)) (buf : List ℕ) → kept_all k (blocks ++ (block ∷ [])) buf ≡ kept_on (kept_all k blocks buf) block (buffer_all k blocks buf)
  unfolding kept_all buffer_all
  kept_more k [] buf = refl
  kept_more k (b ∷ blocks) buf = kept_more (kept_on k b buf) blocks (kept_buffer k b buf)

  pub buffer_more : (k : Kept) (blocks : List (List ℕ)) (buf : List ℕ) → buffer_all k (blocks ++ (block ∷ [])) buf ≡ kept_buffer (kept_all k blocks buf) block (buffer_all k blocks buf)
  unfolding kept_all buffer_all
  buffer_more k [] buf = refl
  buffer_more k (b ∷ blocks) buf = buffer_more (kept_on k b buf) blocks (kept_buffer k b buf)

-- and the buffer's length stays
pub all_long : (k : Kept) (blocks : List (List ℕ)) (buf : List ℕ) → length (buffer_all k blocks buf) ≡ length buf
unfolding buffer_all
all_long k [] buf = refl
all_long k (block ∷ blocks) buf = all_long (kept_on k block buf) blocks (kept_buffer k block buf) ∙ kept_long k block buf
