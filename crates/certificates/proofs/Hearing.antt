-- Blocks that are heard, one after another. Assumes nothing.
use Prim.Native.Nat.{ℕ}
use mathlib.Core.Path.{◌≡◌, refl, sym, ◌∙◌}
use mathlib.Core.List.{List, [], ◌∷◌, ◌++◌}
use lib.ListN.{length}
use Rattle.store.specs.declared.kept.Kept.{Kept}
use Rattle.store.specs.Kept.{kept_start, kept_on, kept_buffer, kept_all, buffer_all}
use Rattle.store.proofs.Keeping.{kept_more, buffer_more, all_long}
use Rattle.certificates.specs.Hearing.{Hears}

pub hears_none : (k : Kept) (buf : List ℕ) → k ≡ kept_start → Hears k buf buf
unfolding kept_all buffer_all
hears_none k buf e = record { blocks = []; count = e; bytes = refl }

pub hears_more : (k after : Kept) (start buf end block : List ℕ) → Hears k start buf → (after ≡ kept_on k block buf) × (end ≡ kept_buffer k block buf) → Hears after start end
hears_more k after start buf end block h e =
    let bs = h.blocks in
    record {
      blocks = bs ++ (block ∷ []);
      count = e.0 ∙ rw (h.count, h.bytes) (sym (kept_more block kept_start bs start));
      bytes = e.1 ∙ rw (h.count, h.bytes) (sym (buffer_more block kept_start bs start));
    }

pub hears_long : (k : Kept) (start buf : List ℕ) → Hears k start buf → length buf ≡ length start
hears_long k start buf h = rw h.bytes (all_long kept_start h.blocks start)
