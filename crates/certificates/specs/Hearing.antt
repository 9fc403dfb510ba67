-- WHAT IS HEARD of standard input: blocks one after another, each kept and counted as it came. `blocks_told` (store) says what is answered then.
use Rattle.std.specs.Prelude.{◌≡◌, List, ℕ}
use Rattle.store.specs.declared.kept.Kept.{Kept}
use Rattle.store.specs.Kept.{kept_start, kept_all, buffer_all}

pub record Hears (kept : Kept) (before after : List ℕ) : Type 0 where
  pub blocks : List (List ℕ)
  pub count : kept ≡ kept_all kept_start blocks before
  pub bytes : after ≡ buffer_all kept_start blocks before
