-- What the function that makes settings of rows needs. Assumes nothing.
use Prim.Native.Nat.{ℕ, ◌<◌}
use mathlib.Core.Path.{◌≡◌, ◌∙◌}
use mathlib.Core.Bool.{false, cond}
use mathlib.Core.List.{List}
use lib.Dec.{ltb}
use lib.ListN.{length, get_or, get_or-eq_default}
use borrow.Author.Tests.{ltb-false}
use Rattle.units.specs.Pick.{pick}
use Rattle.fields.proofs.Cases.{by_test}
use Rattle.message.specs.declared.certificate.Certificate.{Certificate}
use Rattle.message.specs.declared.settings.Settings.{Settings}
use Rattle.message.specs.Settings.{no_certificate}
use Rattle.lines.specs.Values.{word}
use Rattle.lines.proofs.Columns.{is_column}
use Rattle.store.specs.declared.row.Row.{Row}
use Rattle.store.specs.Row.{no_row}
use Rattle.store.specs.Runs.{factor_at, weight_at, certificate_at, settings_from}

module _ (runs : List Row) where
  abbrev m : ℕ
  m = length runs

  abbrev row : ℕ → Row
  row i = get_or runs i no_row

  -- a place that is no run is blank, as no row is
  blank : (i : ℕ) → ltb i m ≡ false → row i ≡ no_row
  blank i e = get_or-eq_default runs no_row {n = i} (ltb-false i m e)

  pub factor_there : (i : ℕ) → word (row i).factor ≡ factor_at m row i
  unfolding pick
  factor_there i = by_test (ltb i m) (λ t. rw t) (λ t. rw (t, blank i t))

  weight_there : (i : ℕ) → cond (ltb i m) 1 0 ≡ weight_at m i
  unfolding pick
  weight_there i = by_test (ltb i m) (λ t. rw t) (λ t. rw t)

  certificate_there : (i : ℕ) → (row i).certificate ≡ certificate_at m row i
  unfolding pick
  certificate_there i = by_test (ltb i m) (λ t. rw t) (λ t. rw (t, blank i t))

  -- sixteen places of each
  pub settings_made : (factors weights : List ℕ) (certificates : List Certificate) → length factors ≡ 16 → ((i : ℕ) → i < 16 → get_or factors i 0 ≡ factor_at m row i)
      → length weights ≡ 16 → ((i : ℕ) → i < 16 → get_or weights i 0 ≡ cond (ltb i m) 1 0)
      → length certificates ≡ 16 → ((i : ℕ) → i < 16 → get_or certificates i no_certificate ≡ (row i).certificate)
      → ◌≡◌ {A = Settings} (record { numbers = record { group = record { g = 1; m = m }; q = 1; r = 1; p = 1; factors = factors; weights = weights }; certificates = certificates }) (settings_from 1 m 1 1 1 row)
  unfolding settings_from
  settings_made factors weights certificates a f b w c t =
      rw (
        is_column (factor_at m row) 0 16 factors a f,
        is_column (weight_at m) 0 16 weights b (λ i h. w i h ∙ weight_there i),
        is_column (certificate_at m row) no_certificate 16 certificates c (λ i h. t i h ∙ certificate_there i),
      )
