-- "write the K lines, weight 1, from each meter's newest certificate": settings made of the certificates found, and their K lines.
use Rattle.std.specs.Prelude.{ℕ, ◌+◌, Bool, List, eqb, ltb, get_or}
use Rattle.units.specs.Limits.{runs_top}
use Rattle.units.specs.Pick.{pick}
use Rattle.message.specs.declared.certificate.Certificate.{Certificate}
use Rattle.message.specs.declared.settings.Settings.{Settings}
use Rattle.message.specs.Settings.{no_certificate}
use Rattle.lines.specs.Lists.{column, joined}
use Rattle.lines.specs.Settings.{setting_line}
use Rattle.lines.specs.Settling.{no_one}
use Rattle.lines.specs.Values.{word}
use Rattle.store.specs.declared.row.Row.{Row}
use Rattle.store.specs.declared.stored.Serials.{Serials}
use Rattle.store.specs.Newest.{newest}

-- run i is the i-th serial given
abbrev pub serial_at : Serials → ℕ → Certificate
serial_at s i = get_or s.each i no_certificate

abbrev pub found : Serials → ℕ → List Row → ℕ → Row
found s day rows i = newest (serial_at s i) day rows

-- "a serial has none in force"
abbrev pub is_blank : Row → Bool
is_blank row = eqb row.day 0

-- a run has its row's factor and certificate and weight 1; a place that is no run is blank
abbrev pub factor_for : Bool → ℕ → ℕ
factor_for run factor = pick run (word factor) 0

abbrev pub weight_for : Bool → ℕ
weight_for run = pick run 1 0

abbrev pub certificate_for : Bool → Certificate → Certificate
certificate_for run certificate = pick run certificate no_one

-- place by place, run i having row i's
abbrev pub factor_at : ℕ → (ℕ → Row) → ℕ → ℕ
factor_at m row i = factor_for (ltb i m) (row i).factor

abbrev pub weight_at : ℕ → ℕ → ℕ
weight_at m i = weight_for (ltb i m)

abbrev pub certificate_at : ℕ → (ℕ → Row) → ℕ → Certificate
certificate_at m row i = certificate_for (ltb i m) (row i).certificate

-- SETTINGS of g controllers and m runs with these numbers
unfoldable pub settings_from : ℕ → ℕ → ℕ → ℕ → ℕ → (ℕ → Row) → Settings
settings_from g m q r p row = record {
  numbers = record { group = record { g = g; m = m }; q = q; r = r; p = p; factors = column (factor_at m row) runs_top; weights = column (weight_at m) runs_top };
  certificates = column (certificate_at m row) runs_top;
}

-- the K lines of settings: lines 3 to 2 + m; the first k of them, one after the other
abbrev pub run_at : Settings → ℕ → List ℕ
run_at s i = setting_line s (i + 3)

abbrev pub runs_text : Settings → ℕ → List ℕ
runs_text s k = joined (run_at s) k

-- THE K LINES, which no other number of the settings touches (`store_back`)
abbrev pub text_of : ℕ → (ℕ → Row) → List ℕ
text_of m row = runs_text (settings_from 1 m 1 1 1 row) m
