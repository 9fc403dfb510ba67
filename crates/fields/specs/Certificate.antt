-- "certificate (1 to 16 bytes 0x21..0x7E, else 5)".
use Rattle.std.specs.Prelude.{ℕ, ◌+◌, List, [], ◌∷◌, Bool, true, ◌&&◌, length, leb, Option, Some, None}
use Rattle.units.specs.Bytes.{visible}
use Rattle.units.specs.Limits.{certificate_top}
use Rattle.fields.specs.Digits.{pick}
use Rattle.fields.specs.Text.{field_at}

unfoldable pub all_visible : List ℕ → Bool
all_visible [] = true
all_visible (c ∷ cs) = visible c && all_visible cs

unfoldable pub is_certificate : List ℕ → Bool
is_certificate cs = leb 1 (length cs) && leb (length cs) certificate_top && all_visible cs

-- the field that starts at a place, as a certificate, and where it ends
unfoldable pub certificate_at : List ℕ → ℕ → Option ℕ
certificate_at text at = pick (is_certificate (field_at text at)) (Some (at + length (field_at text at))) None
