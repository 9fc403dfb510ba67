-- The settings as a value: the numbers of G, N and K, and certificates of "1 to 16 bytes 0x21..0x7E".
use Rattle.std.specs.Prelude.{ℕ, Bool, true, false, ◌&&◌, [], ltb, eqb, length, get_or}
use Rattle.units.specs.Bytes.{visible}
use Rattle.units.specs.Every.{every}
use Rattle.units.specs.Limits.{certificate_top, runs_top}
use Rattle.units.specs.Settings.{numbers_fit}
use Rattle.units.specs.Within.{within}
use Rattle.message.specs.declared.certificate.Certificate.{Certificate}
use Rattle.message.specs.declared.settings.Settings.{Settings}

abbrev pub byte_place : Bool → ℕ → Bool
byte_place true b = visible b
byte_place false b = eqb b 0

abbrev pub byte_at : Certificate → ℕ → Bool
byte_at c i = byte_place (ltb i c.len) (get_or c.bytes i 0)

-- a run's certificate has 1 to 16 bytes, a place that is no run has none
abbrev pub len_fits : Bool → ℕ → Bool
len_fits true len = within 1 certificate_top len
len_fits false len = eqb len 0

unfoldable pub certificate_fits : Bool → Certificate → Bool
certificate_fits run c = (len_fits run c.len && eqb (length c.bytes) certificate_top) && every (byte_at c) certificate_top

-- what a list of certificates reads as past its end; it is in no range
abbrev pub no_certificate : Certificate
no_certificate = record { len = 0; bytes = [] }

abbrev pub certificate_at : Settings → ℕ → Bool
certificate_at s i = certificate_fits (ltb i s.numbers.group.m) (get_or s.certificates i no_certificate)

-- sixteen factors, weights and certificates
abbrev pub sixteen : Settings → Bool
sixteen s = eqb (length s.numbers.factors) runs_top && eqb (length s.numbers.weights) runs_top && eqb (length s.certificates) runs_top

unfoldable pub settings_fit : Settings → Bool
settings_fit s = (numbers_fit s.numbers && sixteen s) && every (certificate_at s) runs_top
