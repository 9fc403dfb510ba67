-- The lines of given settings, as the writer spells them.
use Rattle.std.specs.Prelude.{ℕ, ◌+◌, ◌-◌, Bool, ◌&&◌, List, [], ◌∷◌, ◌++◌, eqb, get_or, take}
use Rattle.units.specs.Pick.{pick}
use Rattle.units.specs.Within.{within}
use Rattle.message.specs.declared.certificate.Certificate.{Certificate}
use Rattle.message.specs.declared.settings.Settings.{Settings}
use Rattle.message.specs.Settings.{no_certificate, settings_fit}
use Rattle.fields.specs.Put.{written}
use Rattle.fields.specs.Text.{line_feed, tabbed}
use Rattle.lines.specs.declared.kind.Kind.TheVariants.{Sizes, Filter, Run}
use Rattle.lines.specs.Lists.{column}
use Rattle.lines.specs.Table.{letter_of, quantity_at, spelling_of}
use Rattle.lines.specs.Writing.{line_of}

-- the bytes of a certificate
abbrev pub bytes_of : Certificate → List ℕ
bytes_of c = take c.len c.bytes

abbrev pub run_number : ℕ → ℕ → List ℕ
run_number place n = written (spelling_of (quantity_at Run place)) n

-- the two halves of a line K's fields, each field after its tab
abbrev pub who : ℕ → List ℕ → List ℕ
who run cs = tabbed (run_number 0 run ∷ cs ∷ [])

abbrev pub share : ℕ → ℕ → List ℕ
share factor weight = tabbed (run_number 1 factor ∷ run_number 2 weight ∷ [])

-- "K run, certificate, factor, weight"
unfoldable pub run_line : ℕ → List ℕ → ℕ → ℕ → List ℕ
run_line run cs factor weight = letter_of Run ∷ tabbed (run_number 0 run ∷ cs ∷ run_number 1 factor ∷ run_number 2 weight ∷ []) ++ (line_feed ∷ [])

-- line k of the settings, from 1
unfoldable pub setting_line : Settings → ℕ → List ℕ
setting_line s k =
    pick (eqb k 1) (line_of Sizes (s.numbers.group.g ∷ s.numbers.group.m ∷ []))
    (pick (eqb k 2) (line_of Filter (s.numbers.q ∷ s.numbers.r ∷ s.numbers.p ∷ []))
    (run_line (k - 3) (bytes_of (get_or s.certificates (k - 3) no_certificate)) (get_or s.numbers.factors (k - 3) 0) (get_or s.numbers.weights (k - 3) 0)))

-- whether there is such a line to write
unfoldable pub setting_fits : Settings → ℕ → Bool
setting_fits s k = settings_fit s && within 1 (2 + s.numbers.group.m) k

-- all of them
abbrev pub setting_lines : Settings → List (List ℕ)
setting_lines s = column (λ i. setting_line s (i + 1)) (2 + s.numbers.group.m)
