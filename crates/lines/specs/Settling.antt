-- "Settings are the first 2 + m lines": how they are read line by line, and refusal 15.
use Rattle.std.specs.Prelude.{ℕ, ◌+◌, ◌-◌, Bool, false, List, [], ◌∷◌, eqb, leb, ltb, length, get_or, set, replicate, Result, Ok, Err}
use Rattle.units.specs.declared.refusal.Refusal.{Refusal}
use Rattle.units.specs.declared.refusal.Refusal.TheVariants.{Long, Unended, Kind as NoKind, Fields, Form as NoForm, Settings as NoSettings}
use Rattle.units.specs.declared.settings.Group.{Group}
use Rattle.units.specs.declared.settings.Numbers.{Numbers}
use Rattle.units.specs.Limits.{line_top, runs_top}
use Rattle.units.specs.Pick.{pick}
use Rattle.units.specs.Refusal.{answer_number, number_of, values_of}
use Rattle.message.specs.declared.certificate.Certificate.{Certificate}
use Rattle.message.specs.declared.settings.Settings.{Settings}
use Rattle.fields.specs.declared.field.Fault.{Fault}
use Rattle.fields.specs.declared.field.Field.{Field}
use Rattle.fields.specs.Field.{refusal_of}
use Rattle.fields.specs.Certificate.{is_certificate}
use Rattle.fields.specs.Text.{line_feed, until, first_field, later_fields}
use Rattle.lines.specs.declared.kind.Kind.{Kind}
use Rattle.lines.specs.declared.kind.Kind.TheVariants.{Sizes, Filter, Run}
use Rattle.lines.specs.declared.settle.Wanted.{Wanted}
use Rattle.lines.specs.declared.settle.Wanted.TheVariants.{More, Whole}
use Rattle.lines.specs.declared.settle.Settled.{Settled}
use Rattle.lines.specs.declared.settle.Settling.{Settling}
use Rattle.lines.specs.Lists.{column}
use Rattle.lines.specs.Reading.{Got, values, stop, read_by, read_values, ended_once}
use Rattle.lines.specs.Table.{letter_of, limit_of, runs_of}
use Rattle.lines.specs.Values.{word}

-- AT THE START nothing is read, and the next line is line 1
abbrev pub no_one : Certificate
no_one = record { len = 0; bytes = replicate runs_top 0 }

abbrev pub no_numbers : Numbers
no_numbers = record { group = record { g = 0; m = 0 }; q = 0; r = 0; p = 0; factors = replicate runs_top 0; weights = replicate runs_top 0 }

unfoldable pub settling_start : Settling
settling_start = record { line = 1; settings = record { numbers = no_numbers; certificates = replicate runs_top no_one } }

-- how the settings stand after a line: more lines wanted, or whole, or why the line was refused
abbrev pub Standing : Type 0
Standing = Result Wanted Refusal

-- A LINE REFUSED: "line number from 1, and 1..6 as reason"; nothing is taken in
abbrev pub stopped : Settling → Refusal → Settled
stopped st why = record { next = st; answer = Err (NoSettings st.line (number_of why)) }

-- A LINE TAKEN: the settings are whole after line 2 + m
abbrev pub standing_at : ℕ → ℕ → Standing
standing_at line m = pick (eqb line (2 + m)) (Ok Whole) (Ok More)

abbrev pub kept : Settling → Settings → Settled
kept st settings = record { next = record { line = st.line + 1; settings = settings }; answer = standing_at st.line settings.numbers.group.m }

-- what a line led to that gave settings, or a refusal
abbrev pub settled : Settling → Result Settings Refusal → Settled
settled st (Ok settings) = kept st settings
settled st (Err why) = stopped st why

-- G: g, m
abbrev pub with_sizes : Settings → List ℕ → Settings
with_sizes s vs = record {
  numbers = record { group = record { g = get_or vs 0 0; m = get_or vs 1 0 }; q = s.numbers.q; r = s.numbers.r; p = s.numbers.p; factors = s.numbers.factors; weights = s.numbers.weights };
  certificates = s.certificates;
}

-- N: q, r, p
abbrev pub with_filter : Settings → List ℕ → Settings
with_filter s vs = record {
  numbers = record { group = s.numbers.group; q = word (get_or vs 0 0); r = word (get_or vs 1 0); p = word (get_or vs 2 0); factors = s.numbers.factors; weights = s.numbers.weights };
  certificates = s.certificates;
}

-- K: run, certificate, factor, weight
abbrev pub certificate_of : List ℕ → Certificate
certificate_of cs = record { len = length cs; bytes = column (λ i. get_or cs i 0) runs_top }

abbrev pub run_with : Settings → ℕ → Certificate → ℕ → ℕ → Settings
run_with s run certificate factor weight = record {
  numbers = record {
    group = s.numbers.group;
    q = s.numbers.q;
    r = s.numbers.r;
    p = s.numbers.p;
    factors = set s.numbers.factors run (word factor);
    weights = set s.numbers.weights run (word weight);
  };
  certificates = set s.certificates run certificate;
}

-- the run whose turn it is
abbrev pub turn_of : Settling → ℕ
turn_of st = st.line - 3

-- no limit of a settings line depends on a group
abbrev pub any_group : Group
any_group = record { g = 1; m = 1 }

abbrev pub kept_values : Settling → (List ℕ → Settings) → Got → Settled
kept_values st go (values vs) = kept st (go vs)
kept_values st go (stop why) = stopped st why

abbrev pub settle_plain : Settling → Kind → (List ℕ → Settings) → List (List ℕ) → Settled
settle_plain st kind go fs = kept_values st go (read_values kind any_group fs)

abbrev pub after_field : Settling → Result Field Fault → (ℕ → Settled) → Settled
after_field st (Ok f) go = go f.n
after_field st (Err why) go = stopped st (refusal_of why)

-- four fields, from the left: "a run out of turn 6", "certificate (1 to 16 bytes 0x21..0x7E, else 5)"
unfoldable pub settle_weight : Settling → List (List ℕ) → ℕ → Settled
settle_weight st fs factor =
    after_field st (read_by (limit_of Run 2 any_group (turn_of st)) (get_or fs 3 [])) (λ weight. kept st (run_with st.settings (turn_of st) (certificate_of (get_or fs 1 [])) factor weight))

unfoldable pub settle_factor : Settling → List (List ℕ) → Settled
settle_factor st fs = after_field st (read_by (limit_of Run 1 any_group (turn_of st)) (get_or fs 2 [])) (settle_weight st fs)

unfoldable pub settle_certificate : Settling → List (List ℕ) → Settled
settle_certificate st fs = pick (is_certificate (get_or fs 1 [])) (settle_factor st fs) (stopped st NoForm)

unfoldable pub settle_run : Settling → List (List ℕ) → Settled
settle_run st fs =
    pick (eqb (length fs) 4) (after_field st (read_by (limit_of Run 0 any_group (turn_of st)) (get_or fs 0 [])) (λ run. settle_certificate st fs)) (stopped st Fields)

-- "In settings an unexpected kind is 3"
unfoldable pub is_kind : Kind → List ℕ → Bool
is_kind kind [] = false
is_kind kind (c ∷ []) = eqb c (letter_of kind)
is_kind kind (c ∷ d ∷ cs) = false

abbrev pub expecting : Settling → Kind → List ℕ → Settled → Settled
expecting st kind text go = pick (is_kind kind (first_field text)) go (stopped st NoKind)

-- line 1 is G, line 2 is N, then each run in order has its K, and nothing after them is read as settings
unfoldable pub settle_text : Settling → List ℕ → Settled
settle_text st text =
    pick (eqb st.line 1) (expecting st Sizes text (settle_plain st Sizes (with_sizes st.settings) (later_fields text)))
    (pick (eqb st.line 2) (expecting st Filter text (settle_plain st Filter (with_filter st.settings) (later_fields text)))
    (pick (ltb (turn_of st) (runs_of st.settings.numbers.group.m)) (expecting st Run text (settle_run st (later_fields text))) (stopped st NoKind)))

unfoldable pub settle_line : Settling → List ℕ → Settled
settle_line st line = pick (leb (length line) line_top) (pick (ended_once line) (settle_text st (until line_feed line)) (stopped st Unended)) (stopped st Long)

-- "a missing line 2": input that ends within the settings
abbrev pub missing : Settling → Refusal
missing st = NoSettings st.line (number_of Unended)

-- THE SETTINGS AS A WHOLE: the lines of an input, one after the other
abbrev pub settle_on : (Settling → Settled) → Settling → Standing → Settled
settle_on go st (Ok More) = go st
settle_on go st (Ok Whole) = record { next = st; answer = Ok Whole }
settle_on go st (Err why) = record { next = st; answer = Err why }

unfoldable pub settle_all : List (List ℕ) → Settling → Settled
settle_all [] st = stopped st Unended
settle_all (l ∷ ls) st = settle_on (settle_all ls) (settle_line st l).next (settle_line st l).answer

-- the number of what a line of the settings led to, 0 where it was taken, and the values that go with it
abbrev pub standing_number : Standing → ℕ
standing_number a = answer_number a

abbrev pub standing_values : Standing → List ℕ
standing_values (Ok More) = 0 ∷ []
standing_values (Ok Whole) = 1 ∷ []
standing_values (Err why) = values_of why
