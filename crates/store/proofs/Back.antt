-- WHAT THE K LINES READ BACK AS, behind a G line with that m and an N line. Assumes nothing.
use Prim.Native.Nat.{ℕ, zero, suc, ◌+◌, ◌≤◌, ◌<◌}
use mathlib.Core.Path.{◌≡◌, refl, sym, ap, subst, ◌∙◌}
use mathlib.Core.Bool.{true}
use mathlib.Core.List.{List, [], ◌∷◌, ◌++◌, append_assoc, append-nil}
use native.Mathlib.Omega.{arith}
use native.Mathlib.Nat.{mod-eq_of_lt}
use lib.Dec.{ltb}
use lib.ListN.{length, get_or, length-replicate, get_or-replicate}
use borrow.Author.Tests.{lt-ltb, le-ltb}
use Rattle.units.specs.InRange.{GroupInRange}
use Rattle.units.specs.Limits.{factor_low, factor_top}
use Rattle.units.specs.Pick.{pick}
use Rattle.message.specs.declared.settings.Settings.{Settings}
use Rattle.message.specs.InRange.{CertificateInRange, NoCertificate}
use Rattle.message.specs.Settings.{no_certificate, settings_fit}
use Rattle.message.proofs.InRange.{settings_exact}
use Rattle.fields.specs.Lines.{lines_of}
use Rattle.fields.specs.Text.{line_feed}
use Rattle.fields.proofs.Cases.{by_lt}
use Rattle.fields.proofs.Lines.{lines_feed, lines_none}
use Rattle.lines.specs.declared.kind.Kind.{Kind}
use Rattle.lines.specs.declared.kind.Kind.TheVariants.{Sizes, Filter}
use Rattle.lines.specs.Lists.{column, joined}
use Rattle.lines.specs.Settings.{setting_line, setting_lines}
use Rattle.lines.specs.Settling.{no_one, settling_start, settle_all}
use Rattle.lines.specs.Values.{word}
use Rattle.lines.specs.Writing.{line_of}
use Rattle.lines.proofs.Columns.{length_column, get_d_column, column_same}
use Rattle.lines.proofs.WholeSettings.{settings_back}
use Rattle.lines.proofs.Wire.{line_ends}
use Rattle.store.specs.declared.row.Row.{Row}
use Rattle.store.specs.declared.stored.Serials.{Serials}
use Rattle.store.specs.Row.{RowInRange}
use Rattle.store.specs.Runs.{factor_at, weight_at, certificate_at, found, settings_from, run_at, text_of}
use Rattle.store.specs.Says.{Noise, whole_as, ReadsBack}
use Rattle.store.specs.Stored.{says, outcome_of}
use Rattle.store.proofs.Refusals.{Found, says_found}
use Rattle.store.proofs.Rows.{listed_in_range}
use Rattle.store.proofs.RunLines.{line_is, text_short, Ended, run_ended}

-- a row that a run can have: its certificate is one, and its factor is in range
pub record Usable (x : Row) : Type 0 where
  pub certificate : CertificateInRange x.certificate
  pub factor : (factor_low ≤ x.factor) × (x.factor ≤ factor_top)

-- a row in range is one
pub usable_row : (x : Row) → RowInRange x → Usable x
usable_row x r = record { certificate = r.certificate; factor = r.factor }

no_one_none : NoCertificate no_one
no_one_none = record { empty = refl; sixteen = length-replicate {A = ℕ} 16 0; none = λ j k. get_or-replicate {A = ℕ} 16 j 0 0 k }

module _ (g m q r p : ℕ) (row : ℕ → Row) where
  abbrev s : Settings
  s = settings_from g m q r p row

  blank_factor : (i : ℕ) → m ≤ i → i < 16 → get_or s.numbers.factors i 0 ≡ 0
  unfolding settings_from pick
  blank_factor i l h = get_d_column (factor_at m row) 0 16 i h ∙ rw (le-ltb i m l)

  blank_weight : (i : ℕ) → m ≤ i → i < 16 → get_or s.numbers.weights i 0 ≡ 0
  unfolding settings_from pick
  blank_weight i l h = get_d_column (weight_at m) 0 16 i h ∙ rw (le-ltb i m l)

  blank_certificate : (i : ℕ) → m ≤ i → i < 16 → get_or s.certificates i no_certificate ≡ no_one
  unfolding settings_from pick
  blank_certificate i l h = get_d_column (certificate_at m row) no_certificate 16 i h ∙ rw (le-ltb i m l)

  -- RUN i has row i's certificate and factor, and weight 1
  module _ (few : m ≤ 16) (usable : (i : ℕ) → i < m → Usable (row i)) (i : ℕ) (l : i < m) where
    -- its certificate
    pub run_certificate : get_or s.certificates i no_certificate ≡ (row i).certificate
    unfolding settings_from pick
    run_certificate = get_d_column (certificate_at m row) no_certificate 16 i (omega arith) ∙ rw (lt-ltb i m l)

    -- its factor
    pub run_factor : get_or s.numbers.factors i 0 ≡ (row i).factor
    unfolding settings_from pick
    run_factor = get_d_column (factor_at m row) 0 16 i (omega arith) ∙ rw (lt-ltb i m l) (mod-eq_of_lt (omega (arith, (usable i l).factor)))

    -- its weight
    pub run_weight : get_or s.numbers.weights i 0 ≡ 1
    unfolding settings_from pick
    run_weight = get_d_column (weight_at m) 0 16 i (omega arith) ∙ rw (lt-ltb i m l)

  -- SETTINGS MADE OF ROWS are in range
  pub store_fits : GroupInRange (record { g = g; m = m }) → Noise q r p → ((i : ℕ) → i < m → Usable (row i)) → settings_fit s ≡ true
  unfolding settings_from
  store_fits group noise usable =
      let few : m ≤ 16 = group.runs.1 in
      (settings_exact s).1 (record {
        numbers = record {
          controllers = group.controllers;
          runs = group.runs;
          q = noise.0;
          r = noise.1;
          p = noise.2;
          factor = λ i l. rw (run_factor few usable i l) (usable i l).factor;
          weight = λ i l. rw (run_weight few usable i l) (omega arith, omega arith);
          blank = λ i l h. (blank_factor i l h, blank_weight i l h);
        };
        sixteen = (length_column (factor_at m row) 16, length_column (weight_at m) 16, length_column (certificate_at m row) 16);
        certificate = λ i l. subst CertificateInRange (sym (run_certificate few usable i l)) (usable i l).certificate;
        none = λ i l h. subst NoCertificate (sym (blank_certificate i l h)) no_one_none;
      })

-- the settings of which the K lines are written
pub one_fits : (m : ℕ) (row : ℕ → Row) → (1 ≤ m) × (m ≤ 16) → ((i : ℕ) → i < m → Usable (row i)) → settings_fit (settings_from 1 m 1 1 1 row) ≡ true
one_fits m row h usable = store_fits 1 m 1 1 1 row (record { controllers = (omega arith, omega arith); runs = h }) ((omega arith, omega arith), (omega arith, omega arith), (omega arith, omega arith)) usable

-- the K lines are 600 bytes at the most
text_room : (m : ℕ) (row : ℕ → Row) → (1 ≤ m) × (m ≤ 16) → ((i : ℕ) → i < m → Usable (row i)) → length (text_of m row) ≤ 600
unfolding settings_from
text_room m row h usable = let a = text_short (settings_from 1 m 1 1 1 row) (one_fits m row h usable) m (omega arith) in omega arith

-- rows that agree below m give the same settings, and the same K lines
module _ (m : ℕ) (row other : ℕ → Row) (same : (i : ℕ) → i < m → row i ≡ other i) where
  same_at : {A : Type 0} (f : Row → A) (none : A) (i : ℕ) → pick (ltb i m) (f (row i)) none ≡ pick (ltb i m) (f (other i)) none
  unfolding pick
  same_at f none i = by_lt i m (λ l. rw (same i l)) (λ l. rw (le-ltb i m l))

  -- the settings
  pub settings_same : (g q r p : ℕ) → settings_from g m q r p row ≡ settings_from g m q r p other
  unfolding settings_from
  settings_same g q r p =
      rw (
        column_same (factor_at m row) (factor_at m other) 16 (λ i l. same_at (λ x. word x.factor) 0 i),
        column_same (certificate_at m row) (certificate_at m other) 16 (λ i l. same_at (λ x. x.certificate) no_one i),
      )

  -- the K lines
  pub text_same : text_of m row ≡ text_of m other
  text_same = ap (λ (x : Settings). joined (run_at x) m) (settings_same 1 1 1 1)

-- LINES ONE AFTER THE OTHER are the lines of their bytes
line_first : (line rest : List ℕ) → Ended line → lines_of (line ++ rest) ≡ line ∷ lines_of rest
line_first line rest e =
    ap (λ (l : List ℕ). lines_of (l ++ rest)) e.ends ∙ ap lines_of (append_assoc e.text (line_feed ∷ []) rest) ∙ lines_feed e.text rest e.none
    ∙ ap {B = List (List ℕ)} (λ (l : List ℕ). l ∷ lines_of rest) (sym e.ends)

lines_joined : (f : ℕ → List ℕ) (n : ℕ) → ((i : ℕ) → i < n → Ended (f i)) → (rest : List ℕ) → lines_of (joined f n ++ rest) ≡ column f n ++ lines_of rest
unfolding joined column
lines_joined f zero e rest = refl
lines_joined f (suc n) e rest =
    ap lines_of (append_assoc (joined f n) (f n) rest) ∙ lines_joined f n (λ i l. e i (omega arith)) (f n ++ rest)
    ∙ ap (λ (ls : List (List ℕ)). column f n ++ ls) (line_first (f n) rest (e n (omega arith))) ∙ sym (append_assoc (column f n) (f n ∷ []) (lines_of rest))

column_front : {A : Type 0} (f : ℕ → A) (n : ℕ) → column f (suc n) ≡ f 0 ∷ column (λ i. f (i + 1)) n
unfolding column
column_front f zero = refl
column_front f (suc n) = let z : n + 1 ≡ suc n = omega arith in rw (column_front f n, z)

number_ended : (k : Kind) (vs : List ℕ) → Ended (line_of k vs)
number_ended k vs = record { text = _; ends = (line_ends k vs).0; none = (line_ends k vs).1 }

module _ (g m q r p : ℕ) (row : ℕ → Row) where
  -- the K lines are the same whatever g, q, r and p are
  same_run : (i : ℕ) → run_at (settings_from 1 m 1 1 1 row) i ≡ run_at (settings_from g m q r p row) i
  unfolding settings_from
  same_run i = line_is (settings_from 1 m 1 1 1 row) i ∙ sym (line_is (settings_from g m q r p row) i)

  setting_lines_lem : setting_lines (settings_from g m q r p row) ≡ line_of Sizes (g ∷ m ∷ []) ∷ line_of Filter (q ∷ r ∷ p ∷ []) ∷ column (run_at (settings_from 1 m 1 1 1 row)) m
  unfolding settings_from setting_line pick
  setting_lines_lem =
      let f : ℕ → List ℕ = λ i. setting_line (settings_from g m q r p row) (i + 1) in
      let y : 2 + m ≡ suc (suc m) = omega arith in
      ap (column f) y ∙ column_front f (suc m) ∙ ap {B = List (List ℕ)} (λ (l : List (List ℕ)). f 0 ∷ l) (column_front (λ i. f (i + 1)) m)
      ∙ ap {B = List (List ℕ)} (λ (l : List (List ℕ)). f 0 ∷ f 1 ∷ l)
      (column_same (λ i. f (i + 1 + 1)) (run_at (settings_from 1 m 1 1 1 row)) m
      (λ i h. let z : i + 1 + 1 + 1 ≡ i + 3 = omega arith in ap (setting_line (settings_from g m q r p row)) z ∙ sym (same_run i)))

  module _ (group : GroupInRange (record { g = g; m = m })) (noise : Noise q r p) (usable : (i : ℕ) → i < m → Usable (row i)) where
    text_lines : lines_of (line_of Sizes (g ∷ m ∷ []) ++ line_of Filter (q ∷ r ∷ p ∷ []) ++ text_of m row) ≡ setting_lines (settings_from g m q r p row)
    unfolding settings_from
    text_lines =
        let G = line_of Sizes (g ∷ m ∷ []) in
        let N = line_of Filter (q ∷ r ∷ p ∷ []) in
        let T = text_of m row in
        let f = run_at (settings_from 1 m 1 1 1 row) in
        let e : (i : ℕ) → i < m → Ended (f i) = run_ended (settings_from 1 m 1 1 1 row) (one_fits m row group.runs usable) in
        let t : lines_of T ≡ column f m = ap lines_of (sym (append-nil T)) ∙ lines_joined f m e [] ∙ ap (λ (ls : List (List ℕ)). column f m ++ ls) lines_none ∙ append-nil (column f m) in
        ap lines_of (append_assoc G N T) ∙ line_first G (N ++ T) (number_ended Sizes (g ∷ m ∷ [])) ∙ ap {B = List (List ℕ)} (λ (ls : List (List ℕ)). G ∷ ls) (line_first N T (number_ended Filter (q ∷ r ∷ p ∷ [])) ∙ ap {B = List (List ℕ)} (λ (ls : List (List ℕ)). N ∷ ls) t)
        ∙ sym setting_lines_lem

    -- THE K LINES READ BACK
    pub runs_back : settle_all (lines_of (line_of Sizes (g ∷ m ∷ []) ++ line_of Filter (q ∷ r ∷ p ∷ []) ++ text_of m row)) settling_start ≡ whole_as g m q r p row
    unfolding settings_from
    runs_back = ap (λ (ls : List (List ℕ)). settle_all ls settling_start) text_lines ∙ settings_back (settings_from g m q r p row) (store_fits g m q r p row group noise usable)

-- WHAT THE STORE WRITES
module _ (export day : List ℕ) (s : Serials) (text : List ℕ) (e : outcome_of export day s ≡ says text) where
  abbrev of : Found export day s text
  of = says_found export day s text e

  abbrev row : ℕ → Row
  row = found s of.n of.rs

  runs : (1 ≤ s.m) × (s.m ≤ 16)
  runs = of.from.apart.asked.counted.runs

  usable : (i : ℕ) → i < s.m → Usable (row i)
  usable i l =
      usable_row (row i) (listed_in_range export of.rs of.from.apart.asked.counted.dated.listed (row i) (of.from.newest i l).inforce.listed)

  -- 600 BYTES ARE ALWAYS ENOUGH
  pub store_room : length text ≤ 600
  store_room = rw of.text_is (text_room s.m row runs usable)

  -- behind a G line with that m and an N line it READS BACK as whole settings of each meter's newest certificate
  pub store_back : (g q r p : ℕ) → (1 ≤ g) × (g ≤ 7) → Noise q r p → ReadsBack export day s text g q r p
  store_back g q r p controllers noise =
      let few : s.m ≤ 16 = runs.1 in
      record {
        rs = of.rs;
        n = of.n;
        from = of.from;
        read =
            ap (λ (t : List ℕ). settle_all (lines_of (line_of Sizes (g ∷ s.m ∷ []) ++ line_of Filter (q ∷ r ∷ p ∷ []) ++ t)) settling_start) of.text_is
            ∙ runs_back g s.m q r p row (record { controllers = controllers; runs = runs }) noise usable;
        certificate = run_certificate g s.m q r p row few usable;
        factor = run_factor g s.m q r p row few usable;
        weight = run_weight g s.m q r p row few usable;
      }
