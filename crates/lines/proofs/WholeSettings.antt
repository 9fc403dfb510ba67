-- THE ROUND TRIP OF THE SETTINGS AS A WHOLE: settings in range, written and read again, are the same; what is accepted is in range and spelled as the writer spells it. Assumes nothing.
use Rattle.std.specs.Prelude.{Err, Ok}
use Prim.Native.Nat.{ℕ, zero, suc, ◌+◌, ◌-◌, ◌≤◌, ◌<◌}
use mathlib.Core.Path.{◌≡◌, refl, sym, ap, subst, ◌∙◌}
use mathlib.Core.List.{List, [], ◌∷◌}
use mathlib.Core.Bool.{true, ◌&&◌}
use native.Mathlib.Omega.{arith}
use native.Mathlib.Numerals.{add-one}
use lib.Dec.{leb}
use lib.ListN.{length, get_or, take, drop, set, replicate, length-set, length-replicate, length-drop, get_or-replicate, get_or-eq_default}
use lib.Seq.{get_or-set_same, get_or-set_other, get_or-take, length-take-le, ext_get_or, get_or-drop, drop-drop, drop-cons}
use borrow.Author.Tests.{eq-eqb, ne_eqb}
use Rattle.units.specs.declared.settings.Group.{Group}
use Rattle.units.specs.Bytes.{visible}
use Rattle.units.specs.InRange.{GroupInRange}
use Rattle.units.specs.Pick.{pick}
use Rattle.units.proofs.Every.{and_left, and_right, and_both}
use Rattle.units.proofs.InRange.{within_range, within_made}
use Rattle.message.specs.declared.certificate.Certificate.{Certificate}
use Rattle.message.specs.declared.settings.Settings.{Settings}
use Rattle.message.specs.InRange.{CertificateInRange, NoCertificate, SettingsInRange}
use Rattle.message.specs.Settings.{no_certificate, settings_fit}
use Rattle.message.proofs.InRange.{settings_exact}
use Rattle.fields.specs.declared.spelling.Spelling.{Spelling}
use Rattle.fields.specs.declared.spelling.Spelling.TheVariants.{Decimal, Factor}
use Rattle.fields.specs.Certificate.{all_visible, is_certificate}
use Rattle.fields.specs.Field.{limit, fits}
use Rattle.fields.proofs.Cases.{by_lt, absurd_by}
use Rattle.fields.proofs.Certificates.{certificate_long}
use Rattle.fields.proofs.Spellings.{fits_range, range_fits}
use Rattle.lines.specs.declared.kind.Kind.TheVariants.{Sizes, Filter}
use Rattle.lines.specs.Settling.{Standing, no_one, settling_start, kept, with_sizes, with_filter, certificate_of, turn_of, any_group, settle_line, settle_on, settle_all}
use Rattle.lines.specs.declared.settle.Wanted.TheVariants.{More, Whole}
use Rattle.lines.specs.declared.settle.Settled.{Settled}
use Rattle.lines.specs.declared.settle.Settling.{Settling}
use Rattle.lines.specs.Lists.{column}
use Rattle.lines.specs.Settings.{bytes_of, run_line, setting_line, setting_lines}
use Rattle.lines.specs.Table.{quantity_at, limit_for, limit_of, runs_of, count_of}
use Rattle.lines.specs.Values.{word}
use Rattle.lines.specs.Writing.{line_of}
use Rattle.lines.proofs.Arrays.{word_is}
use Rattle.lines.proofs.Columns.{length_column, get_d_column, is_column}
use Rattle.lines.proofs.Meaning.{of_two, of_three}
use Rattle.lines.proofs.Saying.{below_two, below_three}
use Rattle.lines.proofs.SettingTrip.{takes, Fitting, sizes_back, filter_back, run_back, sizes_only, filter_only, run_only}
use Rattle.lines.proofs.Spelled.{Fit, fits_by, fits_all, fits_each}

-- CERTIFICATES
visible_all : (cs : List ℕ) → ((i : ℕ) → i < length cs → visible (get_or cs i 0) ≡ true) → all_visible cs ≡ true
unfolding all_visible
visible_all [] h = refl
visible_all (c ∷ cs) h = rw (h 0 (omega arith)) (visible_all cs (λ i l. h (suc i) (omega arith)))

visible_at : (cs : List ℕ) → all_visible cs ≡ true → (i : ℕ) → i < length cs → visible (get_or cs i 0) ≡ true
unfolding all_visible
visible_at [] e i h = absurd (omega arith)
visible_at (c ∷ cs) e zero h = and_left (visible c) (all_visible cs) e
visible_at (c ∷ cs) e (suc i) h = visible_at cs (and_right (visible c) (all_visible cs) e) i (omega arith)

-- the bytes of a certificate in range are a certificate, and that certificate is theirs
module _ (c : Certificate) (r : CertificateInRange c) where
  pub bytes_long : length (bytes_of c) ≡ c.len
  bytes_long = length-take-le c.len c.bytes (omega (arith, r.size, r.sixteen))

  pub bytes_shown : is_certificate (bytes_of c) ≡ true
  unfolding is_certificate
  bytes_shown =
      let l = bytes_long in
      and_both (within_made 1 16 (length (bytes_of c)) (omega (arith, r.size)))
      (visible_all (bytes_of c) (λ i h. let b : i < c.len = omega arith in rw (get_or-take c.len c.bytes i 0 b) (within_made 33 126 (get_or c.bytes i 0) (r.byte i b))))

  pub certificate_again : certificate_of (bytes_of c) ≡ c
  certificate_again = rw (bytes_long, ← is_column (λ i. get_or (bytes_of c) i 0) 0 16 c.bytes r.sixteen byte)
    where
      byte : (i : ℕ) → i < 16 → get_or c.bytes i 0 ≡ get_or (bytes_of c) i 0
      byte i h =
          by_lt i c.len (λ a. sym (get_or-take c.len c.bytes i 0 a))
          (λ a. r.none i a h ∙ sym (get_or-eq_default (bytes_of c) 0 {n = i} (let l = bytes_long in omega arith)))

-- a certificate's bytes make one in range, and are its bytes
module _ (cs : List ℕ) (e : is_certificate cs ≡ true) where
  abbrev padded : List ℕ
  padded = column (λ i. get_or cs i 0) 16

  pub certificate_made : CertificateInRange (certificate_of cs)
  unfolding is_certificate
  certificate_made =
      let l = certificate_long cs e in
      record {
        size = l;
        sixteen = length_column (λ i. get_or cs i 0) 16;
        byte = λ i h. rw (get_d_column (λ i. get_or cs i 0) 0 16 i (omega arith)) (within_range 33 126 (get_or cs i 0) (visible_at cs (and_right (leb 1 (length cs) && leb (length cs) 16) (all_visible cs) e) i h));
        none = λ i h b. get_d_column (λ i. get_or cs i 0) 0 16 i b ∙ get_or-eq_default cs 0 {n = i} h;
      }

  pub bytes_again : bytes_of (certificate_of cs) ≡ cs
  bytes_again =
      let l = certificate_long cs e in
      let n : length (take (length cs) padded) ≡ length cs = length-take-le (length cs) padded (let a = length_column (λ i. get_or cs i 0) 16 in omega arith) in
      ext_get_or 0 (take (length cs) padded) cs n (λ i h. get_or-take (length cs) padded i 0 (omega arith) ∙ get_d_column (λ i. get_or cs i 0) 0 16 i (omega arith))

-- WHAT THE SETTINGS SAY OF THE RUNS: factor, weight and certificate of each
abbrev Entry : Type 0
Entry = ℕ × ℕ × Certificate

record Table : Type 0 where
  pub factors : List ℕ
  pub weights : List ℕ
  pub certificates : List Certificate

abbrev entry_at : Table → ℕ → Entry
entry_at t j = (get_or t.factors j 0, get_or t.weights j 0, get_or t.certificates j no_certificate)

abbrev set_entry : Table → ℕ → Entry → Table
set_entry t i e = record { factors = set t.factors i e.0; weights = set t.weights i e.1; certificates = set t.certificates i e.2 }

abbrev Long : Table → Type 0
Long t = (length t.factors ≡ 16) × (length t.weights ≡ 16) × (length t.certificates ≡ 16)

abbrev nobody : Entry
nobody = (0, 0, no_one)

abbrev no_table : Table
no_table = record { factors = replicate 16 0; weights = replicate 16 0; certificates = replicate 16 no_one }

abbrev table_of : Settings → Table
table_of s = record { factors = s.numbers.factors; weights = s.numbers.weights; certificates = s.certificates }

abbrev with_table : Settings → Table → Settings
with_table s t = record {
  numbers = record { group = s.numbers.group; q = s.numbers.q; r = s.numbers.r; p = s.numbers.p; factors = t.factors; weights = t.weights };
  certificates = t.certificates;
}

same_table : (t u : Table) → Long t → Long u → ((j : ℕ) → j < 16 → entry_at t j ≡ entry_at u j) → t ≡ u
same_table t u a b h =
    let F : t.factors ≡ u.factors = ext_get_or 0 t.factors u.factors (a.0 ∙ sym b.0) (λ j l. ap (λ (e : Entry). e.0) (h j (omega arith))) in
    let W : t.weights ≡ u.weights = ext_get_or 0 t.weights u.weights (a.1 ∙ sym b.1) (λ j l. ap (λ (e : Entry). e.1) (h j (omega arith))) in
    let C : t.certificates ≡ u.certificates = ext_get_or no_certificate t.certificates u.certificates (a.2 ∙ sym b.2) (λ j l. ap (λ (e : Entry). e.2) (h j (omega arith))) in
    rw (← F, ← W, ← C)

-- the first i runs are read, each as P has it
record Runs (P : ℕ → Entry → Type 0) (i : ℕ) (t : Table) : Type 0 where
  pub long : Long t
  pub made : (j : ℕ) → j < i → P j (entry_at t j)
  pub left : (j : ℕ) → i ≤ j → j < 16 → entry_at t j ≡ nobody

runs_none : (P : ℕ → Entry → Type 0) → Runs P 0 no_table
runs_none P = record {
  long = (length-replicate {A = ℕ} 16 0, length-replicate {A = ℕ} 16 0, length-replicate 16 no_one);
  made = λ j h. absurd (omega arith);
  left = λ j a h. rw (get_or-replicate {A = ℕ} 16 j 0 0 h, get_or-replicate 16 j no_one no_certificate h);
}

entry_other : (t : Table) (i j : ℕ) (e : Entry) → (j ≡ i → ⊥) → entry_at (set_entry t i e) j ≡ entry_at t j
entry_other t i j e n = rw (get_or-set_other t.factors i j e.0 0 n, get_or-set_other t.weights i j e.1 0 n, get_or-set_other t.certificates i j e.2 no_certificate n)

entry_same : (t : Table) (i : ℕ) (e : Entry) → Long t → i < 16 → entry_at (set_entry t i e) i ≡ e
entry_same t i e l h = rw (get_or-set_same t.factors i e.0 0 (omega arith), get_or-set_same t.weights i e.1 0 (omega arith), get_or-set_same t.certificates i e.2 no_certificate (omega arith))

runs_more : (P : ℕ → Entry → Type 0) (i : ℕ) (t : Table) (e : Entry) → Runs P i t → i < 16 → P i e → Runs P (i + 1) (set_entry t i e)
runs_more P i t e r h p = record {
  long = (length-set t.factors i e.0 ∙ r.long.0, length-set t.weights i e.1 ∙ r.long.1, length-set t.certificates i e.2 ∙ r.long.2);
  made = λ j l. by_lt j i (λ a. subst (P j) (sym (entry_other t i j e (λ z. absurd (omega arith)))) (r.made j a))
      (λ a. let z : j ≡ i = omega arith in rw z (subst (P i) (sym (entry_same t i e r.long h)) p));
  left = λ j l a. entry_other t i j e (λ z. absurd (omega arith)) ∙ r.left j (omega arith) a;
}

-- IN RANGE, by what stands ahead of the runs and by the runs
abbrev Noise : ℕ → ℕ → ℕ → Type 0
Noise q r p = ((1 ≤ q) × (q ≤ 1000000)) × ((1 ≤ r) × (r ≤ 1000000)) × ((1 ≤ p) × (p ≤ 1000000000))

abbrev Ahead : Settings → Type 0
Ahead s = GroupInRange s.numbers.group × Noise s.numbers.q s.numbers.r s.numbers.p

abbrev RunInRange : Entry → Type 0
RunInRange e = ((9000 ≤ e.0) × (e.0 ≤ 11000)) × ((1 ≤ e.1) × (e.1 ≤ 1000)) × CertificateInRange e.2

runs_fit : (s : Settings) → Ahead s → Runs (λ j e. RunInRange e) s.numbers.group.m (table_of s) → settings_fit s ≡ true
runs_fit s h r = (settings_exact s).1 (record {
  numbers = record {
    controllers = h.0.controllers;
    runs = h.0.runs;
    q = h.1.0;
    r = h.1.1;
    p = h.1.2;
    factor = λ i l. (r.made i l).0;
    weight = λ i l. (r.made i l).1;
    blank = λ i l b. (ap (λ (e : Entry). e.0) (r.left i l b), ap (λ (e : Entry). e.1) (r.left i l b));
  };
  sixteen = r.long;
  certificate = λ i l. (r.made i l).2;
  none = λ i l b. subst NoCertificate (sym (ap (λ (e : Entry). e.2) (r.left i l b))) (record { empty = refl; sixteen = length-replicate {A = ℕ} 16 0; none = λ j k. get_or-replicate {A = ℕ} 16 j 0 0 k });
})

no_one_lem : (c : Certificate) → NoCertificate c → c ≡ no_one
no_one_lem c n =
    let b : c.bytes ≡ replicate 16 0 = ext_get_or 0 c.bytes (replicate 16 0) (n.sixteen ∙ sym (length-replicate {A = ℕ} 16 0))
    (λ j h. let l : j < 16 = omega (arith, n.sixteen) in n.none j l ∙ sym (get_or-replicate {A = ℕ} 16 j 0 0 l)) in
    rw (← b, ← n.empty)

-- LINE BY LINE
pub record Spelt (lines : List (List ℕ)) (s : Settings) : Type 0 where
  pub fits : settings_fit s ≡ true
  pub only : take (2 + s.numbers.group.m) lines ≡ setting_lines s

abbrev pub whole : Settling → Settled
whole st = record { next = st; answer = Ok Whole }

not_whole : {A : Type 0} (st end : Settling) → settle_all [] st ≡ whole end → A
unfolding settle_all
not_whole st end e = let z = ap (λ (x : Settled). x.answer) e in absurd_by (cc)

-- a line of settings that come to be whole is taken
was_taken : (st end : Settling) (l : List ℕ) (ls : List (List ℕ)) → settle_all (l ∷ ls) st ≡ whole end → takes (settle_line st l).answer ≡ true
unfolding settle_all
was_taken st end l ls e = go (settle_line st l).answer e
  where
    go : (a : Standing) → settle_on (settle_all ls) (settle_line st l).next a ≡ whole end → takes a ≡ true
    go (Ok More) z = refl
    go (Ok Whole) z = refl
    go (Err why) z = let y = ap (λ (x : Settled). x.answer) z in absurd_by (cc)

-- what a taken line leads to
module _ (st : Settling) (l : List ℕ) (ls : List (List ℕ)) (n : ℕ) (s : Settings) (e : settle_line st l ≡ kept st s) (ne : st.line + 1 ≡ n) where
  goes_on : st.line < 2 + s.numbers.group.m → settle_all (l ∷ ls) st ≡ settle_all ls (record { line = n; settings = s })
  unfolding settle_all pick
  goes_on h = rw (e, ne_eqb st.line (2 + s.numbers.group.m) (λ z. absurd (omega arith)), ne)

  is_last : st.line ≡ 2 + s.numbers.group.m → settle_all (l ∷ ls) st ≡ whole (record { line = n; settings = s })
  unfolding settle_all pick
  is_last h = rw (e, eq-eqb st.line (2 + s.numbers.group.m) h, ne)

-- the line of a run
abbrev run_of : ℕ → Entry → List ℕ
run_of j e = run_line j (bytes_of e.2) e.0 e.1

run_line_lem : (s : Settings) (j : ℕ) → setting_line s (2 + j + 1) ≡ run_of j (entry_at (table_of s) j)
unfolding setting_line pick
run_line_lem s j =
    let q : 2 + j + 1 - 3 ≡ j = omega arith in
    rw (ne_eqb (2 + j + 1) 1 (λ e. absurd (omega arith)), ne_eqb (2 + j + 1) 2 (λ e. absurd (omega arith)), q)

-- a number in its range, as a field is judged
in_range : (sp : Spelling) (low high n : ℕ) → fits sp low high n ≡ true → (low ≤ n) × (n ≤ high)
in_range sp low high n e = let x = fits_range sp low high n e in (x.least, x.most)

range_in : (sp : Spelling) (low high n : ℕ) → high ≤ limit sp → (low ≤ n) × (n ≤ high) → fits sp low high n ≡ true
range_in sp low high n l h = range_fits sp low high n (record { least = h.0; most = h.1; can = omega arith })

-- settings with what stands ahead of the runs, waiting for run i
module _ (s : Settings) (ahead : Ahead s) where
  abbrev m : ℕ
  m = s.numbers.group.m

  abbrev at : Table → ℕ → Settling
  at t i = record { line = 3 + i; settings = with_table s t }

  module _ (t : Table) (i : ℕ) (below : i < m) where
    turn_is : turn_of (at t i) ≡ i
    turn_is = omega arith

    turn_in : turn_of (at t i) < runs_of m
    turn_in = omega (arith, ahead.0.runs)

    -- a run in range is read back
    run_taken : (e : Entry) → RunInRange e → settle_line (at t i) (run_of i e) ≡ kept (at t i) (with_table s (set_entry t i e))
    unfolding limit_for quantity_at
    run_taken e f =
        let k = turn_is in
        let F : Fitting (turn_of (at t i)) (bytes_of e.2) e.0 e.1 = record {
          run = range_in Decimal _ _ (turn_of (at t i)) (omega (arith, ahead.0.runs)) (omega arith, omega arith);
          certificate = bytes_shown e.2 f.2;
          factors = range_in Factor 9000 11000 e.0 (omega arith) f.0;
          weights = range_in Decimal 1 1000 e.1 (omega arith) f.1;
        } in
        rw (turn_is, word_is e.0 (omega (arith, f.0)), word_is e.1 (omega (arith, f.1)), certificate_again e.2 f.2) at
        (run_back (at t i) (λ z. absurd (omega arith)) (λ z. absurd (omega arith)) turn_in (bytes_of e.2) e.0 e.1 F)

    -- and whatever is taken is such a run's
    record Run (line : List ℕ) : Type 0 where
      pub entry : Entry
      pub fit : RunInRange entry
      pub spelt : line ≡ run_of i entry

    run_given : (line : List ℕ) → takes (settle_line (at t i) line).answer ≡ true → Run line
    unfolding limit_for quantity_at
    run_given line z =
        let g = run_only (at t i) (λ z. absurd (omega arith)) (λ z. absurd (omega arith)) turn_in line z in
        record {
          entry = (g.factor, g.weight, certificate_of g.cs);
          fit = (in_range Factor 9000 11000 g.factor g.fit.factors, in_range Decimal 1 1000 g.weight g.fit.weights, certificate_made g.cs g.fit.certificate);
          spelt = g.spelt ∙ rw (turn_is, bytes_again g.cs g.fit.certificate);
        }

  -- WHAT IS ACCEPTED of lines whose first two are G's and N's: each run is in range, and its line the writer's
  module _ (lines : List (List ℕ)) (first : get_or lines 0 [] ≡ setting_line s 1) (second : get_or lines 1 [] ≡ setting_line s 2) (end : Settling) where
    abbrev Given : ℕ → Entry → Type 0
    Given j e = RunInRange e × (get_or lines (2 + j) [] ≡ run_of j e)

    line_is : (t : Table) → Runs Given m t → (k : ℕ) → k < 2 + m → get_or lines k [] ≡ setting_line (with_table s t) (k + 1)
    unfolding setting_line pick
    line_is t r zero h = first
    line_is t r (suc zero) h = second
    line_is t r (suc (suc j)) h = let z : suc (suc j) ≡ 2 + j = omega arith in rw z ((r.made j (omega arith)).1 ∙ sym (run_line_lem (with_table s t) j))

    all_lines : (t : Table) → Runs Given m t → 2 + m ≤ length lines → Spelt lines (with_table s t)
    all_lines t r l = record {
      fits = runs_fit (with_table s t) ahead (record { long = r.long; made = λ j h. (r.made j h).0; left = r.left });
      only = is_column _ [] (2 + m) (take (2 + m) lines) (length-take-le (2 + m) lines l) (λ k h. get_or-take (2 + m) lines k [] h ∙ line_is t r k h);
    }

    -- the line of a run, and those after it
    runs_only : (ls : List (List ℕ)) (i : ℕ) (t : Table) → Runs Given i t → drop (2 + i) lines ≡ ls → i < m → settle_all ls (at t i) ≡ whole end → Spelt lines end.settings
    runs_only [] i t r d b e = not_whole (at t i) end e
    runs_only (l ∷ ls) i t r d b e =
        let g = run_given t i b l (was_taken (at t i) end l ls e) in
        let u = set_entry t i g.entry in
        let z : 2 + i + 0 ≡ 2 + i = omega arith in
        let y : 2 + i + 1 ≡ 2 + (i + 1) = omega arith in
        let c : l ≡ get_or lines (2 + i) [] = rw (d, z) at (get_or-drop (2 + i) lines 0 []) in
        let f : ls ≡ drop (2 + (i + 1)) lines = rw (d, y) at (drop-drop 1 (2 + i) lines) in
        let x = runs_more Given i t g.entry r (omega (arith, ahead.0.runs)) (g.fit, sym c ∙ g.spelt) in
        let k : settle_line (at t i) l ≡ kept (at t i) (with_table s u) = ap (settle_line (at t i)) g.spelt ∙ run_taken t i b g.entry g.fit in
        by_lt (i + 1) m (λ a. runs_only ls (i + 1) u x (sym f) a (sym (goes_on (at t i) l ls (3 + (i + 1)) (with_table s u) k (omega arith) (omega arith)) ∙ e))
        (λ a.
        let w : i + 1 ≡ m = omega arith in
        let q : at u m ≡ end = ap (λ (y : Settled). y.next) (sym (is_last (at t i) l ls (3 + m) (with_table s u) k (omega arith) (omega arith)) ∙ e) in
        rw (← q) (all_lines u (rw w at x) (omega (arith, length-drop (2 + i) lines, ap length d))))

-- THE FIRST TWO LINES
pub sizes_fit : (vs : List ℕ) → Fit Sizes any_group vs → (length vs ≡ 2) × GroupInRange (record { g = get_or vs 0 0; m = get_or vs 1 0 })
unfolding count_of quantity_at limit_for
sizes_fit vs f =
    let n : length vs ≡ 2 = f.counted in
    let e = fits_each Sizes any_group vs refl f.inside in
    (n, record { controllers = in_range Decimal 1 7 (get_or vs 0 0) (e 0 (omega arith)); runs = in_range Decimal 1 16 (get_or vs 1 0) (e 1 (omega arith)) })

sizes_in : (g : Group) → GroupInRange g → Fit Sizes any_group (g.g ∷ g.m ∷ [])
unfolding count_of quantity_at limit_for
sizes_in g r = record {
  counted = refl;
  inside = fits_all Sizes any_group (g.g ∷ g.m ∷ []) refl
      (below_two (λ i. fits_by (limit_of Sizes i any_group g.m) (get_or (g.g ∷ g.m ∷ []) i 0) ≡ true)
      (range_in Decimal 1 7 g.g (omega arith) r.controllers) (range_in Decimal 1 16 g.m (omega arith) r.runs));
}

noise_words : (q r p : ℕ) → Noise q r p → (word q ≡ q) × (word r ≡ r) × (word p ≡ p)
noise_words q r p n = (word_is q (omega arith), word_is r (omega arith), word_is p (omega arith))

filter_fit : (vs : List ℕ) → Fit Filter any_group vs → (length vs ≡ 3) × Noise (get_or vs 0 0) (get_or vs 1 0) (get_or vs 2 0)
unfolding count_of quantity_at limit_for
filter_fit vs f =
    let n : length vs ≡ 3 = f.counted in
    let e = fits_each Filter any_group vs refl f.inside in
    (n, (in_range Decimal 1 1000000 (get_or vs 0 0) (e 0 (omega arith)), in_range Decimal 1 1000000 (get_or vs 1 0) (e 1 (omega arith)), in_range Decimal 1 1000000000 (get_or vs 2 0) (e 2 (omega arith))))

filter_in : (q r p : ℕ) → Noise q r p → Fit Filter any_group (q ∷ r ∷ p ∷ [])
unfolding count_of quantity_at limit_for
filter_in q r p n = record {
  counted = refl;
  inside = fits_all Filter any_group (q ∷ r ∷ p ∷ []) refl
      (below_three (λ i. fits_by (limit_of Filter i any_group r) (get_or (q ∷ r ∷ p ∷ []) i 0) ≡ true)
      (range_in Decimal 1 1000000 q (omega arith) n.0) (range_in Decimal 1 1000000 r (omega arith) n.1) (range_in Decimal 1 1000000000 p (omega arith) n.2));
}

abbrev after_sizes : List ℕ → Settling
after_sizes vs = record { line = 2; settings = with_sizes settling_start.settings vs }

abbrev after_filter : List ℕ → List ℕ → Settling
after_filter vs ws = record { line = 3; settings = with_filter (with_sizes settling_start.settings vs) ws }

-- G and N that are accepted: then the runs
module _ (l₁ vs : List ℕ) (f : Fit Sizes any_group vs) (e : l₁ ≡ line_of Sizes vs) (end : Settling) where
  third_only : (ls : List (List ℕ)) (l₂ ws : List ℕ) → Fit Filter any_group ws → l₂ ≡ line_of Filter ws → settle_all ls (after_filter vs ws) ≡ whole end → Spelt (l₁ ∷ l₂ ∷ ls) end.settings
  unfolding settling_start setting_line pick column
  third_only ls l₂ ws h d z =
      let g = sizes_fit vs f in
      let n = filter_fit ws h in
      let w = noise_words (get_or ws 0 0) (get_or ws 1 0) (get_or ws 2 0) n.1 in
      runs_only (after_filter vs ws).settings (g.1, rw (w.0, w.1, w.2) n.1) (l₁ ∷ l₂ ∷ ls) (rw (e, of_two vs g.0)) (rw (d, w.0, w.1, w.2, of_three ws n.0)) end ls 0 no_table (runs_none _) refl
      (omega (arith, g.1.runs)) z

  second_only : (ls : List (List ℕ)) → settle_all ls (after_sizes vs) ≡ whole end → Spelt (l₁ ∷ ls) end.settings
  second_only [] z = not_whole (after_sizes vs) end z
  second_only (l₂ ∷ ls) z =
      let x = filter_only (after_sizes vs) l₂ refl (was_taken (after_sizes vs) end l₂ ls z) in
      third_only ls l₂ x.numbers x.fit x.spelt (sym (goes_on (after_sizes vs) l₂ ls 3 _ x.taken refl (omega (arith, (sizes_fit vs f).1.runs))) ∙ z)

-- WHATEVER IS ACCEPTED as settings is in range, and its lines are exactly those that the writer writes of it
pub settings_only : (lines : List (List ℕ)) (end : Settling) → settle_all lines settling_start ≡ whole end → Spelt lines end.settings
unfolding settling_start
settings_only [] end z = not_whole settling_start end z
settings_only (l₁ ∷ ls) end z =
    let w = sizes_only settling_start l₁ refl (was_taken settling_start end l₁ ls z) in
    second_only l₁ w.numbers w.fit w.spelt end ls (sym (goes_on settling_start l₁ ls 2 _ w.taken refl (omega (arith, (sizes_fit w.numbers w.fit).1.runs))) ∙ z)

-- READING WHAT WAS WRITTEN: the lines from place k on
lines_from : (s : Settings) (k : ℕ) → k < 2 + s.numbers.group.m → drop k (setting_lines s) ≡ setting_line s (k + 1) ∷ drop (k + 1) (setting_lines s)
lines_from s k h =
    let f : ℕ → List ℕ = λ i. setting_line s (i + 1) in
    let n = 2 + s.numbers.group.m in
    drop-cons (column f n) k [] (let e = length_column f n in omega arith) ∙ rw (get_d_column f [] n k h, add-one k)

module _ (s : Settings) (fits : settings_fit s ≡ true) where
  range : SettingsInRange s
  range = (settings_exact s).0 fits

  ahead_in : Ahead s
  ahead_in = let n = range.numbers in (record { controllers = n.controllers; runs = n.runs }, (n.q, n.r, n.p))

  -- the runs that are read are those of s
  abbrev Same : ℕ → Entry → Type 0
  Same j e = e ≡ entry_at (table_of s) j

  table_whole : (t : Table) → Runs Same s.numbers.group.m t → t ≡ table_of s
  table_whole t r = same_table t (table_of s) r.long range.sixteen (λ j h. by_lt j s.numbers.group.m (λ a. r.made j a)
      (λ a. let b = range.numbers.blank j a h in r.left j a h ∙ rw (b.0, b.1, no_one_lem _ (range.none j a h))))

  abbrev last : Settling
  last = record { line = 3 + s.numbers.group.m; settings = s }

  runs_read_lem : (n i : ℕ) (t : Table) → Runs Same i t → i < s.numbers.group.m → s.numbers.group.m ≤ i + n → settle_all (drop (2 + i) (setting_lines s)) (at s ahead_in t i) ≡ whole last
  runs_read_lem zero i t r b e = absurd (omega arith)
  runs_read_lem (suc n) i t r b e =
      let x = entry_at (table_of s) i in
      let st = at s ahead_in t i in
      let u = set_entry t i x in
      let ls = drop (2 + i + 1) (setting_lines s) in
      let v = runs_more Same i t x r (omega (arith, range.numbers.runs)) refl in
      let k = run_taken s ahead_in t i b x (range.numbers.factor i b, range.numbers.weight i b, range.certificate i b) in
      rw (lines_from s (2 + i) (omega arith), run_line_lem s i)
      (by_lt (i + 1) s.numbers.group.m
      (λ a. let z : 2 + i + 1 ≡ 2 + (i + 1) = omega arith in goes_on st (run_of i x) ls (3 + (i + 1)) (with_table s u) k (omega arith) (omega arith) ∙ rw z (runs_read_lem n (i + 1) u v a (omega arith)))
      (λ a. let z : i + 1 ≡ s.numbers.group.m = omega arith in
      is_last st (run_of i x) ls (3 + s.numbers.group.m) (with_table s u) k (omega arith) (omega arith) ∙ ap (λ (y : Table). whole (at s ahead_in y s.numbers.group.m)) (table_whole u (rw z at v))))

  -- SETTINGS IN RANGE, written and read again, are the same settings, whole after line 2 + m
  pub settings_back : settle_all (setting_lines s) settling_start ≡ whole (record { line = 3 + s.numbers.group.m; settings = s })
  unfolding settling_start setting_line pick
  settings_back =
      let n = s.numbers in
      let vs = n.group.g ∷ n.group.m ∷ [] in
      let ws = n.q ∷ n.r ∷ n.p ∷ [] in
      let h = range.numbers.runs in
      let w = noise_words n.q n.r n.p ahead_in.1 in
      let c : setting_lines s ≡ line_of Sizes vs ∷ line_of Filter ws ∷ drop 2 (setting_lines s) = lines_from s 0 (omega arith) ∙ ap (λ (ls : List (List ℕ)). line_of Sizes vs ∷ ls) (lines_from s 1 (omega arith)) in
      ap (λ (ls : List (List ℕ)). settle_all ls settling_start) c
      ∙ goes_on settling_start (line_of Sizes vs) _ 2 _ (sizes_back settling_start n.group.g n.group.m refl (sizes_in n.group ahead_in.0)) refl (omega arith)
      ∙ goes_on (after_sizes vs) (line_of Filter ws) _ 3 _ (filter_back (after_sizes vs) n.q n.r n.p refl (filter_in n.q n.r n.p ahead_in.1)) refl (omega arith)
      ∙ rw (w.0, w.1, w.2) (runs_read_lem n.group.m 0 no_table (runs_none Same) (omega arith) (omega arith))
