-- THE ROUND TRIPS OF THE SETTINGS LINES, one by one: G, N and K are read back as they were written, and what is accepted is spelled so. Assumes nothing.
use Prim.Native.Nat.{ℕ, ◌+◌, ◌≤◌, ◌<◌}
use mathlib.Core.Path.{◌≡◌, refl, sym, ap, ◌∙◌}
use mathlib.Core.List.{List, [], ◌∷◌, ◌++◌, append-nil}
use mathlib.Core.Bool.{Bool, true, false}
use native.Mathlib.Omega.{arith}
use lib.Dec.{eqb, leb, lit<}
use lib.ListN.{length, get_or, drop, length-append}
use borrow.Author.Tests.{eq-eqb, eqb-true, leb-true}
use Rattle.std.specs.Prelude.{Result, Ok, Err}
use Rattle.units.specs.declared.refusal.Refusal.{Refusal}
use Rattle.units.specs.declared.refusal.Refusal.TheVariants.{Long, Unended, Kind as NoKind, Fields, Form as NoForm}
use Rattle.units.specs.Pick.{pick}
use Rattle.units.proofs.Every.{no_way}
use Rattle.message.specs.declared.settings.Settings.{Settings}
use Rattle.fields.specs.declared.field.Fault.{Fault}
use Rattle.fields.specs.declared.field.Field.{Field}
use Rattle.fields.specs.Field.{value}
use Rattle.fields.specs.declared.spelling.Spelling.TheVariants.{Decimal}
use Rattle.fields.specs.Certificate.{is_certificate}
use Rattle.fields.specs.Put.{written}
use Rattle.fields.specs.Text.{until, first_field, later_fields, tabbed, lacks, all_lack}
use Rattle.fields.proofs.Certificates.{certificate_lacks, certificate_long}
use Rattle.fields.proofs.Puts.{written_is}
use Rattle.fields.proofs.Spellings.{field_only, field_read, fits_range}
use Rattle.fields.proofs.Texts.{text_only, fields_back, tabbed_lacks, lacks_append, until_append}
use Rattle.fields.proofs.Scans.{feed_last}
use Rattle.lines.specs.declared.kind.Kind.{Kind}
use Rattle.lines.specs.declared.kind.Kind.TheVariants.{Sizes, Filter, Run}
use Rattle.lines.specs.Settling.{Standing, kept, stopped, with_sizes, with_filter, run_with, certificate_of, turn_of, any_group, kept_values, settle_plain, after_field, settle_weight, settle_factor, settle_certificate, settle_run, is_kind, expecting, settle_text, settle_line}
use Rattle.lines.specs.declared.settle.Wanted.TheVariants.{More, Whole}
use Rattle.lines.specs.declared.settle.Settled.{Settled}
use Rattle.lines.specs.declared.settle.Settling.{Settling}
use Rattle.fields.specs.declared.spelling.Limit.{Limit}
use Rattle.lines.specs.Lists.{column}
use Rattle.lines.specs.Reading.{Got, values, stop, read_by, read_values, ended_once}
use Rattle.lines.specs.Settings.{run_number, run_line}
use Rattle.lines.specs.Table.{letter_of, quantity_at, spelling_of, limit_for, limit_of, runs_of}
use Rattle.lines.specs.Writing.{line_of}
use Rattle.lines.proofs.Columns.{is_column}
use Rattle.lines.proofs.Putting.{written_short}
use Rattle.lines.proofs.Spelled.{Fit, fits_by, spelling_is, values_only, values_back, texts_are}
use Rattle.lines.proofs.Settlings.{kind_is_lem, sizes_text, filter_text, run_text, line_text}
use Rattle.lines.proofs.Wire.{text_of, line_ends, first_is_letter, later_are_texts, line_short, letter_lacks, written_lacks}

-- whether a line was taken
abbrev pub takes : Standing → Bool
takes (Ok More) = true
takes (Ok Whole) = true
takes (Err why) = false

-- THE FRAME of every settings line
framed_back : (st : Settling) (text : List ℕ) → lacks 10 text ≡ true → length text < 600 → settle_line st (text ++ (10 ∷ [])) ≡ settle_text st text
unfolding until
framed_back st text k l =
    let u : until 10 (text ++ (10 ∷ [])) ≡ text = until_append 10 text (10 ∷ []) k ∙ append-nil text in
    let n = length-append text (10 ∷ []) in
    line_text st (text ++ (10 ∷ [])) (omega arith) (eq-eqb (length (until 10 (text ++ (10 ∷ []))) + 1) (length (text ++ (10 ∷ []))) (rw u (sym n))) ∙ ap (settle_text st) u

pub record Framed (st : Settling) (line : List ℕ) : Type 0 where
  pub ends : line ≡ until 10 line ++ (10 ∷ [])
  pub same : settle_line st line ≡ settle_text st (until 10 line)
  pub taken : takes (settle_text st (until 10 line)).answer ≡ true

module _ (st : Settling) where
  -- what is taken passed each test
  test_taken : (b : Bool) (x : Settled) (why : Refusal) → takes (pick b x (stopped st why)).answer ≡ true → (b ≡ true) × (takes x.answer ≡ true)
  unfolding pick
  test_taken true x why a = (refl, a)
  test_taken false x why a = no_way a

  framed : (line : List ℕ) → takes (settle_line st line).answer ≡ true → Framed st line
  unfolding settle_line
  framed line a =
      let l = test_taken (leb (length line) 600) _ Long a in
      let e = test_taken (ended_once line) _ Unended l.1 in
      record {
        ends = feed_last line (eqb-true (length (until 10 line) + 1) (length line) e.0);
        same = line_text st line (leb-true (length line) 600 l.0) e.0;
        taken = e.1;
      }

is_kind_lem : (k : Kind) → is_kind k (letter_of k ∷ []) ≡ true
unfolding is_kind
is_kind_lem k = eq-eqb (letter_of k) (letter_of k) refl

-- G AND N: what is accepted as one of them
module _ (st : Settling) where
  pub record Kept (k : Kind) (go : List ℕ → Settings) (line : List ℕ) : Type 0 where
    pub numbers : List ℕ
    pub fit : Fit k any_group numbers
    pub spelt : line ≡ line_of k numbers
    pub taken : settle_line st line ≡ kept st (go numbers)

module _ (st : Settling) (k : Kind) (go : List ℕ → Settings) (to : (text : List ℕ) → settle_text st text ≡ expecting st k text (settle_plain st k go (later_fields text))) where
  plain_back : (vs : List ℕ) → length vs ≤ 34 → Fit k any_group vs → settle_line st (line_of k vs) ≡ kept st (go vs)
  unfolding pick
  plain_back vs h f =
      let e = line_ends k vs in
      let l = line_short k vs h in
      let n = ap length e.0 ∙ length-append (text_of k vs) (10 ∷ []) in
      ap (settle_line st) e.0 ∙ framed_back st (text_of k vs) e.1 (omega arith) ∙ to (text_of k vs)
      ∙ rw (first_is_letter k vs, is_kind_lem k, later_are_texts k vs, ← texts_are k any_group vs f.inside, values_back k any_group vs f)

  plain_got : (line : List ℕ) → Framed st line → is_kind k (first_field (until 10 line)) ≡ true → (g : Got) → read_values k any_group (later_fields (until 10 line)) ≡ g
      → takes (kept_values st go g).answer ≡ true → Kept st k go line
  unfolding line_of pick
  plain_got line f q (stop why) e a = no_way a
  plain_got line f q (values vs) e a =
      let w = values_only k any_group (later_fields (until 10 line)) vs e in
      let t : until 10 line ≡ text_of k vs = text_only (until 10 line) ∙ rw (kind_is_lem k (first_field (until 10 line)) q, w.spelt, texts_are k any_group vs w.fit.inside) in
      record { numbers = vs; fit = w.fit; spelt = f.ends ∙ rw t; taken = f.same ∙ to (until 10 line) ∙ rw (q, e) }

  plain_only : (line : List ℕ) → takes (settle_line st line).answer ≡ true → Kept st k go line
  plain_only line a =
      let f = framed st line a in
      let q = test_taken st (is_kind k (first_field (until 10 line))) _ NoKind (rw (to (until 10 line)) at f.taken) in
      plain_got line f q.0 (read_values k any_group (later_fields (until 10 line))) refl q.1

module _ (st : Settling) where
  pub sizes_back : (g m : ℕ) → st.line ≡ 1 → Fit Sizes any_group (g ∷ m ∷ []) → settle_line st (line_of Sizes (g ∷ m ∷ [])) ≡ kept st (with_sizes st.settings (g ∷ m ∷ []))
  sizes_back g m e f = plain_back st Sizes (with_sizes st.settings) (λ text. sizes_text st text e) (g ∷ m ∷ []) (omega arith) f

  pub filter_back : (q r p : ℕ) → st.line ≡ 2 → Fit Filter any_group (q ∷ r ∷ p ∷ []) → settle_line st (line_of Filter (q ∷ r ∷ p ∷ [])) ≡ kept st (with_filter st.settings (q ∷ r ∷ p ∷ []))
  filter_back q r p e f = plain_back st Filter (with_filter st.settings) (λ text. filter_text st text e) (q ∷ r ∷ p ∷ []) (omega arith) f

  pub sizes_only : (line : List ℕ) → st.line ≡ 1 → takes (settle_line st line).answer ≡ true → Kept st Sizes (with_sizes st.settings) line
  sizes_only line e a = plain_only st Sizes (with_sizes st.settings) (λ text. sizes_text st text e) line a

  pub filter_only : (line : List ℕ) → st.line ≡ 2 → takes (settle_line st line).answer ≡ true → Kept st Filter (with_filter st.settings) line
  filter_only line e a = plain_only st Filter (with_filter st.settings) (λ text. filter_text st text e) line a

-- K
by_read : (l : Limit) (n : ℕ) → fits_by l n ≡ true → read_by l (written l.spelling n) ≡ value n 0
by_read l n f = rw (written_is l.spelling n (fits_range l.spelling l.low l.high n f).can) (field_read l.spelling l.low l.high 0 n f)

-- a field that is taken, its number, and what goes on
record Took (l : Limit) (f : List ℕ) (go : ℕ → Settled) : Type 0 where
  pub number : ℕ
  pub spelt : f ≡ written l.spelling number
  pub inside : fits_by l number ≡ true
  pub on : takes (go number).answer ≡ true

field_taken : (st : Settling) (l : Limit) (f : List ℕ) (go : ℕ → Settled) → takes (after_field st (read_by l f) go).answer ≡ true → Took l f go
field_taken st l f go a = by_field (read_by l f) refl a
  where
    by_field : (g : Result Field Fault) → read_by l f ≡ g → takes (after_field st g go).answer ≡ true → Took l f go
    by_field (Ok g) e a =
        let o = field_only l.spelling l.low l.high 0 f g.n g.next e in
        record { number = g.n; spelt = o.spelt ∙ sym (written_is l.spelling g.n (fits_range l.spelling l.low l.high g.n o.inside).can); inside = o.inside; on = a }
    by_field (Err why) e a = no_way a

abbrev run_fields : ℕ → List ℕ → ℕ → ℕ → List (List ℕ)
run_fields run cs factor weight = run_number 0 run ∷ cs ∷ run_number 1 factor ∷ run_number 2 weight ∷ []

-- what stands in a line K whose turn it is
pub record Fitting (turn : ℕ) (cs : List ℕ) (factor weight : ℕ) : Type 0 where
  pub run : fits_by (limit_of Run 0 any_group turn) turn ≡ true
  pub certificate : is_certificate cs ≡ true
  pub factors : fits_by (limit_of Run 1 any_group turn) factor ≡ true
  pub weights : fits_by (limit_of Run 2 any_group turn) weight ≡ true

spelling_at : (i turn : ℕ) → (limit_of Run i any_group turn).spelling ≡ spelling_of (quantity_at Run i)
spelling_at i turn = spelling_is (quantity_at Run i) any_group turn

fields_lack : (b : ℕ) (run : ℕ) (cs : List ℕ) (factor weight : ℕ) → b < 33 → is_certificate cs ≡ true → all_lack b (run_fields run cs factor weight) ≡ true
unfolding all_lack
fields_lack b run cs factor weight h c =
    rw (written_lacks b (spelling_of (quantity_at Run 0)) run (omega arith), certificate_lacks b cs h c, written_lacks b (spelling_of (quantity_at Run 1)) factor (omega arith), written_lacks b (spelling_of (quantity_at Run 2)) weight (omega arith))

module _ (st : Settling) (n₁ : st.line ≡ 1 → ⊥) (n₂ : st.line ≡ 2 → ⊥) (turn_in : turn_of st < runs_of st.settings.numbers.group.m) where
  module _ (cs : List ℕ) (factor weight : ℕ) (F : Fitting (turn_of st) cs factor weight) where
    abbrev fields : List (List ℕ)
    fields = run_fields (turn_of st) cs factor weight

    run_read : settle_run st fields ≡ kept st (run_with st.settings (turn_of st) (certificate_of cs) factor weight)
    unfolding settle_run settle_certificate settle_factor settle_weight pick
    run_read =
        rw (
          ← spelling_at 0 (turn_of st),
          ← spelling_at 1 (turn_of st),
          ← spelling_at 2 (turn_of st),
          by_read (limit_of Run 0 any_group (turn_of st)) (turn_of st) F.run,
          F.certificate,
          by_read (limit_of Run 1 any_group (turn_of st)) factor F.factors,
          by_read (limit_of Run 2 any_group (turn_of st)) weight F.weights,
        )

    k_lacks : lacks 10 (75 ∷ tabbed fields) ≡ true
    k_lacks = lacks_append 10 (75 ∷ []) (tabbed fields) (letter_lacks 10 Run (lit< tt)) (tabbed_lacks 10 fields (λ e. absurd (omega arith)) (fields_lack 10 (turn_of st) cs factor weight (lit< tt) F.certificate))

    k_long : length (75 ∷ tabbed fields) ≤ 70
    unfolding tabbed
    k_long =
        let a = written_short (spelling_of (quantity_at Run 0)) (turn_of st) in
        let b = written_short (spelling_of (quantity_at Run 1)) factor in
        let c = written_short (spelling_of (quantity_at Run 2)) weight in
        let d = certificate_long cs F.certificate in
        simp length-append (omega arith)

    pub run_back : settle_line st (run_line (turn_of st) cs factor weight) ≡ kept st (run_with st.settings (turn_of st) (certificate_of cs) factor weight)
    unfolding run_line pick
    run_back =
        let f = fields_back (75 ∷ []) fields (letter_lacks 9 Run (lit< tt)) (fields_lack 9 (turn_of st) cs factor weight (lit< tt) F.certificate) in
        framed_back st (75 ∷ tabbed fields) k_lacks (let l = k_long in omega arith) ∙ run_text st (75 ∷ tabbed fields) n₁ n₂ turn_in
        ∙ rw (ap {B = List ℕ} (λ (x : List (List ℕ)). get_or x 0 []) f, is_kind_lem Run, ap {B = List (List ℕ)} (drop 1) f) run_read

  -- what is accepted as K
  pub record Given (line : List ℕ) : Type 0 where
    pub cs : List ℕ
    pub factor : ℕ
    pub weight : ℕ
    pub fit : Fitting (turn_of st) cs factor weight
    pub spelt : line ≡ run_line (turn_of st) cs factor weight
    pub taken : settle_line st line ≡ kept st (run_with st.settings (turn_of st) (certificate_of cs) factor weight)

  turn_only : (n : ℕ) → fits_by (limit_of Run 0 any_group (turn_of st)) n ≡ true → n ≡ turn_of st
  unfolding limit_for quantity_at
  turn_only n e = let r = fits_range Decimal (turn_of st) (turn_of st) n e in let a = r.least in let b = r.most in omega arith

  -- the four fields of K
  abbrev Field_at : ℕ → List ℕ → (ℕ → Settled) → Type 0
  Field_at i f go = Took (limit_of Run i any_group (turn_of st)) f go

  four_fields : (fs : List (List ℕ)) (g₀ g₁ g₂ : ℕ → Settled) → length fs ≡ 4 → (r : Field_at 0 (get_or fs 0 []) g₀) (x : Field_at 1 (get_or fs 2 []) g₁) (y : Field_at 2 (get_or fs 3 []) g₂)
      → fs ≡ run_fields (turn_of st) (get_or fs 1 []) x.number y.number
  unfolding column
  four_fields fs g₀ g₁ g₂ e r x y =
      is_column (λ i. get_or fs i []) [] 4 fs e (λ i h. refl)
      ∙ rw (r.spelt, x.spelt, y.spelt, turn_only r.number r.inside, spelling_at 0 (turn_of st), spelling_at 1 (turn_of st), spelling_at 2 (turn_of st))

  k_joined : (f : List ℕ) (fs : List (List ℕ)) → f ≡ 75 ∷ [] → (gs : List (List ℕ)) → fs ≡ gs → f ++ tabbed fs ≡ 75 ∷ tabbed gs
  k_joined f fs e gs q = rw (e, q)

  pub run_only : (line : List ℕ) → takes (settle_line st line).answer ≡ true → Given line
  unfolding run_line settle_run settle_certificate settle_factor settle_weight
  run_only line a =
      let f = framed st line a in
      let text = until 10 line in
      let fs = later_fields text in
      let k = test_taken st (is_kind Run (first_field text)) _ NoKind (rw (run_text st text n₁ n₂ turn_in) at f.taken) in
      let n = test_taken st (eqb (length fs) 4) _ Fields k.1 in
      let r = field_taken st (limit_of Run 0 any_group (turn_of st)) (get_or fs 0 []) _ n.1 in
      let c = test_taken st (is_certificate (get_or fs 1 [])) _ NoForm r.on in
      let x = field_taken st (limit_of Run 1 any_group (turn_of st)) (get_or fs 2 []) _ c.1 in
      let y = field_taken st (limit_of Run 2 any_group (turn_of st)) (get_or fs 3 []) _ x.on in
      let F : Fitting (turn_of st) (get_or fs 1 []) x.number y.number = record { run = rw (turn_only r.number r.inside) at r.inside; certificate = c.0; factors = x.inside; weights = y.inside } in
      let q = four_fields fs _ _ _ (eqb-true (length fs) 4 n.0) r x y in
      let t : text ≡ 75 ∷ tabbed (run_fields (turn_of st) (get_or fs 1 []) x.number y.number) = text_only text ∙ k_joined (first_field text) fs (kind_is_lem Run (first_field text) k.0) _ q in
      let s : line ≡ run_line (turn_of st) (get_or fs 1 []) x.number y.number = f.ends ∙ ap (λ (l : List ℕ). l ++ (10 ∷ [])) t in
      record { cs = get_or fs 1 []; factor = x.number; weight = y.number; fit = F; spelt = s; taken = ap (settle_line st) s ∙ run_back (get_or fs 1 []) x.number y.number F }
