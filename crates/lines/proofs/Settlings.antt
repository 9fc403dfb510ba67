-- What the settings' reader needs. Assumes nothing.
use Prim.Native.Nat.{ℕ, suc, ◌+◌, ◌-◌, ◌≤◌, ◌<◌}
use mathlib.Core.Path.{◌≡◌, refl, sym, ap, subst, ◌∙◌}
use mathlib.Core.List.{List, [], ◌∷◌, ◌++◌}
use mathlib.Core.Bool.{Bool, true, false, not}
use native.Mathlib.Omega.{arith}
use lib.ListN.{length, get_or, take, drop, replicate, length-drop}
use lib.Seq.{length-take-le}
use borrow.Author.Tests.{eq-eqb, ne_eqb, eqb-true, le-leb, lt-leb, lt-ltb, le-ltb, not-true, not-false}
use Rattle.std.specs.Prelude.{Option, Some, None, Result, Ok, Err, ok_or}
use Rattle.std.specs.Result.{IsErrAnd}
use Rattle.units.specs.declared.refusal.Refusal.{Refusal}
use Rattle.units.specs.declared.refusal.Refusal.TheVariants.{Long, Unended, Kind as NoKind, Form as NoForm}
use Rattle.units.specs.Refusal.{Verdict}
use Rattle.units.specs.declared.settings.Group.{Group}
use Rattle.units.specs.Pick.{pick}
use Rattle.units.proofs.Picked.{by_yes}
use Rattle.message.specs.declared.certificate.Certificate.{Certificate}
use Rattle.message.specs.declared.settings.Settings.{Settings}
use Rattle.fields.specs.declared.field.Fault.{Fault}
use Rattle.fields.specs.declared.field.Field.{Field}
use Rattle.fields.specs.declared.spelling.Spelling.{Spelling}
use Rattle.fields.specs.declared.text.Scan.{Scan}
use Rattle.fields.specs.Certificate.{is_certificate, certificate_at}
use Rattle.fields.specs.Field.{value, said_by, fits, judge, read_field, read_at}
use Rattle.fields.specs.Text.{until, first_field, later_fields, fields_of, field_at, next_at, scanned}
use Rattle.fields.proofs.Cases.{by_test, absurd_by}
use Rattle.fields.proofs.Certificates.{certificate_only, certificate_long}
use Rattle.fields.proofs.Texts.{cursor_field, cursor_more, until_take, until_short}
use Rattle.lines.proofs.Columns.{column_padded}
use Rattle.lines.specs.declared.kind.Kind.{Kind}
use Rattle.lines.specs.declared.kind.Kind.TheVariants.{Sizes, Filter, Run}
use Rattle.lines.specs.declared.settle.Settled.{Settled}
use Rattle.lines.specs.declared.settle.Settling.{Settling}
use Rattle.fields.specs.declared.spelling.Limit.{Limit}
use Rattle.lines.specs.Reading.{read_by, read_values, ended_once}
use Rattle.lines.specs.Settling.{kept, stopped, settled, with_sizes, with_filter, run_with, certificate_of, turn_of, any_group, kept_values, settle_plain, after_field, settle_run, is_kind, expecting, settle_text, settle_line}
use Rattle.lines.specs.Table.{letter_of, limit_of, runs_of}
use Rattle.lines.specs.Walk.{Here, Rest, got_of, Filled}
use Rattle.lines.proofs.Openings.{rest_same}
use Rattle.lines.proofs.Stages.{here_start}
use Rattle.lines.proofs.Walking.{read_next}

-- THE KIND
pub kind_far : (kind : Kind) (f : List ℕ) → 1 < length f → false ≡ is_kind kind f
unfolding is_kind
kind_far kind [] h = refl
kind_far kind (c ∷ []) h = absurd (omega arith)
kind_far kind (c ∷ d ∷ f) h = refl

pub kind_is_lem : (kind : Kind) (f : List ℕ) → is_kind kind f ≡ true → f ≡ letter_of kind ∷ []
unfolding is_kind
kind_is_lem kind [] e = absurd_by (cc)
kind_is_lem kind (c ∷ []) e = ap (λ (x : ℕ). x ∷ []) (eqb-true c (letter_of kind) e)
kind_is_lem kind (c ∷ d ∷ f) e = absurd_by (cc)

-- the kind that is expected, by the test of the code
pub was_kind : {b c : Bool} → b ≡ c → not b ≡ false → c ≡ true
was_kind {b} e t = sym e ∙ not-false b t

pub was_not : {b c : Bool} → b ≡ c → not b ≡ true → c ≡ false
was_not {b} e t = sym e ∙ not-true b t

-- it is one letter
pub kind_start : (kind : Kind) (text : List ℕ) → is_kind kind (first_field text) ≡ true → Here text 2 0
kind_start kind text e = here_start text (ap length (kind_is_lem kind (first_field text) e))

-- the refusal of `?` stops the settings
pub settled_err : (st : Settling) (r : Result Settings Refusal) (why : Refusal) → IsErrAnd r (λ x. x ≡ why) → settled st r ≡ stopped st why
settled_err st (Ok x) why f = absurd f
settled_err st (Err x) why e = ap (stopped st) e

-- a certificate's end goes on by `ok_or(Refusal::Form)?`, and out as its form where there is none
pub end_on : {d : Option ℕ} {r : Result ℕ Refusal} {n : ℕ} → r ≡ ok_or d NoForm → r ≡ Ok n → d ≡ Some n
end_on {d = Some m} p e = cc
end_on {d = None} p e = absurd_by (cc)

pub end_out : {d : Option ℕ} {r : Result ℕ Refusal} {x : Refusal} → r ≡ ok_or d NoForm → r ≡ Err x → (d ≡ None) × (x ≡ NoForm)
end_out {d = Some m} p e = absurd_by (cc)
end_out {d = None} p e = (refl, cc)

-- G AND N
module _ (st : Settling) (kind : Kind) (text : List ℕ) (is : is_kind kind (first_field text) ≡ true) {s : Group} (se : s ≡ any_group) {w : List ℕ} {a : Verdict}
    (f : Filled kind s text w (read_values kind s (later_fields text)) a) (go : List ℕ → Settings) {r : Settled} where
  pub plain_got : {v : Verdict} → a ≡ v → r ≡ kept_values st go (got_of v (take (length (later_fields text)) w)) → r ≡ expecting st kind text (settle_plain st kind go (later_fields text))
  plain_got e h =
      by_yes _ is
      (h ∙ ap (kept_values st go) (ap (λ (v : Verdict). got_of v (take (length (later_fields text)) w)) (sym e) ∙ f.got ∙ ap (λ (x : Group). read_values kind x (later_fields text)) se))

module _ (w : List ℕ) (n : ℕ) (rest : Rest w n) (settings : Settings) {x : Settings} where
  pub sizes_are : x ≡ with_sizes settings (get_or w 0 0 ∷ get_or w 1 0 ∷ []) → x ≡ with_sizes settings (take n w)
  sizes_are e = let z = rest_same w n rest in e ∙ rw (z 0, z 1)

  pub filter_are : x ≡ with_filter settings (get_or w 0 0 ∷ get_or w 1 0 ∷ get_or w 2 0 ∷ []) → x ≡ with_filter settings (take n w)
  filter_are e = let z = rest_same w n rest in e ∙ rw (z 0, z 1, z 2)

-- A CERTIFICATE'S BYTES
module _ (text : List ℕ) (from to : ℕ) where
  cut_long : from ≤ to → to ≤ length text → length (take (to - from) (drop from text)) ≡ to - from
  cut_long h l = length-take-le (to - from) (drop from text) (let a = length-drop from text in omega arith)

  pub certificate_made : {bytes : List ℕ} → from ≤ to → to ≤ length text → to - from ≤ 16 → bytes ≡ take (to - from) (drop from text)
      → ◌≡◌ {A = Certificate} (record { len = to - from; bytes = bytes ++ drop (to - from) (replicate 16 0) }) (certificate_of (take (to - from) (drop from text)))
  certificate_made h l k e =
      let cs = take (to - from) (drop from text) in
      let P : ℕ → Type 0 = λ n. ◌≡◌ {A = Certificate} (record { len = n; bytes = cs ++ drop n (replicate 16 0) }) (certificate_of cs) in
      let n = cut_long h l in
      rw e (subst P n (ap (λ (b : List ℕ). record { len = length cs; bytes = b }) (column_padded cs (omega arith))))

-- A FIELD OF K
judge_after : (st : Settling) (sp : Spelling) (low high a b : ℕ) (d : Option ℕ) (go : ℕ → Settled) → after_field st (judge sp low high a d) go ≡ after_field st (judge sp low high b d) go
unfolding judge
judge_after st sp low high a b (Some n) go = by_test (fits sp low high n) (λ t. rw t) (λ t. rw t)
judge_after st sp low high a b None go = refl

here_more : (text : List ℕ) (at k next : ℕ) → Here text at k → k < length (later_fields text) → next ≡ next_at text at → Here text next (k + 1)
here_more text at k next h l e m =
    let t : fields_of (drop at text) ≡ drop (suc k) (fields_of text) = h l in
    let q : suc k + 1 < length (fields_of text) = omega arith in
    let j : suc k + 1 ≡ suc (k + 1) = omega arith in
    rw e (cursor_more text at (suc k) t q ∙ rw j)

here_field : (text : List ℕ) (at k : ℕ) → Here text at k → k < length (later_fields text) → field_at text at ≡ get_or (later_fields text) k []
here_field text at k h l = cursor_field text at (suc k) (h l)

-- what is read of a field decides, and leads to the next field
pub record Judged (st : Settling) (text : List ℕ) (k i : ℕ) (g : Result Field Fault) : Type 0 where
  pub after : {x : Result Field Fault} (go : ℕ → Settled) {r : Settled} → g ≡ x → r ≡ after_field st x go → r ≡ after_field st (read_by (limit_of Run i any_group (turn_of st)) (get_or (later_fields text) k [])) go
  pub more : {n next : ℕ} → g ≡ value n next → Here text next (k + 1)

pub judged : (st : Settling) (text : List ℕ) (at k i : ℕ) {turn : ℕ} {l : Limit} {g : Result Field Fault} → turn ≡ turn_of st → l ≡ limit_of Run i any_group turn
    → g ≡ read_at text at l.spelling l.low l.high
    → Here text at k → k < length (later_fields text) → Judged st text k i g
unfolding read_at read_field
judged st text at k i {turn} {l} {g} te le ge h kl = record {
  after = λ {x} go {r} e d.
      rw (← te, ← le, ← here_field text at k h kl)
      (d ∙ ap (λ (y : Result Field Fault). after_field st y go) (sym e ∙ ge) ∙ judge_after st l.spelling l.low l.high (next_at text at) 0 (said_by l.spelling (field_at text at)) go);
  more = λ {n} {next} e. here_more text at k next h kl (read_next text at l.spelling l.low l.high n next (sym ge ∙ e));
}

-- THE CERTIFICATE
pub record Cut (text : List ℕ) (at end : ℕ) : Type 0 where
  pub after : at ≤ end
  pub inside : end ≤ length text
  pub short : end - at ≤ 16
  pub bytes : take (end - at) (drop at text) ≡ get_or (later_fields text) 1 []
  pub next : Here text (end + 1) 2
  pub shown : is_certificate (get_or (later_fields text) 1 []) ≡ true

module _ (text : List ℕ) (at : ℕ) (c : Option ℕ) (ce : c ≡ certificate_at text at) (four : length (later_fields text) ≡ 4) (h : Here text at 1) where
  field_is : field_at text at ≡ get_or (later_fields text) 1 []
  field_is = here_field text at 1 h (omega arith)

  pub cut : (end : ℕ) → c ≡ Some end → Cut text at end
  cut end e =
      let o = certificate_only text at end (sym ce ∙ e) in
      let n = certificate_long (field_at text at) o.0 in
      let a = until_short 9 (drop at text) in
      let b = length-drop at text in
      let z = o.1 in
      let q : end - at ≡ length (field_at text at) = omega arith in
      record {
        after = omega arith;
        inside = omega arith;
        short = omega arith;
        bytes = rw q (until_take 9 (drop at text) ∙ field_is);
        next = here_more text at 1 (end + 1) h (omega arith) (omega arith);
        shown = rw (← field_is) o.0;
      }

  pub not_cut : c ≡ None → is_certificate (get_or (later_fields text) 1 []) ≡ false
  unfolding certificate_at
  not_cut e = rw (← field_is) (by_test (is_certificate (field_at text at)) (λ t. absurd_by (let z : None ≡ certificate_at text at = sym e ∙ ce in let y = rw t at z in cc)) (λ t. t))

-- THE WEIGHT
pub weight_kept : (st : Settling) (text : List ℕ) (turn : ℕ) (c : Certificate) (factor n : ℕ) (x : Settings) → turn ≡ turn_of st → c ≡ certificate_of (get_or (later_fields text) 1 [])
    → x ≡ run_with st.settings turn c factor n → kept st x ≡ kept st (run_with st.settings (turn_of st) (certificate_of (get_or (later_fields text) 1 [])) factor n)
weight_kept st text turn c factor n x te ce xe =
    ap (kept st) (xe ∙ ap (λ (t : ℕ). run_with st.settings t c factor n) te ∙ ap (λ (d : Certificate). run_with st.settings (turn_of st) d factor n) ce)

-- A LINE'S TEXT, by the line that it is
module _ (st : Settling) (text : List ℕ) where
  pub sizes_text : st.line ≡ 1 → settle_text st text ≡ expecting st Sizes text (settle_plain st Sizes (with_sizes st.settings) (later_fields text))
  unfolding settle_text pick
  sizes_text e = rw (eq-eqb st.line 1 e)

  pub filter_text : st.line ≡ 2 → settle_text st text ≡ expecting st Filter text (settle_plain st Filter (with_filter st.settings) (later_fields text))
  unfolding settle_text pick
  filter_text e = rw (ne_eqb st.line 1 (λ z. absurd (omega arith)), eq-eqb st.line 2 e)

  module _ (n₁ : st.line ≡ 1 → ⊥) (n₂ : st.line ≡ 2 → ⊥) where
    pub run_text : turn_of st < runs_of st.settings.numbers.group.m → settle_text st text ≡ expecting st Run text (settle_run st (later_fields text))
    unfolding settle_text pick
    run_text h = rw (ne_eqb st.line 1 n₁, ne_eqb st.line 2 n₂, lt-ltb (turn_of st) (runs_of st.settings.numbers.group.m) h)

    pub over_text : runs_of st.settings.numbers.group.m ≤ turn_of st → settle_text st text ≡ stopped st NoKind
    unfolding settle_text pick
    over_text h = rw (ne_eqb st.line 1 n₁, ne_eqb st.line 2 n₂, le-ltb (turn_of st) (runs_of st.settings.numbers.group.m) h)

-- A LINE, by its length and its line feed
module _ (line : List ℕ) (c : Scan) (ce : c ≡ scanned line) where
  pub scan_open : (c.feed + 1 ≡ length line → ⊥) → ended_once line ≡ false
  unfolding scanned
  scan_open d = ne_eqb (length (until 10 line) + 1) (length line) (rw ce at d)

  pub scan_ended : c.feed + 1 ≡ length line → ended_once line ≡ true
  unfolding scanned
  scan_ended d = eq-eqb (length (until 10 line) + 1) (length line) (rw ce at d)

  pub scan_text : until 10 line ≡ take c.feed line
  unfolding scanned
  scan_text = rw ce (sym (until_take 10 line))

module _ (st : Settling) (line : List ℕ) where
  pub line_over : 600 < length line → settle_line st line ≡ stopped st Long
  unfolding settle_line pick
  line_over h = rw (lt-leb (length line) 600 h)

  module _ (l : length line ≤ 600) where
    pub line_open : ended_once line ≡ false → settle_line st line ≡ stopped st Unended
    unfolding settle_line pick
    line_open e = rw (le-leb (length line) 600 l, e)

    pub line_text : ended_once line ≡ true → settle_line st line ≡ settle_text st (until 10 line)
    unfolding settle_line pick
    line_text e = rw (le-leb (length line) 600 l, e)
