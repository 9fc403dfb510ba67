-- The walk over fields: what holds before each of them, and how one field more is taken or refused. Assumes nothing.
use Prim.Native.Nat.{ℕ, zero, suc, ◌+◌, ◌-◌, ◌≤◌, ◌<◌}
use mathlib.Core.Path.{◌≡◌, refl, sym, ap, ◌∙◌}
use mathlib.Core.List.{List, [], ◌∷◌, ◌++◌}
use native.Mathlib.Omega.{arith}
use native.Mathlib.Numerals.{add-one}
use lib.ListN.{length, get_or, take, drop, set, length-set}
use lib.Seq.{drop-cons, get_or-take, take-suc-set, length-take-le, get_or-set_other}
use Rattle.std.specs.Prelude.{Option, Some, None, Result, Ok, Err}
use Rattle.std.specs.Result.{IsErrAnd}
use Rattle.units.specs.declared.refusal.Refusal.{Refusal}
use Rattle.units.specs.declared.settings.Group.{Group}
use Rattle.fields.specs.declared.field.Fault.{Fault}
use Rattle.fields.specs.declared.field.Field.{Field}
use Rattle.fields.specs.declared.spelling.Spelling.{Spelling}
use Rattle.fields.specs.Field.{value, refusal_of, said_by, fits, judge, read_field, read_at}
use Rattle.fields.specs.Text.{next_at, fields_of, later_fields}
use Rattle.fields.proofs.Cases.{by_test, absurd_by}
use Rattle.fields.proofs.Spellings.{read_only}
use Rattle.fields.proofs.Texts.{cursor_field, cursor_more}
use Rattle.lines.specs.declared.kind.Kind.{Kind}
use Rattle.fields.specs.declared.spelling.Limit.{Limit}
use Rattle.lines.specs.Table.{limit_of}
use Rattle.lines.specs.Reading.{Got, limit_after, onward, read_all}
use Rattle.lines.specs.Walk.{Here, Rest, Walked}

-- WHAT A FIELD SAYS does not depend on where the next one starts
judge_any : (sp : Spelling) (low high a b : ℕ) (d : Option ℕ) (go : ℕ → Got) → onward (judge sp low high a d) go ≡ onward (judge sp low high b d) go
unfolding judge
judge_any sp low high a b (Some n) go = by_test (fits sp low high n) (λ t. rw t) (λ t. rw t)
judge_any sp low high a b None go = refl

read_any : (sp : Spelling) (low high a b : ℕ) (cs : List ℕ) (go : ℕ → Got) → onward (read_field sp low high a cs) go ≡ onward (read_field sp low high b cs) go
unfolding read_field
read_any sp low high a b cs go = judge_any sp low high a b (said_by sp cs) go

pub read_next : (text : List ℕ) (at : ℕ) (sp : Spelling) (low high n next : ℕ) → read_at text at sp low high ≡ value n next → next ≡ next_at text at
read_next text at sp low high n next e = (read_only text at sp low high n next e).after

-- THE LABEL
pub label_there : (v : List ℕ) (k : ℕ) → 1 < k → get_or v 1 0 ≡ get_or (take k v) 1 0
label_there v k h = sym (get_or-take k v 1 0 h)

pub label_none : (v : List ℕ) (k : ℕ) → k ≤ 1 → 0 ≡ get_or (take k v) 1 0
label_none [] zero h = refl
label_none [] (suc k) h = refl
label_none (x ∷ v) zero h = refl
label_none (x ∷ v) (suc zero) h = refl
label_none (x ∷ v) (suc (suc k)) h = absurd (omega arith)

pub limit_after_lem : (kind : Kind) (s : Group) (v : List ℕ) (k label : ℕ) (l : Limit) → k ≤ 34 → length v ≡ 34 → label ≡ get_or (take k v) 1 0 → l ≡ limit_of kind k s label → l ≡ limit_after kind s (take k v)
limit_after_lem kind s v k label l h c le be =
    let m : k ≤ length v = omega arith in
    rw (length-take-le k v m, ← le) be

-- THE LOOP
pub record Walking (kind : Kind) (s : Group) (text v₀ : List ℕ) (from to : ℕ) (v : List ℕ) (at k : ℕ) : Type 0 where
  pub after : from ≤ k
  pub inside : k ≤ to
  pub room : to ≤ 34
  pub there : to ≤ length (later_fields text)
  pub long : length v ≡ 34
  pub here : Here text at k
  pub rest : Rest v k
  pub same : read_all (limit_after kind s) (take from v₀) (take (to - from) (drop from (later_fields text))) ≡ read_all (limit_after kind s) (take k v) (take (to - k) (drop k (later_fields text)))

rest_cons : (ls : List (List ℕ)) (k to : ℕ) → k < to → to ≤ length ls → take (to - k) (drop k ls) ≡ get_or ls k [] ∷ take (to - (k + 1)) (drop (k + 1) ls)
rest_cons ls k to h l =
    let q : to - k ≡ suc (to - (k + 1)) = omega arith in
    let m : k < length ls = omega arith in
    rw (q, drop-cons ls k [] m, ← add-one k)

module _ {kind : Kind} {s : Group} {text v₀ : List ℕ} {from to : ℕ} {v : List ℕ} {at k : ℕ} (w : Walking kind s text v₀ from to v at k) where
  module _ (kt : k < to) {label : ℕ} {l : Limit} {g : Result Field Fault} (le : label ≡ get_or (take k v) 1 0) (be : l ≡ limit_of kind k s label)
      (ge : g ≡ read_at text at l.spelling l.low l.high) where
    field_is : fields_of (drop at text) ≡ drop (suc k) (fields_of text)
    field_is = w.here (let a = w.there in omega arith)

    limit_is : l ≡ limit_after kind s (take k v)
    limit_is = let a = w.inside in let b = w.room in limit_after_lem kind s v k label l (omega arith) w.long le be

    stepped : (x : Result Field Fault) → g ≡ x → read_all (limit_after kind s) (take k v) (take (to - k) (drop k (later_fields text)))
        ≡ onward x (λ n. read_all (limit_after kind s) (take k v ++ (n ∷ [])) (take (to - (k + 1)) (drop (k + 1) (later_fields text))))
    unfolding read_all read_at
    stepped x e =
        let go : ℕ → Got = (λ n. read_all (limit_after kind s) (take k v ++ (n ∷ [])) (take (to - (k + 1)) (drop (k + 1) (later_fields text)))) in
        rw (rest_cons (later_fields text) k to kt w.there, ← limit_is)
        (read_any l.spelling l.low l.high 0 (next_at text at) (get_or (later_fields text) k []) go
        ∙ ap (λ (x : List ℕ). onward (read_field l.spelling l.low l.high (next_at text at) x) go) (sym (cursor_field text at (suc k) field_is))
        ∙ ap (λ (x : Result Field Fault). onward x go) (sym ge ∙ e))

    walk_stop : {x : Fault} {why : Refusal} → g ≡ Err x → why ≡ refusal_of x → Walked kind s text v₀ v from to (Err why)
    walk_stop {x = x} e o = rw o (record { got = sym (w.same ∙ stepped (Err x) e); here = λ y z. absurd_by (cc); rest = λ y z. absurd_by (cc); long = w.long })

    -- the fault of `?`
    pub walk_err : {r : Result ℕ Refusal} {x : Fault} → g ≡ Err x → IsErrAnd r (λ why. why ≡ refusal_of x) → Walked kind s text v₀ v from to r
    walk_err {r = Ok y} e f = absurd f
    walk_err {r = Err why} e f = walk_stop e f

    pub walk_more : {n next : ℕ} → g ≡ value n next → Walking kind s text v₀ from to (set v k n) next (k + 1)
    walk_more {n} {next} e =
        let a = w.after in
        let b = w.room in
        let c = w.long in
        let m : k < length v = omega arith in
        let t : take (k + 1) (set v k n) ≡ take k v ++ (n ∷ []) = rw (add-one k) (take-suc-set v k n m) in
        record {
          after = omega arith;
          inside = omega arith;
          room = w.room;
          there = w.there;
          long = length-set v k n ∙ w.long;
          here = λ h.
              let q : suc k + 1 < length (fields_of text) = omega arith in
              rw (read_next text at l.spelling l.low l.high n next (sym ge ∙ e)) (cursor_more text at (suc k) field_is q ∙ (let j : suc k + 1 ≡ suc (k + 1) = omega arith in rw j));
          rest = λ i h. get_or-set_other v k i n 0 (λ z. absurd (omega arith)) ∙ w.rest i (omega arith);
          same = rw t (w.same ∙ stepped _ e);
        }

  pub walk_end : to ≤ k → Walked kind s text v₀ v from to (Ok at)
  unfolding read_all
  walk_end h =
      let a = w.inside in
      let q : k ≡ to = omega arith in
      let z : to - k ≡ 0 = omega arith in
      record {
        got = sym (w.same ∙ rw (z, q));
        here = λ y e. let z : at ≡ y = cc in rw (← z) (rw q at w.here);
        rest = λ y e. rw q at w.rest;
        long = w.long;
      }
