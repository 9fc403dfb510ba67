-- THE LAWS OF A LINE'S NUMBERS, for all kinds at once: what is accepted is spelled in the one way, and what is spelled so is read back. Assumes nothing.
use Prim.Native.Nat.{ℕ, zero, suc, ◌≤◌, ◌<◌}
use mathlib.Core.Path.{◌≡◌, refl, sym, ap, ap₂, ◌∙◌}
use mathlib.Core.List.{List, [], ◌∷◌, ◌++◌, append_assoc, append-nil}
use mathlib.Core.Bool.{Bool, true, false, ◌&&◌, and_assoc}
use native.Mathlib.Omega.{arith}
use lib.Dec.{eqb}
use lib.ListN.{length, get_or, take, drop, take-append-drop, get_or-append}
use lib.Seq.{take_at, drop_at, length-take-le, get_or-take}
use borrow.Author.Tests.{eq-eqb, eqb-true, le-leb}
use Rattle.std.specs.Prelude.{Result, Ok, Err}
use Rattle.units.specs.declared.settings.Group.{Group}
use Rattle.units.specs.Pick.{pick}
use Rattle.units.proofs.Every.{and_left, and_right}
use Rattle.fields.specs.declared.field.Fault.{Fault}
use Rattle.fields.specs.declared.field.Field.{Field}
use Rattle.fields.specs.Field.{value, fits, spelled}
use Rattle.fields.proofs.Cases.{by_test, by_lt, absurd_by}
use Rattle.fields.proofs.Puts.{written_is}
use Rattle.fields.proofs.Spellings.{field_only, field_read, fits_range}
use Rattle.lines.specs.declared.kind.Kind.{Kind}
use Rattle.fields.specs.declared.spelling.Limit.{Limit}
use Rattle.lines.specs.declared.table.Quantity.{Quantity}
use Rattle.lines.specs.declared.table.Quantity.TheVariants.{Sender, RunNumber, Round, State, Base, Mask, Raw, X, Variance, Target, Number, Controllers, Runs, Noise, First, Turn, Factor, Weight}
use Rattle.lines.specs.Reading.{Got, values, stop, limit_after, read_by, onward, read_all, enough, read_rest, read_values}
use Rattle.lines.specs.Table.{letter_of, quantity_at, spelling_of, limit_for, limit_of, count_of}
use Rattle.lines.specs.Writing.{spelled_at, texts_to}
use Rattle.lines.proofs.Columns.{is_column}
use Rattle.lines.proofs.Rows.{row_of, count_any, count_range, count_same}
use Rattle.lines.proofs.Stages.{enough_heads}

abbrev pub fits_by : Limit → ℕ → Bool
fits_by l n = fits l.spelling l.low l.high n

-- each number in the range that those before it leave it, and its spelling
unfoldable pub fit_all : (List ℕ → Limit) → List ℕ → List ℕ → Bool
fit_all S us [] = true
fit_all S us (n ∷ ns) = fits_by (S us) n && fit_all S (us ++ (n ∷ [])) ns

unfoldable pub spelled_all : (List ℕ → Limit) → List ℕ → List ℕ → List (List ℕ)
spelled_all S us [] = []
spelled_all S us (n ∷ ns) = spelled (S us).spelling n ∷ spelled_all S (us ++ (n ∷ [])) ns

pub record Read (S : List ℕ → Limit) (us vs : List ℕ) (fs : List (List ℕ)) : Type 0 where
  pub rest : List ℕ
  pub joined : vs ≡ us ++ rest
  pub spelt : fs ≡ spelled_all S us rest
  pub fit : fit_all S us rest ≡ true

-- a field that a reading went on from
went_on : (g : Result Field Fault) (go : ℕ → Got) (vs : List ℕ) → onward g go ≡ values vs → (n : ℕ) × (next : ℕ) × (g ≡ value n next) × (go n ≡ values vs)
went_on (Ok f) go vs e = (f.n, f.next, refl, e)
went_on (Err why) go vs e = absurd_by (cc)

pub read_only : (S : List ℕ → Limit) (us : List ℕ) (fs : List (List ℕ)) (vs : List ℕ) → read_all S us fs ≡ values vs → Read S us vs fs
unfolding read_all spelled_all fit_all
read_only S us [] vs e = record { rest = []; joined = (let q : us ≡ vs = cc in sym q) ∙ sym (append-nil us); spelt = refl; fit = refl }
read_only S us (f ∷ fs) vs e =
    let w = went_on (read_by (S us) f) (λ n. read_all S (us ++ (n ∷ [])) fs) vs e in
    let n = w.0 in
    let r = read_only S (us ++ (n ∷ [])) fs vs w.3 in
    let o = field_only (S us).spelling (S us).low (S us).high 0 f n w.1 w.2 in
    record { rest = n ∷ r.rest; joined = r.joined ∙ append_assoc us (n ∷ []) r.rest; spelt = ap₂ ◌∷◌ o.spelt r.spelt; fit = rw o.inside r.fit }

read_back : (S : List ℕ → Limit) (us ws : List ℕ) → fit_all S us ws ≡ true → read_all S us (spelled_all S us ws) ≡ values (us ++ ws)
unfolding read_all spelled_all fit_all
read_back S us [] e = ap values (sym (append-nil us))
read_back S us (n ∷ ws) e =
    let a = and_left (fits_by (S us) n) (fit_all S (us ++ (n ∷ [])) ws) e in
    let b = and_right (fits_by (S us) n) (fit_all S (us ++ (n ∷ [])) ws) e in
    rw (field_read (S us).spelling (S us).low (S us).high 0 n a) (read_back S (us ++ (n ∷ [])) ws b ∙ ap values (append_assoc us (n ∷ []) ws))

-- TWO STAGES ARE ONE
pub read_join : (S : List ℕ → Limit) (us xs : List ℕ) (fs gs : List (List ℕ)) → read_all S us fs ≡ values xs → read_all S us (fs ++ gs) ≡ read_all S xs gs
unfolding read_all
read_join S us xs [] gs e = ap (λ (l : List ℕ). read_all S l gs) (cc)
read_join S us xs (f ∷ fs) gs e =
    let w = went_on (read_by (S us) f) (λ n. read_all S (us ++ (n ∷ [])) fs) xs e in
    rw w.2 (read_join S (us ++ (w.0 ∷ [])) xs fs gs w.3)

spelled_length : (S : List ℕ → Limit) (us ws : List ℕ) → length (spelled_all S us ws) ≡ length ws
unfolding spelled_all
spelled_length S us [] = refl
spelled_length S us (n ∷ ws) = ap suc (spelled_length S (us ++ (n ∷ [])) ws)

spelled_append : (S : List ℕ → Limit) (us xs ys : List ℕ) → spelled_all S us (xs ++ ys) ≡ spelled_all S us xs ++ spelled_all S (us ++ xs) ys
unfolding spelled_all
spelled_append S us [] ys = rw (append-nil us)
spelled_append S us (n ∷ xs) ys = ap (λ (l : List (List ℕ)). spelled (S us).spelling n ∷ l) (spelled_append S (us ++ (n ∷ [])) xs ys ∙ rw (append_assoc us (n ∷ []) xs))

pub fit_append : (S : List ℕ → Limit) (us xs ys : List ℕ) → fit_all S us (xs ++ ys) ≡ (fit_all S us xs && fit_all S (us ++ xs) ys)
unfolding fit_all
fit_append S us [] ys = rw (append-nil us)
fit_append S us (n ∷ xs) ys = rw (fit_append S (us ++ (n ∷ [])) xs ys, append_assoc us (n ∷ []) xs) (sym (and_assoc (fits_by (S us) n) (fit_all S (us ++ (n ∷ [])) xs) (fit_all S (us ++ (n ∷ xs)) ys)))

-- A LINE'S NUMBERS
pub record Fit (k : Kind) (s : Group) (vs : List ℕ) : Type 0 where
  pub counted : length vs ≡ count_of k s (get_or vs 2 0)
  pub inside : fit_all (limit_after k s) [] vs ≡ true

pub record Whole (k : Kind) (s : Group) (fs : List (List ℕ)) (vs : List ℕ) : Type 0 where
  pub fit : Fit k s vs
  pub spelt : fs ≡ spelled_all (limit_after k s) [] vs

-- the mask that the count goes by may be taken from the head or from the whole
count_whole : (k : Kind) (s : Group) (xs ys : List ℕ) → length xs ≡ count_of k s 0 → count_of k s (get_or xs 2 0) ≡ count_of k s (get_or (xs ++ ys) 2 0)
count_whole k s xs ys l = count_same k s _ _ (λ h. sym (get_or-append xs ys 0 2 (omega arith)))

rest_only : (k : Kind) (s : Group) (fs : List (List ℕ)) (vs : List ℕ) → count_of k s 0 ≤ length fs
    → (g : Got) → read_all (limit_after k s) [] (take (count_of k s 0) fs) ≡ g → read_rest k s fs g ≡ values vs → Whole k s fs vs
unfolding pick
rest_only k s fs vs hl (stop c) p = λ e. absurd_by (cc)
rest_only k s fs vs hl (values us) p =
    by_test (eqb (length fs) (count_of k s (get_or us 2 0)))
    (λ t. rw t (λ q.
    let S = limit_after k s in
    let h = count_of k s 0 in
    let all : read_all S [] fs ≡ values vs = rw (← take-append-drop h fs) (read_join S [] us (take h fs) (drop h fs) p ∙ q) in
    let r = read_only S [] fs vs all in
    let a = read_only S [] (take h fs) us p in
    let b = read_only S us (drop h fs) vs q in
    let la : length us ≡ h = ap length a.joined ∙ sym (spelled_length S [] a.rest) ∙ ap length (sym a.spelt) ∙ length-take-le h fs hl in
    let lv : length vs ≡ length fs = ap length r.joined ∙ sym (spelled_length S [] r.rest) ∙ ap length (sym r.spelt) in
    record {
      fit = record {
        counted = lv ∙ eqb-true _ _ t ∙ count_whole k s us b.rest la ∙ ap (λ (l : List ℕ). count_of k s (get_or l 2 0)) (sym b.joined);
        inside = rw (← r.joined) at r.fit;
      };
      spelt = rw (← r.joined) at r.spelt;
    }))
    (λ t. rw t (λ e. absurd_by (cc)))

-- WHAT IS ACCEPTED is in range, and spelled in the one way
pub values_only : (k : Kind) (s : Group) (fs : List (List ℕ)) (vs : List ℕ) → read_values k s fs ≡ values vs → Whole k s fs vs
unfolding read_values pick
values_only k s fs vs =
    by_test (enough k s (length fs))
    (λ t. rw t (λ e. rest_only k s fs vs (enough_heads k s (length fs) t) (read_all (limit_after k s) [] (take (count_of k s 0) fs)) refl e))
    (λ t. rw t (λ e. absurd_by (cc)))

enough_count : (k : Kind) (s : Group) (n mask : ℕ) → n ≡ count_of k s mask → enough k s n ≡ true
unfolding pick
enough_count k s n mask e =
    by_test (eqb (letter_of k) 82)
    (λ t. let h = count_range k s mask in rw (t, le-leb (count_of k s 0) n (omega arith)))
    (λ f. rw (f, eq-eqb n (count_of k s 0) (e ∙ count_any k s mask 0 f)))

-- WHAT IS IN RANGE, and spelled in the one way, is read back
pub values_back : (k : Kind) (s : Group) (vs : List ℕ) → Fit k s vs → read_values k s (spelled_all (limit_after k s) [] vs) ≡ values vs
unfolding read_values pick
values_back k s vs fit =
    let S = limit_after k s in
    let h = count_of k s 0 in
    let xs = take h vs in
    let ys = drop h vs in
    let j : xs ++ ys ≡ vs = take-append-drop h vs in
    let hl : h ≤ length vs = let a = count_range k s (get_or vs 2 0) in let b = fit.counted in omega arith in
    let lx : length xs ≡ h = length-take-le h vs hl in
    let ls : length (spelled_all S [] vs) ≡ length vs = spelled_length S [] vs in
    let fa : (fit_all S [] xs && fit_all S xs ys) ≡ true = sym (fit_append S [] xs ys) ∙ rw j fit.inside in
    let sp : spelled_all S [] vs ≡ spelled_all S [] xs ++ spelled_all S xs ys = ap (spelled_all S []) (sym j) ∙ spelled_append S [] xs ys in
    let lsx : length (spelled_all S [] xs) ≡ h = spelled_length S [] xs ∙ lx in
    let tk : take h (spelled_all S [] vs) ≡ spelled_all S [] xs = rw sp (take_at (spelled_all S [] xs) (spelled_all S xs ys) h lsx) in
    let dr : drop h (spelled_all S [] vs) ≡ spelled_all S xs ys = rw sp (drop_at (spelled_all S [] xs) (spelled_all S xs ys) h lsx) in
    let one : read_all S [] (take h (spelled_all S [] vs)) ≡ values xs = rw tk (read_back S [] xs (and_left (fit_all S [] xs) (fit_all S xs ys) fa)) in
    let two : read_all S xs (drop h (spelled_all S [] vs)) ≡ values vs = rw dr (read_back S xs ys (and_right (fit_all S [] xs) (fit_all S xs ys) fa) ∙ ap values j) in
    let en : enough k s (length (spelled_all S [] vs)) ≡ true = enough_count k s (length (spelled_all S [] vs)) (get_or vs 2 0) (ls ∙ fit.counted) in
    let ct : length (spelled_all S [] vs) ≡ count_of k s (get_or xs 2 0) = ls ∙ fit.counted ∙ ap (λ (l : List ℕ). count_of k s (get_or l 2 0)) (sym j) ∙ sym (count_whole k s xs ys lx) in
    rw (en, one, eq-eqb (length (spelled_all S [] vs)) (count_of k s (get_or xs 2 0)) ct) two

-- PLACE BY PLACE
pub fit_at : (S : List ℕ → Limit) (us ws : List ℕ) → fit_all S us ws ≡ true → (i : ℕ) → i < length ws → fits_by (S (us ++ take i ws)) (get_or ws i 0) ≡ true
unfolding fit_all
fit_at S us [] e i h = absurd (omega arith)
fit_at S us (n ∷ ws) e zero h = rw (append-nil us) (and_left (fits_by (S us) n) (fit_all S (us ++ (n ∷ [])) ws) e)
fit_at S us (n ∷ ws) e (suc i) h =
    rw (append_assoc us (n ∷ []) (take i ws)) at (fit_at S (us ++ (n ∷ [])) ws (and_right (fits_by (S us) n) (fit_all S (us ++ (n ∷ [])) ws) e) i (omega arith))

fit_all_lem : (S : List ℕ → Limit) (us ws : List ℕ) → ((i : ℕ) → i < length ws → fits_by (S (us ++ take i ws)) (get_or ws i 0) ≡ true) → fit_all S us ws ≡ true
unfolding fit_all
fit_all_lem S us [] h = refl
fit_all_lem S us (n ∷ ws) h =
    rw (rw (append-nil us) at (h 0 (omega arith)))
    (fit_all_lem S (us ++ (n ∷ [])) ws (λ i l. rw (append_assoc us (n ∷ []) (take i ws)) (h (suc i) (omega arith))))

-- the label is asked for only where it stands before
label_late : (k : Kind) (s : Group) (i a b : ℕ) → i ≤ 1 → eqb (letter_of k) 75 ≡ false → limit_of k i s a ≡ limit_of k i s b
label_late k s i a b h e =
    let r = (row_of k).early e s in
    by_lt i 1 (λ l. let q : i ≡ 0 = omega arith in rw q ((r a).0 ∙ sym (r b).0)) (λ l. let q : i ≡ 1 = omega arith in rw q ((r a).1 ∙ sym (r b).1))

after_is : (k : Kind) (s : Group) (vs : List ℕ) (i : ℕ) → eqb (letter_of k) 75 ≡ false → i < length vs → limit_after k s ([] ++ take i vs) ≡ limit_of k i s (get_or vs 1 0)
after_is k s vs i e h =
    let l : length (take i vs) ≡ i = length-take-le i vs (omega arith) in
    rw l (by_lt i 2 (λ b. label_late k s i _ _ (omega arith) e) (λ b. ap (limit_of k i s) (get_or-take i vs 1 0 (omega arith))))

-- every number is in its range
abbrev pub FitsAt : Kind → Group → List ℕ → Type 0
FitsAt k s vs = (i : ℕ) → i < length vs → fits_by (limit_of k i s (get_or vs 1 0)) (get_or vs i 0) ≡ true

pub fits_each : (k : Kind) (s : Group) (vs : List ℕ) → eqb (letter_of k) 75 ≡ false → fit_all (limit_after k s) [] vs ≡ true → FitsAt k s vs
fits_each k s vs e f i h = rw (← after_is k s vs i e h) (fit_at (limit_after k s) [] vs f i h)

pub fits_all : (k : Kind) (s : Group) (vs : List ℕ) → eqb (letter_of k) 75 ≡ false → FitsAt k s vs → fit_all (limit_after k s) [] vs ≡ true
fits_all k s vs e f = fit_all_lem (limit_after k s) [] vs (λ i h. rw (after_is k s vs i e h) (f i h))

-- A SPELLING depends on neither the group nor the label
pub spelling_is : (q : Quantity) (s : Group) (given : ℕ) → (limit_for q s given).spelling ≡ spelling_of q
unfolding limit_for
spelling_is Sender s given = refl
spelling_is RunNumber s given = refl
spelling_is Round s given = refl
spelling_is State s given = refl
spelling_is Base s given = refl
spelling_is Mask s given = refl
spelling_is Raw s given = refl
spelling_is X s given = refl
spelling_is Variance s given = refl
spelling_is Target s given = refl
spelling_is Number s given = refl
spelling_is Controllers s given = refl
spelling_is Runs s given = refl
spelling_is Noise s given = refl
spelling_is First s given = refl
spelling_is Turn s given = refl
spelling_is Factor s given = refl
spelling_is Weight s given = refl

spelled_at_lem : (S : List ℕ → Limit) (us ws : List ℕ) (i : ℕ) → i < length ws → get_or (spelled_all S us ws) i [] ≡ spelled (S (us ++ take i ws)).spelling (get_or ws i 0)
unfolding spelled_all
spelled_at_lem S us [] i h = absurd (omega arith)
spelled_at_lem S us (n ∷ ws) zero h = rw (append-nil us)
spelled_at_lem S us (n ∷ ws) (suc i) h = spelled_at_lem S (us ++ (n ∷ [])) ws i (omega arith) ∙ rw (append_assoc us (n ∷ []) (take i ws))

-- what is written of numbers in range is their spellings
pub texts_are : (k : Kind) (s : Group) (vs : List ℕ) → fit_all (limit_after k s) [] vs ≡ true → spelled_all (limit_after k s) [] vs ≡ texts_to k vs (length vs)
texts_are k s vs f =
    is_column (spelled_at k vs) [] (length vs) (spelled_all (limit_after k s) [] vs) (spelled_length (limit_after k s) [] vs) (λ i h. place i h)
  where
    place : (i : ℕ) → i < length vs → get_or (spelled_all (limit_after k s) [] vs) i [] ≡ spelled_at k vs i
    place i h =
        let l : length (take i vs) ≡ i = length-take-le i vs (omega arith) in
        let q : (limit_after k s ([] ++ take i vs)).spelling ≡ spelling_of (quantity_at k i) = spelling_is (quantity_at k (length (take i vs))) s _ ∙ rw l in
        let c = (fits_range _ _ _ (get_or vs i 0) (fit_at (limit_after k s) [] vs f i h)).can in
        spelled_at_lem (limit_after k s) [] vs i h ∙ sym (written_is _ (get_or vs i 0) c) ∙ rw q
