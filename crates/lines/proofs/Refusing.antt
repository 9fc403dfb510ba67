-- WHAT IS REFUSED AHEAD OF A LINE'S FIELDS: over 600 bytes, and without a line feed; and that the reader refuses by 1 to 6 alone. Assumes nothing.
use Rattle.std.specs.Prelude.{Option, Some, None, Err, Ok, Result}
use Prim.Native.Nat.{ℕ, ◌+◌, ◌≤◌, ◌<◌}
use native.Mathlib.Omega.{arith}
use mathlib.Core.Path.{◌≡◌, refl, sym, ap, subst, ◌∙◌}
use mathlib.Core.Bool.{Bool, true, false}
use mathlib.Core.List.{List, [], ◌∷◌, ◌++◌}
use lib.Dec.{leb}
use lib.ListN.{length, take, drop}
use Rattle.units.specs.declared.refusal.Refusal.{Refusal}
use Rattle.units.specs.declared.refusal.Refusal.TheVariants.{Long, Unended, Range as NoRange}
use Rattle.units.specs.Refusal.{Verdict, number_of}
use Rattle.units.specs.declared.settings.Group.{Group}
use Rattle.units.specs.Limits.{line_top}
use Rattle.units.specs.Pick.{pick}
use Rattle.units.specs.Settings.{group_fits}
use Rattle.units.specs.Within.{within}
use Rattle.fields.specs.declared.field.Fault.{Fault}
use Rattle.fields.specs.declared.field.Field.{Field}
use Rattle.fields.specs.declared.field.Fault.TheVariants.{Form, Range}
use Rattle.fields.specs.Text.{line_feed, until, first_field, lacks, scanned}
use Rattle.fields.proofs.Cases.{by_test}
use Rattle.fields.proofs.Texts.{until_all}
use Rattle.lines.specs.declared.kind.Kind.{Kind}
use Rattle.lines.specs.declared.read.Line.{Line}
use Rattle.lines.specs.declared.settle.Settling.{Settling}
use Rattle.fields.specs.declared.spelling.Limit.{Limit}
use Rattle.lines.specs.Reading.{Got, values, stop, limit_after, read_by, onward, read_all, read_rest, read_values, refused_line, line_with, kind_in, read_known, read_text, ended_once, read_line}
use Rattle.lines.specs.Settling.{stopped, settle_line}
use Rattle.lines.specs.Table.{count_of}
use Rattle.lines.proofs.Openings.{line_group, line_long, line_unended}
use Rattle.lines.proofs.Settlings.{line_over, line_open, scan_open}

-- OVER 600 BYTES: 1, whatever the bytes
pub read_long : (s : Group) (line : List ℕ) → group_fits s ≡ true → line_top < length line → read_line s line ≡ refused_line Long
read_long s line g h = sym (line_long s line true (refused_line Long) (sym g) refl h refl)

pub settle_long : (st : Settling) (line : List ℕ) → line_top < length line → settle_line st line ≡ stopped st Long
settle_long st line h = line_over st line h

-- so two such lines are read alike, by any group
pub read_alike : (s : Group) (l k : List ℕ) → line_top < length l → line_top < length k → read_line s l ≡ read_line s k
read_alike s l k a b = by_test (group_fits s) (λ g. read_long s l g a ∙ sym (read_long s k g b)) (λ g. sym (no_group l g) ∙ no_group k g)
  where
    no_group : (line : List ℕ) → group_fits s ≡ false → refused_line NoRange ≡ read_line s line
    no_group line g = line_group s line false (refused_line NoRange) (sym g) refl refl

-- WITHOUT A LINE FEED: 2 up to 600 bytes
module _ (p : List ℕ) (l : length p ≤ line_top) (e : lacks line_feed p ≡ true) where
  not_last : (scanned p).feed + 1 ≡ length p → ⊥
  unfolding scanned
  not_last q = let a = ap {B = ℕ} (λ (t : List ℕ). length t) (until_all line_feed p e) in absurd (omega arith)

  pub read_unended : (s : Group) → group_fits s ≡ true → read_line s p ≡ refused_line Unended
  read_unended s g = sym (line_unended s p true (refused_line Unended) (sym g) refl l (scanned p) refl not_last refl)

  pub settle_unended : (st : Settling) → settle_line st p ≡ stopped st Unended
  settle_unended st = line_open st p l (scan_open p (scanned p) refl not_last)

-- THE READER REFUSES BY 1 TO 6
abbrev pub Early : Refusal → Type 0
Early why = within 1 6 (number_of why) ≡ true

abbrev pub GotEarly : Got → Type 0
GotEarly (values vs) = Unit {0}
GotEarly (stop why) = Early why

abbrev VerdictEarly : Verdict → Type 0
VerdictEarly (Ok tt) = Unit {0}
VerdictEarly (Err why) = Early why

onward_early : (f : Result Field Fault) (go : ℕ → Got) → ((n : ℕ) → GotEarly (go n)) → GotEarly (onward f go)
onward_early (Ok f) go h = h f.n
onward_early (Err Form) go h = refl
onward_early (Err Range) go h = refl

all_early : (S : List ℕ → Limit) (us : List ℕ) (fs : List (List ℕ)) → GotEarly (read_all S us fs)
unfolding read_all
all_early S us [] = tt
all_early S us (f ∷ fs) = onward_early (read_by (S us) f) (λ n. read_all S (us ++ (n ∷ [])) fs) (λ n. all_early S (us ++ (n ∷ [])) fs)

-- what holds of both holds of either
pub either : {A : Type 0} (P : A → Type 0) (t : Bool) {a b : A} → P a → P b → P (pick t a b)
unfolding pick
either P true p q = p
either P false p q = q

rest_early : (kind : Kind) (s : Group) (fs : List (List ℕ)) (g : Got) → GotEarly g → GotEarly (read_rest kind s fs g)
rest_early kind s fs (values us) h = either GotEarly _ (all_early (limit_after kind s) us (drop (count_of kind s 0) fs)) refl
rest_early kind s fs (stop why) h = h

pub values_early : (kind : Kind) (s : Group) (fs : List (List ℕ)) → GotEarly (read_values kind s fs)
unfolding read_values
values_early kind s fs = either GotEarly _ (rest_early kind s fs (read_all (limit_after kind s) [] (take (count_of kind s 0) fs)) (all_early (limit_after kind s) [] (take (count_of kind s 0) fs))) refl

with_early : (s : Group) (kind : Kind) (g : Got) → GotEarly g → VerdictEarly (line_with s kind g).verdict
with_early s kind (values vs) h = tt
with_early s kind (stop why) h = h

known_early : (s : Group) (fs : List (List ℕ)) (f : Option Kind) → VerdictEarly (read_known s fs f).verdict
known_early s fs (Some kind) = with_early s kind (read_values kind s fs) (values_early kind s fs)
known_early s fs None = refl

abbrev LineEarly : Line → Type 0
LineEarly l = VerdictEarly l.verdict

read_early : (s : Group) (line : List ℕ) → LineEarly (read_line s line)
unfolding read_line read_text
read_early s line =
    either LineEarly (group_fits s) (either LineEarly (leb (length line) line_top) (either LineEarly (ended_once line) (known_early s _ (kind_in (first_field (until line_feed line)))) refl) refl) refl

pub reader_refuses : (s : Group) (line : List ℕ) (why : Refusal) → (read_line s line).verdict ≡ Err why → within 1 6 (number_of why) ≡ true
reader_refuses s line why e = subst VerdictEarly e (read_early s line)
