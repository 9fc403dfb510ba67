-- Numbers added one after the other to those of a line, and how many there can be. Assumes nothing.
use Prim.Native.Nat.{ℕ, zero, suc, ◌+◌, ◌*◌, ◌≤◌}
use mathlib.Core.Path.{◌≡◌, refl, sym, ap, ◌∙◌}
use mathlib.Core.List.{List, [], ◌∷◌, ◌++◌, append_assoc, append-nil}
use native.Mathlib.Omega.{arith}
use native.Mathlib.Numerals.{add-one}
use lib.ListN.{length, get_or, take, length-append}
use Rattle.units.specs.declared.settings.Group.{Group}
use Rattle.units.specs.Mask.{in_mask}
use Rattle.units.specs.Pick.{pick}
use Rattle.units.proofs.Masks.{no_run}
use Rattle.message.specs.declared.head.Head.{Head}
use Rattle.message.specs.declared.head.Head.TheVariants.{Reading, Query, Reply, Advert, Update, Vote, Setpoints, Due, CollectingEnds, VotingEnds, Floor, Start, Refused}
use Rattle.message.specs.Head.{carried}
use Rattle.fields.proofs.Cases.{by_test}
use Rattle.lines.specs.declared.numbers.LineNumbers.TheInside.{Inside}
use Rattle.lines.specs.Lists.{joined}
use Rattle.lines.specs.Values.{head_values, raw_of}

-- THE HEAD, over the fields of a line's numbers: the first n of them
pub numbers_in_lem : {head k : Head} (n : ℕ) {vs : List ℕ} (r : Inside) → head ≡ k → (r.n ≡ n) × (take n r.v ≡ vs) × (length r.v ≡ 34) → vs ≡ head_values k → n ≡ length vs
    → (r.n ≡ length (head_values head)) × (take r.n r.v ≡ head_values head) × (length r.v ≡ 34)
numbers_in_lem n r e h w l = rw (e, ← w, h.0) (l, h.1, h.2)

-- LISTS ADDED
pub add_start : (f : ℕ → List ℕ) (from : List ℕ) → from ≡ from ++ joined f 0
unfolding joined
add_start f from = sym (append-nil from)

pub add_more : (f : ℕ → List ℕ) (from : List ℕ) (i : ℕ) {now next ys : List ℕ} → now ≡ from ++ joined f i → next ≡ now ++ ys → f i ≡ ys → next ≡ from ++ joined f (i + 1)
unfolding joined
add_more f from i e n h = rw (add-one i) (n ∙ rw (e, ← h) (append_assoc from (joined f i) (f i)))

pub add_count : (f : ℕ → List ℕ) (from : List ℕ) (i : ℕ) {now : List ℕ} → now ≡ from ++ joined f i → length now ≡ length from + length (joined f i)
add_count f from i e = ap length e ∙ length-append from (joined f i)

-- READINGS
pub no_raws : (rs : List ℕ) (n : ℕ) → joined (raw_of 0 rs) n ≡ []
unfolding joined pick
no_raws rs zero = refl
no_raws rs (suc n) = rw (no_raws rs n, no_run n)

pub raws_short : (mask : ℕ) (rs : List ℕ) (n : ℕ) → length (joined (raw_of mask rs) n) ≤ n
unfolding joined pick
raws_short mask rs zero = omega arith
raws_short mask rs (suc n) =
    by_test (in_mask mask n)
    (λ t. rw t (let a = length-append (joined (raw_of mask rs) n) (get_or rs n 0 ∷ []) in let b = raws_short mask rs n in omega arith))
    (λ t. rw (t, append-nil (joined (raw_of mask rs) n)) (let b = raws_short mask rs n in omega arith))

-- HOW MANY NUMBERS a message can have
pub record Roomy (s : Group) (h : Head) (rs : List ℕ) : Type 0 where
  pub head : length (head_values h) ≤ 4
  pub all : length (head_values h ++ joined (raw_of (carried s h).readings rs) 16) + 2 * (carried s h).estimates + (carried s h).targets ≤ 34
  pub runs : (carried s h).estimates ≤ 16
  pub shares : (carried s h).targets ≤ 16

roomy_none : (hs rs : List ℕ) (e t : ℕ) → length hs + 2 * e + t ≤ 34 → length (hs ++ joined (raw_of 0 rs) 16) + 2 * e + t ≤ 34
roomy_none hs rs e t h = rw (no_raws rs 16, append-nil hs) h

pub roomy : (s : Group) (h : Head) (rs : List ℕ) → s.m ≤ 16 → Roomy s h rs
unfolding head_values carried
roomy s (Reading label run raw) rs l = record { head = omega arith; all = roomy_none (label.0 ∷ run ∷ raw ∷ []) rs 0 0 (omega arith); runs = omega arith; shares = omega arith }
roomy s (Query sender label mask) rs l = record { head = omega arith; all = roomy_none (sender ∷ label.0 ∷ mask ∷ []) rs 0 0 (omega arith); runs = omega arith; shares = omega arith }
roomy s (Reply sender label mask) rs l = record {
  head = omega arith;
  all = let a = length-append (sender ∷ label.0 ∷ mask ∷ []) (joined (raw_of mask rs) 16) in let b = raws_short mask rs 16 in omega arith;
  runs = omega arith;
  shares = omega arith;
}
roomy s (Advert sender state) rs l = record { head = omega arith; all = roomy_none (sender ∷ state.0 ∷ []) rs 0 0 (omega arith); runs = omega arith; shares = omega arith }
roomy s (Update sender state) rs l = record { head = omega arith; all = roomy_none (sender ∷ state.0 ∷ []) rs s.m 0 (omega arith); runs = l; shares = omega arith }
roomy s (Vote sender label digest) rs l = record { head = omega arith; all = roomy_none (sender ∷ label.0 ∷ digest.state.0 ∷ digest.mask ∷ []) rs 0 0 (omega arith); runs = omega arith; shares = omega arith }
roomy s (Setpoints sender label digest) rs l = record { head = omega arith; all = roomy_none (sender ∷ label.0 ∷ digest.state.0 ∷ digest.mask ∷ []) rs 0 s.m (omega arith); runs = omega arith; shares = l }
roomy s (Due label) rs l = record { head = omega arith; all = roomy_none (label.0 ∷ []) rs 0 0 (omega arith); runs = omega arith; shares = omega arith }
roomy s (CollectingEnds label) rs l = record { head = omega arith; all = roomy_none (label.0 ∷ []) rs 0 0 (omega arith); runs = omega arith; shares = omega arith }
roomy s (VotingEnds label) rs l = record { head = omega arith; all = roomy_none (label.0 ∷ []) rs 0 0 (omega arith); runs = omega arith; shares = omega arith }
roomy s (Floor label) rs l = record { head = omega arith; all = roomy_none (label.0 ∷ []) rs 0 0 (omega arith); runs = omega arith; shares = omega arith }
roomy s (Start own floor) rs l = record { head = omega arith; all = roomy_none (own ∷ floor.0 ∷ []) rs 0 0 (omega arith); runs = omega arith; shares = omega arith }
roomy s (Refused number) rs l = record { head = omega arith; all = roomy_none (number ∷ []) rs 0 0 (omega arith); runs = omega arith; shares = omega arith }
