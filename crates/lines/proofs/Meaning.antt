-- FROM A LINE'S NUMBERS TO A MESSAGE AND BACK: numbers in range make a message in range that has those numbers. Assumes nothing.
use Prim.Native.Nat.{ℕ, zero, suc, ◌+◌, ◌*◌, ◌%◌, ◌≤◌, ◌<◌}
use mathlib.Core.Path.{◌≡◌, refl, sym, ◌∙◌}
use mathlib.Core.List.{List, [], ◌∷◌, ◌++◌, append-nil}
use mathlib.Core.Bool.{true}
use native.Mathlib.Omega.{arith}
use lib.Count.{ones}
use lib.ListN.{length, get_or, take, drop, length-drop, take-append-drop}
use lib.Seq.{take_all, length-take-le, get_or-take}
use borrow.Author.Tests.{leb-true, eq-eqb, ne_eqb}
use Rattle.units.specs.declared.settings.Group.{Group}
use Rattle.units.specs.Limits.{raw_top}
use Rattle.units.specs.Mask.{in_mask}
use Rattle.units.specs.Pick.{pick}
use Rattle.units.specs.Settings.{group_fits}
use Rattle.units.proofs.Every.{and_left}
use Rattle.units.proofs.Masks.{no_run}
use Rattle.floats.specs.Bits.{x_bits, variance_bits, target_bits}
use Rattle.message.specs.declared.head.Head.{Head}
use Rattle.message.specs.declared.head.Head.TheVariants.{Reading, Query, Reply, Advert, Update, Vote, Setpoints, Due, CollectingEnds, VotingEnds, Floor, Start}
use Rattle.message.specs.Head.{carry, carried, head_fits}
use Rattle.message.specs.Message.{message_fits}
use Rattle.fields.proofs.Cases.{by_lt, absurd_by}
use Rattle.lines.specs.declared.kind.Kind.{Kind}
use Rattle.lines.specs.declared.kind.Kind.TheVariants.{Reading as OfReading, Query as OfQuery, Reply as OfReply, Advert as OfAdvert, Update as OfUpdate, Vote as OfVote, Setpoints as OfSetpoints, Due as OfDue, CollectingEnds as OfCollectingEnds, VotingEnds as OfVotingEnds, Floor as OfFloor, Start as OfStart, Refused as OfRefused, Sizes, Filter, Run}
use Rattle.lines.specs.declared.table.Quantity.{Quantity}
use Rattle.lines.specs.declared.table.Quantity.TheVariants.{Raw, X, Variance, Target}
use Rattle.lines.specs.Lists.{column, joined}
use Rattle.lines.specs.Reading.{limit_after}
use Rattle.lines.specs.Table.{kind_of, row, quantity_at, count_of, runs_of}
use Rattle.lines.specs.Values.{head_of, message_with, message_of, kind_is, head_values, numbers_of}
use Rattle.lines.proofs.Adding.{roomy}
use Rattle.lines.proofs.Arrays.{rank, raw_at, floats_at, target_at, readings_fit_lem, estimates_fit, targets_fit_lem, raws_again, floats_again, targets_again, raws_front, floats_front, targets_front, rank_mono, rank_suc}
use Rattle.lines.proofs.Columns.{is_column}
use Rattle.lines.proofs.Quantities.{HeadSays, head_says, head_back, raw_said, x_said, variance_said, target_said}
use Rattle.lines.proofs.Sending.{group_runs}
use Rattle.lines.proofs.Spelled.{Fit, fit_all, fit_append, fits_each}
use Rattle.lines.proofs.Wire.{Readable}

pub record Meant (k : Kind) (s : Group) (vs : List ℕ) : Type 0 where
  pub fits : message_fits s (message_of s k vs) ≡ true
  pub back : numbers_of s (message_of s k vs) ≡ vs
  pub kind : kind_is (message_of s k vs).head ≡ k

-- THE FIRST NUMBERS of a list
firsts : (n : ℕ) (vs : List ℕ) → n ≤ length vs → column (λ i. get_or vs i 0) n ≡ take n vs
firsts n vs h = sym (is_column (λ i. get_or vs i 0) 0 n (take n vs) (length-take-le n vs h) (λ i l. get_or-take n vs i 0 l))

of_all : (n : ℕ) (vs : List ℕ) → length vs ≡ n → column (λ i. get_or vs i 0) n ≡ vs
of_all n vs e = firsts n vs (omega arith) ∙ take_all n vs (omega arith)

pub of_two : (vs : List ℕ) → length vs ≡ 2 → get_or vs 0 0 ∷ get_or vs 1 0 ∷ [] ≡ vs
unfolding column
of_two vs e = of_all 2 vs e

pub of_three : (vs : List ℕ) → length vs ≡ 3 → get_or vs 0 0 ∷ get_or vs 1 0 ∷ get_or vs 2 0 ∷ [] ≡ vs
unfolding column
of_three vs e = of_all 3 vs e

from : (n : ℕ) (vs : List ℕ) → n ≤ length vs → column (λ i. get_or vs i 0) n ++ drop n vs ≡ vs
from n vs h = rw (firsts n vs h) (take-append-drop n vs)

-- A HEAD WHOSE NUMBERS ARE A LINE'S FIRST, with those in range after it that it carries
module _ (k : Kind) (s : Group) (vs : List ℕ) (g : group_fits s ≡ true) (f : fit_all (limit_after k s) [] vs ≡ true) (h : Head) (ke : kind_is h ≡ k)
    (ra : (i : ℕ) → i < 16 → in_mask (carried s h).readings i ≡ true → get_or vs (3 + rank (carried s h).readings i) 0 ≤ raw_top)
    (fl : (i : ℕ) → i < (carried s h).estimates → i < 16 → (get_or vs (2 + 2 * i) 0 ≤ x_bits) × (get_or vs (3 + 2 * i) 0 ≤ variance_bits))
    (ta : (i : ℕ) → i < (carried s h).targets → i < 16 → get_or vs (4 + i) 0 ≤ target_bits)
    (tail : List ℕ) (all : head_values h ++ tail ≡ vs)
    (arrays : joined (raw_at (carried s h).readings vs) 16 ++ (joined (floats_at vs) (carried s h).estimates ++ joined (target_at vs) (carried s h).targets) ≡ tail) where
  says : HeadSays s h tail
  says = head_says s h tail g (group_runs s g).1

  head_fits_lem : head_fits s h ≡ true
  head_fits_lem =
      sym says.fit
      ∙ rw ke (and_left (fit_all (limit_after k s) [] (head_values h)) (fit_all (limit_after k s) (head_values h) tail) (sym (fit_append (limit_after k s) [] (head_values h) tail) ∙ rw all f))

  meant : Meant k s vs
  unfolding message_fits message_with numbers_of
  meant =
      let he : head_of k (get_or vs 0 0) (get_or vs 1 0) (get_or vs 2 0) (get_or vs 3 0) ≡ h = rw (← all, ← ke) (head_back says head_fits_lem) in
      let c = carried s h in
      let r = roomy s h [] (group_runs s g).1 in
      record {
        fits = rw (he, g, head_fits_lem, readings_fit_lem c.readings vs ra, estimates_fit c.estimates vs fl, targets_fit_lem c.targets vs ta);
        back = rw (he, raws_again c.readings vs ra, floats_again c.estimates vs r.runs fl, targets_again c.targets vs r.shares ta, arrays) all;
        kind = rw he ke;
      }

nothing : (vs : List ℕ) (n : ℕ) → joined (raw_at 0 vs) n ≡ []
unfolding joined pick
nothing vs zero = refl
nothing vs (suc n) = rw (nothing vs n, no_run n)

-- THE KINDS
module _ (k : Kind) (s : Group) (vs : List ℕ) (g : group_fits s ≡ true) where
  -- a head that carries nothing
  meant_plain : Fit k s vs → (h : Head) → kind_is h ≡ k → carried s h ≡ carry 0 0 0 → head_values h ≡ vs → Meant k s vs
  unfolding joined
  meant_plain f h ke ce all =
      meant k s vs g f.inside h ke
      (rw ce (λ i l t. absurd_by (let z = no_run i in cc)))
      (rw ce (λ i l b. absurd (omega arith)))
      (rw ce (λ i l b. absurd (omega arith)))
      [] (append-nil (head_values h) ∙ all) (rw (ce, nothing vs 16))

-- WHAT STANDS AFTER THE HEAD: R's raws, U's floats, S's targets
row_later : (j : ℕ) (a b c d : Quantity) → 3 ≤ j → row j a b c d ≡ d
row_later j a b c d h = rw (ne_eqb j 0 (λ e. absurd (omega arith)), ne_eqb j 1 (λ e. absurd (omega arith)), ne_eqb j 2 (λ e. absurd (omega arith)))

pub reply_later : (j : ℕ) → 3 ≤ j → quantity_at OfReply j ≡ Raw
unfolding quantity_at
reply_later j h = row_later j _ _ _ _ h

pub update_x : (i : ℕ) → quantity_at OfUpdate (2 + 2 * i) ≡ X
unfolding quantity_at
update_x i =
    let z : (2 + 2 * i) % 2 ≡ 0 = omega arith in
    by_lt i 1 (λ h. let q : i ≡ 0 = omega arith in rw q) (λ h. row_later (2 + 2 * i) _ _ _ _ (omega arith) ∙ rw (eq-eqb ((2 + 2 * i) % 2) 0 z))

pub update_variance : (i : ℕ) → quantity_at OfUpdate (3 + 2 * i) ≡ Variance
unfolding quantity_at
update_variance i = let z : (3 + 2 * i) % 2 ≡ 1 = omega arith in row_later (3 + 2 * i) _ _ _ _ (omega arith) ∙ rw (ne_eqb ((3 + 2 * i) % 2) 0 (λ e. absurd (omega arith)))

pub setpoints_later : (j : ℕ) → 4 ≤ j → quantity_at OfSetpoints j ≡ Target
unfolding quantity_at
setpoints_later j h = row_later j _ _ _ _ (omega arith) ∙ rw (ne_eqb j 3 (λ e. absurd (omega arith)))

module _ (s : Group) (vs : List ℕ) (g : group_fits s ≡ true) where
  meant_reply : Fit OfReply s vs → Meant OfReply s vs
  unfolding kind_is carried head_values joined count_of column
  meant_reply w =
      let mask = get_or vs 2 0 in
      let f = fits_each OfReply s vs refl w.inside in
      let c : length vs ≡ 3 + ones (mask % 65536) = w.counted in
      let x = length-drop 3 vs in
      let n : length (drop 3 vs) ≤ rank mask 16 = omega arith in
      meant OfReply s vs g w.inside (Reply (get_or vs 0 0) (record { 0 = get_or vs 1 0 }) mask) refl
      (λ i l t.
      let q = rw t at (rank_suc mask i) in
      let y = rank_mono mask (suc i) 16 (omega arith) in
      let z : 3 + rank mask i < length vs = omega arith in
      leb-true _ raw_top (sym (raw_said s (get_or vs 1 0) _) ∙ (rw (reply_later (3 + rank mask i) (omega arith)) at (f (3 + rank mask i) z))))
      (λ i l b. absurd (omega arith)) (λ i l b. absurd (omega arith)) (drop 3 vs) (from 3 vs (omega arith))
      (rw (raws_front mask vs (omega arith), take_all (rank mask 16) (drop 3 vs) n, append-nil (drop 3 vs)))

  meant_update : Fit OfUpdate s vs → Meant OfUpdate s vs
  unfolding kind_is carried head_values joined count_of column
  meant_update w =
      let f = fits_each OfUpdate s vs refl w.inside in
      let c : length vs ≡ 2 + 2 * runs_of s.m = w.counted in
      let m = (group_runs s g).1 in
      let x = length-drop 2 vs in
      let n : length (drop 2 vs) ≤ 2 * s.m = omega arith in
      meant OfUpdate s vs g w.inside (Update (get_or vs 0 0) (record { 0 = get_or vs 1 0 })) refl
      (λ i l t. absurd_by (let z = no_run i in cc))
      (λ i l b.
      let p : 2 + 2 * i < length vs = omega arith in
      let q : 3 + 2 * i < length vs = omega arith in
      (leb-true _ x_bits (sym (x_said s (get_or vs 1 0) _) ∙ (rw (update_x i) at (f (2 + 2 * i) p))), leb-true _ variance_bits (sym (variance_said s (get_or vs 1 0) _) ∙ (rw (update_variance i) at (f (3 + 2 * i) q)))))
      (λ i l b. absurd (omega arith)) (drop 2 vs) (from 2 vs (omega arith))
      (rw (nothing vs 16, floats_front s.m vs (omega arith), take_all (2 * s.m) (drop 2 vs) n, append-nil (drop 2 vs)))

  meant_setpoints : Fit OfSetpoints s vs → Meant OfSetpoints s vs
  unfolding kind_is carried head_values joined count_of column
  meant_setpoints w =
      let f = fits_each OfSetpoints s vs refl w.inside in
      let c : length vs ≡ 4 + runs_of s.m = w.counted in
      let m = (group_runs s g).1 in
      let x = length-drop 4 vs in
      let n : length (drop 4 vs) ≤ s.m = omega arith in
      meant OfSetpoints s vs g w.inside (Setpoints (get_or vs 0 0) (record { 0 = get_or vs 1 0 }) (record { mask = get_or vs 3 0; state = record { 0 = get_or vs 2 0 } })) refl
      (λ i l t. absurd_by (let z = no_run i in cc))
      (λ i l b. absurd (omega arith))
      (λ i l b. let p : 4 + i < length vs = omega arith in leb-true _ target_bits (sym (target_said s (get_or vs 1 0) _) ∙ (rw (setpoints_later (4 + i) (omega arith)) at (f (4 + i) p))))
      (drop 4 vs) (from 4 vs (omega arith))
      (rw (nothing vs 16, targets_front s.m vs (omega arith), take_all s.m (drop 4 vs) n))

-- ALL KINDS
pub meaning : (k : Kind) (s : Group) (vs : List ℕ) → group_fits s ≡ true → Readable k → Fit k s vs → Meant k s vs
unfolding count_of kind_of pick kind_is carried head_values column
meaning OfReply s vs g r f = meant_reply s vs g f
meaning OfUpdate s vs g r f = meant_update s vs g f
meaning OfSetpoints s vs g r f = meant_setpoints s vs g f
meaning OfReading s vs g r f = meant_plain _ s vs g f (Reading (record { 0 = get_or vs 0 0 }) (get_or vs 1 0) (get_or vs 2 0)) refl refl (of_all 3 vs f.counted)
meaning OfQuery s vs g r f = meant_plain _ s vs g f (Query (get_or vs 0 0) (record { 0 = get_or vs 1 0 }) (get_or vs 2 0)) refl refl (of_all 3 vs f.counted)
meaning OfAdvert s vs g r f = meant_plain _ s vs g f (Advert (get_or vs 0 0) (record { 0 = get_or vs 1 0 })) refl refl (of_all 2 vs f.counted)
meaning OfVote s vs g r f =
    meant_plain _ s vs g f (Vote (get_or vs 0 0) (record { 0 = get_or vs 1 0 }) (record { mask = get_or vs 3 0; state = record { 0 = get_or vs 2 0 } })) refl refl (of_all 4 vs f.counted)
meaning OfDue s vs g r f = meant_plain _ s vs g f (Due (record { 0 = get_or vs 0 0 })) refl refl (of_all 1 vs f.counted)
meaning OfCollectingEnds s vs g r f = meant_plain _ s vs g f (CollectingEnds (record { 0 = get_or vs 0 0 })) refl refl (of_all 1 vs f.counted)
meaning OfVotingEnds s vs g r f = meant_plain _ s vs g f (VotingEnds (record { 0 = get_or vs 0 0 })) refl refl (of_all 1 vs f.counted)
meaning OfFloor s vs g r f = meant_plain _ s vs g f (Floor (record { 0 = get_or vs 0 0 })) refl refl (of_all 1 vs f.counted)
meaning OfStart s vs g r f = meant_plain _ s vs g f (Start (get_or vs 0 0) (record { 0 = get_or vs 1 0 })) refl refl (of_all 2 vs f.counted)
meaning OfRefused s vs g r f = absurd_by (cc)
meaning Sizes s vs g r f = absurd_by (cc)
meaning Filter s vs g r f = absurd_by (cc)
meaning Run s vs g r f = absurd_by (cc)
