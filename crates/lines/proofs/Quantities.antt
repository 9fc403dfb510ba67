-- What each quantity's range says of a number, and what a head in range says of its numbers. Assumes nothing.
use Prim.Native.Nat.{ℕ, ◌+◌, ◌-◌, ◌*◌, ◌≤◌, ◌<◌, min}
use mathlib.Core.Path.{◌≡◌, refl, ◌∙◌}
use mathlib.Core.Bool.{Bool, true, false, ◌&&◌, and-true, and-false, and_assoc, and_comm}
use mathlib.Core.List.{List, [], ◌++◌}
use native.Mathlib.Omega.{arith}
use lib.Count.{ones}
use lib.Dec.{leb, ltb, leb-zero}
use lib.ListN.{length, get_or, take}
use lib.Seq.{length-take-le}
use lib.Pow.{pow_mono}
use borrow.Author.Tests.{le-leb, lt-leb, lt-ltb, le-ltb}
use Rattle.units.specs.declared.settings.Group.{Group}
use Rattle.units.specs.Limits.{label_top, raw_top, number_top}
use Rattle.units.specs.Mask.{mask_end, mask_fits}
use Rattle.units.specs.Settings.{group_fits}
use Rattle.units.specs.Within.{within}
use Rattle.units.proofs.InRange.{within_range}
use Rattle.units.proofs.Masks.{some_mask}
use Rattle.floats.specs.Bits.{x_bits, variance_bits, target_bits}
use Rattle.vote.specs.Digest.{legal}
use Rattle.message.specs.declared.head.Head.{Head}
use Rattle.message.specs.declared.head.Head.TheVariants.{Reading, Query, Reply, Advert, Update, Vote, Setpoints, Due, CollectingEnds, VotingEnds, Floor, Start, Refused}
use Rattle.message.specs.Head.{carried, head_fits}
use Rattle.fields.specs.declared.spelling.Spelling.{Spelling}
use Rattle.fields.specs.declared.spelling.Spelling.TheVariants.{Decimal, Hex4, Hex16}
use Rattle.fields.specs.Field.{fits, limit}
use Rattle.fields.proofs.Cases.{by_test, by_lt}
use Rattle.fields.proofs.Spellings.{fits_range}
use Rattle.lines.specs.declared.kind.Kind.{Kind}
use Rattle.lines.specs.declared.table.Quantity.TheVariants.{Sender, RunNumber, Round, State, Base, Mask, Raw, X, Variance, Target, Number}
use Rattle.lines.specs.Reading.{limit_after}
use Rattle.lines.specs.Table.{limit_for, quantity_at, spelling_of, count_of}
use Rattle.lines.specs.Values.{word, head_of, kind_is, head_values}
use Rattle.lines.proofs.Arrays.{word_is, rank}
use Rattle.lines.proofs.Sending.{group_runs, group_senders}
use Rattle.lines.proofs.Spelled.{fits_by, fit_all, fit_at, spelling_is}

few_masks : (m : ℕ) → mask_end m ≤ 65536
few_masks m = pow_mono {i = min m 16} {j = 16} (omega arith)

and_sure : (b c : Bool) → (b ≡ true → c ≡ true) → (b && c) ≡ b
and_sure true c h = h refl
and_sure false c h = refl

-- A RANGE that its spelling can say whole
module _ (sp : Spelling) (n : ℕ) where
  range_is : (low high : ℕ) → high ≤ limit sp → fits sp low high n ≡ within low high n
  unfolding fits
  range_is low high h = and_sure (within low high n) (leb n (limit sp)) (λ e. le-leb n (limit sp) (let r = within_range low high n e in omega arith))

  upto_is : (high : ℕ) → high ≤ limit sp → fits sp 0 high n ≡ leb n high
  upto_is high h = range_is 0 high h ∙ rw (leb-zero n)

  below_is : (low end : ℕ) → 1 ≤ end → end - 1 ≤ limit sp → fits sp low (end - 1) n ≡ (leb low n && ltb n end)
  below_is low end p h =
      range_is low (end - 1) h
      ∙ by_lt n end (λ l. rw (lt-ltb n end l, le-leb n (end - 1) (omega arith))) (λ l. rw (le-ltb n end l, lt-leb n (end - 1) (omega arith)))

-- THE QUANTITIES of a message: in range on the line exactly where they are in the value
module _ (s : Group) (given n : ℕ) where
  round_said : fits_by (limit_for Round s given) n ≡ within 1 label_top n
  unfolding limit_for
  round_said = range_is Decimal n 1 label_top (omega arith)

  state_said : fits_by (limit_for State s given) n ≡ leb n label_top
  unfolding limit_for
  state_said = upto_is Decimal n label_top (omega arith)

  sender_said : group_fits s ≡ true → fits_by (limit_for Sender s given) n ≡ ltb n s.g
  unfolding limit_for
  sender_said g = let b = group_senders s g in below_is Decimal n 0 s.g (omega arith) (omega arith) ∙ rw (leb-zero n)

  run_said : group_fits s ≡ true → fits_by (limit_for RunNumber s given) n ≡ ltb n s.m
  unfolding limit_for
  run_said g = let b = group_runs s g in below_is Decimal n 0 s.m (omega arith) (omega arith) ∙ rw (leb-zero n)

  base_said : within 1 label_top given ≡ true → fits_by (limit_for Base s given) n ≡ ltb n given
  unfolding limit_for
  base_said e = let r = within_range 1 label_top given e in below_is Decimal n 0 given (omega arith) (omega arith) ∙ rw (leb-zero n)

  pub mask_said : fits_by (limit_for Mask s given) n ≡ mask_fits s.m n
  unfolding limit_for
  mask_said = let a = few_masks s.m in below_is Hex4 n 1 (mask_end s.m) (some_mask s.m) (omega arith)

  number_said : fits_by (limit_for Number s given) n ≡ within 1 number_top n
  unfolding limit_for
  number_said = range_is Decimal n 1 number_top (omega arith)

  pub raw_said : fits_by (limit_for Raw s given) n ≡ leb n raw_top
  unfolding limit_for
  raw_said = upto_is Decimal n raw_top (omega arith)

  pub x_said : fits_by (limit_for X s given) n ≡ leb n x_bits
  unfolding limit_for
  x_said = upto_is Hex16 n x_bits (omega arith)

  pub variance_said : fits_by (limit_for Variance s given) n ≡ leb n variance_bits
  unfolding limit_for
  variance_said = upto_is Hex16 n variance_bits (omega arith)

  pub target_said : fits_by (limit_for Target s given) n ≡ leb n target_bits
  unfolding limit_for
  target_said = upto_is Hex16 n target_bits (omega arith)

-- D and S: a digest is in range where its numbers are, in their order
voted : (s : Group) (sender label state mask : ℕ) → group_fits s ≡ true
    → (fits_by (limit_for Sender s 0) sender && (fits_by (limit_for Round s 0) label && (fits_by (limit_for Base s label) state && (fits_by (limit_for Mask s label) mask && true))))
    ≡ (ltb sender s.g && within 1 label_top label && (leb s.m 16 && mask_fits s.m mask && ltb state label))
voted s sender label state mask g =
    rw (sender_said s 0 sender g, round_said s 0 label, mask_said s label mask, le-leb s.m 16 (group_runs s g).1, and-true (mask_fits s.m mask))
    (by_test (within 1 label_top label)
    (λ t. rw (base_said s label state t, t, and-true (ltb sender s.g), and_comm (ltb state label) (mask_fits s.m mask)))
    (λ t. rw (t, and-false (ltb sender s.g))))

-- WHAT A HEAD SAYS OF ITS NUMBERS, with others after them: in range exactly where it is, they make it again if no float is among them, and how many there are with what it carries
abbrev head_from : Kind → List ℕ → Head
head_from k vs = head_of k (get_or vs 0 0) (get_or vs 1 0) (get_or vs 2 0) (get_or vs 3 0)

abbrev Words : Head → Type 0
Words h = (i : ℕ) → (i < length (head_values h)) × (limit (spelling_of (quantity_at (kind_is h) i)) ≤ label_top) → word (get_or (head_values h) i 0) ≡ get_or (head_values h) i 0

pub record HeadSays (s : Group) (h : Head) (t : List ℕ) : Type 0 where
  pub fit : fit_all (limit_after (kind_is h) s) [] (head_values h) ≡ head_fits s h
  pub by_words : Words h → head_from (kind_is h) (head_values h ++ t) ≡ h
  pub count : length (head_values h) + (rank (carried s h).readings 16 + (2 * (carried s h).estimates + (carried s h).targets)) ≡ count_of (kind_is h) s (get_or (head_values h ++ t) 2 0)

pub head_back : {s : Group} {h : Head} {t : List ℕ} → HeadSays s h t → head_fits s h ≡ true → head_from (kind_is h) (head_values h ++ t) ≡ h
head_back {s} {h} w e = w.by_words (λ i b.
    let r = (fits_range _ _ _ _ (fit_at (limit_after (kind_is h) s) [] (head_values h) (w.fit ∙ e) i b.0)).can in
    let q = spelling_is (quantity_at (kind_is h) (length (take i (head_values h)))) s (get_or (take i (head_values h)) 1 0) in
    let l = length-take-le i (head_values h) (omega arith) in
    word_is _ (omega (arith, rw (q, l) at r)))

pub head_says : (s : Group) (h : Head) (t : List ℕ) → group_fits s ≡ true → s.m ≤ 16 → HeadSays s h t
unfolding fit_all quantity_at kind_is head_values head_fits legal head_of carried count_of ones
head_says s (Reading label run raw) t g m = record { fit = simp (round_said, run_said, raw_said, and-true, and_assoc); by_words = λ w. rw (w 0 (omega arith), w 2 (omega arith)); count = omega arith }
head_says s (Query sender label mask) t g m = record { fit = simp (sender_said, round_said, mask_said, and-true, and_assoc); by_words = λ w. rw (w 1 (omega arith), w 2 (omega arith)); count = omega arith }
head_says s (Reply sender label mask) t g m = record { fit = simp (sender_said, round_said, mask_said, and-true, and_assoc); by_words = λ w. rw (w 1 (omega arith), w 2 (omega arith)); count = omega arith }
head_says s (Advert sender state) t g m = record { fit = simp (sender_said, state_said, and-true); by_words = λ w. rw (w 1 (omega arith)); count = omega arith }
head_says s (Update sender state) t g m = record { fit = simp (sender_said, state_said, and-true); by_words = λ w. rw (w 1 (omega arith)); count = omega arith }
head_says s (Vote sender label digest) t g m =
    record { fit = voted s sender label.0 digest.state.0 digest.mask g; by_words = λ w. rw (w 1 (omega arith), w 2 (omega arith), w 3 (omega arith)); count = omega arith }
head_says s (Setpoints sender label digest) t g m =
    record { fit = voted s sender label.0 digest.state.0 digest.mask g; by_words = λ w. rw (w 1 (omega arith), w 2 (omega arith), w 3 (omega arith)); count = omega arith }
head_says s (Due label) t g m = record { fit = simp (round_said, and-true); by_words = λ w. rw (w 0 (omega arith)); count = omega arith }
head_says s (CollectingEnds label) t g m = record { fit = simp (round_said, and-true); by_words = λ w. rw (w 0 (omega arith)); count = omega arith }
head_says s (VotingEnds label) t g m = record { fit = simp (round_said, and-true); by_words = λ w. rw (w 0 (omega arith)); count = omega arith }
head_says s (Floor label) t g m = record { fit = simp (round_said, and-true); by_words = λ w. rw (w 0 (omega arith)); count = omega arith }
head_says s (Start own floor) t g m = record { fit = simp (sender_said, state_said, and-true); by_words = λ w. rw (w 1 (omega arith)); count = omega arith }
head_says s (Refused number) t g m = record { fit = simp (number_said, and-true); by_words = λ w. rw (w 0 (omega arith)); count = omega arith }
