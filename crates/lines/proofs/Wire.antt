-- THE LAWS OF A LINE: what is accepted is the one spelling of its numbers, and that spelling is read back. Assumes nothing.
use Rattle.std.specs.Prelude.{Option, Some, None, Err, Ok}
use Prim.Native.Nat.{ℕ, zero, suc, ◌+◌, ◌≤◌, ◌<◌}
use mathlib.Core.Path.{◌≡◌, refl, sym, ap, ◌∙◌}
use mathlib.Core.List.{List, [], ◌∷◌, ◌++◌, append-nil}
use mathlib.Core.Bool.{true}
use native.Mathlib.Omega.{arith}
use lib.Dec.{eqb, leb, lit<}
use lib.ListN.{length, get_or, drop, length-append}
use borrow.Author.Tests.{eq-eqb, ne_eqb, eqb-true, le-leb}
use Rattle.units.specs.declared.refusal.Refusal.{Refusal}
use Rattle.units.specs.declared.settings.Group.{Group}
use Rattle.units.specs.Pick.{pick}
use Rattle.units.specs.Settings.{group_fits}
use Rattle.units.proofs.Every.{and_left, and_right}
use Rattle.message.specs.declared.value.Message.{Message}
use Rattle.fields.specs.declared.spelling.Spelling.{Spelling}
use Rattle.fields.specs.Field.{limit}
use Rattle.fields.specs.Put.{written}
use Rattle.fields.specs.Text.{until, first_field, later_fields, fields_of, tabbed, lacks, all_lack}
use Rattle.fields.proofs.Cases.{by_test, by_lt, absurd_by}
use Rattle.fields.proofs.Puts.{written_is, written_none}
use Rattle.fields.proofs.Spellings.{spelled_lacks}
use Rattle.fields.proofs.Texts.{text_only, fields_back, tabbed_lacks, lacks_append, until_append}
use Rattle.fields.proofs.Scans.{feed_last}
use Rattle.lines.specs.declared.kind.Kind.{Kind}
use Rattle.lines.specs.declared.kind.Kind.TheVariants.{Reading, Query, Reply, Advert, Update, Vote, Setpoints, Due, CollectingEnds, VotingEnds, Floor, Start}
use Rattle.lines.specs.declared.read.Line.{Line}
use Rattle.lines.specs.Lists.{column}
use Rattle.lines.specs.Reading.{Got, values, stop, kind_in, line_with, read_values, read_known, read_text, ended_once, read_line}
use Rattle.lines.specs.Table.{letter_of, kind_of, quantity_at, spelling_of}
use Rattle.lines.specs.Values.{message_of}
use Rattle.lines.specs.Writing.{spelled_at, texts_to, line_of}
use Rattle.lines.proofs.Putting.{texts_short}
use Rattle.lines.proofs.Rows.{row_of, count_range}
use Rattle.lines.proofs.Spelled.{Fit, values_only, values_back, texts_are}

abbrev pub taken : Message → Line
taken a = record { verdict = Ok tt; message = a }

-- THE LETTER
letter_test : (c l : ℕ) (k j : Kind) (rest : Option Kind) → letter_of k ≡ l → pick (eqb c l) (Some k) rest ≡ Some j → (rest ≡ Some j → c ≡ letter_of j) → c ≡ letter_of j
unfolding pick
letter_test c l k j rest q =
    by_test (eqb c l) (λ t. rw t (λ e go. let z : k ≡ j = cc in eqb-true c l t ∙ sym q ∙ ap letter_of z)) (λ t. rw t (λ e go. go e))

pub letter_only : (c : ℕ) (j : Kind) → kind_of c ≡ Some j → c ≡ letter_of j
unfolding kind_of
letter_only c j e₀ =
    letter_test c 77 Reading j _ refl e₀ (λ e₁. letter_test c 81 Query j _ refl e₁ (λ e₂. letter_test c 82 Reply j _ refl e₂ (λ e₃. letter_test c 65 Advert j _ refl e₃
    (λ e₄. letter_test c 85 Update j _ refl e₄ (λ e₅. letter_test c 68 Vote j _ refl e₅ (λ e₆. letter_test c 83 Setpoints j _ refl e₆ (λ e₇. letter_test c 67 Due j _ refl e₇
    (λ e₈. letter_test c 69 CollectingEnds j _ refl e₈ (λ e₉. letter_test c 86 VotingEnds j _ refl e₉ (λ e₁₀. letter_test c 70 Floor j _ refl e₁₀
    (λ e₁₁. letter_test c 66 Start j _ refl e₁₁ (λ e₁₂. absurd_by (cc)))))))))))))

pub kind_only : (f : List ℕ) (k : Kind) → kind_in f ≡ Some k → f ≡ letter_of k ∷ []
kind_only [] k e = absurd_by (cc)
kind_only (c ∷ []) k e = ap (λ (x : ℕ). x ∷ []) (letter_only c k e)
kind_only (c ∷ d ∷ f) k e = absurd_by (cc)

-- a kind that is read as a message
abbrev pub Readable : Kind → Type 0
Readable k = kind_of (letter_of k) ≡ Some k

-- WHAT IS ACCEPTED
pub record Accepted (s : Group) (line : List ℕ) (a : Message) : Type 0 where
  pub kind : Kind
  pub numbers : List ℕ
  pub group : group_fits s ≡ true
  pub readable : Readable kind
  pub fit : Fit kind s numbers
  pub spelt : line ≡ line_of kind numbers
  pub message : a ≡ message_of s kind numbers

not_taken : {A : Type 0} (why : Refusal) (m a : Message) → ◌≡◌ {A = Line} (record { verdict = Err why; message = m }) (taken a) → A
not_taken why m a e = let z : Err why ≡ (Ok tt) = ap (λ (l : Line). l.verdict) e in absurd_by (cc)

module _ (s : Group) (line : List ℕ) (a : Message) (gr : group_fits s ≡ true) where
  known_only : (text : List ℕ) → line ≡ text ++ (10 ∷ []) → (k : Kind) → kind_in (first_field text) ≡ Some k → (g : Got) → read_values k s (later_fields text) ≡ g → line_with s k g ≡ taken a → Accepted s line a
  unfolding line_of
  known_only text le k ke (stop why) ge e = not_taken why _ a e
  known_only text le k ke (values vs) ge e =
      let w = values_only k s (later_fields text) vs ge in
      let t : text ≡ letter_of k ∷ tabbed (texts_to k vs (length vs)) =
      text_only text ∙ rw (kind_only (first_field text) k ke, w.spelt, texts_are k s vs w.fit.inside) in
      record {
        kind = k;
        numbers = vs;
        group = gr;
        readable = rw (kind_only (first_field text) k ke) at ke;
        fit = w.fit;
        spelt = le ∙ rw t;
        message = sym (ap (λ (l : Line). l.message) e);
      }

  text_accepted : (text : List ℕ) → line ≡ text ++ (10 ∷ []) → (f : Option Kind) → kind_in (first_field text) ≡ f → read_known s (later_fields text) f ≡ taken a → Accepted s line a
  text_accepted text le (Some k) ke e = known_only text le k ke (read_values k s (later_fields text)) refl e
  text_accepted text le None ke e = not_taken _ _ a e

pub line_accepted : (s : Group) (line : List ℕ) (a : Message) → read_line s line ≡ taken a → Accepted s line a
unfolding read_line read_text pick
line_accepted s line a =
    by_test (group_fits s)
    (λ g. rw g (by_test (leb (length line) 600)
    (λ l. rw l (by_test (ended_once line)
    (λ d. rw d (λ e. text_accepted s line a g (until 10 line) (feed_last line (eqb-true (length (until 10 line) + 1) (length line) d)) (kind_in (first_field (until 10 line))) refl e))
    (λ d. rw d (λ e. not_taken _ _ a e))))
    (λ l. rw l (λ e. not_taken _ _ a e))))
    (λ g. rw g (λ e. not_taken _ _ a e))

-- THE BYTES OF A LINE: no tab in a field, no line feed but the last
pub written_lacks : (b : ℕ) (sp : Spelling) (n : ℕ) → b < 46 → lacks b (written sp n) ≡ true
unfolding lacks
written_lacks b sp n h = by_lt (limit sp) n (λ l. rw (written_none sp n l)) (λ l. rw (written_is sp n l) (spelled_lacks b sp n h))

lack_append : (b : ℕ) (xs ys : List (List ℕ)) → all_lack b xs ≡ true → all_lack b ys ≡ true → all_lack b (xs ++ ys) ≡ true
unfolding all_lack
lack_append b [] ys p q = q
lack_append b (x ∷ xs) ys p q = rw (and_left (lacks b x) (all_lack b xs) p) (lack_append b xs ys (and_right (lacks b x) (all_lack b xs) p) q)

texts_lack : (b : ℕ) (k : Kind) (vs : List ℕ) (n : ℕ) → b < 46 → all_lack b (texts_to k vs n) ≡ true
unfolding column all_lack
texts_lack b k vs zero h = refl
texts_lack b k vs (suc n) h = lack_append b (texts_to k vs n) (spelled_at k vs n ∷ []) (texts_lack b k vs n h) (rw (written_lacks b (spelling_of (quantity_at k n)) (get_or vs n 0) h))

pub letter_lacks : (b : ℕ) (k : Kind) → b < 46 → lacks b (letter_of k ∷ []) ≡ true
unfolding lacks
letter_lacks b k h = rw (ne_eqb (letter_of k) b (λ e. let l = (row_of k).letter in omega arith))

abbrev pub text_of : Kind → List ℕ → List ℕ
text_of k vs = letter_of k ∷ tabbed (texts_to k vs (length vs))

text_lacks : (k : Kind) (vs : List ℕ) → lacks 10 (text_of k vs) ≡ true
text_lacks k vs = lacks_append 10 (letter_of k ∷ []) (tabbed (texts_to k vs (length vs))) (letter_lacks 10 k (lit< tt)) (tabbed_lacks 10 (texts_to k vs (length vs)) (λ e. absurd (omega arith)) (texts_lack 10 k vs (length vs) (lit< tt)))

-- a line ends in its only line feed
pub line_ends : (k : Kind) (vs : List ℕ) → (line_of k vs ≡ text_of k vs ++ (10 ∷ [])) × (lacks 10 (text_of k vs) ≡ true)
unfolding line_of
line_ends k vs = (refl, text_lacks k vs)

-- and is short enough
pub line_short : (k : Kind) (vs : List ℕ) → length vs ≤ 34 → length (line_of k vs) ≤ 600
unfolding line_of
line_short k vs h =
    let a = texts_short k vs (length vs) in
    let b = length-append (tabbed (texts_to k vs (length vs))) (10 ∷ []) in omega arith

-- WHAT IS IN RANGE is read back
module _ (k : Kind) (vs : List ℕ) where
  pub feed_at_lem : until 10 (line_of k vs) ≡ text_of k vs
  unfolding line_of until
  feed_at_lem = until_append 10 (text_of k vs) (10 ∷ []) (text_lacks k vs) ∙ append-nil (text_of k vs)

  pub ended_line : ended_once (line_of k vs) ≡ true
  ended_line = eq-eqb (length (until 10 (line_of k vs)) + 1) (length (line_of k vs)) (rw feed_at_lem (sym (ap length (line_ends k vs).0 ∙ length-append (text_of k vs) (10 ∷ []))))

  text_fields : fields_of (text_of k vs) ≡ (letter_of k ∷ []) ∷ texts_to k vs (length vs)
  text_fields = fields_back (letter_of k ∷ []) (texts_to k vs (length vs)) (letter_lacks 9 k (lit< tt)) (texts_lack 9 k vs (length vs) (lit< tt))

  pub first_is_letter : first_field (text_of k vs) ≡ letter_of k ∷ []
  first_is_letter = ap (λ (l : List (List ℕ)). get_or l 0 []) text_fields

  pub later_are_texts : later_fields (text_of k vs) ≡ texts_to k vs (length vs)
  later_are_texts = ap (drop 1) text_fields

pub line_back : (k : Kind) (s : Group) (vs : List ℕ) → group_fits s ≡ true → Readable k → Fit k s vs → read_line s (line_of k vs) ≡ taken (message_of s k vs)
unfolding read_line read_text pick
line_back k s vs g r f =
    let l : length (line_of k vs) ≤ 600 = line_short k vs (let a = f.counted in let b = count_range k s (get_or vs 2 0) in omega arith) in
    let b : read_values k s (texts_to k vs (length vs)) ≡ values vs = rw (← texts_are k s vs f.inside) (values_back k s vs f) in
    rw (g, le-leb (length (line_of k vs)) 600 l, ended_line k vs, feed_at_lem k vs, first_is_letter k vs, later_are_texts k vs, r, b)
