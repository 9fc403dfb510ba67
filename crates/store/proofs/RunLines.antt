-- THE K LINES of settings in range: none is longer than 37 bytes, and each ends in its one line feed. Assumes nothing.
use Prim.Native.Nat.{ℕ, zero, suc, ◌+◌, ◌-◌, ◌*◌, ◌^◌, ◌≤◌, ◌<◌}
use mathlib.Core.Path.{◌≡◌, refl, ◌∙◌}
use mathlib.Core.List.{List, [], ◌∷◌, ◌++◌}
use mathlib.Core.Bool.{true}
use native.Mathlib.Omega.{arith}
use lib.Dec.{lit<}
use lib.ListN.{length, get_or, length-append}
use borrow.Author.Tests.{ne_eqb}
use Rattle.units.specs.Pick.{pick}
use Rattle.message.specs.declared.settings.Settings.{Settings}
use Rattle.message.specs.Settings.{no_certificate, settings_fit}
use Rattle.message.proofs.InRange.{settings_exact}
use Rattle.fields.specs.declared.spelling.Spelling.TheVariants.{Decimal, Factor}
use Rattle.fields.specs.Certificate.{is_certificate}
use Rattle.fields.specs.Field.{limit, spelled}
use Rattle.fields.specs.Put.{written}
use Rattle.fields.specs.Text.{line_feed, tabbed, lacks, all_lack}
use Rattle.fields.proofs.Cases.{by_lt}
use Rattle.fields.proofs.Certificates.{certificate_lacks}
use Rattle.fields.proofs.Numbers.{decimal_short}
use Rattle.fields.proofs.Puts.{written_is, written_none}
use Rattle.fields.proofs.Spellings.{spelled_short}
use Rattle.fields.proofs.Texts.{lacks_append, tabbed_lacks}
use Rattle.lines.specs.declared.kind.Kind.TheVariants.{Run}
use Rattle.lines.specs.Lists.{joined}
use Rattle.lines.specs.Settings.{bytes_of, run_number, run_line as kLine, setting_line}
use Rattle.lines.specs.Table.{quantity_at, spelling_of}
use Rattle.lines.proofs.WholeSettings.{bytes_long, bytes_shown}
use Rattle.lines.proofs.Wire.{letter_lacks, written_lacks}
use Rattle.store.specs.Runs.{run_at, runs_text}

-- line 3 + i is run i's
pub line_is : (s : Settings) (i : ℕ) → run_at s i ≡ kLine i (bytes_of (get_or s.certificates i no_certificate)) (get_or s.numbers.factors i 0) (get_or s.numbers.weights i 0)
unfolding setting_line pick
line_is s i = let z : i + 3 - 3 ≡ i = omega arith in rw (ne_eqb (i + 3) 1 (λ e. absurd (omega arith)), ne_eqb (i + 3) 2 (λ e. absurd (omega arith)), z)

-- HOW LONG a field is
decimal_long : (j n : ℕ) → n < 10 ^ suc j → length (written Decimal n) ≤ suc j
unfolding spelled
decimal_long j n h = by_lt (limit Decimal) n (λ l. rw (written_none Decimal n l) (omega arith)) (λ l. rw (written_is Decimal n l) (decimal_short j n h))

factor_long : (n : ℕ) → length (written Factor n) ≤ 6
factor_long n = by_lt (limit Factor) n (λ l. rw (written_none Factor n l) (omega arith)) (λ l. rw (written_is Factor n l) (spelled_short Factor n l))

tabbed_long : (f : List ℕ) (fs : List (List ℕ)) → length (tabbed (f ∷ fs)) ≡ 1 + (length f + length (tabbed fs))
unfolding tabbed
tabbed_long f fs = let a = length-append f (tabbed fs) in omega arith

fields_short : (a cs f w : List ℕ) → length a ≤ 2 → length cs ≤ 16 → length f ≤ 6 → length w ≤ 4 → length (75 ∷ tabbed (a ∷ cs ∷ f ∷ w ∷ []) ++ (10 ∷ [])) ≤ 37
unfolding tabbed
fields_short a cs f w i j k l =
    let l5 = length-append (tabbed (a ∷ cs ∷ f ∷ w ∷ [])) (10 ∷ []) in
    let l4 = tabbed_long w [] in
    let l3 = tabbed_long f (w ∷ []) in
    let l2 = tabbed_long cs (f ∷ w ∷ []) in
    let l1 = tabbed_long a (cs ∷ f ∷ w ∷ []) in
    omega arith

line_short : (run : ℕ) (cs : List ℕ) (factor weight : ℕ) → run < 100 → length cs ≤ 16 → weight < 10000 → length (kLine run cs factor weight) ≤ 37
unfolding kLine quantity_at
line_short run cs factor weight a b c = fields_short (written Decimal run) cs (written Factor factor) (written Decimal weight) (decimal_long 1 run a) b (factor_long factor) (decimal_long 3 weight c)

-- AN ENDED LINE is a text with no line feed, and then one
pub record Ended (line : List ℕ) : Type 0 where
  pub text : List ℕ
  pub ends : line ≡ text ++ (line_feed ∷ [])
  pub none : lacks line_feed text ≡ true

-- a K line without its line feed
abbrev k_text : ℕ → List ℕ → ℕ → ℕ → List ℕ
k_text run cs factor weight = 75 ∷ tabbed (run_number 0 run ∷ cs ∷ run_number 1 factor ∷ run_number 2 weight ∷ [])

k_ends : (run : ℕ) (cs : List ℕ) (factor weight : ℕ) → kLine run cs factor weight ≡ k_text run cs factor weight ++ (line_feed ∷ [])
unfolding kLine
k_ends run cs factor weight = refl

fields_lack : (run : ℕ) (cs : List ℕ) (factor weight : ℕ) → is_certificate cs ≡ true → all_lack 10 (run_number 0 run ∷ cs ∷ run_number 1 factor ∷ run_number 2 weight ∷ []) ≡ true
unfolding all_lack
fields_lack run cs factor weight e =
    rw (
      written_lacks 10 (spelling_of (quantity_at Run 0)) run (lit< tt),
      certificate_lacks 10 cs (lit< tt) e,
      written_lacks 10 (spelling_of (quantity_at Run 1)) factor (lit< tt),
      written_lacks 10 (spelling_of (quantity_at Run 2)) weight (lit< tt),
    )

k_lacks : (run : ℕ) (cs : List ℕ) (factor weight : ℕ) → is_certificate cs ≡ true → lacks line_feed (k_text run cs factor weight) ≡ true
k_lacks run cs factor weight e =
    let fs = run_number 0 run ∷ cs ∷ run_number 1 factor ∷ run_number 2 weight ∷ [] in
    lacks_append 10 (75 ∷ []) (tabbed fs) (letter_lacks 10 Run (lit< tt)) (tabbed_lacks 10 fs (λ z. absurd (omega arith)) (fields_lack run cs factor weight e))

-- OF SETTINGS IN RANGE
module _ (s : Settings) (e : settings_fit s ≡ true) where
  -- no more than sixteen runs
  pub runs_top_lem : s.numbers.group.m ≤ 16
  runs_top_lem = ((settings_exact s).0 e).numbers.runs.1

  -- none is longer than 37 bytes
  pub run_short : (i : ℕ) → i < s.numbers.group.m → length (run_at s i) ≤ 37
  run_short i h =
      let r = (settings_exact s).0 e in
      let c = get_or s.certificates i no_certificate in
      let x = r.certificate i h in
      let w = r.numbers.weight i h in
      let n = runs_top_lem in
      let l = bytes_long c x in
      rw (line_is s i) (line_short i (bytes_of c) (get_or s.numbers.factors i 0) (get_or s.numbers.weights i 0) (omega arith) (let z = x.size in omega arith) (omega arith))

  -- the first k of them
  pub text_short : (k : ℕ) → k ≤ s.numbers.group.m → length (runs_text s k) ≤ 37 * k
  unfolding joined
  text_short zero h = omega arith
  text_short (suc k) h =
      let a = text_short k (omega arith) in
      let b = run_short k (omega arith) in
      let c = length-append (runs_text s k) (run_at s k) in
      omega arith

  -- each is ended
  pub run_ended : (i : ℕ) → i < s.numbers.group.m → Ended (run_at s i)
  run_ended i h =
      let c = get_or s.certificates i no_certificate in
      let f = get_or s.numbers.factors i 0 in
      let w = get_or s.numbers.weights i 0 in
      record {
        text = k_text i (bytes_of c) f w;
        ends = line_is s i ∙ k_ends i (bytes_of c) f w;
        none = k_lacks i (bytes_of c) f w (bytes_shown c (((settings_exact s).0 e).certificate i h));
      }
