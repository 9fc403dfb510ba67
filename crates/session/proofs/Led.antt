-- A SESSION GOES BY TURNS: after any pieces of an input that ends in a line feed it stands where the turns of its lines lead, and has written exactly their texts. Assumes nothing.
use Prim.Native.Nat.{ℕ, ◌+◌}
use native.Mathlib.Omega.{arith}
use mathlib.Core.Path.{◌≡◌, refl, sym, ap, ◌∙◌}
use mathlib.Core.Bool.{true}
use mathlib.Core.List.{List, [], ◌∷◌, ◌++◌, append-nil, append_assoc, Memᴰ}
use lib.ListN.{length, drop}
use lib.Seq.{drop-length}
use borrow.Author.Tests.{eqb-true}
use Rattle.fields.specs.Text.{line_feed, until}
use Rattle.fields.proofs.Texts.{until_lacks}
use Rattle.fields.specs.Lines.{feed_at, unfinished, lines_of}
use Rattle.fields.proofs.Lines.{lines_feed, lines_none, unfinished_feed, feed_split}
use Rattle.lines.specs.Reading.{ended_once}
use Rattle.session.specs.declared.feed.Session.{Session}
use Rattle.session.specs.Booting.{led, told, input_of, LedTo}
use Rattle.session.specs.Feeding.{session_start}
use Rattle.session.specs.Pieces.{Feeds}
use Rattle.session.specs.Turn.{core_start}
use Rattle.session.proofs.Whole.{start_stands, run}

-- an input that ends in a line feed has nothing after its last one
pub ends_whole : (s : List ℕ) → unfinished (s ++ (line_feed ∷ [])) ≡ []
unfolding unfinished
ends_whole s = unfinished_feed s []

-- FED IN ANY PIECES: each line is one turn, and nothing else is done or written
pub fed_led : {input out : List ℕ} {y : Session} → Feeds session_start input out y → unfinished input ≡ [] → LedTo out (lines_of input) y
unfolding session_start
fed_led {input} {out} {y} f e =
    let r = run f [] start_stands in
    let c : lines_of input ≡ r.lines = r.cut ∙ ap (λ (p : List ℕ). r.lines ++ lines_of p) (sym r.left ∙ e) ∙ ap (λ (l : List (List ℕ)). r.lines ++ l) lines_none ∙ append-nil r.lines in
    (r.core ∙ ap (led core_start) (sym c), r.text ∙ ap (told core_start) (sym c))

-- ---- lines, each with its one line feed last, as one input
line_parts : (l : List ℕ) → ended_once l ≡ true → l ≡ until line_feed l ++ (line_feed ∷ [])
line_parts l e =
    let n : feed_at l + 1 ≡ length l = eqb-true (feed_at l + 1) (length l) e in
    feed_split l (λ q. omega arith) ∙ ap (λ (t : List ℕ). until line_feed l ++ (line_feed ∷ t)) (ap (λ (k : ℕ). drop k l) n ∙ drop-length l)

lines_of_lem : (ls : List (List ℕ)) → ((l : List ℕ) → Memᴰ l ls → ended_once l ≡ true) → lines_of (input_of ls) ≡ ls
unfolding input_of
lines_of_lem [] f = lines_none
lines_of_lem (l ∷ ls) f =
    let p = line_parts l (f l (Memᴰ.head refl)) in
    let u = until line_feed l in
    ap (λ (x : List ℕ). lines_of (x ++ input_of ls)) p
    ∙ ap lines_of (append_assoc u (line_feed ∷ []) (input_of ls))
    ∙ lines_feed u (input_of ls) (until_lacks line_feed l)
    ∙ (λ i. sym p i ∷ lines_of_lem ls (λ k m. f k (Memᴰ.tail m)) i)

input_whole : (ls : List (List ℕ)) → ((l : List ℕ) → Memᴰ l ls → ended_once l ≡ true) → unfinished (input_of ls) ≡ []
unfolding input_of unfinished
input_whole [] f = refl
input_whole (l ∷ ls) f =
    let p = line_parts l (f l (Memᴰ.head refl)) in
    let u = until line_feed l in
    ap (λ (x : List ℕ). unfinished (x ++ input_of ls)) p
    ∙ ap unfinished (append_assoc u (line_feed ∷ []) (input_of ls))
    ∙ unfinished_feed u (input_of ls) ∙ input_whole ls (λ k m. f k (Memᴰ.tail m))

-- WHOLE LINES, fed as bytes in any pieces
pub lines_led : (ls : List (List ℕ)) → ((l : List ℕ) → Memᴰ l ls → ended_once l ≡ true) → {out : List ℕ} {y : Session} → Feeds session_start (input_of ls) out y → LedTo out ls y
lines_led ls w {out} {y} f = let r = fed_led f (input_whole ls w) in (r.0 ∙ ap (led core_start) (lines_of_lem ls w), r.1 ∙ ap (told core_start) (lines_of_lem ls w))
