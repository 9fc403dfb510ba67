-- X's numbers are the numbers of document 01's refusals, and no others. Assumes nothing.
use Prim.Native.Nat.{ℕ, zero, suc}
use native.Mathlib.Omega.{arith}
use mathlib.Core.Path.{◌≡◌, refl, sym, ap, ◌∙◌}
use mathlib.Core.Bool.{Bool, true, false, not}
use mathlib.Core.List.{List, [], ◌∷◌}
use lib.Dec.{eqb}
use lib.ListN.{get_or}
use borrow.Author.Tests.{eqb-true}
use Rattle.units.specs.declared.refusal.Refusal.{Refusal}
use Rattle.units.specs.declared.refusal.Refusal.TheVariants.{Long, Unended, Kind, Fields, Form, Range, Own, Late, Closed, Other, Clash, Undecided, Lacking, Behind, Settings, Room, SameDay, NoneInForce, Full}
use Rattle.units.specs.Refusal.{number_of, is_number, of_store}
use Rattle.units.specs.Every.{every}
use Rattle.units.proofs.Every.{no_way, every_at}
use Rattle.units.proofs.InRange.{within_range}

-- a refusal has a number of X, or it is the store's and has none
number_is : (why : Refusal) → is_number (number_of why) ≡ not (of_store why)
number_is Long = refl
number_is Unended = refl
number_is Kind = refl
number_is Fields = refl
number_is Form = refl
number_is Range = refl
number_is Own = refl
number_is Late = refl
number_is Closed = refl
number_is Other = refl
number_is Clash = refl
number_is Undecided = refl
number_is Lacking = refl
number_is Behind = refl
number_is (Settings line reason) = refl
number_is Room = refl
number_is SameDay = refl
number_is NoneInForce = refl
number_is Full = refl

-- document 01's table, in its order
in_turn : List Refusal
in_turn = Long ∷ Unended ∷ Kind ∷ Fields ∷ Form ∷ Range ∷ Own ∷ Late ∷ Closed ∷ Other ∷ Clash ∷ Undecided ∷ Lacking ∷ Behind ∷ Settings 1 1 ∷ Room ∷ []

abbrev named : ℕ → Bool
named i = eqb (number_of (get_or in_turn i Long)) (suc i)

all_named : every named 16 ≡ true
unfolding every in_turn
all_named = refl

not_back : (b : Bool) → not (not b) ≡ b
not_back true = refl
not_back false = refl

-- a number of X has its refusal, which is not the store's
of_number : (n : ℕ) → is_number n ≡ true → (why : Refusal) × (number_of why ≡ n) × (of_store why ≡ false)
of_number zero h = no_way h
of_number (suc i) h =
    let k = within_range 1 16 (suc i) h in
    let why = get_or in_turn i Long in
    let e = eqb-true (number_of why) (suc i) (every_at named 16 i all_named (omega arith)) in
    let x : is_number (number_of why) ≡ true = rw e h in
    (why, e, sym (not_back (of_store why)) ∙ ap not (sym (number_is why) ∙ x))

-- A NUMBER OF X EXACTLY WHEN some refusal of document 01's table has it: one that is not the store's
pub is_number_exact : (n : ℕ) → (is_number n ≡ true → (why : Refusal) × (number_of why ≡ n) × (of_store why ≡ false)) × ((why : Refusal) → number_of why ≡ n → of_store why ≡ false → is_number n ≡ true)
is_number_exact n = (of_number n, λ why e f. ap is_number (sym e) ∙ number_is why ∙ ap not f)
