-- A BLOCK HANDED OVER PIECE BY PIECE: what holds after each. Assumes nothing.
use Prim.Native.Nat.{ℕ, zero, suc, ◌-◌, ◌+◌, ◌≤◌}
use native.Mathlib.Omega.{arith}
use mathlib.Core.Path.{◌≡◌, sym, ap, subst, ◌∙◌}
use mathlib.Core.Bool.{Bool, true, false, ◌&&◌, true≢false}
use mathlib.Core.List.{List, [], ◌∷◌, ◌++◌, append-nil, append_assoc}
use lib.Dec.{ltb}
use lib.ListN.{length, take, drop, length-take}
use lib.Seq.{drop-nil, take-nil, take-add, take_all}
use borrow.Author.Tests.{ltb-false}
use Rattle.fields.proofs.Cases.{by_test}
use Rattle.session.specs.declared.feed.Session.{Session}
use Rattle.session.specs.Handling.{Hands}
use Rattle.session.specs.Handling.Hands.{none, more}
use Rattle.session.specs.Pieces.{Feeds}
use Rattle.station.specs.Serving.{Hand, Handover}

-- one piece more
hands_on : {x y z : Session} {a b text : List ℕ} {texts : List (List ℕ)} → Hands x a texts y → Feeds y b text z → Hands x (a ++ b) (texts ++ (text ∷ [])) z
hands_on {y = y} {z = z} {b = b} {text = text} none f = subst (λ (i : List ℕ). Hands y i (text ∷ []) z) (append-nil b) (more f none)
hands_on {b = b} (more {taken = taken} {rest = rest} g h) f = rw (append_assoc taken rest b) (more g (hands_on h f))

drop_take : (k n : ℕ) (l : List ℕ) → drop k (take n l) ≡ take (n - k) (drop k l)
drop_take zero n l = let e : n ≡ n - 0 = omega arith in ap {B = List ℕ} (λ (j : ℕ). take j l) e
drop_take (suc k) zero l = let e : 0 ≡ 0 - suc k = omega arith in drop-nil (suc k) ∙ ap {B = List ℕ} (λ (j : ℕ). take j (drop (suc k) l)) e
drop_take (suc k) (suc n) [] = let e : take (suc n - suc k) [] ≡ [] = take-nil (suc n - suc k) in drop-nil (suc k) ∙ sym e
drop_take (suc k) (suc n) (x ∷ l) = let e : n - k ≡ suc n - suc k = omega arith in drop_take k n l ∙ ap {B = List ℕ} (λ (j : ℕ). take j (drop k l)) e

-- the first bytes of a block were handed over
pub record Handing (x : Session) (block : List ℕ) (have at : ℕ) (y : Session) : Type 0 where
  pub within : at ≤ have
  pub texts : List (List ℕ)
  pub pieces : Hands x (take at (take have block)) texts y

module _ (x : Session) (block : List ℕ) (have : ℕ) where
  pub starts : Handing x block have 0 x
  starts = record { within = omega arith; texts = []; pieces = none }

  pub goes_on : {at took : ℕ} {text : List ℕ} {y z : Session} → Handing x block have at y → length (take (have - at) (drop at block)) ≡ have - at → Hand y (take (have - at) (drop at block)) took text z
      → Handing x block have (at + took) z
  goes_on {at} {took} {text} {y} {z} h l g =
      let f = subst (λ (p : List ℕ). Feeds y (take took p) text z) (sym (drop_take at have block)) g.calls in
      record {
        within = let w = h.within in let k = g.few in omega arith;
        texts = h.texts ++ (text ∷ []);
        pieces = rw (take-add at took (take have block)) (hands_on h.pieces f);
      }

  pub ends : {at : ℕ} {written : Bool} {y : Session} → Handing x block have at y → (ltb at have && written) ≡ false → Handover x (take have block) written y
  ends {at} {written} {y} h e = record { took = at; texts = h.texts; pieces = h.pieces; all = λ w. take_all at (take have block) (let k = ltb-false at have (none_left w) in let l = length-take have block in omega arith) }
    where
      none_left : written ≡ true → ltb at have ≡ false
      none_left w = by_test (ltb at have) (λ t. absurd (true≢false (sym (ap (λ (b : Bool). b && written) t ∙ w) ∙ e))) (λ t. t)
