-- What an outcome leaves to do: bytes, or calls. Assumes nothing.
use Prim.Native.Nat.{ℕ, zero, suc, ◌+◌, ◌-◌, ◌≤◌, ◌<◌, min}
use native.Mathlib.Omega.{arith}
use mathlib.Core.Path.{◌≡◌, refl, ap, ◌∙◌}
use mathlib.Core.Bool.{Bool}
use lib.IntN.{ℤ, pos, negsuc}
use Rattle.std.specs.Prelude.{Result, Ok, Err, IfOk, IsErr}
use Rattle.std.specs.Result.{result_unwrap_or}
use Rattle.units.specs.Pick.{pick}
use Rattle.station.specs.declared.call.Stop.{Stop}
use Rattle.station.specs.declared.call.Stop.TheVariants.{Again, Failed}
use Rattle.station.specs.Calls.{is_interrupt, outcome_of, reads_again, writes_left}

-- no more bytes are moved than there are
moved_few : (got error : ℤ) (most : ℕ) → IfOk (outcome_of got error most) (λ n. n ≤ most)
unfolding outcome_of
moved_few (pos n) error most = omega arith
moved_few (negsuc n) error most = tt

pub moved_within : (got error : ℤ) (most : ℕ) {r : Result ℕ Stop} → r ≡ outcome_of got error most → IfOk r (λ n. n ≤ most)
moved_within got error most e = rw e (moved_few got error most)

-- a number of bytes that is not negative, and no more than there are, is what was moved; a negative one moved none
pub moved_all : (n most : ℕ) (got error : ℤ) {r : Result ℕ Stop} → got ≡ pos n → n ≤ most → r ≡ outcome_of got error most → r ≡ Ok n
unfolding outcome_of
moved_all n most got error g h e = e ∙ rw g (ap Ok (min_of n most h))
  where
    min_of : (a b : ℕ) → a ≤ b → min a b ≡ a
    min_of a b k = omega arith

none_is : (b : Bool) → IsErr {T = ℕ} (Err (pick b Again Failed))
none_is b = refl

pub not_moved : (n : ℕ) (error : ℤ) (most : ℕ) {r : Result ℕ Stop} → r ≡ outcome_of (negsuc n) error most → IsErr r
unfolding outcome_of
not_moved n error most e = rw e (none_is (is_interrupt error))

-- each write leaves fewer bytes, or fewer writes
pub writes_less : (o : Result ℕ Stop) (n at left : ℕ) → at < n → 1 ≤ left → (n - (at + result_unwrap_or o 0)) + writes_left left o < (n - at) + left
unfolding writes_left
writes_less (Ok zero) n at left h l = omega arith
writes_less (Ok (suc k)) n at left h l = omega arith
writes_less (Err Again) n at left h l = omega arith
writes_less (Err Failed) n at left h l = omega arith

-- and a read that is made again leaves fewer reads, any other none
pub reads_less : (o : Result ℕ Stop) (left : ℕ) → 1 ≤ left → pick (reads_again o) (left - 1) 0 < left
unfolding reads_again pick
reads_less (Ok n) left l = omega arith
reads_less (Err Again) left l = omega arith
reads_less (Err Failed) left l = omega arith
