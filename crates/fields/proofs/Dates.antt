-- Dates that are, and that are not; that their numbers are in the order of the days; and the one spelling of a day. Assumes nothing.
use Prim.Native.Nat.{ℕ, ◌<◌}
use mathlib.Core.Path.{◌≡◌, refl, sym}
use mathlib.Core.Bool.{true, false, ◌&&◌}
use mathlib.Core.List.{List}
use lib.Dec.{lit≤, lit<}
use native.Mathlib.Omega.{arith}
use Rattle.std.specs.Prelude.{Option, Some, None}
use Rattle.units.specs.Within.{within}
use Rattle.units.proofs.Every.{and_left, and_right, and_both}
use Rattle.units.proofs.InRange.{within_range, within_made}
use Rattle.fields.specs.Digits.{fixed_in, fixed}
use Rattle.fields.specs.Field.{value}
use Rattle.fields.specs.Day.{days_in, date_fits, year_of, month_of, day_of, Date, Earlier, by_year, by_month, by_day, day_judged, day_in}
use Rattle.fields.proofs.Cases.{by_test, by_lt, absurd_by, value_same}
use Rattle.fields.proofs.Numbers.{fixed_only, fixed_read}

-- DATES: the last of February in a year with it, without it, of a hundred and of four hundred; the first and the last; a month and days that are not
pub dates : ((date_fits 20240229 ≡ true) × (date_fits 20230229 ≡ false) × (date_fits 19000229 ≡ false) × (date_fits 20000229 ≡ true))
    × ((date_fits 00010101 ≡ true) × (date_fits 99991231 ≡ true) × (date_fits 00000101 ≡ false) × (date_fits 00001399 ≡ false))
    × ((date_fits 20261301 ≡ false) × (date_fits 20260001 ≡ false) × (date_fits 20260431 ≡ false) × (date_fits 20260500 ≡ false) × (date_fits 20260531 ≡ true))
unfolding date_fits days_in
dates = ((refl, refl, refl, refl), (refl, refl, refl, refl), (refl, refl, refl, refl, refl))

-- A DATE EXACTLY WHEN each clause holds
pub date_exact : (n : ℕ) → (date_fits n ≡ true → Date n) × (Date n → date_fits n ≡ true)
unfolding date_fits
date_exact n =
    let Y = within 1 9999 (year_of n) in
    let M = within 1 12 (month_of n) in
    let last = days_in (year_of n) (month_of n) in (
      λ e.
          let f = and_left (Y && M) (within 1 last (day_of n)) e in
          record {
            year = within_range 1 9999 (year_of n) (and_left Y M f);
            month = within_range 1 12 (month_of n) (and_right Y M f);
            day = within_range 1 last (day_of n) (and_right (Y && M) (within 1 last (day_of n)) e);
          },
      λ d. and_both (and_both (within_made 1 9999 (year_of n) d.year) (within_made 1 12 (month_of n) d.month)) (within_made 1 last (day_of n) d.day),
    )

-- THE ORDER OF DAYS is the order of their numbers
pub day_order : (a b : ℕ) → (a < b → Earlier a b) × (Earlier a b → a < b)
day_order a b = (found, after)
  where
    found : a < b → Earlier a b
    found h =
        by_lt (year_of a) (year_of b) by_year (λ y.
        let e : year_of a ≡ year_of b = omega arith in
        by_lt (month_of a) (month_of b) (by_month e) (λ m.
        let f : month_of a ≡ month_of b = omega arith in
        by_day e f (omega arith)))

    after : Earlier a b → a < b
    after (by_year h) = omega arith
    after (by_month e h) = omega arith
    after (by_day e f h) = omega arith

-- a date is not 0, and has eight digits at the most
pub date_within : (n : ℕ) → date_fits n ≡ true → (0 < n) × (n < 100000000)
date_within n e = let y = ((date_exact n).0 e).year in (omega arith, omega arith)

-- THE LAW OF A DAY: what is accepted is the one spelling of a date, and every date is accepted in it
judged_only : (next : ℕ) (d : Option ℕ) (n m : ℕ) → day_judged next d ≡ value n m → (d ≡ Some n) × (date_fits n ≡ true) × (m ≡ next)
unfolding day_judged
judged_only next (Some k) n m = by_test (date_fits k) (λ t. rw t (λ e. let (q, o) = value_same e in (rw q, rw q at t, sym o))) (λ t. rw t (λ e. absurd_by (cc)))
judged_only next None n m = λ e. absurd_by (cc)

pub day_only : (next : ℕ) (cs : List ℕ) (n m : ℕ) → day_in next cs ≡ value n m → (cs ≡ fixed 10 8 n) × (date_fits n ≡ true) × (m ≡ next)
unfolding day_in
day_only next cs n m e = let j = judged_only next (fixed_in 10 8 0 cs) n m e in (fixed_only 10 8 cs n (lit≤ tt) j.0, j.1, j.2)

pub day_read : (next n : ℕ) → date_fits n ≡ true → day_in next (fixed 10 8 n) ≡ value n next
unfolding day_in day_judged
day_read next n e = let b = date_within n e in rw (fixed_read 10 8 n (lit< tt) (lit≤ tt) b.1, e)
