-- A refusal with document 01's number 6 is Range. Assumes nothing.
use mathlib.Core.Path.{◌≡◌, refl}
use borrow.Author.Tests.{eqb-false}
use Rattle.units.specs.declared.refusal.Refusal.{Refusal}
use Rattle.units.specs.declared.refusal.Refusal.TheVariants.{Long, Unended, Kind, Fields, Form, Range, Own, Late, Closed, Other, Clash, Undecided, Lacking, Behind, Settings, Room, SameDay, NoneInForce, Full}
use Rattle.units.specs.Refusal.{number_of}

pub six : (why : Refusal) → number_of why ≡ 6 → why ≡ Range
six Long h = absurd (eqb-false 1 6 refl h)
six Unended h = absurd (eqb-false 2 6 refl h)
six Kind h = absurd (eqb-false 3 6 refl h)
six Fields h = absurd (eqb-false 4 6 refl h)
six Form h = absurd (eqb-false 5 6 refl h)
six Range h = refl
six Own h = absurd (eqb-false 7 6 refl h)
six Late h = absurd (eqb-false 8 6 refl h)
six Closed h = absurd (eqb-false 9 6 refl h)
six Other h = absurd (eqb-false 10 6 refl h)
six Clash h = absurd (eqb-false 11 6 refl h)
six Undecided h = absurd (eqb-false 12 6 refl h)
six Lacking h = absurd (eqb-false 13 6 refl h)
six Behind h = absurd (eqb-false 14 6 refl h)
six (Settings line reason) h = absurd (eqb-false 15 6 refl h)
six Room h = absurd (eqb-false 16 6 refl h)
six SameDay h = absurd (eqb-false 17 6 refl h)
six NoneInForce h = absurd (eqb-false 18 6 refl h)
six Full h = absurd (eqb-false 19 6 refl h)
