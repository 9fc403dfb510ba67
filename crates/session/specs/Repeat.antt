-- CALLS ONE AFTER ANOTHER: each is offered what the last left of the input, and lent what it left of the room.
use Rattle.std.specs.Prelude.{ℕ, zero, suc, ◌+◌, ◌-◌, List, [], ◌++◌, Bool, length, drop}
use Rattle.units.specs.Pick.{pick}

-- where a call leads, the bytes that it takes, and what it writes
pub record Run (A : Type 0) : Type 0 where
  pub next : A
  pub took : ℕ
  pub text : List ℕ

abbrev pub stays : {A : Type 0} → A → Run A
stays x = record { next = x; took = 0; text = [] }

abbrev pub follows : {A : Type 0} → Run A → Run A → Run A
follows a r = record { next = r.next; took = a.took + r.took; text = a.text ++ r.text }

-- as long as a test of what is left holds; n bounds the calls
unfoldable pub run_on : {A : Type 0} → (List ℕ → ℕ → Bool) → (A → List ℕ → ℕ → Run A) → ℕ → A → List ℕ → ℕ → Run A
run_on goes step zero x input room = stays x
run_on goes step (suc n) x input room =
    pick (goes input room)
    (follows (step x input room) (run_on goes step n (step x input room).next (drop (step x input room).took input) (room - length (step x input room).text)))
    (stays x)
