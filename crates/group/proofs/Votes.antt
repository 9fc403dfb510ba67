-- THE VOTES OF A RUN: each seat holds what its number released, they complete the votes that any controller holds, and so what it finds decided is their winner. Assumes nothing.
use Rattle.std.specs.Prelude.{None, Ok, Some}
use Prim.Native.Nat.{ℕ, zero, suc, ◌≤◌, ◌<◌}
use native.Mathlib.Omega.{arith}
use native.Mathlib.Decide.{dec_lt}
use native.Mathlib.Nat.{zero-add}
use mathlib.Core.Path.{◌≡◌, refl, sym, ap, subst, ◌∙◌}
use mathlib.Core.Bool.{true, false, ◌&&◌}
use mathlib.Core.List.Memᴰ
use mathlib.Core.List.{List, [], ◌∷◌, map, Memᴰ}
use mathlib.Core.Logic.{◌⊎◌, inl, inr, ⊎_elim, by_cases}
use lib.Dec.{eqb, ltb}
use lib.ListN.{length, get_or, take, get_or-eq_default}
use borrow.Author.Tests.{eqb-true, eq-eqb, ltb-true}
use Rattle.units.specs.declared.labels.RoundLabel.{RoundLabel}
use Rattle.units.specs.declared.settings.Group.{Group}
use Rattle.units.specs.declared.settings.Numbers.{Numbers}
use Rattle.units.specs.Labels.{round_fits}
use Rattle.units.specs.Settings.{group_fits}
use Rattle.units.proofs.Every.{and_left, and_right, and_both, absurd_by}
use Rattle.units.proofs.Tab.{length_tab, get_d_tab}
use Rattle.units.proofs.InRange.{group_range}
use Rattle.vote.specs.declared.digest.Digest.{Digest}
use Rattle.vote.specs.Digest.{Ballot, legal}
use Rattle.vote.specs.declared.votes.Seat.{Seat}
use Rattle.vote.specs.declared.votes.Votes.{Votes}
use Rattle.vote.specs.Decision.{decision}
use Rattle.vote.specs.Vote.{Completes, Answers, ballot_of, ballots, nobody, seat_fits, votes_fit}
use Rattle.vote.specs.Vote.Completes.{done, kept, filled}
use Rattle.vote.proofs.Answer.{decision_exact}
use Rattle.vote.proofs.Counting.{AtBallot, All, all_voted}
use Rattle.vote.proofs.InRange.{seats_length, seats_made, votes_three, votes_made}
use Rattle.message.specs.declared.head.Head.{Head}
use Rattle.message.specs.declared.head.Head.TheVariants.{Vote}
use Rattle.message.specs.declared.value.Message.{Message}
use Rattle.message.specs.Head.{head_fits}
use Rattle.message.specs.Message.{message_fits}
use Rattle.message.proofs.Views.{vote_seen, by_kind}
use Rattle.controller_laws.proofs.Fits.{told}
use Rattle.controller_laws.proofs.Ways.{on_pick, same_round_lem}
use Rattle.controller_laws.proofs.Changes.{not_missing, same_digest}
use Rattle.group.specs.Premises.{Released}
use Rattle.group.specs.Demand.{vote_if, vote_of, released, WonBy}

-- ---- a D in range
-- its sender is of the group, and its digest is legal
pub vote_fits : (s : Group) (j : ℕ) (label : RoundLabel) (d : Digest) → head_fits s (Vote j label d) ≡ true → (ltb j s.g ≡ true) × (round_fits label ≡ true) × (legal s.m label d ≡ true)
unfolding head_fits
vote_fits s j label d h =
    let l = and_left (ltb j s.g && round_fits label) (legal s.m label d) h in
    (and_left (ltb j s.g) (round_fits label) l, and_right (ltb j s.g) (round_fits label) l, and_right (ltb j s.g && round_fits label) (legal s.m label d) h)

group_high : (s : Group) → group_fits s ≡ true → s.g ≤ 7
group_high s h = (group_range s h).controllers.1

-- ---- finding a vote
module _ (j : ℕ) (label : RoundLabel) where
  -- what is found is this message's, or was found before
  found_in : (d : Digest) (found : Ballot) (h : Head) → vote_if j label found h ≡ Some d → (h ≡ Vote j label d) ⊎ (found ≡ Some d)
  found_in d found h =
      by_kind (λ (k : Head). vote_if j label found k ≡ Some d → (k ≡ Vote j label d) ⊎ (found ≡ Some d)) (λ v. of v.0 v.1 v.2) (λ k q e. inr (rw q at e)) (vote_seen h)
    where
      hit : (sender : ℕ) (l : RoundLabel) (digest : Digest) → sender ≡ j → l ≡ label → digest ≡ d → Vote sender l digest ≡ Vote j label d
      hit sender l digest p q r = λ i. Vote (p i) (q i) (r i)

      of : (sender : ℕ) (l : RoundLabel) (digest : Digest) → vote_if j label found (Vote sender l digest) ≡ Some d → (Vote sender l digest ≡ Vote j label d) ⊎ (found ≡ Some d)
      of sender l digest =
          on_pick (λ (b : Ballot). b ≡ Some d → (Vote sender l digest ≡ Vote j label d) ⊎ (found ≡ Some d)) (eqb sender j && eqb l.0 label.0)
          (λ t e. inl (hit sender l digest (eqb-true sender j (and_left (eqb sender j) _ t)) (same_round_lem l label (eqb-true _ _ (and_right (eqb sender j) _ t))) (same_digest e))) (λ t e. inr e)

  abbrev Voted : Ballot → Type 0
  Voted b = (d : Digest) × (b ≡ Some d)

  -- a vote that was found stays, or another takes its place
  still_found : (found : Ballot) (h : Head) → Voted found → Voted (vote_if j label found h)
  still_found found h =
      by_kind (λ (k : Head). Voted found → Voted (vote_if j label found k)) (λ v e. on_pick Voted (eqb v.0 j && eqb v.1.0 label.0) (λ t. (v.2, refl)) (λ t. e)) (λ k q e. rw q e) (vote_seen h)

  now_found : (d : Digest) (found : Ballot) (h : Head) → h ≡ Vote j label d → Voted (vote_if j label found h)
  now_found d found h e =
      subst (λ (k : Head). Voted (vote_if j label found k)) (sym e)
      (on_pick Voted (eqb j j && eqb label.0 label.0) (λ t. (d, refl)) (λ f. absurd (yes f)))
    where
      yes : (eqb j j && eqb label.0 label.0) ≡ false → ⊥
      yes f = let z : true ≡ false = sym (and_both (eq-eqb j j refl) (eq-eqb label.0 label.0 refl)) ∙ f in absurd_by (cc)

  -- a vote that is found was released
  found_released : (sent : List Message) (d : Digest) → vote_of sent j label ≡ Some d → Released sent j label d
  unfolding vote_of
  found_released [] d e = not_missing e
  found_released (x ∷ sent) d e =
      ⊎_elim (λ p. record { line = x; among = Memᴰ.head refl; said = p })
      (λ p. let q = found_released sent d p in record { line = q.line; among = Memᴰ.tail q.among; said = q.said })
      (found_in d (vote_of sent j label) x.head e)

  any_found : (sent : List Message) (x : Message) (d : Digest) → Memᴰ x sent → x.head ≡ Vote j label d → Voted (vote_of sent j label)
  unfolding vote_of
  any_found [] x d m e = absurd (Memᴰ.not-nil m)
  any_found (y ∷ sent) x d m e =
      elim (Memᴰ.cases_cons m) [
        | inl p ↦ now_found d (vote_of sent j label) y.head (ap (λ (z : Message). z.head) (sym p) ∙ e)
        | inr n ↦ still_found (vote_of sent j label) y.head (any_found sent x d n e)
      ]

-- ---- seats that complete others
module _ (m : ℕ) (label : RoundLabel) where
  abbrev Holds : List Seat → ℕ → Digest → Type 0
  Holds seats j d = (get_or seats j nobody).ballot ≡ Some d

  place : (b c : Ballot) (ss ts : List Ballot) → ((d : Digest) → b ≡ Some d → c ≡ Some d) → ((d : Digest) → c ≡ Some d → legal m label d ≡ true)
      → Completes m label ss ts → Completes m label (b ∷ ss) (c ∷ ts)
  place (Some d) c ss ts f g r = subst (λ (x : Ballot). Completes m label (Some d ∷ ss) (x ∷ ts)) (sym (f d refl)) (kept r)
  place None None ss ts f g r = kept r
  place None (Some d) ss ts f g r = filled (g d refl) r

  completes : (n : ℕ) (ss ts : List Seat) → length ss ≡ length ts → ((j : ℕ) (d : Digest) → Holds ss j d → Holds ts j d) → ((j : ℕ) (d : Digest) → Holds ts j d → legal m label d ≡ true)
      → Completes m label (take n (map ballot_of ss)) (take n (map ballot_of ts))
  completes zero ss ts e f g = done
  completes (suc n) [] [] e f g = done
  completes (suc n) (x ∷ ss) [] e f g = absurd (omega arith)
  completes (suc n) [] (y ∷ ts) e f g = absurd (omega arith)
  completes (suc n) (x ∷ ss) (y ∷ ts) e f g =
      place x.ballot y.ballot _ _ (λ d. f 0 d) (λ d. g 0 d) (completes n ss ts (omega arith) (λ j d. f (suc j) d) (λ j d. g (suc j) d))

-- what holds of the vote in every seat holds of every ballot
in_seats : (P : Digest → Type 0) (n : ℕ) (ss : List Seat) → ((j : ℕ) (d : Digest) → (get_or ss j nobody).ballot ≡ Some d → P d) → All P (take n (map ballot_of ss))
unfolding All
in_seats P zero ss f = tt
in_seats P (suc n) [] f = tt
in_seats P (suc n) (x ∷ ss) f = (at x.ballot (f 0), in_seats P n ss (λ j. f (suc j)))
  where
    at : (b : Ballot) → ((d : Digest) → b ≡ Some d → P d) → AtBallot P b
    at None g = tt
    at (Some d) g = g d refl

-- ---- the votes of a whole run
module _ (s : Numbers) (sent : List Message) (lines : (x : Message) → Memᴰ x sent → message_fits s.group x ≡ true)
    (unique : (i : ℕ) (label : RoundLabel) (d e : Digest) → Released sent i label d → Released sent i label e → d ≡ e) where
  -- what is released is in range
  pub released_fits : (j : ℕ) (label : RoundLabel) (d : Digest) → Released sent j label d → head_fits s.group (Vote j label d) ≡ true
  released_fits j label d p = subst (λ (h : Head). head_fits s.group h ≡ true) p.said (told s.group p.line (lines p.line p.among)).head

  -- what a number released is what is found
  released_found : (j : ℕ) (label : RoundLabel) (d : Digest) → Released sent j label d → vote_of sent j label ≡ Some d
  released_found j label d p =
      let q = any_found j label sent p.line d p.among p.said in
      q.1 ∙ ap Some (unique j label q.0 d (found_released j label sent q.0 q.1) p)

  abbrev seats : RoundLabel → List Seat
  seats label = (released s sent label).seats

  seats_are : (label : RoundLabel) → length (seats label) ≡ 7
  unfolding released
  seats_are label = length_tab (λ (j : ℕ). record { ballot = vote_of sent j label }) 0 7

  seat_is : (label : RoundLabel) (j : ℕ) → j < 7 → (get_or (seats label) j nobody).ballot ≡ vote_of sent j label
  unfolding released
  seat_is label j k =
      ap (λ (x : Seat). x.ballot) (get_d_tab (λ (j : ℕ). record { ballot = vote_of sent j label }) nobody 0 7 j k) ∙ ap (λ (n : ℕ). vote_of sent n label) (zero-add j)

  -- a vote in a seat was released by the seat's number
  seated_released : (label : RoundLabel) (j : ℕ) (d : Digest) → (get_or (seats label) j nobody).ballot ≡ Some d → Released sent j label d
  seated_released label j d e =
      by_cases (dec_lt j 7) (λ k. found_released j label sent d (sym (seat_is label j k) ∙ e))
      (λ n. not_missing (sym (ap (λ (x : Seat). x.ballot) (get_or-eq_default (seats label) nobody {n = j} (omega (arith, seats_are label)))) ∙ e))

  seat_in_range : (label : RoundLabel) (i : ℕ) (b : Ballot) → (get_or (seats label) i nobody).ballot ≡ b → seat_fits (ltb i s.group.g) s.group.m label b ≡ true
  unfolding seat_fits
  seat_in_range label i None e = refl
  seat_in_range label i (Some d) e = let q = vote_fits s.group i label d (released_fits i label d (seated_released label i d e)) in and_both q.0 q.2

  -- the votes released for a label are in range
  released_in_range : (label : RoundLabel) → group_fits s.group ≡ true → round_fits label ≡ true → votes_fit (released s sent label) ≡ true
  unfolding released
  released_in_range label g r = votes_made _ g r (seats_made s.group label (seats label) (seats_are label) (λ i k. seat_in_range label i (get_or (seats label) i nobody).ballot refl))

  -- what a number released stands in its seat
  in_seat_lem : (label : RoundLabel) → group_fits s.group ≡ true → (j : ℕ) (d : Digest) → Released sent j label d → (get_or (seats label) j nobody).ballot ≡ Some d
  in_seat_lem label g j d p =
      let q = vote_fits s.group j label d (released_fits j label d p) in
      seat_is label j (omega (arith, ltb-true j s.group.g q.0, group_high s.group g)) ∙ released_found j label d p

  -- DECIDED, SO THE WINNER: what is decided among votes that were released is the winner of all the votes released for the label
  pub decided_wins : (label : RoundLabel) (held : List Seat) (d : Digest) → ((j : ℕ) (e : Digest) → (get_or held j nobody).ballot ≡ Some e → Released sent j label e)
      → decision (record { group = s.group; label = label; seats = held }) ≡ Ok (Some d) → WonBy s sent label d
  unfolding released
  decided_wins label held d from e =
      let v : Votes = record { group = s.group; label = label; seats = held } in
      let q = subst (Answers v) e (decision_exact v) in
      let f = votes_three v q.0 in
      let l = seats_length s.group label held f.2 in
      let c = completes s.group.m label s.group.g held (seats label) (l ∙ sym (seats_are label)) (λ j k h. in_seat_lem label f.0 j k (from j k h))
      (λ j k h. (vote_fits s.group j label k (released_fits j label k (seated_released label j k h))).2) in
      (released_in_range label f.0 f.1, q.1 (ballots (released s sent label)) c)

  -- a winner of the votes released was released by somebody
  pub won_released : (label : RoundLabel) (d : Digest) → WonBy s sent label d → (j : ℕ) × Released sent j label d
  unfolding released
  won_released label d w =
      all_voted (λ (e : Digest). (j : ℕ) × Released sent j label e) (ballots (released s sent label)) (in_seats _ s.group.g (seats label) (λ j e h. (j, seated_released label j e h))) d w.1.voted
