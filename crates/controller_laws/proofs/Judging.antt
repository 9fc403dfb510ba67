-- A VOTE THAT IS TAKEN IN WHILE VOTING IS JUDGED, and with what result: exactly by what the votes are decided for. A good D is taken. Assumes nothing.
use Rattle.std.specs.Prelude.{Err, None, Ok, Some}
use Prim.Native.Nat.{ℕ, ◌<◌}
use native.Mathlib.Omega.{arith}
use mathlib.Core.Path.{◌≡◌, refl, sym, ap, subst, ◌∙◌}
use mathlib.Core.Bool.{Bool, true, false, not, true≢false}
use mathlib.Core.List.{List}
use mathlib.Core.Logic.{inl, inr}
use lib.Dec.{ltb}
use lib.ListN.{length, get_or}
use lib.Seq.{get_or-set_same}
use borrow.Author.Tests.{ltb-true}
use Rattle.units.specs.declared.refusal.Refusal.TheVariants.{Lacking}
use Rattle.units.specs.declared.settings.Numbers.{Numbers}
use Rattle.units.specs.Labels.{before, round_fits}
use Rattle.units.proofs.Every.{absurd_by, and_both, and_three}
use Rattle.units.proofs.Picked.{by_yes}
use Rattle.vote.specs.declared.digest.Digest.{Digest}
use Rattle.vote.specs.Digest.{Decision, legal}
use Rattle.vote.specs.declared.votes.Seat.{Seat}
use Rattle.vote.specs.Vote.{votes_fit, Decides, Answers, nobody, seated}
use Rattle.vote.proofs.Answer.{decision_exact, decided_one}
use Rattle.message.specs.declared.head.Head.{Head}
use Rattle.message.specs.declared.head.Head.TheVariants.{Vote}
use Rattle.message.specs.declared.value.Message.{Message}
use Rattle.message.specs.Head.{head_fits}
use Rattle.plan.specs.declared.brief.Phase.{Phase}
use Rattle.plan.specs.declared.brief.Phase.TheVariants.{Idle, Collecting, Pending, Voting}
use Rattle.plan.specs.declared.planned.Effect.{Effect}
use Rattle.plan.specs.declared.planned.Effect.TheVariants.{Count, Issue}
use Rattle.plan.specs.declared.planned.Plan.{Plan}
use Rattle.plan.specs.Plan.{Sent, does, afterwards}
use Rattle.plan.specs.Votes.{chosen_plan, judged, possessed}
use Rattle.controller.specs.declared.state.Controller.{Controller}
use Rattle.controller.specs.Answers.{Answer}
use Rattle.controller.specs.State.{brief_of, ballot_at}
use Rattle.controller.specs.Effects.{applied, counted, issuing}
use Rattle.controller.specs.Step.{decision_with, votes_with, judged_in, judged_plan, vote_plan, planned, inputs_fit, carried_out, stepped}
use Rattle.controller_laws.specs.Endings.{ended_with}
use Rattle.controller_laws.specs.Judging.{IssuedFor, Judged}
use Rattle.controller_laws.specs.Phases.{Busy, Free}
use Rattle.controller_laws.specs.Sendings.{IsSent}
use Rattle.controller_laws.specs.Ways.{Votes}
use Rattle.controller_laws.specs.Ways.Leads.{open_still, lacking, issues}
use Rattle.controller_laws.specs.Ways.Goes.{led}
use Rattle.controller_laws.proofs.Fits.{vote_fits, voting_own, inputs}
use Rattle.controller_laws.proofs.Never.{decided_before}
use Rattle.controller_laws.proofs.OneWay.{free_vote, goes_one}
use Rattle.controller_laws.proofs.Rises.{same_effect}
use Rattle.controller_laws.proofs.Sendings.{round}
use Rattle.units.proofs.InRange.{group_fits_lem}
use Rattle.vote.proofs.InRange.{seated_fit, seats_length}
use Rattle.controller_laws.proofs.Valid.{sized}
use Rattle.controller_laws.proofs.Ways.{on_pick}

never : {A : Type 0} (b : Bool) → b ≡ true → b ≡ false → A
never b p q = absurd (true≢false (sym p ∙ q))

-- S goes out behind what goes out with the vote
issue_sent : (s : Numbers) (c : Controller) (a : Message) (e : Effect) (h : Head) (first : Sent) → IsSent (carried_out s c a (afterwards e h first)) h
unfolding afterwards
issue_sent s c a e h None = inl refl
issue_sent s c a e h (Some one) = inr refl

issue_next : (s : Numbers) (c : Controller) (a : Message) (seat : ℕ) (digest d : Digest) (h : Head) (first : Sent)
    → (carried_out s c a (afterwards (Issue seat digest d) h first)).next ≡ issuing s (counted c seat digest Idle) d
unfolding applied
issue_next s c a seat digest d h first = ap (applied s a c) (same_effect (Issue seat digest d) h first)

issue_verdict : (s : Numbers) (c : Controller) (a : Message) (e : Effect) (h : Head) (first : Sent) → (carried_out s c a (afterwards e h first)).verdict ≡ (does e).verdict
unfolding afterwards
issue_verdict s c a e h None = refl
issue_verdict s c a e h (Some one) = refl

module _ (s : Numbers) (c : Controller) (a : Message) (i : inputs_fit s c a ≡ true) where
  module _ {seat : ℕ} {digest : Digest} {first : Sent} (w : Votes c a.head seat digest first) where
    abbrev v : Rattle.vote.specs.declared.votes.Votes.Votes
    v = votes_with s c seat digest

    -- the votes with this one among them are in range
    votes_fit_lem : votes_fit v ≡ true
    unfolding votes_fit
    votes_fit_lem =
        let q = inputs s c a i in
        let z = vote_fits s c q.numbers q.valid w q.message.head in
        let b = voting_own s c q.numbers q.valid w in
        and_both (and_both (group_fits_lem s q.numbers) (round s c q.numbers q.valid b.0))
        (seated_fit s.group c.label c.votes q.valid.votes seat digest z.0 (sized s q.numbers).g_high z.1)

    judged_by : (x : Decision) → decision_with s c seat digest ≡ x → Answers v x → Judged s c seat digest first (stepped s c a)
    unfolding applied
    judged_by (Err why) e q = never (votes_fit v) votes_fit_lem q.1
    judged_by (Ok None) e q =
        record {
          issued = λ d p h. absurd (q.1 d p);
          lacked = λ d p h. absurd (q.1 d p);
          undecided = λ n. sym (goes_one s c a (led i (open_still w (λ d z. never_decided (sym e ∙ z)))));
        }
      where
        never_decided : {d : Digest} → ◌≡◌ {A = Decision} (Ok None) (Ok (Some d)) → ⊥
        never_decided z = absurd_by (cc)
    judged_by (Ok (Some chosen)) e q = record { issued = went; lacked = lacks; undecided = λ n. absurd (n chosen q.1) }
      where
        it : (d : Digest) → Decides v d → decision_with s c seat digest ≡ Ok (Some d)
        it d p = e ∙ ap (λ d. Ok (Some d)) (decided_one v votes_fit_lem chosen d q.1 p)

        went : (d : Digest) → Decides v d → possessed (brief_of c) d ≡ true → IssuedFor s c seat digest d (stepped s c a)
        went d p h =
            subst (IssuedFor s c seat digest d) (goes_one s c a (led i (issues w (it d p) (decided_before s c a seat digest d (it d p)) h)))
            (record {
              sent = issue_sent s c a _ _ first;
              verdict = issue_verdict s c a _ _ first;
              next = issue_next s c a seat digest d _ first;
            })

        lacks : (d : Digest) → Decides v d → possessed (brief_of c) d ≡ false → stepped s c a ≡ ended_with c seat digest first Lacking
        lacks d p h = sym (goes_one s c a (led i (lacking w (it d p) (decided_before s c a seat digest d (it d p)) h)))

    -- "While voting, the vote is judged after F and after each D": decided and here, S; decided and not here, 13; not decided, no more is sent, and voting goes on
    pub judged_exactly : Judged s c seat digest first (stepped s c a)
    judged_exactly = judged_by (decision_with s c seat digest) refl (decision_exact v)

  -- ---- a good D is taken
  chosen_votes : (seat : ℕ) (digest : Digest) (first : Sent) (d : Digest) → (applied s a c (chosen_plan (brief_of c) seat digest first d).effect).votes ≡ seated c.votes seat digest
  unfolding chosen_plan applied
  chosen_votes seat digest first d =
      on_pick (λ (p : Plan). (applied s a c p.effect).votes ≡ seated c.votes seat digest) (not (before d.state c.label)) (λ _. refl)
      (λ _. on_pick (λ (p : Plan). (applied s a c p.effect).votes ≡ seated c.votes seat digest) (not (possessed (brief_of c) d)) (λ _. refl)
      (λ _. ap (λ (e : Effect). (applied s a c e).votes) (same_effect (Issue seat digest d) _ first)))

  judged_votes : (seat : ℕ) (digest : Digest) (first : Sent) (x : Decision) → (applied s a c (judged (brief_of c) seat digest first x).effect).votes ≡ seated c.votes seat digest
  unfolding judged applied
  judged_votes seat digest first (Err why) = refl
  judged_votes seat digest first (Ok None) = refl
  judged_votes seat digest first (Ok (Some d)) = chosen_votes seat digest first d

  taken_votes : (seat : ℕ) (digest : Digest) (p : Phase) → (applied s a c (vote_plan s c (does (Count seat digest p))).effect).votes ≡ seated c.votes seat digest
  unfolding judged_plan judged_in applied
  taken_votes seat digest Idle = refl
  taken_votes seat digest Collecting = refl
  taken_votes seat digest Pending = refl
  taken_votes seat digest Voting = judged_votes seat digest None (decision_with s c seat digest)

  -- D "kept for its sender": of the current label, from another, not idle, into a free seat; all in range, it is in its seat after the step
  pub digest_taken : (sender : ℕ) (digest : Digest) → a.head ≡ Vote sender c.label digest → (sender ≡ c.own → ⊥) → Busy c.phase → Free (ballot_at c sender) digest
      → ballot_at (stepped s c a).next sender ≡ Some digest
  unfolding stepped head_fits
  digest_taken sender digest e ne b f =
      ap (λ (r : Answer). ballot_at r.next sender) (sym taken) ∙ ap (λ (x : List Seat). (get_or x sender nobody).ballot) (taken_votes sender digest c.phase)
      ∙ ap (λ (x : Seat). x.ballot) (get_or-set_same c.votes sender (record { ballot = Some digest }) nobody small)
    where
      plan : vote_plan s c (does (Count sender digest c.phase)) ≡ planned s c a a.head
      plan = free_vote s c a sender digest ne b f refl ∙ ap (planned s c a) (sym e)

      taken : carried_out s c a (vote_plan s c (does (Count sender digest c.phase))) ≡ stepped s c a
      taken = by_yes _ i (ap (carried_out s c a) plan)

      small : sender < length c.votes
      small =
          let q = inputs s c a i in
          let h = and_three (ltb sender s.group.g) (round_fits c.label) (legal s.group.m c.label digest) (subst (λ (x : Head). head_fits s.group x ≡ true) e q.message.head) in
          omega (arith, ltb-true sender s.group.g h.0, (sized s q.numbers).g_high, seats_length s.group c.label c.votes q.valid.votes)
