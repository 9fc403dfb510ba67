-- 14 IS NEVER GIVEN: what is decided is legal, so its state label lies below the label. Document 01 lists the number, and the step has its case. Assumes nothing.
use Rattle.std.specs.Prelude.{Err, None, Ok, Some}
use Prim.Native.Nat.{ℕ}
use mathlib.Core.Path.{◌≡◌, refl, sym, ap, ◌∙◌}
use mathlib.Core.Bool.{true, false, true≢false}
use lib.Dec.{eqb}
use borrow.Author.Tests.{lt-ltb}
use Rattle.units.specs.declared.refusal.Refusal.TheVariants.{Range, Undecided, Lacking, Behind}
use Rattle.units.specs.Refusal.{Verdict, verdict_number}
use Rattle.units.specs.declared.settings.Numbers.{Numbers}
use Rattle.units.specs.Labels.{before}
use Rattle.vote.specs.declared.digest.Digest.{Digest}
use Rattle.vote.proofs.Decided.{decided_legal}
use Rattle.vote.proofs.InRange.{legal_range}
use Rattle.message.specs.declared.head.Head.{Head}
use Rattle.message.specs.declared.value.Message.{Message}
use Rattle.plan.specs.declared.planned.Effect.{Effect}
use Rattle.plan.specs.declared.planned.Plan.{Plan}
use Rattle.plan.specs.Plan.{Sent, afterwards}
use Rattle.controller.specs.declared.state.Controller.{Controller}
use Rattle.controller.specs.Answers.{Answer}
use Rattle.controller.specs.Step.{decision_with, votes_with, stepped}
use Rattle.controller_laws.specs.Ways.{ends_round, Leads, Goes}
use Rattle.controller_laws.specs.Ways.Leads.{refused, unchanged, begins, adds, replies, merges, updates, adopts_idle, adopts_before, adopts_past, asks, adverts, asks_and_adverts, collected, lapses, counts, open_still, behind, lacking, issues, restarts}
use Rattle.controller_laws.specs.Ways.Goes.{out, led}
use Rattle.controller_laws.proofs.Ways.{refuses_keeps, goes}

-- a verdict with another number
calm : (v : Verdict) → eqb (verdict_number v) 14 ≡ false → v ≡ Err Behind → ⊥
calm v e q = true≢false (sym (ap (λ (w : Verdict). eqb (verdict_number w) 14) q) ∙ e)

issue_calm : (e : Effect) (h : Head) (first : Sent) → eqb (verdict_number (afterwards e h first).verdict) 14 ≡ false
unfolding afterwards
issue_calm e h None = refl
issue_calm e h (Some one) = refl

module _ (s : Numbers) (c : Controller) (a : Message) where
  -- what is decided lies before the round
  pub decided_before : (seat : ℕ) (digest chosen : Digest) → decision_with s c seat digest ≡ Ok (Some chosen) → before chosen.state c.label ≡ true
  decided_before seat digest chosen d = lt-ltb _ _ (legal_range s.group.m c.label chosen (decided_legal (votes_with s c seat digest) chosen d)).older

  not_behind : {h : Head} {p : Plan} → Leads s c a h p → p.verdict ≡ Err Behind → ⊥
  not_behind (refused why e) q = let z : why ≡ Behind = cc in true≢false (ap ends_round (sym z) ∙ refuses_keeps e)
  not_behind (unchanged r) q = calm (Ok tt) refl q
  not_behind (begins l k) q = calm (Ok tt) refl q
  not_behind (adds e lo n) q = calm (Ok tt) refl q
  not_behind (replies ne b n) q = calm (Ok tt) refl q
  not_behind (merges ne e n) q = calm (Ok tt) refl q
  not_behind (updates ne l) q = calm (Ok tt) refl q
  not_behind (adopts_idle ne e l) q = calm (Ok tt) refl q
  not_behind (adopts_before ne e l k) q = calm (Ok tt) refl q
  not_behind (adopts_past ne e l k) q = calm (Ok tt) refl q
  not_behind (asks e n lo) q = calm (Ok tt) refl q
  not_behind (adverts e lo l) q = calm (Ok tt) refl q
  not_behind (asks_and_adverts e n l) q = calm (Ok tt) refl q
  not_behind (collected e) q = calm (Ok tt) refl q
  not_behind (lapses e) q = calm (Err Undecided) refl q
  not_behind (counts n e f) q = calm (Ok tt) refl q
  not_behind (open_still w d) q = calm (Ok tt) refl q
  not_behind (behind {seat = seat} {digest = digest} {chosen = chosen} w d b) q = true≢false (sym (decided_before seat digest chosen d) ∙ b)
  not_behind (lacking w d b k) q = calm (Err Lacking) refl q
  not_behind (issues w d b k) q = calm _ (issue_calm _ _ _) q
  not_behind restarts q = calm (Ok tt) refl q

  -- 14 is never given, whatever the settings, the state and the message
  pub never_behind : (stepped s c a).verdict ≡ Err Behind → ⊥
  never_behind q = way (goes s c a) q
    where
      way : {r : Answer} → Goes s c a r → r.verdict ≡ Err Behind → ⊥
      way (out e) p = calm (Err Range) refl p
      way (led e w) p = not_behind w p
