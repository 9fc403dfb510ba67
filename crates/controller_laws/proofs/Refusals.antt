-- What a refusal leaves: all but 12, 13 and 14 leave the controller as it was and send nothing; those three end the round. Assumes nothing.
use Rattle.std.specs.Prelude.{Err, None, Ok, Some}
use mathlib.Core.Path.{◌≡◌, refl, sym, ap, subst, ◌∙◌}
use mathlib.Core.Bool.{true, false, true≢false}
use mathlib.Core.Logic.{◌⊎◌, inl, inr}
use Rattle.units.specs.declared.refusal.Refusal.{Refusal}
use Rattle.units.specs.declared.refusal.Refusal.TheVariants.{Range, Undecided, Lacking, Behind}
use Rattle.units.specs.declared.settings.Numbers.{Numbers}
use Rattle.units.proofs.Every.{absurd_by}
use Rattle.message.specs.declared.head.Head.{Head}
use Rattle.message.specs.declared.value.Message.{Message}
use Rattle.plan.specs.declared.planned.Effect.{Effect}
use Rattle.plan.specs.declared.planned.Plan.{Plan}
use Rattle.plan.specs.Plan.{Sent, afterwards}
use Rattle.controller.specs.declared.state.Controller.{Controller}
use Rattle.controller.specs.Answers.{Answer}
use Rattle.controller.specs.Effects.{applied}
use Rattle.controller.specs.Step.{inputs_fit, carried_out, stepped}
use Rattle.controller_laws.specs.Endings.{refused_only, Ended}
use Rattle.controller_laws.specs.Endings.Ended.{by_time, by_lack, by_age}
use Rattle.controller_laws.specs.Reasons.{Refuses}
use Rattle.controller_laws.specs.Ways.{ends_round, Leads, Goes}
use Rattle.controller_laws.specs.Ways.Leads.{refused, unchanged, begins, adds, replies, merges, updates, adopts_idle, adopts_before, adopts_past, asks, adverts, asks_and_adverts, collected, lapses, counts, open_still, behind, lacking, issues, restarts}
use Rattle.controller_laws.specs.Ways.Goes.{out, led}
use Rattle.controller_laws.proofs.Ways.{refuses_keeps, goes}
use Rattle.units.specs.Refusal.{Verdict}

pub not_taken : {A : Type 0} {why : Refusal} → ◌≡◌ {A = Verdict} (Ok tt) (Err why) → A
not_taken p = absurd_by (cc)

pub same_why : {w why : Refusal} → ◌≡◌ {A = Verdict} (Err w) (Err why) → w ≡ why
same_why p = cc

-- one refusal cannot both end the round and not
not_both : {A : Type 0} {w why : Refusal} → ◌≡◌ {A = Verdict} (Err w) (Err why) → ends_round w ≡ true → ends_round why ≡ false → A
not_both {w = w} {why = why} p q r = absurd (true≢false (sym q ∙ ap ends_round (same_why p) ∙ r))

issue_taken : (e : Effect) (h : Head) (first : Sent) → (afterwards e h first).verdict ≡ Ok tt
unfolding afterwards
issue_taken e h None = refl
issue_taken e h (Some one) = refl

module _ (s : Numbers) (c : Controller) (a : Message) (why : Refusal) where
  keeps : {h : Head} {p : Plan} → Leads s c a h p → p.verdict ≡ Err why → ends_round why ≡ false → carried_out s c a p ≡ refused_only c why
  unfolding applied
  keeps (refused w e) q n = λ i. record { next = c; first = None; second = None; verdict = q i }
  keeps (unchanged r) q n = not_taken q
  keeps (begins l k) q n = not_taken q
  keeps (adds e lo k) q n = not_taken q
  keeps (replies ne b k) q n = not_taken q
  keeps (merges ne e k) q n = not_taken q
  keeps (updates ne l) q n = not_taken q
  keeps (adopts_idle ne e l) q n = not_taken q
  keeps (adopts_before ne e l k) q n = not_taken q
  keeps (adopts_past ne e l k) q n = not_taken q
  keeps (asks e k lo) q n = not_taken q
  keeps (adverts e lo l) q n = not_taken q
  keeps (asks_and_adverts e k l) q n = not_taken q
  keeps (collected e) q n = not_taken q
  keeps (lapses e) q n = not_both {w = Undecided} q refl n
  keeps (counts k e f) q n = not_taken q
  keeps (open_still w d) q n = not_taken q
  keeps (behind w d b) q n = not_both {w = Behind} q refl n
  keeps (lacking w d b k) q n = not_both {w = Lacking} q refl n
  keeps (issues w d b k) q n = not_taken (sym (issue_taken _ _ _) ∙ q)
  keeps restarts q n = not_taken q

  -- "Every refusal leaves the controller .. unchanged, except 12, 13 and 14": the same controller, bit for bit, and nothing sent
  pub refused_keeps : (stepped s c a).verdict ≡ Err why → ends_round why ≡ false → stepped s c a ≡ refused_only c why
  refused_keeps q n = way (goes s c a) q
    where
      way : {r : Answer} → Goes s c a r → r.verdict ≡ Err why → r ≡ refused_only c why
      way (out e) p = λ i. record { next = c; first = None; second = None; verdict = p i }
      way (led e w) p = keeps w p n

  named : {h : Head} {w : Refusal} {r : Answer} → ◌≡◌ {A = Verdict} (Err w) (Err why) → Ended c h w r → Ended c h why r
  named {h} {w} {r} q e = subst (λ (x : Refusal). Ended c h x r) (same_why q) e

  ending : {h : Head} {p : Plan} → Leads s c a h p → p.verdict ≡ Err why → ends_round why ≡ true → Ended c h why (carried_out s c a p)
  unfolding applied
  ending (refused w e) q n = not_both (sym q) n (refuses_keeps e)
  ending (unchanged r) q n = not_taken q
  ending (begins l k) q n = not_taken q
  ending (adds e lo k) q n = not_taken q
  ending (replies ne b k) q n = not_taken q
  ending (merges ne e k) q n = not_taken q
  ending (updates ne l) q n = not_taken q
  ending (adopts_idle ne e l) q n = not_taken q
  ending (adopts_before ne e l k) q n = not_taken q
  ending (adopts_past ne e l k) q n = not_taken q
  ending (asks e k lo) q n = not_taken q
  ending (adverts e lo l) q n = not_taken q
  ending (asks_and_adverts e k l) q n = not_taken q
  ending (collected e) q n = not_taken q
  ending (lapses e) q n = named q (by_time e)
  ending (counts k e f) q n = not_taken q
  ending (open_still w d) q n = not_taken q
  ending (behind w d b) q n = named q (by_age w)
  ending (lacking w d b k) q n = named q (by_lack w)
  ending (issues w d b k) q n = not_taken (sym (issue_taken _ _ _) ∙ q)
  ending restarts q n = not_taken q

  -- 12, 13 and 14: the phase becomes idle, and nothing else changes but the seat of the vote that was taken in
  pub refused_ends : (stepped s c a).verdict ≡ Err why → ends_round why ≡ true → Ended c a.head why (stepped s c a)
  refused_ends q n = way (goes s c a) q
    where
      way : {r : Answer} → Goes s c a r → r.verdict ≡ Err why → Ended c a.head why r
      way (out e) p = not_both {w = why} {why = Range} (sym p) n refl
      way (led e w) p = ending w p n

  -- ---- why a message is refused
  said_why : {h : Head} {p : Plan} → Leads s c a h p → p.verdict ≡ Err why → ends_round why ≡ false → Refuses c a h why
  said_why {h} (refused w e) q n = subst (λ (x : Refusal). Refuses c a h x) (same_why q) e
  said_why (unchanged r) q n = not_taken q
  said_why (begins l k) q n = not_taken q
  said_why (adds e b k) q n = not_taken q
  said_why (replies ne b k) q n = not_taken q
  said_why (merges ne e k) q n = not_taken q
  said_why (updates ne l) q n = not_taken q
  said_why (adopts_idle ne e l) q n = not_taken q
  said_why (adopts_before ne e l k) q n = not_taken q
  said_why (adopts_past ne e l k) q n = not_taken q
  said_why (asks e k l) q n = not_taken q
  said_why (adverts e k l) q n = not_taken q
  said_why (asks_and_adverts e k l) q n = not_taken q
  said_why (collected e) q n = not_taken q
  said_why (lapses e) q n = not_both {w = Undecided} q refl n
  said_why (counts k e f) q n = not_taken q
  said_why (open_still w d) q n = not_taken q
  said_why (behind w d b) q n = not_both {w = Behind} q refl n
  said_why (lacking w d b k) q n = not_both {w = Lacking} q refl n
  said_why (issues w d b k) q n = not_taken (sym (issue_taken _ _ _) ∙ q)
  said_why restarts q n = not_taken q

  -- every refusal but 12, 13 and 14 has its reason: 6 and something out of range, or one of document 01's table
  pub refused_for : (stepped s c a).verdict ≡ Err why → ends_round why ≡ false → ((why ≡ Range) × (inputs_fit s c a ≡ false)) ⊎ ((inputs_fit s c a ≡ true) × Refuses c a a.head why)
  refused_for q n = way (goes s c a) q
    where
      way : {r : Answer} → Goes s c a r → r.verdict ≡ Err why → ((why ≡ Range) × (inputs_fit s c a ≡ false)) ⊎ ((inputs_fit s c a ≡ true) × Refuses c a a.head why)
      way (out e) p = inl (sym (same_why p), e)
      way (led e w) p = inr (e, said_why w p n)
