-- Every head is of a view's kind, or the view has nothing to say of it. Assumes nothing.
use Prim.Native.Nat.{ℕ}
use mathlib.Core.Path.{◌≡◌, refl, sym, ap, subst, ◌∙◌}
use mathlib.Core.Bool.{true, not, true≢false}
use mathlib.Core.List.{List, [], ◌∷◌}
use mathlib.Core.Option.{Option, none, some, some-injective, some-ne-none}
use lib.Dec.{T}
use denote.Enum.Declared.{tag_of}
use mir.Val.{has_key}
use types.Run.{OneOf, miss}
use Rattle.units.proofs.Every.{no_way}
use Rattle.units.specs.declared.labels.RoundLabel.{RoundLabel}
use Rattle.units.specs.declared.labels.StateLabel.{StateLabel}
use Rattle.vote.specs.declared.digest.Digest.{Digest}
use Rattle.message.specs.declared.head.Head.{Head}
use Rattle.message.specs.declared.head.Head.TheVariants.{Reading, Query, Reply, Advert, Update, Vote, Setpoints, Due, CollectingEnds, VotingEnds, Floor, Start, Refused}
use Rattle.message.specs.View.{Seen, as_reading, to_reading, as_reply, to_reply, as_update, to_update, as_vote, to_vote, as_issue, to_issue, as_floor, to_floor, as_start, to_start, is_exchanged, is_telling}
use Rattle.message.specs.Head.{is_plain}
use Rattle.message.specs.contracts.head.Head.{the_type}
use Rattle.message.specs.View.Seen.{it, other}

pub reading_seen : (h : Head) → Seen to_reading as_reading h
reading_seen (Reading label run raw) = it (label, run, raw)
reading_seen (Query sender label mask) = other refl
reading_seen (Reply sender label mask) = other refl
reading_seen (Advert sender state) = other refl
reading_seen (Update sender state) = other refl
reading_seen (Vote sender label digest) = other refl
reading_seen (Setpoints sender label digest) = other refl
reading_seen (Due label) = other refl
reading_seen (CollectingEnds label) = other refl
reading_seen (VotingEnds label) = other refl
reading_seen (Floor label) = other refl
reading_seen (Start own floor) = other refl
reading_seen (Refused number) = other refl

pub reply_seen : (h : Head) → Seen to_reply as_reply h
reply_seen (Reply sender label mask) = it (sender, label, mask)
reply_seen (Reading label run raw) = other refl
reply_seen (Query sender label mask) = other refl
reply_seen (Advert sender state) = other refl
reply_seen (Update sender state) = other refl
reply_seen (Vote sender label digest) = other refl
reply_seen (Setpoints sender label digest) = other refl
reply_seen (Due label) = other refl
reply_seen (CollectingEnds label) = other refl
reply_seen (VotingEnds label) = other refl
reply_seen (Floor label) = other refl
reply_seen (Start own floor) = other refl
reply_seen (Refused number) = other refl

pub update_seen : (h : Head) → Seen to_update as_update h
update_seen (Update sender state) = it (sender, state)
update_seen (Reading label run raw) = other refl
update_seen (Query sender label mask) = other refl
update_seen (Reply sender label mask) = other refl
update_seen (Advert sender state) = other refl
update_seen (Vote sender label digest) = other refl
update_seen (Setpoints sender label digest) = other refl
update_seen (Due label) = other refl
update_seen (CollectingEnds label) = other refl
update_seen (VotingEnds label) = other refl
update_seen (Floor label) = other refl
update_seen (Start own floor) = other refl
update_seen (Refused number) = other refl

pub vote_seen : (h : Head) → Seen to_vote as_vote h
vote_seen (Vote sender label digest) = it (sender, label, digest)
vote_seen (Reading label run raw) = other refl
vote_seen (Query sender label mask) = other refl
vote_seen (Reply sender label mask) = other refl
vote_seen (Advert sender state) = other refl
vote_seen (Update sender state) = other refl
vote_seen (Setpoints sender label digest) = other refl
vote_seen (Due label) = other refl
vote_seen (CollectingEnds label) = other refl
vote_seen (VotingEnds label) = other refl
vote_seen (Floor label) = other refl
vote_seen (Start own floor) = other refl
vote_seen (Refused number) = other refl

pub issue_seen : (h : Head) → Seen to_issue as_issue h
issue_seen (Setpoints sender label digest) = it (sender, label, digest)
issue_seen (Reading label run raw) = other refl
issue_seen (Query sender label mask) = other refl
issue_seen (Reply sender label mask) = other refl
issue_seen (Advert sender state) = other refl
issue_seen (Update sender state) = other refl
issue_seen (Vote sender label digest) = other refl
issue_seen (Due label) = other refl
issue_seen (CollectingEnds label) = other refl
issue_seen (VotingEnds label) = other refl
issue_seen (Floor label) = other refl
issue_seen (Start own floor) = other refl
issue_seen (Refused number) = other refl

pub floor_seen : (h : Head) → Seen to_floor as_floor h
floor_seen (Floor label) = it label
floor_seen (Reading label run raw) = other refl
floor_seen (Query sender label mask) = other refl
floor_seen (Reply sender label mask) = other refl
floor_seen (Advert sender state) = other refl
floor_seen (Update sender state) = other refl
floor_seen (Vote sender label digest) = other refl
floor_seen (Setpoints sender label digest) = other refl
floor_seen (Due label) = other refl
floor_seen (CollectingEnds label) = other refl
floor_seen (VotingEnds label) = other refl
floor_seen (Start own floor) = other refl
floor_seen (Refused number) = other refl

pub start_seen : (h : Head) → Seen to_start as_start h
start_seen (Start own floor) = it (own, floor)
start_seen (Reading label run raw) = other refl
start_seen (Query sender label mask) = other refl
start_seen (Reply sender label mask) = other refl
start_seen (Advert sender state) = other refl
start_seen (Update sender state) = other refl
start_seen (Vote sender label digest) = other refl
start_seen (Setpoints sender label digest) = other refl
start_seen (Due label) = other refl
start_seen (CollectingEnds label) = other refl
start_seen (VotingEnds label) = other refl
start_seen (Floor label) = other refl
start_seen (Refused number) = other refl

-- ---- what a view says
module _ {A : Type 0} {make : A → Head} {view : Head → Option A} where
  -- what holds of every head of a kind, and of every head that the view has nothing to say of, holds of all
  pub by_kind {ℓ} : (P : Head → Type ℓ) → ((v : A) → P (make v)) → ((h : Head) → view h ≡ none → P h) → {h : Head} → Seen make view h → P h
  by_kind P f g (it v) = f v
  by_kind P f g (other {h} e) = g h e

  -- what the view sees is there
  pub is_seen : ((v : A) → view (make v) ≡ some v) → {h : Head} → Seen make view h → (v : A) → view h ≡ some v → h ≡ make v
  is_seen back (it w) v e = ap make (some-injective w v (sym (back w) ∙ e))
  is_seen back (other n) v e = absurd (some-ne-none v (sym e ∙ n))

  -- where it is refuted that a head is of the kind, nothing is seen
  pub not_seen : {h : Head} → Seen make view h → ((v : A) → h ≡ make v → ⊥) → view h ≡ none
  not_seen (it v) f = absurd (f v refl)
  not_seen (other e) f = e

-- where nothing is seen, a head is not of the kind
pub seen_not : {A : Type 0} (make : A → Head) (view : Head → Option A) → ((v : A) → view (make v) ≡ some v) → (h : Head) → view h ≡ none → (v : A) → h ≡ make v → ⊥
seen_not make view back h n v e = some-ne-none v (sym (back v) ∙ ap view (sym e) ∙ n)

-- R, U and D are among what controllers send each other
pub telling_exchanged : (h : Head) → is_telling h ≡ true → is_exchanged h ≡ true
telling_exchanged h t =
    by_kind (λ k. is_telling k ≡ true → is_exchanged k ≡ true) (λ v t. refl)
    (λ k r. by_kind (λ k. as_reply k ≡ none → is_telling k ≡ true → is_exchanged k ≡ true) (λ v r t. refl)
    (λ k u. by_kind (λ k. as_update k ≡ none → as_reply k ≡ none → is_telling k ≡ true → is_exchanged k ≡ true) (λ v u r t. refl)
    (λ k d u r t. absurd (true≢false (sym t ∙ rw (r, u, d)))) (vote_seen k) u) (update_seen k) r) (reply_seen h) t

-- a plain kind is none of R, U and S
pub plain_seen : (h : Head) → is_plain h ≡ true → (as_reply h ≡ none) × (as_update h ≡ none) × (as_issue h ≡ none)
unfolding is_plain
plain_seen h e = (
  by_kind (λ k. is_plain k ≡ true → as_reply k ≡ none) (λ v e. no_way e) (λ k n e. n) (reply_seen h) e,
  by_kind (λ k. is_plain k ≡ true → as_update k ≡ none) (λ v e. no_way e) (λ k n e. n) (update_seen h) e,
  by_kind (λ k. is_plain k ≡ true → as_issue k ≡ none) (λ v e. no_way e) (λ k n e. n) (issue_seen h) e,
)

-- the `_` arm of a match on a head is told which tags are left: a kind that has none of them is not seen
pub unlisted : {A : Type 0} {make : A → Head} {view : Head → Option A} (ks : List ℕ) (n : ℕ) → ((v : A) → tag_of the_type (make v) ≡ n) → T (not (has_key ks n)) → {h : Head} → Seen make view h
    → OneOf ks (tag_of the_type h) → view h ≡ none
unlisted ks n tag away (it v) o = absurd (miss ks n away (subst (OneOf ks) (tag v) o))
unlisted ks n tag away (other e) o = e

-- the kinds that carry no array, by their tags
abbrev pub uncarrying : List ℕ
uncarrying = 0 ∷ 1 ∷ 3 ∷ 5 ∷ 7 ∷ 8 ∷ 9 ∷ 10 ∷ 11 ∷ 12 ∷ []

pub not_carrying : (h : Head) → OneOf uncarrying (tag_of the_type h) → (as_reply h ≡ none) × (as_update h ≡ none) × (as_issue h ≡ none)
not_carrying h o = (unlisted uncarrying 2 (λ v. refl) tt (reply_seen h) o, unlisted uncarrying 4 (λ v. refl) tt (update_seen h) o, unlisted uncarrying 6 (λ v. refl) tt (issue_seen h) o)

-- the same, where the arm is told of each kind before it that the head is not of that kind
pub unlike : {A : Type 0} {make : A → Head} {view : Head → Option A} {h : Head} → ((v : A) → h ≡ make v → ⊥) → Seen make view h → view h ≡ none
unlike n (it v) = absurd (n v refl)
unlike n (other e) = e

pub none_carrying : (h : Head) → ((s : ℕ) (l : RoundLabel) (m : ℕ) → h ≡ Reply s l m → ⊥) → ((s : ℕ) (t : StateLabel) → h ≡ Update s t → ⊥)
    → ((s : ℕ) (l : RoundLabel) (d : Digest) → h ≡ Setpoints s l d → ⊥) → (as_reply h ≡ none) × (as_update h ≡ none) × (as_issue h ≡ none)
none_carrying h r u s = (unlike (λ v. r v.0 v.1 v.2) (reply_seen h), unlike (λ v. u v.0 v.1) (update_seen h), unlike (λ v. s v.0 v.1 v.2) (issue_seen h))
