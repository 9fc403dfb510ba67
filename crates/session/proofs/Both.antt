-- Two texts put into a lent buffer, the second first: both where there is room for both, else nothing. Assumes nothing.
use Rattle.std.specs.Prelude.{Err, Ok, IsErrAnd}
use Prim.Native.Nat.{ℕ, ◌+◌, ◌-◌, ◌≤◌, ◌<◌}
use mathlib.Core.Path.{◌≡◌, refl, sym, ap, ◌∙◌}
use mathlib.Core.List.{List, ◌++◌, append_assoc}
use native.Mathlib.Omega.{arith}
use lib.ListN.{length, take, drop, length-append, length-drop}
use lib.Seq.{sets-eq, drop-drop, drop_at, take_at, length-take-le}
use borrow.Author.Tests.{lt-ltb, le-ltb}
use borrow.Rule.Slice.PartMut.{mid_of, put_mid, put_same}
use Rattle.units.specs.declared.refusal.Refusal.{Refusal}
use Rattle.units.specs.declared.refusal.Refusal.TheVariants.{Room}
use Rattle.units.specs.Pick.{pick}
use Rattle.fields.specs.Put.{put}
use Rattle.fields.proofs.Cases.{by_lt, absurd_by}
use Rattle.fields.proofs.Puts.{put_room, mid_rest, put_rest}
use Rattle.lines.specs.Writing.{Written, buffer_of}
use Rattle.session.specs.Feeding.{done_length}
use Rattle.session.proofs.Writes.{Puts}

-- a text in a buffer with room, and with too little
pub puts_room : (t before : List ℕ) → length t ≤ length before → Puts t before (t ++ drop (length t) before) (Ok (length t))
unfolding pick
puts_room t before h = rw (le-ltb (length before) (length t) h) (refl, refl)

pub puts_short : (t before : List ℕ) → length before < length t → Puts t before before (Err Room)
unfolding pick
puts_short t before h = rw (lt-ltb (length before) (length t) h) (refl, refl)

module _ (t before after : List ℕ) (r : Written) (p : Puts t before after r) where
  room_is : length t ≤ length before → (r ≡ Ok (length t)) × (after ≡ t ++ drop (length t) before)
  room_is h = let q = puts_room t before h in (p.0 ∙ sym q.0, p.1 ∙ sym q.1)

  short_is : length before < length t → (r ≡ Err Room) × (after ≡ before)
  short_is h = let q = puts_short t before h in (p.0 ∙ sym q.0, p.1 ∙ sym q.1)

  -- the length of a text that had room
  pub length_done : (n : ℕ) → length t ≤ length before → n ≡ done_length r → n ≡ length t
  length_done n h e = e ∙ ap done_length (room_is h).0

  -- refused, so there was too little room
  refused_is : (why : Refusal) → r ≡ Err why → (length before < length t) × (◌≡◌ {A = Written} (Err why) (Err Room)) × (after ≡ before)
  refused_is why e = by_lt (length before) (length t) (λ h. let q = short_is h in (h, sym e ∙ q.0, q.1)) (λ h. not_done (sym (room_is h).0 ∙ e))
    where
      not_done : {A : Type 0} {n : ℕ} {w : Refusal} → ◌≡◌ {A = Written} (Ok n) (Err w) → A
      not_done k = absurd_by (cc)

  done_is : (n : ℕ) → r ≡ Ok n → (length t ≤ length before) × (n ≡ length t) × (after ≡ t ++ drop (length t) before)
  done_is n e = by_lt (length before) (length t) (λ h. not_refused (sym (short_is h).0 ∙ e)) (λ h. let q = room_is h in (h, ap done_length (sym e ∙ q.0), q.1))
    where
      not_refused : {A : Type 0} {n : ℕ} {w : Refusal} → ◌≡◌ {A = Written} (Err w) (Ok n) → A
      not_refused k = absurd_by (cc)

module _ (t u out : List ℕ) (n : ℕ) (ne : n ≡ length t) where
  -- no room for the first
  pub both_short : length out < n → Puts (t ++ u) out out (Err Room)
  both_short h = puts_short (t ++ u) out (let l = length-append t u in omega arith)

  module _ (h : n ≤ length out) (after : List ℕ) (r : Written) (p : Puts u (mid_of n (length out - n) out) after r) where
    mid_length : length (mid_of n (length out - n) out) ≡ length out - n
    mid_length = let a = length-drop n out in length-take-le (length out - n) (drop n out) (omega arith)

    -- no room for the second
    pub both_refused : (why : Refusal) → r ≡ Err why → Puts (t ++ u) out (put_mid n (length out - n) out after) (Err why)
    both_refused why e =
        let q = refused_is u (mid_of n (length out - n) out) after r p why e in
        let s = puts_short (t ++ u) out (let l = length-append t u in let m = mid_length in let k = q.0 in omega arith) in
        (q.1 ∙ s.0, ap (put_mid n (length out - n) out) q.2 ∙ put_same n (length out - n) out ∙ s.1)

    -- room for both
    module _ (more : ℕ) (e : r ≡ Ok more) where
      abbrev Q : (length u ≤ length (mid_of n (length out - n) out)) × (more ≡ length u) × (after ≡ u ++ drop (length u) (mid_of n (length out - n) out))
      Q = done_is u (mid_of n (length out - n) out) after r p more e

      fits : length (t ++ u) ≤ length out
      fits = let l = length-append t u in let m = mid_length in let k = Q.0 in omega arith

      pub both_more : more ≡ length u
      both_more = Q.1

      tail : after ≡ u ++ drop (length (t ++ u)) out
      tail =
          let g : n + length u ≡ length (t ++ u) = let l = length-append t u in omega arith in
          Q.2 ∙ ap (λ w. u ++ drop (length u) w) (mid_rest n out) ∙ ap (λ w. u ++ w) (drop-drop (length u) n out ∙ ap (λ k. drop k out) g)

      pub both_done : (line zeros last : List ℕ) → line ≡ buffer_of t zeros → length t ≤ length zeros → last ≡ put (put_mid n (length out - n) out after) 0 (take n line)
          → Puts (t ++ u) out last (Ok (n + more))
      both_done line zeros last b z l =
          let s = puts_room (t ++ u) out fits in
          let first : take n line ≡ t = ap (take n) (b ∙ sym (puts_room t zeros z).1) ∙ take_at t (drop (length t) zeros) n (sym ne) in
          let whole : put_mid n (length out - n) out after ≡ take n out ++ (u ++ drop (length (t ++ u)) out) = put_rest n out after h ∙ ap (λ w. take n out ++ w) tail in
          let laid : last ≡ t ++ (u ++ drop (length (t ++ u)) out) = l ∙ ap (λ w. put w 0 (take n line)) whole ∙ ap (put _ 0) first ∙ at_front in
          (ap Ok (ap (λ k. k + more) ne ∙ ap (λ k. length t + k) Q.1 ∙ sym (length-append t u)) ∙ s.0, laid ∙ sym (append_assoc t u _) ∙ s.1)
        where
          at_front : put (take n out ++ (u ++ drop (length (t ++ u)) out)) 0 t ≡ t ++ (u ++ drop (length (t ++ u)) out)
          at_front =
              let w = take n out ++ (u ++ drop (length (t ++ u)) out) in
              let c : 0 + length t ≤ length w = let a = length-append (take n out) (u ++ drop (length (t ++ u)) out) in let b = length-take-le n out h in omega arith in
              let z : 0 + length t ≡ length t = omega arith in
              put_room w 0 t c ∙ sets-eq t w 0 c ∙ ap (λ (k : ℕ). t ++ drop k w) z ∙ ap (λ (k : List ℕ). t ++ k) (drop_at (take n out) (u ++ drop (length (t ++ u)) out) (length t) (length-take-le n out h ∙ ne))

-- a refusal that goes up by `?` is the one that came
pub gone_up : (r : Written) (w : Refusal) → IsErrAnd r (λ e. e ≡ w) → r ≡ Err w
gone_up (Ok n) w h = absurd h
gone_up (Err e) w h = ap Err h
