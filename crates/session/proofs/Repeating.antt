-- CALLS ONE AFTER ANOTHER, call by call: what holds after each, and what they come to. Assumes nothing.
use Prim.Native.Nat.{ℕ, zero, suc, ◌+◌, ◌-◌, ◌≤◌}
use native.Mathlib.Omega.{arith}
use mathlib.Core.Path.{◌≡◌, refl, sym, ap, ap₂, ◌∙◌}
use mathlib.Core.List.{List, [], ◌++◌, append-nil, append_assoc}
use mathlib.Core.Bool.{Bool, true, false}
use lib.ListN.{length, take, drop, length-append, length-drop}
use lib.Seq.{drop-drop, drop_at, take_at}
use borrow.Rule.Slice.PartMut.{mid_of, put_mid}
use Rattle.units.specs.Pick.{pick}
use Rattle.fields.proofs.Cases.{by_test}
use Rattle.lines.specs.Writing.{buffer_of}
use Rattle.fields.proofs.Puts.{mid_rest, put_rest}
use Rattle.session.specs.Repeat.{Run, stays, follows, run_on}
use Rattle.session.proofs.Room.{front}

module _ {A : Type 0} (goes : List ℕ → ℕ → Bool) (step : A → List ℕ → ℕ → Run A) where
  -- what one call may do
  pub record Moves (x : A) (input : List ℕ) (room : ℕ) : Type 0 where
    pub some : 1 ≤ (step x input room).took
    pub few : (step x input room).took ≤ length input
    pub fits : length (step x input room).text ≤ room

  abbrev pub Moving : Type 0
  Moving = (x : A) (input : List ℕ) (room : ℕ) → goes input room ≡ true → Moves x input room

  module _ (x : A) (input : List ℕ) (room : ℕ) where
    pub run_none : run_on goes step zero x input room ≡ stays x
    unfolding run_on
    run_none = refl

    pub run_stays : (n : ℕ) → goes input room ≡ false → run_on goes step n x input room ≡ stays x
    unfolding run_on pick
    run_stays zero e = refl
    run_stays (suc n) e = rw e

    pub run_goes : (n : ℕ) → goes input room ≡ true
        → run_on goes step (suc n) x input room
        ≡ follows (step x input room) (run_on goes step n (step x input room).next (drop (step x input room).took input) (room - length (step x input room).text))
    unfolding run_on pick
    run_goes n e = rw e

  -- THEY TAKE NO MORE THAN THERE IS, and write no more than there is room for
  pub run_few : Moving → (n : ℕ) (x : A) (input : List ℕ) (room : ℕ) → ((run_on goes step n x input room).took ≤ length input) × (length (run_on goes step n x input room).text ≤ room)
  run_few m zero x input room = rw (run_none x input room) (omega arith, omega arith)
  run_few m (suc n) x input room =
      by_test (goes input room)
      (λ e.
      let a = step x input room in
      let w = m x input room e in
      let r = run_on goes step n a.next (drop a.took input) (room - length a.text) in
      let i = run_few m n a.next (drop a.took input) (room - length a.text) in
      let d = length-drop a.took input in let l = length-append a.text r.text in rw (run_goes x input room n e) (omega arith, omega arith))
      (λ e. rw (run_stays x input room (suc n) e) (omega arith, omega arith))

  -- WHAT HOLDS AFTER EACH CALL: what was said, and what is left to do
  module _ (x₀ : A) (input before : List ℕ) where
    abbrev all : Run A
    all = run_on goes step (length input) x₀ input (length before)

    pub record Going (x : A) (at filled : ℕ) (now : List ℕ) : Type 0 where
      pub fuel : ℕ
      pub said : List ℕ
      pub enough : length input ≤ fuel + at
      pub goes_on : all ≡ follows (record { next = x; took = at; text = said }) (run_on goes step fuel x (drop at input) (length before - filled))
      pub within : at ≤ length input
      pub wrote : filled ≡ length said
      pub fits : length said ≤ length before
      pub buffer : now ≡ said ++ drop (length said) before

    pub starts : Going x₀ 0 0 before
    starts =
        let e : length before - 0 ≡ length before = omega arith in
        let z : all.took ≡ 0 + all.took = omega arith in
        record {
          fuel = length input;
          said = [];
          enough = omega arith;
          goes_on = rw e (ap (λ (n : ℕ). record { next = all.next; took = n; text = all.text }) z);
          within = omega arith;
          wrote = refl;
          fits = omega arith;
          buffer = refl;
        }

    module _ {x : A} {at filled : ℕ} {now : List ℕ} (h : Going x at filled now) where
      abbrev rest : List ℕ
      rest = drop at input

      abbrev left : ℕ
      left = length before - filled

      pub kept_length : length now ≡ length before
      kept_length =
          let e = ap {B = ℕ} (λ (l : List ℕ). length l) h.buffer in
          let f = h.fits in let a = length-append h.said (drop (length h.said) before) in let d = length-drop (length h.said) before in omega arith

      pub filled_few : filled ≤ length now
      filled_few = let a = h.fits in let b = h.wrote in let l = kept_length in omega arith

      -- what is lent to the next call
      pub lent : mid_of filled (length now - filled) now ≡ drop (length h.said) before
      lent = mid_rest filled now ∙ ap (drop filled) h.buffer ∙ drop_at h.said (drop (length h.said) before) filled (sym h.wrote)

      pub lent_length : length (mid_of filled (length now - filled) now) ≡ left
      lent_length = ap (λ (l : List ℕ). length l) lent ∙ length-drop (length h.said) before ∙ ap (λ (n : ℕ). length before - n) (sym h.wrote)

      pub stops : goes rest left ≡ false → (all ≡ record { next = x; took = at; text = h.said }) × (filled ≡ length all.text) × (now ≡ buffer_of all.text before)
      stops e =
          let g : all ≡ record { next = x; took = at; text = h.said } =
          h.goes_on ∙ ap (follows (record { next = x; took = at; text = h.said })) (run_stays x rest left h.fuel e)
          ∙ ap₂ (λ (n : ℕ) (t : List ℕ). record { next = x; took = n; text = t }) (omega arith) (append-nil h.said) in
          (g, h.wrote ∙ ap (λ (r : Run A). length r.text) (sym g), h.buffer ∙ sym (front h.said before h.fits) ∙ ap (λ (r : Run A). buffer_of r.text before) (sym g))

      -- a call more
      module _ (m : Moves x rest left) (e : goes rest left ≡ true) where
        abbrev a : Run A
        a = step x rest left

        rest_length : length rest ≡ length input - at
        rest_length = length-drop at input

        pub call_within : at + a.took ≤ length input
        call_within = let l = rest_length in let w = h.within in omega (arith, m.few)

        spent : (n : ℕ) → length input ≤ n + at
            → run_on goes step n x rest left ≡ follows a (run_on goes step (n - 1) a.next (drop (at + a.took) input) (length before - (filled + length a.text)))
        spent zero g = absurd (let w = call_within in let s = m.some in omega arith)
        spent (suc n) g =
            let d : drop a.took rest ≡ drop (at + a.took) input = drop-drop a.took at input in
            let r : left - length a.text ≡ length before - (filled + length a.text) = omega arith in
            let k : suc n - 1 ≡ n = omega arith in rw (k, ← d, ← r) (run_goes x rest left n e)

        joined : (r : Run A) → follows (record { next = x; took = at; text = h.said }) (follows a r) ≡ follows (record { next = a.next; took = at + a.took; text = h.said ++ a.text }) r
        joined r = ap₂ (λ (n : ℕ) (u : List ℕ). record { next = r.next; took = n; text = u }) (omega arith) (sym (append_assoc h.said a.text r.text))

        goes_further : {now' : List ℕ} → now' ≡ h.said ++ (a.text ++ drop (length a.text) (drop (length h.said) before))
            → Going a.next (at + a.took) (filled + length a.text) now'
        goes_further b =
            let l = length-append h.said a.text in
            let w = h.wrote in
            let f = h.fits in
            record {
              fuel = h.fuel - 1;
              said = h.said ++ a.text;
              enough = omega (arith, h.enough, m.some);
              goes_on =
                  h.goes_on ∙ ap (follows (record { next = x; took = at; text = h.said })) (spent h.fuel h.enough)
                  ∙ joined (run_on goes step (h.fuel - 1) a.next (drop (at + a.took) input) (length before - (filled + length a.text)));
              within = call_within;
              wrote = omega arith;
              fits = omega (arith, m.fits);
              buffer = b ∙ sym (append_assoc h.said a.text _) ∙ ap (λ (u : List ℕ). (h.said ++ a.text) ++ u) (drop-drop (length a.text) (length h.said) before ∙ ap (λ (i : ℕ). drop i before) (sym l));
            }

        -- as the code does it: the call is lent the rest of the buffer
        pub goes_lent : {y : A} {end len : ℕ} {t w now' : List ℕ} → t ≡ a.text → y ≡ a.next → end ≡ a.took → len ≡ length t → w ≡ buffer_of t (mid_of filled (length now - filled) now)
            → now' ≡ put_mid filled (length now - filled) now w → (filled + len ≤ length now) × Going y (at + end) (filled + len) now'
        goes_lent {y} {end} {len} {t} {w} {now'} te ye ee le we ne =
            let dl = length-drop (length h.said) before in
            let wr = h.wrote in
            let f : length a.text ≤ length (drop (length h.said) before) = omega (arith, m.fits) in
            let wq : w ≡ a.text ++ drop (length a.text) (drop (length h.said) before) =
            we ∙ ap₂ (λ (u l : List ℕ). buffer_of u l) te lent ∙ front a.text (drop (length h.said) before) f in
            let front-is : take filled now ≡ h.said = ap (take filled) h.buffer ∙ take_at h.said (drop (length h.said) before) filled (sym h.wrote) in
            let nq : now' ≡ h.said ++ (a.text ++ drop (length a.text) (drop (length h.said) before)) = ne ∙ put_rest filled now w filled_few ∙ ap₂ (λ (u v : List ℕ). u ++ v) front-is wq in
            let lq : len ≡ length a.text = le ∙ ap (λ (u : List ℕ). length u) te in
            let kl = kept_length in
            (omega (arith, m.fits), moved (sym ye) (ap (λ (i : ℕ). at + i) (sym ee)) (ap (λ (i : ℕ). filled + i) (sym lq)) (goes_further nq))
          where
            moved : {n n' : A} {i j f g : ℕ} → n' ≡ n → i ≡ j → f ≡ g → Going n' i f now' → Going n j g now'
            moved p q r z = rw (← p, ← q, ← r) z

        -- .. and where nothing is said
        pub goes_quiet : {y : A} {end : ℕ} → a.text ≡ [] → y ≡ a.next → end ≡ a.took → Going y (at + end) filled now
        goes_quiet {y} {end} te ye ee =
            moved (sym ye) (ap (λ (i : ℕ). at + i) (sym ee)) (ap (λ (l : List ℕ). filled + length l) te ∙ (let z : filled + 0 ≡ filled = omega arith in z)) (goes_further (h.buffer ∙ rw te))
          where
            moved : {n n' : A} {i j f g : ℕ} → n' ≡ n → i ≡ j → f ≡ g → Going n' i f now → Going n j g now
            moved p q r z = rw (← p, ← q, ← r) z
