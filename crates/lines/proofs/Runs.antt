-- What the writer of the settings' lines needs. Assumes nothing.
use Rattle.std.specs.Prelude.{Err, Ok}
use Prim.Native.Nat.{ℕ, ◌+◌, ◌-◌, ◌≤◌, ◌<◌}
use mathlib.Core.Path.{◌≡◌, refl, sym, ap, ◌∙◌}
use mathlib.Core.List.{List, [], ◌∷◌, ◌++◌, append-nil}
use mathlib.Core.Bool.{Bool, true, false, not, ◌&&◌}
use native.Mathlib.Omega.{arith}
use native.Mathlib.Numerals.{add-one}
use lib.Dec.{leb}
use lib.ListN.{length, get_or, set, length-append, length-set}
use lib.Seq.{length-take-le, sets, sets-eq}
use borrow.Author.Tests.{eq-eqb, ne_eqb, lt-ltb, le-ltb, not-true, not-false}
use Rattle.units.specs.declared.refusal.Refusal.TheVariants.{Range, Room}
use Rattle.units.specs.Pick.{pick}
use Rattle.units.proofs.Every.{and_left, and_right}
use Rattle.units.specs.Within.{within}
use Rattle.units.proofs.InRange.{within_range}
use Rattle.message.specs.declared.settings.Settings.{Settings}
use Rattle.message.specs.Settings.{no_certificate, settings_fit}
use Rattle.message.proofs.InRange.{settings_exact}
use Rattle.fields.specs.declared.spelling.Spelling.TheVariants.{Decimal, Factor}
use Rattle.fields.specs.Put.{put, put_end, written}
use Rattle.fields.specs.Text.{tabbed}
use Rattle.fields.proofs.Puts.{sets_append, put_room, end_room}
use Rattle.fields.proofs.Texts.{tabbed_append}
use Rattle.lines.specs.declared.kind.Kind.TheVariants.{Sizes, Filter}
use Rattle.lines.specs.Writing.{Written, line_of, answer_of, buffer_of, write_answer, write_buffer}
use Rattle.lines.specs.Settings.{bytes_of, run_number, who, share, run_line, setting_line, setting_fits}
use Rattle.lines.specs.Table.{quantity_at}
use Rattle.lines.proofs.Sending.{write_range, write_put}

-- A FIELD AFTER ITS TAB
module _ (l : List ℕ) (at : ℕ) (s : List ℕ) (h : at + (1 + length s) ≤ length l) where
  room : at + 1 + length s ≤ length (set l at 9)
  room = let a = length-set l at 9 in omega arith

  pub tab_put : (r : ℕ) (d : List ℕ) → r ≡ put_end (set l at 9) (at + 1) s → d ≡ put (set l at 9) (at + 1) s → (r ≡ at + (1 + length s)) × (d ≡ sets l at (9 ∷ s))
  tab_put r d re de = (re ∙ end_room (set l at 9) (at + 1) s room ∙ omega arith, de ∙ put_room (set l at 9) (at + 1) s room ∙ rw (add-one at))

-- one run of bytes after the other
both_put : (l d e x y : List ℕ) (at r q : ℕ) → (r ≡ at + length x) × (d ≡ sets l at x) → (q ≡ r + length y) × (e ≡ sets d r y) → (q ≡ at + length (x ++ y)) × (e ≡ sets l at (x ++ y))
both_put l d e x y at r q p t = (let a = length-append x y in let b = p.0 in let c = t.0 in omega arith, t.1 ∙ rw (p.1, p.0) (sets_append x y l at))

-- one field after the other
pub tabs_put : (l d e x y : List ℕ) (at r q : ℕ) → (r ≡ at + (1 + length x)) × (d ≡ sets l at (9 ∷ x)) → (q ≡ r + (1 + length y)) × (e ≡ sets d r (9 ∷ y))
    → (q ≡ at + length ((9 ∷ x) ++ (9 ∷ y))) × (e ≡ sets l at ((9 ∷ x) ++ (9 ∷ y)))
tabs_put l d e x y at r q p t = both_put l d e (9 ∷ x) (9 ∷ y) at r q (p.0 ∙ omega arith, p.1) (t.0 ∙ omega arith, t.1)

-- THE HALVES OF K
pub who_is : (run : ℕ) (cs : List ℕ) → (9 ∷ written Decimal run) ++ (9 ∷ cs) ≡ who run cs
unfolding tabbed quantity_at
who_is run cs = rw (append-nil cs)

pub share_is : (factor weight : ℕ) → (9 ∷ written Factor factor) ++ (9 ∷ written Decimal weight) ≡ share factor weight
unfolding tabbed quantity_at
share_is factor weight = rw (append-nil (written Decimal weight))

who_long : (run : ℕ) (cs : List ℕ) → length (who run cs) ≡ (1 + length (written Decimal run)) + (1 + length cs)
who_long run cs = rw (← who_is run cs) (let a = length-append (9 ∷ written Decimal run) (9 ∷ cs) in omega arith)

share_long : (factor weight : ℕ) → length (share factor weight) ≡ (1 + length (written Factor factor)) + (1 + length (written Decimal weight))
share_long factor weight = rw (← share_is factor weight) (let a = length-append (9 ∷ written Factor factor) (9 ∷ written Decimal weight) in omega arith)

run_is : (run : ℕ) (cs : List ℕ) (factor weight : ℕ) → run_line run cs factor weight ≡ 75 ∷ (who run cs ++ share factor weight) ++ (10 ∷ [])
unfolding run_line
run_is run cs factor weight = rw (← tabbed_append (run_number 0 run ∷ cs ∷ []) (run_number 1 factor ∷ run_number 2 weight ∷ []))

module _ (run : ℕ) (cs : List ℕ) (factor weight len w n : ℕ) (b : List ℕ) (ce : length cs ≡ n) (le : len ≡ 2 + w)
    (we : w ≡ (1 + length (written Decimal run)) + (1 + n) + ((1 + length (written Factor factor)) + (1 + length (written Decimal weight)))) where
  len_is : len ≡ length (run_line run cs factor weight)
  len_is = rw (run_is run cs factor weight) (simp (length-append, who_long, share_long) (omega arith))

  pub run_room : length b < len → (Err Room ≡ answer_of (run_line run cs factor weight) b) × (b ≡ buffer_of (run_line run cs factor weight) b)
  unfolding pick
  run_room s = let k : length b < length (run_line run cs factor weight) = let a = len_is in omega arith in rw (lt-ltb (length b) (length (run_line run cs factor weight)) k) (refl, refl)

  module _ (s : len ≤ length b) where
    fits_in : length (run_line run cs factor weight) ≤ length b
    fits_in = let a = len_is in omega arith

    pub who_room : (c : ℕ) → 1 + ((1 + length (written Decimal run)) + (1 + n)) ≤ length (set b 0 c)
    who_room c = let a = length-set b 0 c in omega arith

    module _ (c : ℕ) (d : List ℕ) (at : ℕ) (de : (at ≡ 1 + length (who run cs)) × (d ≡ sets (set b 0 c) 1 (who run cs))) (dl : length d ≡ length (set b 0 c)) where
      pub share_room : at + ((1 + length (written Factor factor)) + (1 + length (written Decimal weight))) ≤ length d
      share_room = let a = length-set b 0 c in let x = who_long run cs in let y = de.0 in omega arith

      module _ (f : List ℕ) (end : ℕ) (fe : (end ≡ at + length (share factor weight)) × (f ≡ sets d at (share factor weight))) (fl : length f ≡ length d) where
        pub feed_room : end < length f
        feed_room = let a = length-set b 0 c in let x = who_long run cs in let y = de.0 in let z = fe.0 in let t = share_long factor weight in omega arith

        pub run_put : c ≡ 75 → (Ok len ≡ answer_of (run_line run cs factor weight) b) × (set f end 10 ≡ buffer_of (run_line run cs factor weight) b)
        unfolding pick
        run_put ke =
            let X = who run cs ++ share factor weight in
            let t = both_put (set b 0 c) d f (who run cs) (share factor weight) 1 at end de fe in
            let z : 0 + length (75 ∷ X ++ (10 ∷ [])) ≡ len = let a = ap {B = ℕ} length (run_is run cs factor weight) in let g = len_is in omega arith in
            let p : set f end 10 ≡ sets b 0 (75 ∷ X ++ (10 ∷ [])) = rw (t.1, t.0, ke) (sets_append X (10 ∷ []) (set b 0 75) 1) in
            rw (le-ltb (length b) (length (run_line run cs factor weight)) fits_in, ← len_is, run_is run cs factor weight)
            (refl, p ∙ (rw z at (sets-eq (75 ∷ X ++ (10 ∷ [])) b 0 (omega arith))))

-- SETTINGS IN RANGE
settings_few : (s : Settings) → settings_fit s ≡ true → s.numbers.group.m ≤ 16
settings_few s e = ((settings_exact s).0 e).numbers.runs.1

-- `is_setting`
module _ (s : Settings) (k : ℕ) (b : Bool) (be : b ≡ settings_fit s) where
  pub setting_none : not b ≡ true → false ≡ setting_fits s k
  unfolding setting_fits
  setting_none t = rw (← be, not-true b t)

  pub setting_runs : not b ≡ false → s.numbers.group.m ≤ 16
  setting_runs t = settings_few s (sym be ∙ not-false b t)

  pub setting_some : not b ≡ false → (leb 1 k && leb k (2 + s.numbers.group.m)) ≡ setting_fits s k
  unfolding setting_fits
  setting_some t = rw (← be, not-false b t)

-- `put_setting`
module _ (s : Settings) (k : ℕ) (f : setting_fits s k ≡ true) where
  unpacked : (settings_fit s ≡ true) × (1 ≤ k) × (k ≤ 2 + s.numbers.group.m)
  unfolding setting_fits
  unpacked =
      let w = within 1 (2 + s.numbers.group.m) k in
      let r = within_range 1 (2 + s.numbers.group.m) k (and_right (settings_fit s) w f) in (and_left (settings_fit s) w f, r.0, r.1)

  module _ (r : Written) (d b : List ℕ) where
    pub sizes_put : k ≡ 1 → let line = line_of Sizes (s.numbers.group.g ∷ s.numbers.group.m ∷ []) in (r ≡ answer_of line b) × (d ≡ buffer_of line b) → (r ≡ answer_of (setting_line s k) b) × (d ≡ buffer_of (setting_line s k) b)
    unfolding setting_line pick
    sizes_put e h = rw (eq-eqb k 1 e) h

    pub filter_put : (k ≡ 1 → ⊥) → k ≡ 2 → let line = line_of Filter (s.numbers.q ∷ s.numbers.r ∷ s.numbers.p ∷ []) in (r ≡ answer_of line b) × (d ≡ buffer_of line b) → (r ≡ answer_of (setting_line s k) b) × (d ≡ buffer_of (setting_line s k) b)
    unfolding setting_line pick
    filter_put n e h = rw (ne_eqb k 1 n, eq-eqb k 2 e) h

  module _ (n₁ : k ≡ 1 → ⊥) (n₂ : k ≡ 2 → ⊥) (run : ℕ) (re : run ≡ k - 3) where
    run_below : run < s.numbers.group.m
    run_below = let u = unpacked in omega arith

    pub run_few : run < 16
    run_few = let g = settings_few s unpacked.0 in let r = run_below in omega arith

    pub certificate_within : (get_or s.certificates run no_certificate).len ≤ 16
    certificate_within = (((settings_exact s).0 unpacked.0).certificate run run_below).size.1

    pub certificate_short : length (bytes_of (get_or s.certificates run no_certificate)) ≤ 16
    certificate_short =
        let c = ((settings_exact s).0 unpacked.0).certificate run run_below in
        let n = length-take-le (get_or s.certificates run no_certificate).len (get_or s.certificates run no_certificate).bytes (omega (arith, c.size.1, c.sixteen)) in
        omega (arith, c.size.1)

    pub run_written : (r : Written) (d b : List ℕ)
        → (r ≡ answer_of (run_line run (bytes_of (get_or s.certificates run no_certificate)) (get_or s.numbers.factors run 0) (get_or s.numbers.weights run 0)) b)
        × (d ≡ buffer_of (run_line run (bytes_of (get_or s.certificates run no_certificate)) (get_or s.numbers.factors run 0) (get_or s.numbers.weights run 0)) b)
        → (r ≡ answer_of (setting_line s k) b) × (d ≡ buffer_of (setting_line s k) b)
    unfolding setting_line pick
    run_written r d b h = rw (ne_eqb k 1 n₁, ne_eqb k 2 n₂, ← re) h

-- `write_setting`
module _ (s : Settings) (k : ℕ) (b : Bool) (be : b ≡ setting_fits s k) (buf : List ℕ) where
  pub setting_range : not b ≡ true → (Err Range ≡ write_answer (setting_fits s k) (setting_line s k) buf) × (buf ≡ write_buffer (setting_fits s k) (setting_line s k) buf)
  setting_range t = write_range (setting_fits s k) b be (setting_line s k) buf (not-true b t)

  pub setting_put : not b ≡ false → (r : Written) (d : List ℕ) → (r ≡ answer_of (setting_line s k) buf) × (d ≡ buffer_of (setting_line s k) buf)
      → (r ≡ write_answer (setting_fits s k) (setting_line s k) buf) × (d ≡ write_buffer (setting_fits s k) (setting_line s k) buf)
  setting_put t r d h = write_put (setting_fits s k) b be (setting_line s k) buf (not-false b t) (setting_line s k) r d refl h
