-- Names: the bytes of a text, and the name that stands at a place. Assumes nothing.
use Prim.Native.Nat.{ℕ, ◌+◌, ◌-◌, ◌≤◌, ◌<◌, min}
use mathlib.Core.Path.{◌≡◌, refl, sym, ap, ◌∙◌}
use mathlib.Core.Bool.{true, false}
use mathlib.Core.List.{List, ◌++◌}
use native.Mathlib.Omega.{arith}
use lib.ListN.{length, get_or, take, drop, replicate, length-append, length-drop, get_or-append, get_or-replicate, get_or-eq_default}
use lib.Seq.{length-take-le, get_or-append_right, get_or-drop, get_or-take}
use Rattle.std.proofs.Common.{Option, Some, None}
use Rattle.units.specs.Pick.{pick}
use Rattle.message.specs.declared.certificate.Certificate.{Certificate}
use Rattle.fields.specs.Certificate.{is_certificate, certificate_at}
use Rattle.fields.specs.Text.{field_at, next_at}
use Rattle.fields.proofs.Cases.{by_test, by_lt, absurd_by}
use Rattle.fields.proofs.Certificates.{certificate_only, certificate_long}
use Rattle.fields.proofs.Texts.{until_take, until_short}
use Rattle.lines.specs.Settling.{certificate_of}
use Rattle.lines.proofs.Columns.{is_column}
use Rattle.store.specs.declared.name.Named.{Named}
use Rattle.store.specs.Row.{name_in, name_at}

-- A TEXT AS A NAME: its length, and its first sixteen bytes over sixteen zeros
module _ (text : List ℕ) (n : ℕ) (b : List ℕ) (e : n ≡ min (length text) 16) (q : b ≡ take n text) where
  front_long : length b ≡ n
  front_long = ap {B = ℕ} (λ (l : List ℕ). length l) q ∙ length-take-le n text (omega arith)

  bytes_at : (i : ℕ) → i < 16 → get_or (b ++ drop n (replicate 16 0)) i 0 ≡ get_or text i 0
  bytes_at i h =
      let l = front_long in
      by_lt i n
      (λ a. get_or-append b (drop n (replicate 16 0)) 0 i (omega arith) ∙ ap (λ (x : List ℕ). get_or x i 0) q ∙ get_or-take n text i 0 a)
      (λ a. get_or-append_right b (drop n (replicate 16 0)) i 0 (omega arith) ∙ get_or-drop n (replicate 16 0) (i - length b) 0 ∙ get_or-replicate {A = ℕ} 16 (n + (i - length b)) 0 0 (omega arith) ∙ sym (get_or-eq_default text 0 {n = i} (omega arith)))

  pub name_copied : ◌≡◌ {A = Certificate} (record { len = length text; bytes = b ++ drop n (replicate 16 0) }) (certificate_of text)
  name_copied =
      let l = length-append b (drop n (replicate 16 0)) in
      let r = length-drop n (replicate {A = ℕ} 16 0) in
      let f = front_long in
      rw (is_column (λ i. get_or text i 0) 0 16 (b ++ drop n (replicate 16 0)) (omega arith) bytes_at)

-- THE NAME AT A PLACE, by where a certificate ends there
name_wrong : (text : List ℕ) (at : ℕ) → certificate_at text at ≡ None → is_certificate (field_at text at) ≡ false
unfolding certificate_at
name_wrong text at = by_test (is_certificate (field_at text at)) (λ t. rw t (λ e. absurd_by (cc))) (λ t. rw t (λ e. refl))

module _ (text : List ℕ) (at : ℕ) (c : Option ℕ) (ce : c ≡ certificate_at text at) where
  module _ (end : ℕ) (e : c ≡ Some end) where
    only : (is_certificate (field_at text at) ≡ true) × (end ≡ at + length (field_at text at))
    only = certificate_only text at end (sym ce ∙ e)

    -- its bytes are a part of the text
    pub name_within : (at ≤ end) × (end ≤ length text)
    name_within = let n = certificate_long (field_at text at) only.0 in let a = until_short 9 (drop at text) in let b = length-drop at text in let z = only.1 in (omega arith, omega arith)

    -- it is the name
    pub name_there : (name : Certificate) → name ≡ certificate_of (take (end - at) (drop at text)) → ◌≡◌ {A = Option Named} (Some (record { name = name; next = end + 1 })) (name_at text at)
    unfolding name_in pick
    name_there name q =
        let l : end - at ≡ length (field_at text at) = let z = only.1 in omega arith in
        let b : take (end - at) (drop at text) ≡ field_at text at = rw l (until_take 9 (drop at text)) in
        let z : end + 1 ≡ next_at text at = ap (λ (k : ℕ). k + 1) only.1 in
        rw (only.0, z, q, b)

  -- there is none
  pub name_none : c ≡ None → None ≡ name_at text at
  unfolding name_in pick
  name_none e = rw (name_wrong text at (sym ce ∙ e))
