-- Clause by clause, in document 01's words: a message and the settings handed in as values with nothing out of range. What `head_fits`, `readings_fit`,
-- `message_fits`, `certificate_fits` and `settings_fit` are to be; that they are is `head_exact`, `raws_exact`, .. of proofs/InRange.antt.
use Rattle.std.specs.Prelude.{ℕ, ◌^◌, ◌≤◌, ◌<◌, ◌≡◌, true, false, List, length, get_or}
use Rattle.units.specs.declared.labels.RoundLabel.{RoundLabel}
use Rattle.units.specs.declared.labels.StateLabel.{StateLabel}
use Rattle.units.specs.declared.settings.Group.{Group}
use Rattle.units.specs.InRange.{GroupInRange, NumbersInRange}
use Rattle.units.specs.Mask.{in_mask}
use Rattle.floats.specs.InRange.{StateInRange, TargetsInRange}
use Rattle.vote.specs.declared.digest.Digest.{Digest}
use Rattle.vote.specs.InRange.{LegalDigest}
use Rattle.message.specs.declared.certificate.Certificate.{Certificate}
use Rattle.message.specs.declared.head.Head.{Head}
use Rattle.message.specs.declared.head.Head.TheVariants.{Reading, Query, Reply, Advert, Update, Vote, Setpoints, Due, CollectingEnds, VotingEnds, Floor, Start, Refused}
use Rattle.message.specs.declared.settings.Settings.{Settings}
use Rattle.message.specs.declared.value.Message.{Message}
use Rattle.message.specs.Settings.{no_certificate}

-- "round label 1..4,294,967,295"
abbrev pub Label : RoundLabel → Type 0
Label l = (1 ≤ l.0) × (l.0 ≤ 4294967295)

-- "it isn't 0000 and has no bit at m or above"
abbrev pub Mask : Group → ℕ → Type 0
Mask s mask = (1 ≤ mask) × (mask < 2 ^ s.m)

-- THE KINDS OF LINE, each with the ranges of what it says: a sender is "0..g-1", a state label "0..4,294,967,295"
pub data HeadInRange (s : Group) : Head → Type 0 where
  -- "`M` label, run, raw", "raw reading .. 0..1,000,000"
  reading : {label : RoundLabel} {run raw : ℕ} → Label label → run < s.m → raw ≤ 1000000 → HeadInRange s (Reading label run raw)
  -- "`Q` sender, label, mask", "`R` sender, label, mask"
  query : {sender mask : ℕ} {label : RoundLabel} → sender < s.g → Label label → Mask s mask → HeadInRange s (Query sender label mask)
  reply : {sender mask : ℕ} {label : RoundLabel} → sender < s.g → Label label → Mask s mask → HeadInRange s (Reply sender label mask)
  -- "`A` sender, state label", "`U` sender, state label"
  advert : {sender : ℕ} {state : StateLabel} → sender < s.g → state.0 ≤ 4294967295 → HeadInRange s (Advert sender state)
  update : {sender : ℕ} {state : StateLabel} → sender < s.g → state.0 ≤ 4294967295 → HeadInRange s (Update sender state)
  -- "`D` sender, label, state label, mask .. The state label is below the label", and S the same
  vote : {sender : ℕ} {label : RoundLabel} {digest : Digest} → sender < s.g → Label label → LegalDigest s.m label digest → HeadInRange s (Vote sender label digest)
  setpoints : {sender : ℕ} {label : RoundLabel} {digest : Digest} → sender < s.g → Label label → LegalDigest s.m label digest → HeadInRange s (Setpoints sender label digest)
  -- "`C`, `E`, `V`, `F` each with a label"
  due : {label : RoundLabel} → Label label → HeadInRange s (Due label)
  collecting_ends : {label : RoundLabel} → Label label → HeadInRange s (CollectingEnds label)
  voting_ends : {label : RoundLabel} → Label label → HeadInRange s (VotingEnds label)
  floor : {label : RoundLabel} → Label label → HeadInRange s (Floor label)
  -- "`B` own number, floor (0..4,294,967,295)"
  start : {own : ℕ} {low : RoundLabel} → own < s.g → low.0 ≤ 4294967295 → HeadInRange s (Start own low)
  -- "`X` number (1..16)"
  refused : {number : ℕ} → 1 ≤ number → number ≤ 16 → HeadInRange s (Refused number)

-- sixteen places: a reading for each set bit, and 0 at every other
pub record ReadingsInRange (mask : ℕ) (readings : List ℕ) : Type 0 where
  pub sixteen : length readings ≡ 16
  pub reading : (i : ℕ) → i < 16 → in_mask mask i ≡ true → get_or readings i 0 ≤ 1000000
  pub none : (i : ℕ) → i < 16 → in_mask mask i ≡ false → get_or readings i 0 ≡ 0

-- "`R` .. one raw per set bit", "`U` .. x and P for run 0, run 1 and so on", "`S` .. m targets"; what a kind does not carry is blank
pub record MessageInRange (s : Group) (a : Message) : Type 0 where
  pub group : GroupInRange s
  pub head : HeadInRange s a.head
  pub reply : (sender mask : ℕ) (label : RoundLabel) → a.head ≡ Reply sender label mask → ReadingsInRange mask a.readings
  pub no_reply : ((sender mask : ℕ) (label : RoundLabel) → a.head ≡ Reply sender label mask → ⊥) → ReadingsInRange 0 a.readings
  pub update : (sender : ℕ) (state : StateLabel) → a.head ≡ Update sender state → StateInRange s.m a.estimates
  pub no_update : ((sender : ℕ) (state : StateLabel) → a.head ≡ Update sender state → ⊥) → StateInRange 0 a.estimates
  pub issue : (sender : ℕ) (label : RoundLabel) (digest : Digest) → a.head ≡ Setpoints sender label digest → TargetsInRange s.m a.targets
  pub no_issue : ((sender : ℕ) (label : RoundLabel) (digest : Digest) → a.head ≡ Setpoints sender label digest → ⊥) → TargetsInRange 0 a.targets

-- "certificate (1 to 16 bytes 0x21..0x7E ..)", and 0 behind its bytes
pub record CertificateInRange (c : Certificate) : Type 0 where
  pub size : (1 ≤ c.len) × (c.len ≤ 16)
  pub sixteen : length c.bytes ≡ 16
  pub byte : (i : ℕ) → i < c.len → (0x21 ≤ get_or c.bytes i 0) × (get_or c.bytes i 0 ≤ 0x7E)
  pub none : (i : ℕ) → c.len ≤ i → i < 16 → get_or c.bytes i 0 ≡ 0

-- a place that is no run has none
pub record NoCertificate (c : Certificate) : Type 0 where
  pub empty : c.len ≡ 0
  pub sixteen : length c.bytes ≡ 16
  pub none : (i : ℕ) → i < 16 → get_or c.bytes i 0 ≡ 0

-- "`G` g, m; `N` q, r, p; then for each run in order `K` run, certificate .., factor, weight"
pub record SettingsInRange (s : Settings) : Type 0 where
  pub numbers : NumbersInRange s.numbers
  pub sixteen : (length s.numbers.factors ≡ 16) × (length s.numbers.weights ≡ 16) × (length s.certificates ≡ 16)
  pub certificate : (i : ℕ) → i < s.numbers.group.m → CertificateInRange (get_or s.certificates i no_certificate)
  pub none : (i : ℕ) → s.numbers.group.m ≤ i → i < 16 → NoCertificate (get_or s.certificates i no_certificate)
