-- WHAT THE STORE MUST ANSWER, clause by clause in the order of the checks: `store_refusals` of proofs/Refusals.antt says that it answers exactly this.
-- And what the K lines read back as (`store_back`, proofs/Back.antt).
use Rattle.std.specs.Prelude.{ℕ, ◌+◌, ◌≤◌, ◌<◌, ◌≡◌, Bool, true, false, ◌||◌, List, [], ◌∷◌, ◌++◌, length, get_or, Ok, Err, is_ok}
use Rattle.units.specs.declared.refusal.Refusal.{Refusal}
use Rattle.units.specs.declared.refusal.Refusal.TheVariants.{Long, Unended, Fields, Form as NoForm, Range as NoRange, Room, SameDay, NoneInForce, Full}
use Rattle.units.specs.Limits.{factor_low, factor_top}
use Rattle.units.specs.Within.{within}
use Rattle.message.specs.InRange.{CertificateInRange}
use Rattle.message.specs.Settings.{no_certificate}
use Rattle.fields.specs.declared.field.Fault.TheVariants.{Form, Range}
use Rattle.fields.specs.declared.spelling.Spelling.TheVariants.{Factor}
use Rattle.fields.specs.Certificate.{is_certificate}
use Rattle.fields.specs.Day.{day_in}
use Rattle.fields.specs.Field.{value, read_field}
use Rattle.fields.specs.Lines.{lines_of}
use Rattle.fields.specs.Text.{line_feed, until, fields_of}
use Rattle.lines.specs.declared.kind.Kind.TheVariants.{Sizes, Filter}
use Rattle.lines.specs.declared.settle.Settled.{Settled}
use Rattle.lines.specs.declared.settle.Wanted.TheVariants.{Whole}
use Rattle.lines.specs.Reading.{ended_once}
use Rattle.lines.specs.Settling.{settling_start, settle_all}
use Rattle.lines.specs.Writing.{line_of}
use Rattle.store.specs.declared.row.Row.{Row}
use Rattle.store.specs.declared.stored.Place.TheVariants.{Nowhere, Line, Day, Count, Run}
use Rattle.store.specs.declared.stored.Serials.{Serials}
use Rattle.store.specs.Newest.{InForce, Newest}
use Rattle.store.specs.Repeated.{place_of, shares}
use Rattle.store.specs.Row.{row_of}
use Rattle.store.specs.Runs.{serial_at, found, settings_from, text_of}
use Rattle.store.specs.Stored.{Stored, refused}

-- A BAD LINE: 1 over 600 bytes, 2 no line feed, 4 not four fields, then field by field from the left, form before range
pub record Four (line : List ℕ) (fs : List (List ℕ)) : Type 0 where
  pub short : length line ≤ 600
  pub ended : ended_once line ≡ true
  pub fields : fields_of (until line_feed line) ≡ fs
  pub four : length fs ≡ 4

abbrev pub field : List (List ℕ) → ℕ → List ℕ
field fs i = get_or fs i []

pub data RowRefused (line : List ℕ) : Refusal → Type 0 where
  long : 600 < length line → RowRefused line Long
  unended : length line ≤ 600 → ended_once line ≡ false → RowRefused line Unended
  fields : length line ≤ 600 → ended_once line ≡ true → (length (fields_of (until line_feed line)) ≡ 4 → ⊥) → RowRefused line Fields
  serial : {fs : List (List ℕ)} → Four line fs → is_certificate (field fs 0) ≡ false → RowRefused line NoForm
  day_form : {fs : List (List ℕ)} → Four line fs → is_certificate (field fs 0) ≡ true → day_in 0 (field fs 1) ≡ Err Form → RowRefused line NoForm
  day_range : {fs : List (List ℕ)} → Four line fs → is_certificate (field fs 0) ≡ true → day_in 0 (field fs 1) ≡ Err Range → RowRefused line NoRange
  certificate : {fs : List (List ℕ)} (day : ℕ) → Four line fs → is_certificate (field fs 0) ≡ true → day_in 0 (field fs 1) ≡ value day 0 → is_certificate (field fs 2) ≡ false
      → RowRefused line NoForm
  factor_form : {fs : List (List ℕ)} (day : ℕ) → Four line fs → is_certificate (field fs 0) ≡ true → day_in 0 (field fs 1) ≡ value day 0 → is_certificate (field fs 2) ≡ true
      → read_field Factor factor_low factor_top 0 (field fs 3) ≡ Err Form → RowRefused line NoForm
  factor_range : {fs : List (List ℕ)} (day : ℕ) → Four line fs → is_certificate (field fs 0) ≡ true → day_in 0 (field fs 1) ≡ value day 0 → is_certificate (field fs 2) ≡ true
      → read_field Factor factor_low factor_top 0 (field fs 3) ≡ Err Range → RowRefused line NoRange

-- what is asked after each check: all lines are rows; and the day is a date; and there are 1 to 16 serials, each fit; and no two rows of a meter share a day; and each has one in force
pub record AllRows (ls : List (List ℕ)) (rs : List Row) : Type 0 where
  pub long : length rs ≡ length ls
  pub row : (i : ℕ) → i < length ls → row_of (get_or ls i []) ≡ Ok (place_of rs i)

pub record Listed (export : List ℕ) (rs : List Row) : Type 0 where
  pub few : length (lines_of export) ≤ 512
  pub rows : AllRows (lines_of export) rs

pub record Dated (export day : List ℕ) (rs : List Row) (n : ℕ) : Type 0 where
  pub listed : Listed export rs
  pub date : day_in 0 day ≡ value n 0

pub record Counted (export day : List ℕ) (s : Serials) (rs : List Row) (n : ℕ) : Type 0 where
  pub dated : Dated export day rs n
  pub runs : (1 ≤ s.m) × (s.m ≤ 16)

pub record Asked (export day : List ℕ) (s : Serials) (rs : List Row) (n : ℕ) : Type 0 where
  pub counted : Counted export day s rs n
  pub serials : (i : ℕ) → i < s.m → CertificateInRange (serial_at s i)

-- row i's meter and day stand in an earlier row
abbrev pub Shared : List Row → ℕ → Type 0
Shared rs i = (j : ℕ) × (j < i) × (shares (place_of rs j) (place_of rs i) ≡ true)

pub record Apart (export day : List ℕ) (s : Serials) (rs : List Row) (n : ℕ) : Type 0 where
  pub asked : Asked export day s rs n
  pub apart : (i : ℕ) → i < length rs → Shared rs i → ⊥

abbrev pub Forceless : Serials → ℕ → List Row → ℕ → Type 0
Forceless s n rs i = (row : Row) → InForce (serial_at s i) n rs row → ⊥

pub record AllFound (export day : List ℕ) (s : Serials) (rs : List Row) (n : ℕ) : Type 0 where
  pub apart : Apart export day s rs n
  pub newest : (i : ℕ) → i < s.m → Newest (serial_at s i) n rs (found s n rs i)

-- THE ANSWER
pub data Says (export day : List ℕ) (s : Serials) (buf : List ℕ) : Stored → Type 0 where
  full : 512 < length (lines_of export) → Says export day s buf (refused Full Nowhere)
  line : (why : Refusal) (i : ℕ) → length (lines_of export) ≤ 512 → i < length (lines_of export) → ((j : ℕ) → j < i → is_ok (row_of (get_or (lines_of export) j [])) ≡ true)
      → RowRefused (get_or (lines_of export) i []) why → Says export day s buf (refused why (Line (i + 1)))
  day_form : (rs : List Row) → Listed export rs → day_in 0 day ≡ Err Form → Says export day s buf (refused NoForm Day)
  day_range : (rs : List Row) → Listed export rs → day_in 0 day ≡ Err Range → Says export day s buf (refused NoRange Day)
  count : (rs : List Row) (n : ℕ) → Dated export day rs n → ((1 ≤ s.m) × (s.m ≤ 16) → ⊥) → Says export day s buf (refused NoRange Count)
  serial : (rs : List Row) (n : ℕ) (i : ℕ) → Counted export day s rs n → i < s.m → ((j : ℕ) → j < i → CertificateInRange (serial_at s j)) → (CertificateInRange (serial_at s i) → ⊥)
      → Says export day s buf (refused NoForm (Run i))
  shared : (rs : List Row) (n : ℕ) (i : ℕ) → Asked export day s rs n → i < length rs → ((j : ℕ) → j < i → Shared rs j → ⊥) → Shared rs i → Says export day s buf (refused SameDay (Line (i + 1)))
  none : (rs : List Row) (n : ℕ) (i : ℕ) → Apart export day s rs n → i < s.m → ((j : ℕ) → j < i → Newest (serial_at s j) n rs (found s n rs j)) → Forceless s n rs i
      → Says export day s buf (refused NoneInForce (Run i))
  room : (rs : List Row) (n : ℕ) → AllFound export day s rs n → length buf < length (text_of s.m (found s n rs)) → Says export day s buf (refused Room Nowhere)
  done : (rs : List Row) (n : ℕ) → AllFound export day s rs n → length (text_of s.m (found s n rs)) ≤ length buf → Says export day s buf (Ok (length (text_of s.m (found s n rs))))

-- the numbers that are given: 0 where it is done, 1, 2, 4, 5, 6, 16, 17, 18 and 19
abbrev pub is_given : ℕ → Bool
is_given n = within 0 2 n || within 4 6 n || within 16 19 n

-- WHAT THE K LINES READ BACK AS, behind a G line with that m and an N line: whole settings, in which run i has the certificate and the factor of serial i's newest certificate, and weight 1
-- q, r and p of the filter, in range
abbrev pub Noise : ℕ → ℕ → ℕ → Type 0
Noise q r p = ((1 ≤ q) × (q ≤ 1000000)) × ((1 ≤ r) × (r ≤ 1000000)) × ((1 ≤ p) × (p ≤ 1000000000))

abbrev pub whole_as : ℕ → ℕ → ℕ → ℕ → ℕ → (ℕ → Row) → Settled
whole_as g m q r p row = record { next = record { line = 3 + m; settings = settings_from g m q r p row }; answer = Ok Whole }

pub record ReadsBack (export day : List ℕ) (s : Serials) (text : List ℕ) (g q r p : ℕ) : Type 0 where
  pub rs : List Row
  pub n : ℕ
  pub from : AllFound export day s rs n
  pub read : settle_all (lines_of (line_of Sizes (g ∷ s.m ∷ []) ++ line_of Filter (q ∷ r ∷ p ∷ []) ++ text)) settling_start ≡ whole_as g s.m q r p (found s n rs)
  pub certificate : (i : ℕ) → i < s.m → get_or (settings_from g s.m q r p (found s n rs)).certificates i no_certificate ≡ (found s n rs i).certificate
  pub factor : (i : ℕ) → i < s.m → get_or (settings_from g s.m q r p (found s n rs)).numbers.factors i 0 ≡ (found s n rs i).factor
  pub weight : (i : ℕ) → i < s.m → get_or (settings_from g s.m q r p (found s n rs)).numbers.weights i 0 ≡ 1
