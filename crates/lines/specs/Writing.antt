-- THE WRITER: the one spelling of each line, and the lent buffer after it.
use Rattle.std.specs.Prelude.{ℕ, Bool, ◌&&◌, List, [], ◌∷◌, ◌++◌, ltb, length, get_or, drop, Result, Ok, Err}
use Rattle.units.specs.declared.refusal.Refusal.{Refusal}
use Rattle.units.specs.declared.refusal.Refusal.TheVariants.{Range, Room}
use Rattle.units.specs.declared.settings.Group.{Group}
use Rattle.units.specs.Pick.{pick}
use Rattle.units.specs.Refusal.{answer_number, number_of, values_of}
use Rattle.message.specs.declared.head.Head.{Head}
use Rattle.message.specs.declared.value.Message.{Message}
use Rattle.message.specs.Head.{is_plain}
use Rattle.message.specs.Message.{message_fits, plain}
use Rattle.fields.specs.Put.{written}
use Rattle.fields.specs.Text.{line_feed, tabbed}
use Rattle.lines.specs.declared.kind.Kind.{Kind}
use Rattle.lines.specs.declared.kind.Kind.TheVariants.{Refused as OfRefused}
use Rattle.lines.specs.Lists.{column}
use Rattle.lines.specs.Table.{letter_of, quantity_at, spelling_of}
use Rattle.lines.specs.Values.{kind_is, numbers_of}

-- how many bytes were written, or why none
abbrev pub Written : Type 0
Written = Result ℕ Refusal

-- the number at a place, in its one spelling
abbrev pub spelled_at : Kind → List ℕ → ℕ → List ℕ
spelled_at kind vs i = written (spelling_of (quantity_at kind i)) (get_or vs i 0)

abbrev pub texts_to : Kind → List ℕ → ℕ → List (List ℕ)
texts_to kind vs n = column (spelled_at kind vs) n

-- "Fields are parted by one tab, a line ends in one line feed"
unfoldable pub line_of : Kind → List ℕ → List ℕ
line_of kind vs = letter_of kind ∷ tabbed (texts_to kind vs (length vs)) ++ (line_feed ∷ [])

unfoldable pub spell_line : Group → Message → List ℕ
spell_line s a = line_of (kind_is a.head) (numbers_of s a)

-- the line of a refusal
unfoldable pub refusal_line : Refusal → List ℕ
refusal_line why = line_of OfRefused (number_of why ∷ [])

-- 16: "the lent buffer is shorter than the line to write"
abbrev pub answer_of : List ℕ → List ℕ → Written
answer_of bytes buf = pick (ltb (length buf) (length bytes)) (Err Room) (Ok (length bytes))

-- "touches no byte past its line", and none at all on a refusal
abbrev pub buffer_of : List ℕ → List ℕ → List ℕ
buffer_of bytes buf = pick (ltb (length buf) (length bytes)) buf (bytes ++ drop (length bytes) buf)

-- "The writer checks 6 before 16"
unfoldable pub write_answer : Bool → List ℕ → List ℕ → Written
write_answer fit bytes buf = pick fit (answer_of bytes buf) (Err Range)

unfoldable pub write_buffer : Bool → List ℕ → List ℕ → List ℕ
write_buffer fit bytes buf = pick fit (buffer_of bytes buf) buf

-- a message that carries no array can be written from its head alone
unfoldable pub plain_fits : Group → Head → Bool
plain_fits s head = is_plain head && message_fits s (plain head)

-- the number of what the writer answers, 0 where it is done, and the values that go with it
abbrev pub written_number : Written → ℕ
written_number w = answer_number w

abbrev pub written_values : Written → List ℕ
written_values (Ok len) = len ∷ []
written_values (Err why) = values_of why
