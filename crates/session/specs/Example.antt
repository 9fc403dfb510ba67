-- DOCUMENT 01'S SESSION, BYTE FOR BYTE: its input, and "Output, whole". tests/session.txt and tests/session.expected have the same bytes.
use Rattle.std.specs.Prelude.{ℕ, List, [], ◌∷◌, ◌++◌}
use Prim.Native.Char.{code}
use Prim.Native.String.{String, [] as ending, ◌∷◌ as ◌then◌}

-- the bytes of a text: the session has none but ASCII, where a character's code is its byte
unfoldable pub bytes_of : String → List ℕ
bytes_of ending = []
bytes_of (c then more) = code c ∷ bytes_of more

-- the eleven lines in
unfoldable pub session_input : List ℕ
session_input =
    bytes_of "G\t2\t2\n"
    ++ bytes_of "N\t1\t300\t99\n"
    ++ bytes_of "K\t0\tC-101\t1.0047\t3\n"
    ++ bytes_of "K\t1\tC-102\t1.0000\t1\n"
    ++ bytes_of "B\t0\t0\n"
    ++ bytes_of "M\t1\t0\t200000\n"
    ++ bytes_of "M\t1\t1\t199060\n"
    ++ bytes_of "E\t1\n"
    ++ bytes_of "F\t1\n"
    ++ bytes_of "A\t1\t0\n"
    ++ bytes_of "M\t1\t0\t5\n"

-- the five lines out
unfoldable pub session_output : List ℕ
session_output =
    bytes_of "F\t1\n"
    ++ bytes_of "D\t0\t1\t0\t0003\n"
    ++ bytes_of "S\t0\t1\t0\t0003\t40F24F8000000000\t40D86A0000000000\n"
    ++ bytes_of "U\t0\t1\t40E8876000000000\t4052C00000000000\t40E84CA000000000\t4052C00000000000\n"
    ++ bytes_of "X\t8\n"
