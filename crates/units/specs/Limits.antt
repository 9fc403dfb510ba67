-- Document 01's table of quantities: each limit once. The floats' limits stand as the whole numbers that they are.
use Rattle.std.specs.Prelude.{ℕ}

abbrev pub controllers_top : ℕ
controllers_top = 7

abbrev pub runs_top : ℕ
runs_top = 16

-- "certificate (1 to 16 bytes ..)"
abbrev pub certificate_top : ℕ
certificate_top = 16

abbrev pub label_top : ℕ
label_top = 4294967295

abbrev pub raw_top : ℕ
raw_top = 1000000

abbrev pub factor_digits : ℕ
factor_digits = 4

abbrev pub factor_scale : ℕ
factor_scale = 10000

abbrev pub factor_low : ℕ
factor_low = 9000

abbrev pub factor_top : ℕ
factor_top = 11000

abbrev pub weight_top : ℕ
weight_top = 1000

abbrev pub noise_top : ℕ
noise_top = 1000000

abbrev pub first_top : ℕ
first_top = 1000000000

abbrev pub x_top : ℕ
x_top = 1100000

abbrev pub variance_top : ℕ
variance_top = 1000000000

abbrev pub target_top : ℕ
target_top = 17600000

-- "`X` number (1..16)"
abbrev pub number_top : ℕ
number_top = 16

abbrev pub line_top : ℕ
line_top = 600
