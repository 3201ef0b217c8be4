-- Where the parts of an object and of the ceiling of numbers lie.
use Rattle.std.specs.Prelude.{ℕ, ◌-◌, ◌^◌}

-- the first part of an object's rows
abbrev pub rows_part : ℕ
rows_part = 1

-- the first part of an object's body
abbrev pub body_part : ℕ
body_part = 128

-- how many bytes a row has
abbrev pub row_bytes : ℕ
row_bytes = 9

-- how many cells a page holds
abbrev pub page_cells : ℕ
page_cells = 32

-- the number under which the ceiling of numbers is kept
abbrev pub ceiling_key : ℕ
ceiling_key = 2 ^ 64 - 1
