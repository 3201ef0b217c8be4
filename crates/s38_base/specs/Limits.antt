-- The limits of the machine, and the numbers of its first objects. The constants of the code are these.
use Rattle.std.specs.Prelude.{ℕ, ◌^◌}

-- the object that holds contexts and profiles
abbrev pub machine_context : ℕ
machine_context = 1

-- the greatest number of an object
abbrev pub last_number : ℕ
last_number = 2 ^ 62

-- how many objects there may be
abbrev pub most_objects : ℕ
most_objects = 65535

-- by how much the ceiling of numbers rises at once
abbrev pub ceiling_step : ℕ
ceiling_step = 64

-- the greatest image of an object's body, in bytes
abbrev pub body_limit : ℕ
body_limit = 1048576

-- the greatest offset of a pointer
abbrev pub furthest : ℕ
furthest = 16777216

-- the bytes of a cell of a space
abbrev pub cell_bytes : ℕ
cell_bytes = 16

-- the bytes of a page
abbrev pub page_bytes : ℕ
page_bytes = 512

-- the longest message of a queue, in bytes
abbrev pub longest_message : ℕ
longest_message = 4096

-- how many private rows, and how many locks, an object may have
abbrev pub most_rows : ℕ
most_rows = 4096

-- how many internal calls an invocation may have come to
abbrev pub most_calls : ℕ
most_calls = 64

-- an exception names operands up to this one
abbrev pub last_operand : ℕ
last_operand = 255
