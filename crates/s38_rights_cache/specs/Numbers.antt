-- The numbers of the frames of a process. Each frame that is stored gets a new number, until the count of numbers comes to
-- its end.
use Rattle.std.specs.Prelude.{ℕ, zero, suc, ◌-◌, ◌^◌, List, [], ◌∷◌, ◌++◌, take, Option, Some, None, slice_get}
use Rattle.s38_base.specs.Faults.{counted}

-- the last value of a count: it stays there
abbrev pub last_count : ℕ
last_count = 2 ^ 64 - 1

pub record FrameNumbers : Type 0 where
  -- those of the frames, the oldest first
  pub numbers : List ℕ
  -- the last that was given
  pub last : ℕ

-- no frame has a number
abbrev pub no_numbers : FrameNumbers
no_numbers = record { numbers = []; last = 0 }

abbrev pub frames_in : Option FrameNumbers → FrameNumbers
frames_in None = no_numbers
frames_in (Some f) = f

abbrev pub number_in : Option ℕ → ℕ
number_in None = 0
number_in (Some number) = number

-- the number of the last of so many frames; 0 where there is none
abbrev pub number_at : ℕ → List ℕ → ℕ
number_at zero numbers = 0
number_at (suc k) numbers = number_in (slice_get numbers k)

-- a process begins with one frame, that of the job's own template, whose number is 0
abbrev pub begun_numbers : FrameNumbers → FrameNumbers
begun_numbers f = record f { numbers = 0 ∷ [] }

-- the frame after so many others is new
abbrev pub renumbered : ℕ → FrameNumbers → FrameNumbers
renumbered k f = record { numbers = take k f.numbers ++ counted f.last ∷ []; last = counted f.last }
