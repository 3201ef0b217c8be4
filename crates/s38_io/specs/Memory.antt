-- A source and a sink in memory, and what a call does to them.
use Rattle.std.specs.Prelude.{ℕ, List, ◌++◌, length, take, drop, if◌then◌else◌}
use Rattle.s38_io.specs.Calls.{CallRecord, fails_next, after_call}

pub record MemorySource : Type 0 where
  pub left : List ℕ
  pub calls : CallRecord

-- the next bytes, as many as there is room for, over the front of the piece
abbrev pub filled : List ℕ → List ℕ → List ℕ
filled left piece = take (length piece) left ++ drop (length left) piece

-- after a call with that much room: the bytes are gone, unless the call is to fail
abbrev pub after_take : MemorySource → ℕ → MemorySource
after_take source room =
    record {
      left = if fails_next source.calls then source.left else drop room source.left;
      calls = after_call source.calls (fails_next source.calls);
    }

pub record MemorySink : Type 0 where
  pub written : List ℕ
  pub calls : CallRecord
