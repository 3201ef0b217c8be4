-- What the machine keeps of its steps.
use Rattle.std.specs.Prelude.{◌-◌, ℕ, List, length, slice_set}
use Rattle.s38_code.specs.declared.entry.Entry.{Entry}

pub record Logged : Type 0 where
  pub history : List Entry
  pub marks : List ℕ
  -- of how many processes, from 1 on, entries are counted
  pub processes : ℕ
  -- how many entries can be added without memory
  pub spare : ℕ
  -- the store's moment at the start, and now
  pub first : ℕ
  pub moment : ℕ

-- the last mark is another one
abbrev pub with_last : ℕ → List ℕ → List ℕ
with_last moment marks = slice_set marks (length marks - 1) moment
