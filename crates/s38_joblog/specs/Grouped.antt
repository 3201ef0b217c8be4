-- The lines of a history, grouped by process.
use Rattle.std.specs.Prelude.{◌≡◌, ℕ, ◌+◌, ◌<◌, ◌==◌, List, [], ◌++◌, map, length, slice_index_or, if◌then◌else◌}
use Rattle.std.specs.List.{enumerate_from}
use Rattle.s38_code.specs.declared.deck.Job.{Job}
use Rattle.s38_code.specs.declared.entry.Entry.{Entry}
use Rattle.s38_joblog.specs.Log.{entry_line, job_head_line, lines_of}

-- a numbered job's line
abbrev pub head : ℕ × Job → List ℕ
head numbered = job_head_line numbered.0 numbered.1

-- the lines of the jobs
abbrev pub heads : List Job → List (List ℕ)
heads jobs = map head (enumerate_from 1 jobs)

-- the text at place j has the lines of process j + 1 after its first line
pub record AreGrouped (first : List (List ℕ)) (history : List Entry) (texts : List (List ℕ)) : Type 0 where
  pub lines : (j : ℕ) → j < length texts → slice_index_or texts j [] ≡ slice_index_or first j [] ++ lines_of (j + 1) history

-- the line of an entry, if it is of this process
abbrev pub own_line : ℕ → ℕ → Entry → List ℕ
own_line number position e = if e.process == number then entry_line position e else []

-- the text of the entry's process has its line at its end, and the others are as before
pub record Gains (position : ℕ) (e : Entry) (old new : List (List ℕ)) : Type 0 where
  pub count : length new ≡ length old
  pub lines : (j : ℕ) → j < length old → slice_index_or new j [] ≡ slice_index_or old j [] ++ own_line (j + 1) position e
