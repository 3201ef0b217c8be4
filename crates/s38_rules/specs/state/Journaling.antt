-- Which data spaces are journaled, and where: a data space names a port, and the port a journal space. A commit block
-- names a port too.
use Rattle.std.specs.Prelude.{ℕ, ◌+◌, ◌==◌, Bool, false, ◌&&◌, not, List, filter, length, Option, Some, None, is_none, is_some, if◌then◌else◌}
use Rattle.s38_commits.specs.Unit.{CommitUnit}
use Rattle.s38_commits.specs.Units.{UnitMap, unit_of}
use Rattle.s38_rules.specs.declared.block.Block.{Block}
use Rattle.s38_rules.specs.declared.data_body.DataBody.{DataBody}
use Rattle.s38_rules.specs.declared.port.Port.{Port}
use Rattle.s38_rules.specs.state.Held.{Held}
use Rattle.s38_rules.specs.state.Parts.{block_part, data_part, journal_part, part_at, port_part}

-- the object of a number is a journal space
abbrev pub is_journal : Held → ℕ → Bool
is_journal h n = is_some (part_at journal_part h n)

abbrev pub journal_named : Held → Option Port → Option ℕ
journal_named h None = None
journal_named h (Some port) = if is_journal h port.journal.0 then Some port.journal.0 else None

-- the journal space that the port of a number names, where both are there
abbrev pub journal_of_port : Held → ℕ → Option ℕ
journal_of_port h port = journal_named h (part_at port_part h port)

abbrev pub data_port_in : Option DataBody → ℕ
data_port_in None = 0
data_port_in (Some d) = d.port.0

-- the port that a data space names, 0 for none
abbrev pub data_port : Held → ℕ → ℕ
data_port h space = data_port_in (part_at data_part h space)

-- the journal space of a data space; it is journaled where its port, and the journal space that this names, are there
abbrev pub journal_for : Held → ℕ → Option ℕ
journal_for h space = journal_of_port h (data_port h space)

abbrev pub block_port_in : Option Block → ℕ
block_port_in None = 0
block_port_in (Some b) = b.port.0

-- the port that a commit block names
abbrev pub block_port : Held → ℕ → ℕ
block_port h block = block_port_in (part_at block_part h block)

-- the journal space to which the unit of a commit block goes
abbrev pub journal_for_block : Held → ℕ → Option ℕ
journal_for_block h block = journal_of_port h (block_port h block)

-- a data space is journaled to a port
abbrev pub is_journaled_to : Held → ℕ → ℕ → Bool
is_journaled_to h space port = (data_port h space == port) && is_some (journal_for h space)

-- ---- how many units of a journal space are open

abbrev pub is_that_number : ℕ → Option ℕ → Bool
is_that_number n None = false
is_that_number n (Some m) = n == m

-- a block's unit goes to a journal space
abbrev pub unit_goes_to : Held → ℕ → (ℕ × CommitUnit) → Bool
unit_goes_to h journal e = is_that_number journal (journal_for_block h e.0)

abbrev pub open_units : Held → UnitMap → ℕ → ℕ
open_units h units journal = length (filter (unit_goes_to h journal) units)

-- a change begins a unit where its block, if it has one, has none
abbrev pub begins_unit : UnitMap → ℕ → Bool
begins_unit units block = not (block == 0) && is_none (unit_of units block)

-- how many are open after a change
abbrev pub open_after : Held → UnitMap → ℕ → ℕ → ℕ
open_after h units journal block = open_units h units journal + (if begins_unit units block then 1 else 0)
