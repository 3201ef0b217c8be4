-- SETCR: a cursor goes to the entry that is sought.
use Rattle.std.specs.Prelude.{ℕ, ◌/◌, ◌^◌, ◌==◌, Bool, true, false, ℤ, pos, List, map, Option, Some, None, is_none, is_some, if◌then◌else◌}
use Rattle.s38_base.specs.declared.exception.Exception.{Exception}
use Rattle.s38_base.specs.declared.words.Category.TheVariants.{Change, Read}
use Rattle.s38_base.specs.declared.words.Seek.{Seek}
use Rattle.s38_base.specs.declared.words.Seek.TheVariants as seeks
use Rattle.s38_base.specs.Exceptions as exceptions
use Rattle.s38_base.specs.RightNames as rights
use Rattle.s38_base.specs.Attributes.{fraction_of}
use Rattle.s38_base.specs.Signals.{fails, first}
use Rattle.s38_dataspaces.specs.Entries.{DataEntry}
use Rattle.s38_dataspaces.specs.Seeks.{sought}
use Rattle.s38_code.specs.declared.operand.Operand.{Operand}
use Rattle.s38_rules.specs.declared.cursor.Cursor.{Cursor}
use Rattle.s38_rules.specs.families.Changes.{Changes, OnCursor}
use Rattle.s38_rules.specs.state.Held.{Held}
use Rattle.s38_rules.specs.families.Instruction.{Instruction, inert}
use Rattle.s38_rules.specs.ask.Operands.{number_at, place, scalar_attr, target, word_at}
use Rattle.s38_rules.specs.families.Cursors.{at_position, cursor_named, table_of, through_cursor}

-- in the order of the words; another number, which a checked program does not have, is the last
abbrev pub seek_of : ℕ → Seek
seek_of word =
    if word == 0 then seeks.First
    else (if word == 1 then seeks.Last
    else (if word == 2 then seeks.Next else (if word == 3 then seeks.Prev else seeks.At)))

abbrev pub seeks_ordinal : Seek → Bool
seeks_ordinal seeks.At = true
seeks_ordinal _ = false

-- the ordinal that so many units are, with so many digits after the point: a fraction is dropped, and a number
-- below 1 names no entry
abbrev pub ordinal_of : ℕ → Option ℤ → ℕ
ordinal_of fraction (Some (pos units)) = units / 10 ^ fraction
ordinal_of fraction _ = 0

-- the ordinal that a number is
abbrev pub ordinal_at : Held → List Operand → ℕ → ℕ
ordinal_at h ops k = ordinal_of (fraction_of (scalar_attr (place ops k))) (number_at h ops k)

-- from where an entry is sought: the ordinal that is said, or the cursor's
abbrev pub sought_from : Seek → Held → List Operand → ℕ
sought_from how h ops = if seeks_ordinal how then ordinal_at h ops 3 else (cursor_named h ops 1).position

-- whether each ordinal has an entry
abbrev pub occupied : List DataEntry → List Bool
occupied entries = map (λ entry. is_some entry) entries

-- the ordinal of the entry that is sought
abbrev pub sought_ordinal : Seek → Held → List Operand → Option ℕ
sought_ordinal how h ops = sought (occupied (table_of h ops 1).entries) how (sought_from how h ops)

-- an ordinal that is used has a value
abbrev pub ordinal_rule : Seek → Held → List Operand → Option Exception
ordinal_rule how h ops = if seeks_ordinal how then fails (is_none (number_at h ops 3)) exceptions.decimal_data 3 else None

abbrev pub seek_fails : Seek → Held → List Operand → Option Exception
seek_fails how h ops = first (ordinal_rule how h ops) (fails (is_none (sought_ordinal how h ops)) exceptions.no_entry 1)

-- there is such an entry
unfoldable pub setcr_fails : Held → List Operand → Option Exception
setcr_fails h ops = seek_fails (seek_of (word_at ops 2)) h ops

abbrev pub moved_to : Option ℕ → Cursor → Cursor
moved_to None c = c
moved_to (Some position) c = at_position position c

-- the cursor is at the entry that is sought
unfoldable pub at_sought : Held → List Operand → (Cursor → Cursor)
at_sought h ops = moved_to (sought_ordinal (seek_of (word_at ops 2)) h ops)

abbrev pub setcr_changes : Held → List Operand → Changes
setcr_changes h ops = OnCursor (target h ops 1) (at_sought h ops)

abbrev pub setcr : Instruction
setcr = record inert {
  needs = λ s p d r. through_cursor s.held r.operands 1 Change rights.retrieve Read;
  fails = λ s p d r. setcr_fails s.held r.operands;
  changes = λ s p d r. setcr_changes s.held r.operands;
}
