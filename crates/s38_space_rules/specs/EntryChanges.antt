-- What an instruction changes of an entry, without its bytes.
use Rattle.std.specs.Prelude.{ℕ, List}
use Rattle.s38_code.specs.declared.operand.Operand.{Operand}
use Rattle.s38_commits.specs.Changes.{entry_size}
use Rattle.s38_rules.specs.families.Cursors.{current, cursor_named}
use Rattle.s38_rules.specs.state.Held.{Held}
use Rattle.s38_rules.specs.ask.Operands.{size_at}
use Rattle.s38_space_rules.specs.declared.logging.EntryChange.{EntryChange}

-- an entry of the bytes of operand 2 is new
abbrev pub inserted_entry : Held → List Operand → EntryChange
inserted_entry h ops = record { space = (cursor_named h ops 1).space; block = (cursor_named h ops 1).block; before = 0; after = size_at h ops 2 }

-- one of so many bytes is where the cursor of operand 1 is
abbrev pub changed_entry : Held → List Operand → ℕ → EntryChange
changed_entry h ops after =
    record { space = (cursor_named h ops 1).space; block = (cursor_named h ops 1).block; before = entry_size (current h ops 1); after = after }
