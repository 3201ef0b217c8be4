-- What is asked of a cursor and its data space once both are found.
use Rattle.std.proofs.Common.{◌≡◌, ℕ, ◌+◌, List, length, refl}
use Rattle.std.specs.Prelude.{Some}
use Rattle.s38_base.specs.Signals.{first}
use Rattle.s38_code.specs.declared.operand.Operand.{Operand}
use Rattle.s38_cursors.specs.CurrentEntry.{current_entry_fails}
use Rattle.s38_dataspaces.specs.Table.{DataTable}
use Rattle.s38_rules.specs.declared.cursor.Cursor.{Cursor}
use Rattle.s38_rules.specs.families.Changing.{journal_rule}
use Rattle.s38_rules.specs.families.EntryChanges.{change_rules, current_fails, entry_room_rule, entry_rule, insdsen_fails, next_ordinal, updsen_fails}
use Rattle.s38_rules.specs.families.Cursors.{cursor_named}
use Rattle.s38_rules.specs.state.Held.{Held}
use Rattle.s38_rules.specs.state.Journaling.{journal_for}
use Rattle.s38_rules.specs.ask.Operands.{bytes_at}
use Rattle.s38_rules.specs.state.PartsAt.{table_at}
use Rattle.s38_rules.specs.state.State.{State}

-- an entry that is to be inserted
pub insdsen_found : (s : State) (p : ℕ) (ops : List Operand) (h : Held) (limit : ℕ) (cursor : Cursor) (table : DataTable)
    → h ≡ s.held → limit ≡ s.limit → cursor ≡ cursor_named h ops 1 → table ≡ table_at h cursor.space.0
    → first (entry_rule table.fields h ops)
    (first (change_rules s p cursor (next_ordinal table))
    (first (entry_room_rule limit table) (journal_rule s cursor.block.0 (41 + 0 + length (bytes_at h ops 2)) (journal_for s.held cursor.space.0))))
    ≡ insdsen_fails s p ops
unfolding insdsen_fails
insdsen_found s p ops h limit cursor table held limited named found = rw (found, named, held, limited) refl

-- one that is to take the place of another
pub updsen_found : (s : State) (p : ℕ) (ops : List Operand) (h : Held) (cursor : Cursor) (table : DataTable)
    → h ≡ s.held → cursor ≡ cursor_named h ops 1 → table ≡ table_at h cursor.space.0
    → first (entry_rule table.fields h ops) (current_entry_fails s p cursor table (Some (bytes_at h ops 2))) ≡ updsen_fails s p ops
unfolding updsen_fails current_fails
updsen_found s p ops h cursor table held named found = rw (found, named, held) refl
