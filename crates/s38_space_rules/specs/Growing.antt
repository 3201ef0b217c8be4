-- How many new parts a change needs, said of the state before it: one case for each word of change.
use Rattle.std.specs.Prelude.{ℕ, ◌+◌, ◌-◌, ◌*◌, ◌==◌, ◌&&◌, List, length, Option, Some, None, is_some, nat_le, nat_lt, if◌then◌else◌}
use Rattle.std.specs.Option.{option_map}
use Rattle.s38_commits.specs.Changes.{entry_size}
use Rattle.s38_commits.specs.Unit.{CommitUnit}
use Rattle.s38_commits.specs.Units.{unit_of}
use Rattle.s38_journals.specs.Journals.{JournalList}
use Rattle.s38_rules.specs.declared.object.Object.{Object}
use Rattle.s38_rules.specs.families.Changes.{Changes, Committed, Ensured, Entered, Journaled, Made, OnAccess, OnCursor, Then, done, through_port}
use Rattle.s38_rules.specs.families.Changing.{next_sequence}
use Rattle.s38_rules.specs.store.Forcing.{forced_by, most_unforced, new_parts}
use Rattle.s38_rules.specs.state.Held.{Held, kept_on_disk, object}
use Rattle.s38_rules.specs.state.Journaling.{journal_for, journal_for_block}
use Rattle.s38_rules.specs.state.PartsAt.{journal_at, on_data}
use Rattle.s38_rules.specs.store.Room.{Extent, Room, extent_at, image_len, more_parts, pages_begun, row_len, rows_pages}
use Rattle.s38_rules.specs.state.Access.{Access, access_of}
use Rattle.s38_rules.specs.state.State.{State}
use Rattle.s38_space_rules.specs.Creating.{is_user_in}
use Rattle.s38_space_rules.specs.Logging.{change_growth}

-- of an object on disk whose rows change: further pages of them
abbrev pub rows_growth : Option Object → (Access → Access) → ℕ
rows_growth None f = 0
rows_growth (Some o) f = if o.on_disk then pages_begun (row_len * length (f (access_of o)).rows) - rows_pages o else 0

-- of an object on disk that is kept whole, with so many bytes more in its image
abbrev pub whole_growth : List Extent → ℕ → Option Object → ℕ
whole_growth xs more None = 0
whole_growth xs more (Some o) =
    if o.on_disk then more_parts (extent_at xs o.number.0) (record { number = o.number.0; rows = rows_pages o; body = pages_begun (image_len o.body + more) }) else 0

-- of an object that is ensured, and its journal space
abbrev pub ensured_growth : List Extent → Held → ℕ → Option ℕ → ℕ
ensured_growth xs h n None = whole_growth xs 0 (option_map kept_on_disk (object h n))
ensured_growth xs h n (Some journal) =
    whole_growth xs 0 (option_map kept_on_disk (object h n)) + (if journal == n then 0 else whole_growth xs 0 (object h journal))

-- a new user has a header, a page of rows and a page of its body
abbrev pub user_parts : ℕ
user_parts = 3

-- the entry that ends a unit, where there is room for it
abbrev pub end_bytes : ℕ → JournalList → ℕ
end_bytes number journal = if nat_le number (next_sequence journal) && nat_le 41 journal.spare then 41 else 0

abbrev pub end_growth : List Extent → Held → ℕ → Option ℕ → ℕ
end_growth xs h number None = 0
end_growth xs h number (Some journal) = whole_growth xs (end_bytes number (journal_at h journal)) (object h journal)

-- of the journal space of a unit that is committed
abbrev pub commit_growth : List Extent → State → ℕ → Option CommitUnit → ℕ
commit_growth xs s block None = 0
commit_growth xs s block (Some unit) = end_growth xs s.held unit.number (journal_for_block s.held block)

-- of the journal space of a change with so many bytes before and after, where too many of its bytes would stay unforced
abbrev pub entered_growth : List Extent → State → ℕ → ℕ → ℕ → Option ℕ → ℕ
entered_growth xs s block before after None = 0
entered_growth xs s block before after (Some journal) =
    if nat_lt most_unforced ((journal_at s.held journal).unforced + change_growth s block journal before after)
    then whole_growth xs (change_growth s block journal before after) (object s.held journal) else 0

-- of the changes of a row; other changes one after another are counted as they come, and no row has such
abbrev pub growth : Room → State → ℕ → Changes → ℕ
growth room s p (OnAccess n f) = rows_growth (object s.held n) f
growth room s p (Made owner made body) = if is_user_in body && is_some made.id then user_parts else 0
growth room s p (Ensured n) = ensured_growth room.extents s.held n (journal_for s.held n)
growth room s p (Committed block) = commit_growth room.extents s block (unit_of s.units block)
growth room s p (Entered block change f) =
    entered_growth room.extents s block (entry_size change.before) (entry_size change.after) (journal_for s.held change.space.0)
growth room s p (Then (Journaled n port) (Ensured m)) =
    ensured_growth room.extents (on_data s.held n (through_port port)) m (journal_for (on_data s.held n (through_port port)) m)
growth room s p (Then first (OnCursor n f)) = growth room s p first
growth room s p (Then first second) = new_parts room (forced_by s p (Then first second)) (done s p (Then first second)).held.objects
growth room s p _ = 0
