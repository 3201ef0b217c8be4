-- A data space is made again of its image and of the entries of its journal space.
use Rattle.std.specs.Prelude.{ℕ, zero, suc, ◌+◌, ◌-◌, ◌==◌, Bool, true, false, ◌&&◌, ◌||◌, List, [], ◌∷◌, length, max, Some, None, is_some, nat_le, nat_lt, if◌then◌else◌}
use Rattle.s38_base.specs.Limits.{body_limit}
use Rattle.s38_dataspaces.specs.Entries.{entry_at}
use Rattle.s38_dataspaces.specs.Table.{DataTable, data_space_image_size, inserted_deleted, is_entry_of, restored}
use Rattle.s38_journals.specs.Entries.{JournalRecord}
use Rattle.s38_journals.specs.declared.entry.EntryKind.{EntryKind}
use Rattle.s38_journals.specs.declared.entry.EntryKind.TheVariants.{Insert, Update, Delete, Commit, Decommit}

-- ---- one entry

-- so many ordinals more, whose entries are deleted
unfoldable pub with_deleted : DataTable → ℕ → DataTable
with_deleted t zero = t
with_deleted t (suc n) = with_deleted (inserted_deleted t) n

-- an ordinal may hold an entry: it is one of the fields, and the image of a data space with that ordinal is no
-- longer than the limit of a body
abbrev pub may_hold_at : DataTable → ℕ → List ℕ → Bool
may_hold_at t at after = is_entry_of t.fields (Some after) && nat_le (data_space_image_size t.fields (max at (length t.entries))) body_limit

-- an insert: the ordinals before it that are not there yet are deleted ones
abbrev pub insert_redone : DataTable → ℕ → List ℕ → DataTable
insert_redone t at after =
    if may_hold_at t at after then restored (with_deleted t (at - length t.entries)) at (Some after) else t

-- an update, where there is an entry
abbrev pub update_redone : DataTable → ℕ → List ℕ → DataTable
update_redone t at after = if is_some (entry_at t.entries at) then restored t at (Some after) else t

-- a delete, where there is an entry
abbrev pub delete_redone : DataTable → ℕ → DataTable
delete_redone t at = if is_some (entry_at t.entries at) then restored t at None else t

-- what does not fit is passed over
abbrev pub change_redone : EntryKind → DataTable → ℕ → List ℕ → DataTable
change_redone Insert t at after = insert_redone t at after
change_redone Update t at after = update_redone t at after
change_redone Delete t at after = delete_redone t at
change_redone Commit t at after = t
change_redone Decommit t at after = t

-- ---- which entries count

abbrev pub is_commit : EntryKind → Bool
is_commit Commit = true
is_commit _ = false

-- an entry after a sequence commits a unit
abbrev pub commits : ℕ → ℕ → ℕ → JournalRecord → Bool
commits image unit sequence e = (nat_lt image sequence && is_commit e.kind) && (e.unit == unit)

-- the unit's COMMIT entry lies after the image; the first of the entries has this sequence
unfoldable pub is_committed : ℕ → ℕ → ℕ → List JournalRecord → Bool
is_committed image unit sequence [] = false
is_committed image unit sequence (e ∷ es) = commits image unit sequence e || is_committed image unit (sequence + 1) es

-- of unit 0 those after the image count, and all of each unit whose COMMIT entry lies after it
abbrev pub counts : ℕ → List JournalRecord → ℕ → ℕ → Bool
counts image all sequence unit = if unit == 0 then nat_lt image sequence else is_committed image unit 1 all

-- an entry is one of the data space, and counts
abbrev pub is_redone : ℕ → ℕ → List JournalRecord → ℕ → JournalRecord → Bool
is_redone number image all sequence e = (e.object.0 == number) && counts image all sequence e.unit

abbrev pub entry_redone : ℕ → ℕ → List JournalRecord → ℕ → JournalRecord → DataTable → DataTable
entry_redone number image all sequence e t =
    if is_redone number image all sequence e then change_redone e.kind t e.ordinal e.after else t

-- ---- all entries

-- entries in order of sequence, of which the first has this one
unfoldable pub redone_from : ℕ → ℕ → List JournalRecord → ℕ → List JournalRecord → DataTable → DataTable
redone_from number image all sequence [] t = t
redone_from number image all sequence (e ∷ es) t =
    redone_from number image all (sequence + 1) es (entry_redone number image all sequence e t)

-- the data space of a number: its image, up to which sequence it counts its journal space in, followed by the entries of
-- that journal space
abbrev pub journal_replayed : ℕ → ℕ → List JournalRecord → DataTable → DataTable
journal_replayed number image all t = redone_from number image all 1 all t
