-- What one ordinal of a data space holds, once the entries of the journal space are replayed over the image.
use Rattle.std.specs.Prelude.{ℕ, ◌+◌, ◌==◌, Bool, ◌&&◌, List, [], ◌∷◌, Some, None, nat_le, if◌then◌else◌}
use Rattle.s38_base.specs.Limits.{body_limit}
use Rattle.s38_base.specs.declared.attr.Attr.{Attr}
use Rattle.s38_dataspaces.specs.Entries as spaces
use Rattle.s38_dataspaces.specs.Table.{data_space_image_size, is_entry_of}
use Rattle.s38_journals.specs.Entries.{JournalRecord}
use Rattle.s38_journals.specs.declared.entry.EntryKind.{EntryKind}
use Rattle.s38_journals.specs.declared.entry.EntryKind.TheVariants.{Insert, Update, Delete, Commit, Decommit}
use Rattle.s38_restart.specs.Redo.{counts}

-- ---- one entry

-- an entry of these fields may have an ordinal from 1 on, up to which the image of the data space is no longer than the
-- limit of a body
abbrev pub may_have_ordinal : List Attr → ℕ → List ℕ → Bool
may_have_ordinal fields at after = (nat_le 1 at && nat_le (data_space_image_size fields at) body_limit) && is_entry_of fields (Some after)

abbrev pub inserted_at : List Attr → ℕ → List ℕ → spaces.DataEntry → spaces.DataEntry
inserted_at fields at after x = if may_have_ordinal fields at after then Some after else x

-- where there is no entry an update is passed over
abbrev pub updated_at : List Attr → List ℕ → spaces.DataEntry → spaces.DataEntry
updated_at fields after None = None
updated_at fields after (Some bytes) = if is_entry_of fields (Some after) then Some after else Some bytes

-- what an ordinal holds after an entry for it
abbrev pub change_redone_at : EntryKind → List Attr → ℕ → List ℕ → spaces.DataEntry → spaces.DataEntry
change_redone_at Insert fields at after x = inserted_at fields at after x
change_redone_at Update fields at after x = updated_at fields after x
change_redone_at Delete fields at after x = None
change_redone_at Commit fields at after x = x
change_redone_at Decommit fields at after x = x

-- an entry is one for an ordinal of the data space of a number
abbrev pub is_for : ℕ → ℕ → JournalRecord → Bool
is_for number at e = (e.object.0 == number) && (e.ordinal == at)

-- which entries count, by their sequence and their unit
abbrev pub EntryFilter : Type 0
EntryFilter = ℕ → ℕ → Bool

abbrev pub entry_redone_at : EntryFilter → List Attr → ℕ → ℕ → ℕ → JournalRecord → spaces.DataEntry → spaces.DataEntry
entry_redone_at which fields number at sequence e x =
    if is_for number at e && which sequence e.unit then change_redone_at e.kind fields at e.after x else x

-- ---- all entries

-- after entries in order of sequence, of which the first has this one
unfoldable pub redone_at_from : EntryFilter → List Attr → ℕ → ℕ → ℕ → List JournalRecord → spaces.DataEntry → spaces.DataEntry
redone_at_from which fields number at sequence [] x = x
redone_at_from which fields number at sequence (e ∷ es) x =
    redone_at_from which fields number at (sequence + 1) es (entry_redone_at which fields number at sequence e x)

-- after all entries that count: of unit 0 those after the image, and those of each unit whose COMMIT entry is after the
-- image
abbrev pub redone_at : List Attr → ℕ → ℕ → List JournalRecord → ℕ → spaces.DataEntry → spaces.DataEntry
redone_at fields number image es at x = redone_at_from (counts image es) fields number at 1 es x
