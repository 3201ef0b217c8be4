-- Why an index does not take an entry, or give one up.
use Rattle.std.specs.Prelude.{◌+◌, nat_lt, Option, Some, None, length, if◌then◌else◌}
use Rattle.s38_indexes.specs.Entries.{EntryIndex, IndexEntry, entry_size, has_entry, index_image_size, largest}
use Rattle.s38_indexes.specs.declared.fault.IndexFault.{IndexFault}
use Rattle.s38_indexes.specs.declared.fault.IndexFault.TheVariants.{BadLength, Present, Full, Absent}

-- an entry may not be longer than the longest, then it must be new, and then there must be room for it
abbrev pub insert_refusal : IndexEntry → EntryIndex → Option IndexFault
insert_refusal entry index =
    if nat_lt index.longest (length entry) then Some BadLength else
    (if has_entry entry index.entries then Some Present else
    (if nat_lt largest (index_image_size index.entries + entry_size entry) then Some Full else None))

abbrev pub remove_refusal : IndexEntry → EntryIndex → Option IndexFault
remove_refusal entry index = if has_entry entry index.entries then None else Some Absent
