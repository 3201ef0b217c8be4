-- Why a change of a data space is refused.
use Rattle.std.specs.Prelude.{ℕ, ◌+◌, ◌==◌, nat_lt, Option, Some, None, List, length, if◌then◌else◌, is_some}
use Rattle.s38_dataspaces.specs.Entries.{entry_at}
use Rattle.s38_dataspaces.specs.Table.{DataTable, data_space_image_size, entry_len}
use Rattle.s38_dataspaces.specs.declared.fault.EntryFault.{EntryFault}
use Rattle.s38_dataspaces.specs.declared.fault.EntryFault.TheVariants.{BadLength, NoEntry, Full}

-- an entry has the length of the fields, and the image stays within 16,777,216 bytes
abbrev pub insert_refusal : DataTable → List ℕ → Option EntryFault
insert_refusal table entry =
    if length entry == entry_len table.fields
    then (if nat_lt 16777216 (data_space_image_size table.fields (length table.entries + 1)) then Some Full else None)
    else Some BadLength

-- an entry of the ordinal is present
abbrev pub delete_refusal : DataTable → ℕ → Option EntryFault
delete_refusal table at = if is_some (entry_at table.entries at) then None else Some NoEntry

-- an entry has the length of the fields, and then one of the ordinal is present
abbrev pub update_refusal : DataTable → ℕ → List ℕ → Option EntryFault
update_refusal table at entry = if length entry == entry_len table.fields then delete_refusal table at else Some BadLength
