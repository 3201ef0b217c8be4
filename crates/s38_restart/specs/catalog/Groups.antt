-- The parts of a store, by number.
use Rattle.std.specs.Prelude.{ℕ, Bool, ◌&&◌, ◌==◌, List, map, filter, not, None, if◌then◌else◌}
use Rattle.s38_base.specs.declared.page.Change.{Change}
use Rattle.s38_image.specs.Faults.{Group, group_is_on_disk}
use Rattle.s38_image.specs.PartPlaces.{ceiling_key}

-- a part of a number
abbrev pub is_part_of : ℕ → Change → Bool
is_part_of n c = c.key.object == n

-- all parts of a number
abbrev pub parts_of_number : ℕ → List Change → List Change
parts_of_number n parts = filter (is_part_of n) parts

-- a header page: part 0 of any number but that of the ceiling
abbrev pub is_header : Change → Bool
is_header c = (c.key.part == 0) && not (c.key.object == ceiling_key)

abbrev pub group_of : List Change → Change → Group
group_of parts c = record { number = c.key.object; parts = parts_of_number c.key.object parts }

-- each number that has a header page, with all its parts
abbrev pub groups : List Change → List Group
groups parts = map (group_of parts) (filter is_header parts)

-- an orphan page: its number has no header page, or it is one of the ceiling's number after the first
abbrev pub is_stray : List Group → Change → Bool
is_stray gs c = if c.key.object == ceiling_key then not (c.key.part == 0) else not (group_is_on_disk gs c.key.object)

-- the change that takes a part away
abbrev pub part_taken : Change → Change
part_taken c = record { key = c.key; page = None }

-- the changes that take away each orphan page
abbrev pub removals : List Change → List Change
removals parts = map part_taken (filter (is_stray (groups parts)) parts)
