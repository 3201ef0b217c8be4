-- A whole store: its first fault, and the objects that it holds.
use Rattle.std.specs.Prelude.{◌≡◌, ℕ, ◌+◌, ◌<◌, All, List, map, true, Option, Some, None, not, if◌then◌else◌}
use Rattle.std.specs.Option.{unwrap_or}
use Rattle.s38_base.specs.declared.page.Change.{Change}
use Rattle.s38_base.specs.Limits.{machine_context}
use Rattle.s38_image.specs.Faults.{Group, ceiling_in, group_is_on_disk, has_first_user, store_fault}
use Rattle.s38_image.specs.PartPlaces.{ceiling_key}
use Rattle.s38_image.specs.declared.fault.ImageFault.{ImageFault}
use Rattle.s38_image.specs.declared.fault.ImageFault.TheVariants as faults
use Rattle.s38_image.specs.declared.stored.Stored.{Stored}
use Rattle.s38_objects.specs.Lawful.{IsObjectMap}
use Rattle.s38_rules.specs.families.Profiles.{officer}
use Rattle.s38_restart.specs.catalog.Groups.{groups, parts_of_number}
use Rattle.s38_restart.specs.catalog.Readings.{all_sound, object_in_stored}

-- the first fault of all parts of a store; none where it can be restarted
abbrev pub first_fault : ℕ → List Change → Option (ℕ × ℕ)
first_fault limit parts = store_fault limit (parts_of_number ceiling_key parts) (groups parts)

-- the ceiling of all parts of a store, 0 if it is at fault
abbrev pub ceiling_of : List Change → ℕ
ceiling_of parts = unwrap_or (ceiling_in (parts_of_number ceiling_key parts)) 0

-- the objects that all parts of a store hold
abbrev pub objects_stored_in : ℕ → List Change → List Stored
objects_stored_in limit parts = all_sound (groups parts) limit (ceiling_of parts)

-- the machine context, if it has no header page, or the first user, if it is not there
abbrev pub missing_object : List Group → Option ℕ
missing_object gs = if not (group_is_on_disk gs machine_context) then Some machine_context else (if not (has_first_user gs) then Some officer else None)

-- a fault is the first one, unless memory was refused
abbrev pub IsFirst : Option (ℕ × ℕ) → ImageFault → Type 0
IsFirst first (faults.BadImage object part) = first ≡ Some (object, part)
IsFirst first faults.NoMemory = Unit {0}

-- the objects are those of an object map whose next number is after the ceiling, each says a context up to the ceiling,
-- and all are on disk
pub record FormObjectMap (ceiling : ℕ) (ss : List Stored) : Type 0 where
  pub lawful : IsObjectMap (record { objects = map object_in_stored ss; next = ceiling + 1; ceiling = ceiling })
  pub placed : All (λ o. o.context.0 < ceiling + 1) (map object_in_stored ss)
  pub on_disk : All (λ o. o.on_disk ≡ true) (map object_in_stored ss)
