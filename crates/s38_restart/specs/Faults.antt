-- Why a store is not restarted.
use Rattle.std.specs.Prelude.{◌≡◌, ℕ, List, Option, Some}
use Rattle.s38_base.specs.declared.page.Change.{Change}
use Rattle.s38_restart.specs.catalog.Stores.{first_fault}
use Rattle.s38_image.specs.declared.fault.ImageFault.{ImageFault}
use Rattle.s38_image.specs.declared.fault.ImageFault.TheVariants as images
use Rattle.s38_restart.specs.Parts.{AreParts}
use Rattle.s38_restart.specs.declared.fault.RestartFault.{RestartFault}
use Rattle.s38_restart.specs.declared.fault.RestartFault.TheVariants as faults

-- why parts hold no object is why the store is not restarted
abbrev pub of_image : ImageFault → RestartFault
of_image (images.BadImage object part) = faults.BadImage object part
of_image images.NoMemory = faults.NoMemory

-- where an image is at fault it is the first one
abbrev pub NamesFirst : Option (ℕ × ℕ) → RestartFault → Type 0
NamesFirst first (faults.BadImage object part) = first ≡ Some (object, part)
NamesFirst first faults.Failed = Unit {0}
NamesFirst first faults.NoMemory = Unit {0}

-- where an image is at fault it is the first one of some parts
abbrev pub NamesFault : ℕ → RestartFault → Type 0
NamesFault limit (faults.BadImage object part) = (parts : List Change) × (AreParts parts × (first_fault limit parts ≡ Some (object, part)))
NamesFault limit faults.Failed = Unit {0}
NamesFault limit faults.NoMemory = Unit {0}
