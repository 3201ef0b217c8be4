-- What is told of parts that were read: the value, or the first part at fault, unless memory is refused.
use Rattle.std.specs.Prelude.{◌≡◌, ℕ, List, [], Option, Some, None, Result, Ok, Err}
use Rattle.s38_codec.specs.declared.fault.ReadFault.{ReadFault}
use Rattle.s38_codec.specs.declared.fault.ReadFault.TheVariants as reads
use Rattle.s38_image.specs.declared.fault.ImageFault.{ImageFault}
use Rattle.s38_image.specs.declared.fault.ImageFault.TheVariants as faults

-- memory may be refused at any place; a part is told exactly where it is the first at fault
abbrev pub Tells : {X Y : Type 0} → (X → Y) → ℕ → Result X ImageFault → Result Y ℕ → Type 0
Tells view number (Ok x) read = read ≡ Ok (view x)
Tells view number (Err (faults.BadImage object part)) read = (object ≡ number) × (read ≡ Err part)
Tells view number (Err faults.NoMemory) read = Unit {0}

-- a part that is not of its form
abbrev pub fault_of : ℕ → ℕ → ReadFault → ImageFault
fault_of number part reads.BadForm = faults.BadImage number part
fault_of number part reads.NoMemory = faults.NoMemory

-- no part, or one, is missing
abbrev pub missing : Option ℕ → Result (List ℕ) ℕ
missing None = Ok []
missing (Some part) = Err part
