-- What a reader of the code gives: what the format reads, unless memory is refused.
use Rattle.std.specs.Prelude.{◌≡◌, Option, Some, None, Result, Ok, Err}
use Rattle.s38_codec.specs.declared.fault.ReadFault.{ReadFault}
use Rattle.s38_codec.specs.declared.fault.ReadFault.TheVariants as faults

-- memory may be refused at any place; bad form is told exactly where the format reads nothing
abbrev pub Fails : {Y : Type 0} → ReadFault → Option Y → Type 0
Fails faults.NoMemory read = Unit {0}
Fails faults.BadForm read = read ≡ None

abbrev pub Gives : {X Y : Type 0} → (X → Y) → Result X ReadFault → Option Y → Type 0
Gives view (Ok x) read = read ≡ Some (view x)
Gives view (Err fault) read = Fails fault read
