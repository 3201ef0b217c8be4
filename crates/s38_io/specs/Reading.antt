-- Whether a source was read, or failed.
use Rattle.std.specs.Prelude.{Bool, true, false, Result, Ok, Err}
use Rattle.s38_io.specs.declared.read.ReadFault.{ReadFault}
use Rattle.s38_io.specs.declared.read.ReadFault.TheVariants.{Failed, NoMemory}

-- the answer is that the source failed
abbrev pub has_failed : {T : Type 0} → Result T ReadFault → Bool
has_failed (Ok _) = false
has_failed (Err Failed) = true
has_failed (Err NoMemory) = false
