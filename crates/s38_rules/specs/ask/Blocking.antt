-- What the locks of other processes keep a process from.
use Rattle.std.specs.Prelude.{ℕ, ◌-◌, Option, Some, None, slice_get}
use Rattle.s38_base.specs.declared.exception.Exception.{Exception}
use Rattle.s38_base.specs.declared.exception.Rule.TheVariants.{Held}
use Rattle.s38_base.specs.declared.op.Op.{Op}
use Rattle.s38_base.specs.declared.words.Category.{Category}
use Rattle.s38_base.specs.declared.words.Category.TheVariants.{Read, Change}
use Rattle.s38_base.specs.Exceptions as exceptions
use Rattle.s38_base.specs.Pointers.{target_of}
use Rattle.s38_locks.specs.Locks.{Lock, blocker}
use Rattle.s38_locks.specs.Table.{Table, locks_of}
use Rattle.s38_code.specs.declared.class.Class.{Class}
use Rattle.s38_code.specs.declared.class.Class.TheVariants.{NumberReceiver, BytesReceiver, PointerReceiver, CellsReceiver}
use Rattle.s38_code.specs.declared.operand.Operand.{Operand}
use Rattle.s38_code.specs.declared.operand.Operand.TheVariants as operands
use Rattle.s38_code.specs.Operations.{classes}

-- a lock is in the way: the exception says whose, and its state
abbrev pub held_by : ℕ → ℕ → Option Lock → Option Exception
held_by id operand None = None
held_by id operand (Some lock) = Some (record { id = id; operand = operand; rule = Held lock.0 lock.1 })

-- the least lock of another process that blocks such a use of the object of a number
abbrev pub blocked : Table → ℕ → ℕ → Category → Option Lock
blocked locks process n category = blocker process category (locks_of locks n)

-- a use is refused that a lock of another process blocks
unfoldable pub use_rule : Table → ℕ → ℕ → ℕ → Category → Option Exception
use_rule locks process operand n category = held_by exceptions.object_locked operand (blocked locks process n category)

-- what an operand at a place of this class does to the space in which it lies: a receiver changes it, a source reads it
abbrev pub class_use : Option Class → Category
class_use (Some NumberReceiver) = Change
class_use (Some BytesReceiver) = Change
class_use (Some PointerReceiver) = Change
class_use (Some CellsReceiver) = Change
class_use _ = Read

unfoldable pub use_at : Op → ℕ → Category
use_at op k = class_use (slice_get (classes op) (k - 1))

-- an item in a space
unfoldable pub item_lock : Table → ℕ → Op → ℕ → Operand → Option Exception
item_lock locks process op k (operands.InSpace base offset attr) = use_rule locks process k (target_of base) (use_at op k)
item_lock locks process op k _ = None
