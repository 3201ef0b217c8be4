-- The blocks of a disk are of bytes.
use Rattle.std.specs.Prelude.{ℕ, ◌<◌, slice_index}
use Rattle.s38_disk.specs.declared.block.Block.{Block}

abbrev pub IsOfBytes : Block → Type 0
IsOfBytes b = (k : ℕ) → slice_index b.bytes k < 256

abbrev pub AreOfBytes : (ℕ → Block) → Type 0
AreOfBytes f = (i : ℕ) → IsOfBytes (f i)
