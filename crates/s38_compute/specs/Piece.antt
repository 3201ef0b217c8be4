-- The bytes of a piece, which is lent or was made.
use Rattle.std.specs.Prelude.{ℕ, List}
use Rattle.s38_compute.specs.declared.piece.Piece.{Piece}
use Rattle.s38_compute.specs.declared.piece.Piece.TheVariants.{Lent, Made}

abbrev pub piece_bytes : Piece → List ℕ
piece_bytes (Lent bytes) = bytes.now
piece_bytes (Made bytes) = bytes
