-- Bytes that are lent for writing: as many as there were come back, as they were written.
use Rattle.std.specs.Prelude.{ℕ, List, length}
use Rattle.std.specs.Borrow.{Array, Fml, Lends, MutBor}
use Rattle.std.specs.Borrow.{u8 as byte}
use Rattle.std.specs.List.{refill}
use Rattle.s38_base.specs.contracts.bytes.Bytes.{the_row}

abbrev pub LendsBytes : MutBor (List ℕ) → MutBor (List ℕ) → Fml
LendsBytes b r = Lends the_row (Array byte 0) b r (refill (length b.now) b.now)
