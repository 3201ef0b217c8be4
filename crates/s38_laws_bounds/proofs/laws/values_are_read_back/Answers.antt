use Rattle.s38_laws_bounds.proofs.ReadLaws.{bytes_read, cells_read, pointer_read}
use Rattle.s38_laws_bounds.proofs.laws.values_are_read_back.Goals as goal

pub returns : goal.returns
returns c = record { bytes = bytes_read; pointer = pointer_read; cells = cells_read }
