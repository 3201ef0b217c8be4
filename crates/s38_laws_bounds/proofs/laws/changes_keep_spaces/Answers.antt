use Rattle.s38_laws_bounds.proofs.SizeLaws.{done_keeps}
use Rattle.s38_laws_bounds.proofs.laws.changes_keep_spaces.Goals as goal

pub returns : goal.returns
returns c = record { kept = done_keeps }
