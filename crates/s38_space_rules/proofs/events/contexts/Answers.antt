use Rattle.std.proofs.Common.{refl}
use Rattle.s38_rules.specs.families.Contexts.{contexts_row}
use Rattle.s38_space_rules.proofs.events.contexts.Goals as goal

pub returns-in-Crtctx : goal.returns-in-Crtctx
unfolding contexts_row
returns-in-Crtctx c = rw c.in-Crtctx.is (c.made.ensures _ _ _ _ refl refl)
