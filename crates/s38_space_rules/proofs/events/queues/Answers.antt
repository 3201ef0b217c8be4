use Rattle.std.proofs.Common.{refl}
use Rattle.s38_rules.specs.families.Queues.{queues_row}
use Rattle.s38_space_rules.proofs.events.queues.Goals as goal

pub returns-in-Crtq : goal.returns-in-Crtq
unfolding queues_row
returns-in-Crtq c = rw c.in-Crtq.is (c.made.ensures _ _ _ _ refl refl)
