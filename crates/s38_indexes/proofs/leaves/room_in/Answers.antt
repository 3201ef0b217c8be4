use Rattle.std.proofs.Common.{◌∙◌, ◌+◌, ap, get_or, []}
use Rattle.std.specs.Prelude.{if◌then◌else◌}
use Rattle.s38_indexes.specs.Leaves.{reaches}
use Rattle.s38_indexes.proofs.SplitLaws.{either_half, same_entries}
use Rattle.s38_indexes.proofs.leaves.room_in.Goals as goal

pub returns-in-Ok-clause-place : goal.returns-in-Ok-clause-place
returns-in-Ok-clause-place c = (either_half c.args.key.now c.args.leaves.now.items c.split_at.new.leaves.items c.args.at c.half_for.result c.requires.place c.in-Ok.ensures.ok (c.half_for.ensures ∙ ap (λ ls. if reaches c.args.key.now (get_or ls c.args.at []) then c.args.at else c.args.at + 1) c.deref-in-Ok.ensures.value)).0

pub returns-in-Ok-clause-room : goal.returns-in-Ok-clause-room
returns-in-Ok-clause-room c = (either_half c.args.key.now c.args.leaves.now.items c.split_at.new.leaves.items c.args.at c.half_for.result c.requires.place c.in-Ok.ensures.ok (c.half_for.ensures ∙ ap (λ ls. if reaches c.args.key.now (get_or ls c.args.at []) then c.args.at else c.args.at + 1) c.deref-in-Ok.ensures.value)).1

pub returns-in-Ok-clause-same : goal.returns-in-Ok-clause-same
returns-in-Ok-clause-same c = same_entries c.args.leaves.now.items c.split_at.new.leaves.items c.args.at c.requires.place.inside c.in-Ok.ensures.ok
