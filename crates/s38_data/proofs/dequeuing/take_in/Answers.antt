use Rattle.std.proofs.Common.{sym, ap, ◌∙◌}
use Rattle.s38_queues.specs.MessageQueue.{MessageQueue}
use Rattle.s38_rules.specs.families.Queues.{left_by}
use Rattle.s38_rules.specs.state.Parts.{over_part, queue_part}
use Rattle.s38_rules.proofs.PartLaws.{part_kept, part_written}
use Rattle.s38_data.proofs.dequeuing.take_in.Goals as goal

pub returns-in-Some : goal.returns-in-Some
returns-in-Some c =
    ap (λ (q : MessageQueue). over_part queue_part c.args.objects.now c.args.number.0 (λ _. q)) c.take_queue.ensures
    ∙ part_written queue_part c.args.objects.now c.args.number.0 (left_by c.args.relation c.args.key.now) c.in-Some.queue.now (sym c.in-Some.ensures.value)

pub returns-in_default : goal.returns-in_default
returns-in_default c =
    sym (part_kept queue_part c.args.objects.now c.args.number.0 (left_by c.args.relation c.args.key.now) (sym c.in_default.ensures.value))
