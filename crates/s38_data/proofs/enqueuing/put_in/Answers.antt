use Rattle.std.proofs.Common.{sym, ap, ◌∙◌}
use Rattle.std.proofs.lemmas.Result.{on_ok_weaker, on_err_weaker}
use Rattle.s38_queues.specs.MessageQueue.{MessageQueue, message, with_message}
use Rattle.s38_rules.specs.state.Parts.{over_part, queue_part}
use Rattle.s38_rules.specs.state.LawfulParts.{queue_lawful}
use Rattle.s38_rules.proofs.PartLaws.{part_kept, part_same, part_written}
use Rattle.s38_data.proofs.enqueuing.put_in.Goals as goal

pub returns-in_default-clause-ok : goal.returns-in_default-clause-ok
returns-in_default-clause-ok c =
    sym (part_kept queue_part c.args.objects.now c.args.number.0 (λ q. with_message q (message c.args.key.now c.args.text.now)) (sym c.in_default.ensures.value))

pub returns-clause-ok : goal.returns-clause-ok
returns-clause-ok c =
    on_ok_weaker c.put_queue.result
    (λ e. ap (λ (q : MessageQueue). over_part queue_part c.args.objects.now c.args.number.0 (λ _. q)) e
    ∙ part_written queue_part c.args.objects.now c.args.number.0 (λ q. with_message q (message c.args.key.now c.args.text.now)) c.in-Some.queue.now (sym c.in-Some.ensures.value))
    c.put_queue.ensures.ok

pub returns-clause-err : goal.returns-clause-err
returns-clause-err c =
    on_err_weaker c.put_queue.result
    (λ e. ap (λ (q : MessageQueue). over_part queue_part c.args.objects.now c.args.number.0 (λ _. q)) e
    ∙ part_same queue_part queue_lawful c.args.objects.now c.args.number.0 c.in-Some.queue.now (sym c.in-Some.ensures.value))
    c.put_queue.ensures.err
