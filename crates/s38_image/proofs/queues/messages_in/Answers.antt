use Rattle.std.proofs.Common.{◌≡◌, ◌≤◌, ℕ, ◌-◌, ◌+◌, Bool, cond, List, length, Some, None, ap, sym, ◌∙◌, arith}
use Rattle.std.proofs.lemmas.List.Sums.{sum_by_push}
use Rattle.std.proofs.lemmas.Result.{err_from_is_err_and}
use Rattle.s38_codec.specs.Codec.{times}
use Rattle.s38_codec.proofs.Loop.{goes_on, whole_done, whole_ends, with_front}
use Rattle.s38_image.specs.Queues.{message_form}
use Rattle.s38_queues.specs.MessageQueue.{MessageQueue, message as with_key, message_size, queue_image_size}
use Rattle.s38_queues.specs.declared.message.Message.{Message}
use Rattle.s38_image.proofs.queues.messages_in.Goals as goal

pub returns-in_err-key-clause-read : goal.returns-in_err-key-clause-read
returns-in_err-key-clause-read c =
    let p = err_from_is_err_and c.from_residual.result c.from_residual.ensures.1 in
    rw (p.1, p.2) (whole_ends (message_form c.args.key_len c.args.longest) c.in_err-key.field-0.0 c.loop.queue.messages c.args.count c.loop.counter c.loop.rest.now c.args.from.now c.loop-test.true c.in_err-key.ensures.read c.loop.invariant.read)

pub put-requires-clause-room : goal.put-requires-clause-room
put-requires-clause-room c = omega (arith, c.in_ok-key.ensures.len, c.loop.invariant.near, c.requires.near)

pub loop-preserved : goal.loop-preserved
loop-preserved c =
    let same = c.in_ok-put.ensures.ok in
    record {
      read = ap (λ (ms : List Message). with_front ms ((times (c.args.count - (c.loop.counter + 1)) (message_form c.args.key_len c.args.longest)).read c.in_ok-key.after.now)) (ap (λ (q : MessageQueue). q.messages) same)
          ∙ goes_on (message_form c.args.key_len c.args.longest) c.loop.queue.messages c.args.count c.loop.counter c.loop.rest.now _ c.in_ok-key.after.now _ c.loop-test.true c.in_ok-key.ensures.read c.loop.invariant.read;
      order = ap (λ (q : MessageQueue). q.order) same ∙ c.loop.invariant.order;
      key_len = ap (λ (q : MessageQueue). q.key_len) same ∙ c.loop.invariant.key_len;
      longest = ap (λ (q : MessageQueue). q.longest) same ∙ c.loop.invariant.longest;
      near = omega (arith, c.in_ok-key.ensures.len, c.loop.invariant.near, ap (λ (q : MessageQueue). queue_image_size q.messages) same, sum_by_push message_size c.loop.queue.messages (with_key c.in_ok-key.key.now c.in_ok-key.text.now));
    }

pub returns-then-not-is_empty-clause-read : goal.returns-then-not-is_empty-clause-read
returns-then-not-is_empty-clause-read c =
    whole_done (message_form c.args.key_len c.args.longest) c.loop.queue.messages c.args.count c.loop.counter c.loop.rest.now c.args.from.now c.loop-test.false c.loop.invariant.read
    ∙ ap (λ (b : Bool). cond b (Some c.loop.queue.messages) None) (sym c.is_empty.ensures ∙ c.if-not-is_empty.true)

pub returns-clause-read : goal.returns-clause-read
returns-clause-read c =
    whole_done (message_form c.args.key_len c.args.longest) c.loop.queue.messages c.args.count c.loop.counter c.loop.rest.now c.args.from.now c.loop-test.false c.loop.invariant.read
    ∙ ap (λ (b : Bool). cond b (Some c.loop.queue.messages) None) (sym c.is_empty.ensures ∙ c.if-not-is_empty.false)
