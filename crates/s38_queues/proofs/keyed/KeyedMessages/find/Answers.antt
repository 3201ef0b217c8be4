use Rattle.std.proofs.Common.{sym, ◌∙◌, ap}
use Rattle.std.specs.Option.{option_copied}
use Rattle.s38_queues.specs.MessageQueue.{message_at}
use Rattle.s38_queues.proofs.KeyedLaws.{found_first, nothing_found}
use Rattle.s38_queues.proofs.keyed.KeyedMessages.find.Goals as goal

pub returns-in_err-place : goal.returns-in_err-place
returns-in_err-place c =
    let k = c.self.inside in
    let none = nothing_found k.next k.messages k.places c.args.relation c.args.key.now c.args.self.now c.self.invariant c.in_err-place.ensures c.self.view_is in
    ap option_copied c.from_residual.ensures ∙ sym (ap (message_at c.args.self.now) none)

pub returns : goal.returns
returns c =
    let k = c.self.inside in
    let found = found_first k.next k.messages k.places c.args.relation c.args.key.now c.in_ok-place.place c.args.self.now c.self.invariant c.in_ok-place.ensures c.self.view_is in
    c.get.ensures.value ∙ sym found.message
