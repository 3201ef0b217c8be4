use Rattle.std.proofs.Common.{sym, ◌∙◌, ap}
use Rattle.std.specs.Map.{values_of}
use Rattle.s38_queues.specs.MessageQueue.{message_at}
use Rattle.s38_queues.specs.Places.{without_at}
use Rattle.s38_queues.proofs.KeyedLaws.{found_first, holds_at, nothing_found, placed_less}
use Rattle.s38_queues.proofs.keyed.KeyedMessages.take.Goals as goal

pub returns-in_err-place-clause-message : goal.returns-in_err-place-clause-message
returns-in_err-place-clause-message c =
    let k = c.self.inside in
    let none = nothing_found k.next k.messages k.places c.args.relation c.args.key.now c.args.self.now c.self.invariant c.in_err-place.ensures c.self.view_is in
    c.from_residual.ensures ∙ sym (ap (message_at c.args.self.now) none)

pub returns-in_err-place-clause-rest : goal.returns-in_err-place-clause-rest
returns-in_err-place-clause-rest c =
    let k = c.self.inside in
    let none = nothing_found k.next k.messages k.places c.args.relation c.args.key.now c.args.self.now c.self.invariant c.in_err-place.ensures c.self.view_is in
    sym (ap (without_at c.args.self.now) none)

pub invariant_of-self : goal.invariant_of-self
invariant_of-self c =
    let k = c.self.inside in
    let place = c.in_ok-place.place in
    let held = holds_at k.next k.messages k.places place c.self.invariant c.in_ok-place.ensures.0 in
    placed_less k.next k.messages c.remove-2.new.self k.places c.remove.new.self place held.message c.self.invariant held.there held.key_is
    c.remove.ensures.updates.0 c.remove-2.ensures.updates.0 c.remove-2.ensures.ordered

pub returns-clause-message : goal.returns-clause-message
returns-clause-message c =
    let k = c.self.inside in
    let found = found_first k.next k.messages k.places c.args.relation c.args.key.now c.in_ok-place.place c.args.self.now c.self.invariant c.in_ok-place.ensures c.self.view_is in
    c.remove-2.ensures.value ∙ sym found.message

pub returns-clause-rest : goal.returns-clause-rest
returns-clause-rest c =
    let k = c.self.inside in
    let found = found_first k.next k.messages k.places c.args.relation c.args.key.now c.in_ok-place.place c.args.self.now c.self.invariant c.in_ok-place.ensures c.self.view_is in
    ap values_of c.remove-2.ensures.entries ∙ sym found.rest
