use Rattle.std.proofs.Common.{◌++◌, ◌∷◌, [], List, ◌∙◌, ap}
use Rattle.std.specs.Map.{values_of}
use Rattle.s38_queues.specs.declared.message.Message.{Message}
use Rattle.s38_queues.proofs.KeyedLaws.{entered_last}
use Rattle.s38_queues.proofs.keyed.KeyedMessages.push.Goals as goal

pub returns-in-Ok-clause-ok : goal.returns-in-Ok-clause-ok
returns-in-Ok-clause-ok c =
    ap values_of c.in-Ok.ensures.entries
    ∙ entered_last c.self.inside.next c.args.message c.self.inside.messages.entries c.self.invariant.behind
    ∙ ap (λ (ms : List Message). ms ++ c.args.message ∷ []) c.self.view_is
