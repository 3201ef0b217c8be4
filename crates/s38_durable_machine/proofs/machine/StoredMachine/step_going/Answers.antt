use Rattle.std.proofs.Common.{◌∙◌, ap, length, sym}
use Rattle.s38_laws_flush.proofs.durable.KeepLaws.{DurableLaws}
use Rattle.s38_durable_machine.specs.Seen.{StoredView}
use Rattle.s38_durable_machine.proofs.AskLaws.{copied_told, some_there, waited}
use Rattle.s38_durable_machine.proofs.machine.StoredMachine.step_going.Goals as goal

pub copied-requires-clause-some : goal.copied-requires-clause-some
copied-requires-clause-some g c =
    let S = g.V.Vault in
    let e = c.in-Ok.ensures in
    let laws : DurableLaws = record { follows = c.durable_laws.ensures.follows; counts = c.durable_laws.ensures.counts; stays = c.durable_laws.ensures.stays } in
    let was = c.history-before.ensures ∙ ap (λ (x : StoredView _). x.machine.history) c.self.view_is in
    let is = c.history.ensures ∙ ap (λ (x : StoredView _). x.machine.history) c.self-in-Ok.view_is in
    some_there S.view S.holds S.leaves laws c.args.self.now c.ask.new.self c.args.process c.args.event c.requires.sound c.requires.going e.sound e.going e.origin e.moved e.later
    (λ same. c.if-history-before.false (ap length is ∙ same ∙ ap length (sym was)))

pub returns-then-history-before : goal.returns-then-history-before
returns-then-history-before g c =
    let S = g.V.Vault in
    let e = c.in-Ok.ensures in
    let laws : DurableLaws = record { follows = c.durable_laws.ensures.follows; counts = c.durable_laws.ensures.counts; stays = c.durable_laws.ensures.stays } in
    let was = c.history-before.ensures ∙ ap (λ (x : StoredView _). x.machine.history) c.self.view_is in
    let is = c.history.ensures ∙ ap (λ (x : StoredView _). x.machine.history) c.self-in-Ok.view_is in
    waited S.view S.holds S.leaves laws c.args.self.now c.ask.new.self c.args.process c.args.event c.requires.sound c.requires.going e.sound e.going e.origin e.moved e.later
    (ap length (sym is) ∙ c.if-history-before.true ∙ ap length was)

pub returns-else-history-before : goal.returns-else-history-before
returns-else-history-before g c =
    let S = g.V.Vault in
    let e = c.in-Ok.ensures in
    let laws : DurableLaws = record { follows = c.durable_laws.ensures.follows; counts = c.durable_laws.ensures.counts; stays = c.durable_laws.ensures.stays } in
    let was = c.history-before.ensures ∙ ap (λ (x : StoredView _). x.machine.history) c.self.view_is in
    let is = c.history.ensures ∙ ap (λ (x : StoredView _). x.machine.history) c.self-in-Ok.view_is in
    copied_told S.view S.holds S.leaves laws c.args.self.now c.ask.new.self c.args.process c.args.event c.requires.sound c.requires.going e.sound e.going e.origin e.moved e.later
    (λ same. c.if-history-before.false (ap length is ∙ same ∙ ap length (sym was))) c.copied.new.self c.copied.result c.copied.ensures.ok c.copied.ensures.err
