use Rattle.std.proofs.Common.{◌∙◌, ap, subst, sym}
use Rattle.std.specs.Prelude.{Some}
use Rattle.s38_laws_flush.proofs.durable.KeepLaws.{DurableLaws}
use Rattle.s38_machine.specs.Stored.{stored_state_of}
use Rattle.s38_rules.specs.step.Legal.{begun}
use Rattle.s38_rules.specs.state.State.{State}
use Rattle.s38_durable_machine.proofs.StartLaws.{begun_sound}
use Rattle.s38_durable_machine.specs.Sound.{IsSoundOver}
use Rattle.s38_durable_machine.specs.declared.ending.Ending.TheVariants.{Going}
use Rattle.s38_durable_machine.proofs.machine.StoredMachine.start.Goals as goal

pub returns-in-Ok-clause-sound : goal.returns-in-Ok-clause-sound
returns-in-Ok-clause-sound g c =
    let S = g.V.Vault in
    let laws : DurableLaws = record { follows = c.durable_laws.ensures.follows; counts = c.durable_laws.ensures.counts; stays = c.durable_laws.ensures.stays } in
    subst (λ v. IsSoundOver S.view S.holds S.leaves (record { machine = c.in-Ok.machine; vault = c.args.vault; first = v; ending = Going })) (sym c.of-first.ensures)
    (let opened : State = stored_state_of (Some c.args.room.room) c.args.objects c.args.templates c.args.jobs.now in
    begun_sound S.view S.holds S.leaves laws c.args.vault opened c.in-Ok.machine (c.in-Ok.ensures ∙ ap (λ n. begun n opened) c.moment-moment.ensures.moment) c.requires.state c.moment-moment.ensures.present)
