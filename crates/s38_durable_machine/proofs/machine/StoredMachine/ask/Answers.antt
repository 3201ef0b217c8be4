use Rattle.std.proofs.Common.{◌≡◌, All, List, ap, subst, sym, ◌∙◌}
use Rattle.std.specs.Prelude.{IfOk, OnOk, Some}
use Rattle.s38_code.specs.Asking.{reply_by}
use Rattle.s38_laws_flush.proofs.durable.KeepLaws.{DurableLaws}
use Rattle.s38_image_writer.specs.Parts.{CanSettle}
use Rattle.s38_laws_images.specs.readable.Readable.{IsFit}
use Rattle.s38_rules.specs.store.Forcing.{Forced}
use Rattle.s38_rules.specs.step.Legal.{IsProcess, Run}
use Rattle.s38_rules.specs.state.State.{State}
use Rattle.s38_rules.specs.step.Step.{step}
use Rattle.s38_flush.specs.Numbers.{numbered}
use Rattle.s38_flush.specs.Stepping.{AreNumbers}
use Rattle.s38_durable_machine.specs.Commits.{CommitsFew}
use Rattle.s38_durable_machine.specs.Keeping.{IsFlushed}
use Rattle.s38_durable_machine.specs.Seen.{StoredView, run_of}
use Rattle.s38_durable_machine.specs.Sound.{CanBeStored, IsSoundOver}
use Rattle.s38_durable_machine.specs.declared.ending.Ending.TheVariants.{Going}
use Rattle.s38_durable_machine.proofs.FewLaws.{CommitLaws, few_settled}
use Rattle.s38_durable_machine.proofs.SettledLaws.{IsSoundAfter, after_settled, after_state, replied, same_beginning}
use Rattle.s38_durable_machine.proofs.StateLaws.{anew_numbers, step_stored, stored_fit, stored_settles}
use Rattle.s38_durable_machine.proofs.machine.StoredMachine.ask.Goals as goal

pub settle-requires-clause-fit : goal.settle-requires-clause-fit
settle-requires-clause-fit g c =
    let can = subst (λ (x : StoredView _). CanBeStored x.machine.state) (sym c.self.view_is) c.requires.sound.state in
    subst (λ (s : State). All IsFit s.held.objects) (sym (ap (λ (r : Run). r.state) c.in-Ok.ensures.ok ∙ after_state c.self.inside.machine c.args.process c.args.event))
    (stored_fit _ (step_stored c.self.inside.machine.state c.args.process c.args.event can))

pub settle-requires-clause-settles : goal.settle-requires-clause-settles
settle-requires-clause-settles g c =
    let can = subst (λ (x : StoredView _). CanBeStored x.machine.state) (sym c.self.view_is) c.requires.sound.state in
    subst (λ (s : State). All (λ o. CanSettle s.units o.number.0 o.body) s.held.objects) (sym (ap (λ (r : Run). r.state) c.in-Ok.ensures.ok ∙ after_state c.self.inside.machine c.args.process c.args.event))
    (stored_settles _ (step_stored c.self.inside.machine.state c.args.process c.args.event can))

pub settle-requires-clause-numbers : goal.settle-requires-clause-numbers
settle-requires-clause-numbers g c =
    let can = subst (λ (x : StoredView _). CanBeStored x.machine.state) (sym c.self.view_is) c.requires.sound.state in
    subst (λ (all : List Forced). AreNumbers (numbered all)) (sym c.in-Ok.ensures.anew) (anew_numbers c.self.inside.machine.state c.args.process c.args.event can)

pub returns-in-Ok : goal.returns-in-Ok
returns-in-Ok g c =
    let S = g.V.Vault in
    let laws : DurableLaws = record { follows = c.durable_laws.ensures.follows; counts = c.durable_laws.ensures.counts; stays = c.durable_laws.ensures.stays } in
    let commit_laws : CommitLaws = record { few = c.a_commit_puts_few_parts.ensures.few; ceiling = c.a_commit_puts_few_parts.ensures.ceiling } in
    let x : StoredView _ = record { machine = c.self.inside.machine; vault = c.self.inside.vault; first = c.self.inside.first.value; ending = c.self.inside.ending } in
    let sound = subst (λ (z : StoredView _). IsSoundOver S.view S.holds S.leaves z) (sym c.self.view_is) c.requires.sound in
    let going = subst (λ (z : StoredView _). z.ending ≡ Going) (sym c.self.view_is) c.requires.going in
    let may = subst (λ (z : StoredView _). IsProcess z.machine.origin c.args.process) (sym c.self.view_is) c.requires.may in
    let settled = subst (λ (r : Run). IsFlushed S.view S.holds S.leaves (record { machine = r; vault = x.vault; first = x.first; ending = x.ending }) c.settle.new.self c.in-Ok.all c.in-Ok.asked c.settle.result) c.in-Ok.ensures.ok c.settle.ensures in
    let inside = after_settled S.view S.holds S.leaves laws x c.args.process c.args.event sound going may c.in-Ok.asked c.settle.new.self c.in-Ok.all c.settle.result c.in-Ok.ensures.anew settled in
    let b = subst (λ (z : StoredView _). IsSoundAfter S.view S.holds S.leaves z c.settle.new.self c.args.process c.args.event c.in-Ok.asked c.settle.result) c.self.view_is inside in
    let answered = subst (λ (r : Run). reply_by c.in-Ok.asked r.history ≡ Some (step x.machine.state c.args.process c.args.event).reply) c.in-Ok.ensures.ok c.in-Ok.ensures.reply in
    record {
      sound = b.sound;
      origin = same_beginning c.args.self.now c.settle.new.self b.first b.origin;
      moved = b.moved;
      later = b.later;
      reply = subst (λ (z : StoredView _). IfOk c.settle.result (λ a. reply_by a (run_of c.settle.new.self).history ≡ Some (step (run_of z).state c.args.process c.args.event).reply)) c.self.view_is
          (replied S.view S.holds S.leaves x c.settle.new.self c.args.process c.args.event c.in-Ok.asked c.settle.result going inside answered);
      going = b.going;
      history = b.history;
      marks = b.marks;
      stopped = b.stopped;
      refused = b.refused;
      commits = subst (λ (z : StoredView _). OnOk c.settle.result (CommitsFew S.holds z c.settle.new.self c.args.process c.args.event)) c.self.view_is
          (few_settled S.view S.holds S.leaves laws commit_laws x c.args.process c.args.event sound going may c.settle.new.self c.in-Ok.all c.in-Ok.asked c.settle.result c.in-Ok.ensures.anew settled);
    }
