use Rattle.std.proofs.Common.{List, subst, sym, ◌∙◌}
use Rattle.std.proofs.lemmas.List.Elements.{All-weaker}
use Rattle.s38_laws_images.specs.readable.Readable.{IsFit}
use Rattle.s38_rules.specs.store.Forcing.{Forced}
use Rattle.s38_rules.specs.store.Storable.{IsStorable}
use Rattle.s38_flush.specs.Stepping.{AreNumbers}
use Rattle.s38_durable_machine.specs.Keeping.{KeepsStep}
use Rattle.s38_durable_machine.proofs.KeptLaws.{keeps_step}
use Rattle.s38_durable_machine.proofs.keeping.flush_step.Goals as goal

pub force-kept-requires-clause-storable : goal.force-kept-requires-clause-storable
force-kept-requires-clause-storable g c = All-weaker IsFit IsStorable (λ o fit. fit.storable) c.args.objects.now.objects c.requires.fit

pub force-kept-requires-clause-numbers : goal.force-kept-requires-clause-numbers
force-kept-requires-clause-numbers g c = subst (λ (all : List Forced). AreNumbers all) (sym (c.as_slice-forced.ensures.value ∙ c.numbered-numbered.ensures)) c.requires.numbers

pub returns : goal.returns
returns g c =
    let f = c.force-kept.ensures in
    let S = g.V.Vault in
    subst (λ (all : List Forced). KeepsStep S.view S.holds S.leaves c.args.vault.now c.force-kept.new.vault c.args.objects.now c.args.units.now all c.ending_of.result) (c.as_slice-forced.ensures.value ∙ c.numbered-numbered.ensures)
    (keeps_step S.view S.holds S.leaves c.args.vault.now c.force-kept.new.vault c.args.objects.now c.args.units.now _ c.force-kept.result c.ending_of.result c.ending_of.ensures c.forced_are_readable.ensures
    f.stands f.holds f.headers f.once f.moved c.moment-before.ensures.one c.moment-moment.ensures.present f.past f.later f.shape f.cause f.count)
