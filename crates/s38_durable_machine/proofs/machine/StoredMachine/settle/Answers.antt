use Rattle.std.proofs.Common.{All, ap, subst, sym, ◌∙◌}
use Rattle.s38_laws_images.specs.readable.Readable.{IsFit}
use Rattle.s38_rules.specs.state.Held.{Held}
use Rattle.s38_durable_machine.specs.Seen.{StoredView}
use Rattle.s38_durable_machine.proofs.machine.StoredMachine.settle.Goals as goal

pub flush_step-self-inside-requires-clause-fit : goal.flush_step-self-inside-requires-clause-fit
flush_step-self-inside-requires-clause-fit g c =
    subst (λ (h : Held). All IsFit h.objects) (ap (λ (x : StoredView _). x.machine.state.held) (sym c.self.view_is) ∙ sym c.objects.ensures) c.requires.fit
