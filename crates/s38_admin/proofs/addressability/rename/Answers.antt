use Rattle.std.proofs.Common.{◌≡◌, ◌∙◌, ap, sym}
use Rattle.std.specs.Option.{option_copied}
use Rattle.s38_rules.specs.state.State.{State}
use Rattle.s38_admin.proofs.ContextLaws.{rename_free}
use Rattle.s38_admin.proofs.addressability.rename.Goals as goal

pub rename_to-requires : goal.rename_to-requires
rename_to-requires c =
    let held : c.world.inside.objects ≡ c.args.world.now.held = ap (λ (s : State). s.held) c.world.view_is in
    rw (c.target-number.ensures, held)
    (rename_free c.args.world.now.held c.args.operands.now c.in-Some.id.now c.requires (sym c.id_at.ensures ∙ ap (λ r. option_copied r) c.in-Some.is))
