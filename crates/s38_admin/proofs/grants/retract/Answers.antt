use Rattle.std.proofs.Common.{◌≡◌, ap}
use Rattle.s38_rules.specs.families.AuthorityReads.{row_or_public}
use Rattle.s38_rules.specs.state.Held.{object}
use Rattle.s38_rules.specs.ask.Operands.{is_given, target}
use Rattle.s38_rules.specs.state.State.{State}
use Rattle.s38_admin.proofs.GrantLaws.{rights_taken}
use Rattle.s38_admin.proofs.grants.retract.Goals as goal

pub returns-clause-ok : goal.returns-clause-ok
returns-clause-ok c =
    let h = c.args.world.now.held in
    let ops = c.args.operands.now in
    let held : c.world.inside.objects ≡ h = ap (λ (s : State). s.held) c.world.view_is in
    let present : c.rights_of-present.result.0 ≡ row_or_public (is_given ops 2) (object h (target h ops 1)) (target h ops 2) = rw (← held) c.rights_of-present.ensures in
    rw (← rights_taken h ops, ← present, ← c.rights_at-less.ensures) c.set_rights.ensures.ok
