use Rattle.std.proofs.Common.{ap, refl}
use Rattle.s38_rules.specs.state.Access.{owned_by}
use Rattle.s38_objects.specs.Changes.{with_changed_standing}
use Rattle.s38_objects.proofs.NumberLaws.{object_missing, object_written}
use Rattle.s38_objects.proofs.numbered.set_owner.Goals as goal

pub returns-in-Some : goal.returns-in-Some
returns-in-Some c =
    let o = c.in-Some.object.now in
    let x = record o { owner = c.args.user } in
    object_written c.args.number (with_changed_standing (owned_by c.args.user)) o x c.args.objects.now.entries _ c.in-Some.ensures.value (c.get_mut.follows.holds x).0 refl

pub returns-in_default : goal.returns-in_default
returns-in_default c =
    object_missing c.args.number (with_changed_standing (owned_by c.args.user)) c.args.objects.now.entries _ c.in_default.ensures.value (ap (λ m. m.entries) c.get_mut.follows.holds-at-none)
