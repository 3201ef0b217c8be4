use Rattle.std.proofs.Common.{ap, refl}
use Rattle.s38_rules.specs.state.Held.{kept_on_disk}
use Rattle.s38_objects.proofs.NumberLaws.{object_missing, object_written}
use Rattle.s38_objects.proofs.numbered.ensure.Goals as goal

pub returns-in-Some : goal.returns-in-Some
returns-in-Some c =
    let o = c.in-Some.object.now in
    let x = kept_on_disk o in
    object_written c.args.number kept_on_disk o x c.args.objects.now.entries _ c.in-Some.ensures.value (c.get_mut.follows.holds x).0 refl

pub returns-in_default : goal.returns-in_default
returns-in_default c =
    object_missing c.args.number kept_on_disk c.args.objects.now.entries _ c.in_default.ensures.value (ap (λ m. m.entries) c.get_mut.follows.holds-at-none)
