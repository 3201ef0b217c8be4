use Rattle.std.proofs.Common.{ap, refl}
use Rattle.s38_objects.specs.Changes.{placed}
use Rattle.s38_objects.proofs.NumberLaws.{object_missing, object_written}
use Rattle.s38_objects.proofs.numbered.place.Goals as goal

pub returns-in-Some : goal.returns-in-Some
returns-in-Some c =
    let o = c.in-Some.object.now in
    let x = record o { context = c.args.context; id = c.args.id } in
    object_written c.args.number (placed c.args.context c.args.id) o x c.args.objects.now.entries _ c.in-Some.ensures.value (c.get_mut.follows.holds x).0 refl

pub returns-in_default : goal.returns-in_default
returns-in_default c =
    object_missing c.args.number (placed c.args.context c.args.id) c.args.objects.now.entries _ c.in_default.ensures.value (ap (λ m. m.entries) c.get_mut.follows.holds-at-none)
