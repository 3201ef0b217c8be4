use Rattle.std.proofs.Common.{◌∙◌}
use Rattle.s38_objects.proofs.NumberLaws.{lookup_object}
use Rattle.s38_objects.proofs.objects.Objects.get.Goals as goal

pub returns : goal.returns
returns c =
    let m = c.self.inside in
    rw (← c.self.view_is) (c.get.ensures.value ∙ lookup_object m.next c.args.number.0 m.by_number.entries c.self.invariant.numbered)
