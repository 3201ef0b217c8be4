use Rattle.std.proofs.Common.{◌∙◌, ◌≡◌, sym, subst}
use Rattle.std.specs.Prelude.{Some}
use Rattle.s38_rules.specs.state.Held.{Held, number_found}
use Rattle.s38_objects.proofs.IndexLaws.{found_object}
use Rattle.s38_objects.proofs.objects.Objects.find_object.Goals as goal

pub returns-in-Some : goal.returns-in-Some
returns-in-Some c =
    let m = c.self.inside in
    let n = c.in-Some.number in
    let found = subst (λ (h : Held). Some n ≡ number_found h c.args.context.0 c.args.id.now) (sym c.self.view_is) c.in-Some.ensures in
    rw (← c.self.view_is) (c.get.ensures.value ∙ found_object m.by_number m.by_name m.next m.ceiling c.args.context.0 c.args.id.now n c.self.invariant found)
