use Rattle.std.proofs.Common.{◌≡◌, [], List, ap, subst, arith}
use Rattle.s38_rules.specs.declared.object.Object.{Object}
use Rattle.s38_objects.proofs.RestoreLaws.{AreLast, indexed_whole, last_more, last_none, none_left}
use Rattle.s38_objects.proofs.objects.Objects.restored.Goals as goal

pub loop-object-init : goal.loop-object-init
loop-object-init c = last_none c.args.next c.new-by_number.result c.new-by_name.result c.args.objects.items c.new-by_number.ensures.empty c.new-by_name.ensures.empty c.new-by_number.ensures.ordered

pub loop-object-preserved : goal.loop-object-preserved
loop-object-preserved c =
    let m = c.loop-object.by_number in
    let before = subst (λ (os : List Object). AreLast c.args.next m c.loop-object.by_name os c.args.objects.items) c.in-Some.ensures.items c.loop-object.invariant in
    last_more c.args.next m c.add.new.objects c.loop-object.by_name c.enter.new.names c.pop.new.self.items c.in-Some.object c.args.objects.items
    c.requires.lawful.rising c.requires.lawful.given c.requires.placed before c.in-Ok.ensures.ok c.in-Ok.ensures.ordered c.in_ok-enter.ensures.ok

pub invariant_of-result : goal.invariant_of-result
invariant_of-result c =
    let none : c.loop-object.objects.items ≡ [] = none_left c.loop-object.objects.items (omega (arith, c.in_default.ensures.cases.0, c.loop-object.objects.ok)) in
    let whole = subst (λ (os : List Object). AreLast c.args.next c.loop-object.by_number c.loop-object.by_name os c.args.objects.items) none c.loop-object.invariant in
    indexed_whole c.args.next c.args.ceiling c.loop-object.by_number c.loop-object.by_name c.args.objects.items c.requires.lawful c.requires.placed whole

pub returns : goal.returns
returns c =
    let none : c.loop-object.objects.items ≡ [] = none_left c.loop-object.objects.items (omega (arith, c.in_default.ensures.cases.0, c.loop-object.objects.ok)) in
    let whole = subst (λ (os : List Object). AreLast c.args.next c.loop-object.by_number c.loop-object.by_name os c.args.objects.items) none c.loop-object.invariant in
    ap (λ (os : List Object). record { objects = os; next = c.args.next; ceiling = c.args.ceiling }) whole.parted
