use Rattle.std.proofs.Common.{List, map, rules, subst, sym}
use Rattle.std.specs.List.{AllByRecursion}
use Rattle.std.specs.Map.Iter.{deref}
use Rattle.s38_checkpoint.proofs.PassLaws.{at_place}
use Rattle.s38_durable_state.specs.Durable.{whole_stored}
use Rattle.s38_image_writer.specs.Parts.{CanSettle}
use Rattle.s38_objects.proofs.KeptLaws.{all_gone, at_hand, one_more}
use Rattle.s38_rules.specs.store.Storable.{IsStorable}
use Rattle.s38_rules.specs.declared.object.Object.{Object}
use Rattle.s38_flush.specs.Stepping.{HasHeader}
use Rattle.s38_laws_checkpoint.proofs.puts.EachLaws.{all_have, each_more}
use Rattle.s38_laws_checkpoint.proofs.puts.headers.headers_can_be_read.Goals as goal

pub header_can_be_read-requires : goal.header_can_be_read-requires
header_can_be_read-requires c =
    let all = at_hand c.args.objects.now.objects c.loop-object.yielded c.into_iter-object-iterator.result c.loop-object.object-iterator c.next.new.self c.next.result c.in-Some.object (search rules) c.loop-object.yielded_by c.in-Some.is c.next.ensures.steps in
    at_place IsStorable c.args.objects.now.objects (map deref c.loop-object.yielded) c.next.new.self c.in-Some.object.now c.requires.storable all

pub loop-object-preserved : goal.loop-object-preserved
loop-object-preserved c =
    let h = c.args.objects.now in
    let units = c.args.units.now in
    let o = c.in-Some.object.now in
    let all = at_hand h.objects c.loop-object.yielded c.into_iter-object-iterator.result c.loop-object.object-iterator c.next.new.self c.next.result c.in-Some.object (search rules) c.loop-object.yielded_by c.in-Some.is c.next.ensures.steps in
    let settles = at_place (λ x. CanSettle units x.number.0 x.body) h.objects (map deref c.loop-object.yielded) c.next.new.self o c.requires.settles all in
    subst (λ (os : List Object). AllByRecursion (λ x. HasHeader (whole_stored units h x)) os) (sym (one_more c.loop-object.yielded c.in-Some.object))
    (each_more (λ x. HasHeader (whole_stored units h x)) (map deref c.loop-object.yielded) o c.loop-object.invariant (c.header_can_be_read.ensures units h settles))

pub returns : goal.returns
returns c =
    let h = c.args.objects.now in
    let units = c.args.units.now in
    let all = all_gone h.objects c.loop-object.yielded c.into_iter-object-iterator.result c.loop-object.object-iterator c.next.new.self c.next.result (search rules) c.loop-object.yielded_by c.in-None.is c.next.ensures.steps in
    all_have units h (subst (λ (os : List Object). AllByRecursion (λ x. HasHeader (whole_stored units h x)) os) all c.loop-object.invariant)
