use Rattle.std.proofs.Common.{◌∙◌, ap, arith, map, rules, sum_by}
use Rattle.std.proofs.lemmas.List.Sums.{sum_by_push}
use Rattle.std.specs.Map.Iter.{deref}
use Rattle.s38_objects.proofs.KeptLaws.{all_gone, one_more}
use Rattle.s38_laws_images.specs.openings.Charges.{pages_in}
use Rattle.s38_store_file.proofs.charges.total_charge.Goals as goal

pub loop-object-preserved : goal.loop-object-preserved
loop-object-preserved c =
    let more = ap (sum_by pages_in) (one_more c.loop-object.yielded c.in-Some.object) ∙ sum_by_push pages_in (map deref c.loop-object.yielded) c.in-Some.object.now in
    record {
      sum = omega (arith, c.in_ok-total.ensures.1, c.loop-object.invariant.sum, c.pages.ensures, more);
      small = omega (arith, c.in_ok-total.ensures.0, c.in_ok-total.ensures.1);
    }

pub returns : goal.returns
returns c =
    let all = all_gone c.args.objects.now.objects c.loop-object.yielded c.into_iter-object-iterator.result c.loop-object.object-iterator c.next.new.self c.next.result (search rules) c.loop-object.yielded_by c.in-None.is c.next.ensures.steps in
    (c.loop-object.invariant.sum ∙ ap (sum_by pages_in) all, c.loop-object.invariant.small)
