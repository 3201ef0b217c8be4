use Rattle.std.proofs.Common.{List, map, rules, subst, sym}
use Rattle.std.specs.Map.Iter.{deref}
use Rattle.s38_rules.specs.declared.object.Object.{Object}
use Rattle.s38_rules.specs.state.Keeping.{AreKeptRows}
use Rattle.s38_objects.proofs.KeptLaws.{all_gone, at_hand, fresh_at, no_rows_yet, one_more, rows_more}
use Rattle.s38_objects.proofs.kept.set_all_rows.Goals as goal

pub set_rows-requires-clause-new : goal.set_rows-requires-clause-new
set_rows-requires-clause-new c =
    let os = c.args.objects.now.objects in
    let all = at_hand os c.loop-object.yielded c.into_iter-object-iterator.result c.loop-object.object-iterator c.next.new.self c.next.result c.in-Some.object (search rules) c.loop-object.yielded_by c.in-Some.is c.next.ensures.steps in
    let gone = map deref c.loop-object.yielded in
    no_rows_yet c.loop-object.profiles.rows gone c.in-Some.object.now (fresh_at os gone c.next.new.self c.in-Some.object.now c.all-object-items.ensures.lawful.rising all) c.loop-object.invariant.rows

pub loop-object-preserved : goal.loop-object-preserved
loop-object-preserved c =
    let os = c.args.objects.now.objects in
    let all = at_hand os c.loop-object.yielded c.into_iter-object-iterator.result c.loop-object.object-iterator c.next.new.self c.next.result c.in-Some.object (search rules) c.loop-object.yielded_by c.in-Some.is c.next.ensures.steps in
    let gone = map deref c.loop-object.yielded in
    record {
      rows = subst (λ (l : List Object). AreKeptRows c.set_rows.new.profiles.rows l) (sym (one_more c.loop-object.yielded c.in-Some.object))
          (rows_more c.loop-object.profiles.rows c.set_rows.new.profiles.rows gone c.in-Some.object.now
          (fresh_at os gone c.next.new.self c.in-Some.object.now c.all-object-items.ensures.lawful.rising all) c.loop-object.invariant.rows
          (rw c.as_slice.ensures.value at c.in_ok-set_rows.ensures.rows));
      users = search rules;
    }

pub returns-clause-rows : goal.returns-clause-rows
returns-clause-rows c =
    let all = all_gone c.args.objects.now.objects c.loop-object.yielded c.into_iter-object-iterator.result c.loop-object.object-iterator c.next.new.self c.next.result (search rules) c.loop-object.yielded_by c.in-None.is c.next.ensures.steps in
    subst (λ (l : List Object). AreKeptRows c.loop-object.profiles.rows l) all c.loop-object.invariant.rows
