use Rattle.std.proofs.Common.{List, map, rules, subst, sym}
use Rattle.std.specs.Map.Iter.{deref}
use Rattle.s38_rules.specs.declared.object.Object.{Object}
use Rattle.s38_rules.specs.state.Keeping.{AreUsers}
use Rattle.s38_objects.proofs.KeptLaws.{absent_more, all_gone, at_hand, entered_more, fresh_at, one_more}
use Rattle.s38_objects.proofs.kept.enter_all.Goals as goal

pub enter-requires : goal.enter-requires
enter-requires c =
    let os = c.args.objects.now.objects in
    let all = at_hand os c.loop-object.yielded c.into_iter-object-iterator.result c.loop-object.object-iterator c.next.new.self c.next.result c.in-Some.object (search rules) c.loop-object.yielded_by c.in-Some.is c.next.ensures.steps in
    let gone = map deref c.loop-object.yielded in
    absent_more c.loop-object.profiles.users gone c.in-Some.object.now (fresh_at os gone c.next.new.self c.in-Some.object.now c.all-object-items.ensures.lawful.rising all) c.loop-object.invariant.users

pub loop-object-preserved : goal.loop-object-preserved
loop-object-preserved c =
    let os = c.args.objects.now.objects in
    let all = at_hand os c.loop-object.yielded c.into_iter-object-iterator.result c.loop-object.object-iterator c.next.new.self c.next.result c.in-Some.object (search rules) c.loop-object.yielded_by c.in-Some.is c.next.ensures.steps in
    let gone = map deref c.loop-object.yielded in
    record {
      users = subst (λ (l : List Object). AreUsers c.enter.new.profiles.users l (λ u. 0)) (sym (one_more c.loop-object.yielded c.in-Some.object))
          (entered_more c.loop-object.profiles.users c.enter.new.profiles.users gone c.in-Some.object.now
          (fresh_at os gone c.next.new.self c.in-Some.object.now c.all-object-items.ensures.lawful.rising all) c.loop-object.invariant.users c.in_ok-enter.ensures.users);
      rows = search rules;
    }

pub returns-clause-users : goal.returns-clause-users
returns-clause-users c =
    let all = all_gone c.args.objects.now.objects c.loop-object.yielded c.into_iter-object-iterator.result c.loop-object.object-iterator c.next.new.self c.next.result (search rules) c.loop-object.yielded_by c.in-None.is c.next.ensures.steps in
    subst (λ (l : List Object). AreUsers c.loop-object.profiles.users l (λ u. 0)) all c.loop-object.invariant.users
