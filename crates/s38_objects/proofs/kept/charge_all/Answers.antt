use Rattle.std.proofs.Common.{ℕ, ◌+◌, List, ap, map, refl, rules, subst, sym, arith}
use Rattle.std.specs.Map.Iter.{deref}
use Rattle.s38_profiles.specs.Users.{charge_in as charge_of, user_at}
use Rattle.s38_rules.specs.declared.object.Object.{Object}
use Rattle.s38_rules.specs.state.Held.{charge_in}
use Rattle.s38_rules.specs.state.Keeping.{AreUsers}
use Rattle.s38_objects.proofs.KeptLaws.{all_gone, at_hand, charge_fits, charged_more, none_charged, one_more}
use Rattle.s38_objects.proofs.kept.charge_all.Goals as goal

pub loop-object-init : goal.loop-object-init
loop-object-init c = record { users = none_charged c.args.profiles.now.users c.args.objects.now.objects c.requires.users; rows = refl }

pub pay_more-requires : goal.pay_more-requires
pay_more-requires c =
    let os = c.args.objects.now.objects in
    let all = at_hand os c.loop-object.yielded c.into_iter-object-iterator.result c.loop-object.object-iterator c.next.new.self c.next.result c.in-Some.object (search rules) c.loop-object.yielded_by c.in-Some.is c.next.ensures.steps in
    let fits = charge_fits c.loop-object.profiles.users os (map deref c.loop-object.yielded) c.next.new.self c.in-Some.object.now all c.loop-object.invariant.users in
    omega (arith, fits, c.requires.counted c.in-Some.object.now.owner.0, c.pages.ensures)

pub loop-object-preserved : goal.loop-object-preserved
loop-object-preserved c =
    let users = c.loop-object.profiles.users in
    let o = c.in-Some.object.now in
    record {
      users = subst (λ (l : List Object). AreUsers c.pay_more.new.profiles.users c.args.objects.now.objects (charge_in l)) (sym (one_more c.loop-object.yielded c.in-Some.object))
          (charged_more users c.pay_more.new.profiles.users c.args.objects.now.objects (map deref c.loop-object.yielded) o (charge_of (user_at users o.owner.0) + c.pages.result) c.loop-object.invariant.users
          (ap (λ (p : ℕ). charge_of (user_at users o.owner.0) + p) c.pages.ensures) c.pay_more.ensures.users);
      rows = search rules;
    }

pub returns-clause-users : goal.returns-clause-users
returns-clause-users c =
    let all = all_gone c.args.objects.now.objects c.loop-object.yielded c.into_iter-object-iterator.result c.loop-object.object-iterator c.next.new.self c.next.result (search rules) c.loop-object.yielded_by c.in-None.is c.next.ensures.steps in
    subst (λ (l : List Object). AreUsers c.loop-object.profiles.users c.args.objects.now.objects (charge_in l)) all c.loop-object.invariant.users
