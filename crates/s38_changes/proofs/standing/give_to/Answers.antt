use Rattle.std.proofs.Common.{◌≡◌, ap, refl, subst, sym, ◌∙◌}
use Rattle.std.specs.Option.{option_copied}
use Rattle.std.specs.Prelude.{None, Some}
use Rattle.s38_rules.specs.families.Grants.{taker_rule}
use Rattle.s38_rules.specs.state.Held.{Held, object}
use Rattle.s38_rules.specs.state.PrivateRows.{AreRows}
use Rattle.s38_rules.specs.state.Access.{access_of, granted, owned_by, with_access}
use Rattle.s38_rules.specs.state.State.{State}
use Rattle.s38_changes.proofs.StandingLaws.{given_counted, object_given, standing_merged, stays}
use Rattle.s38_changes.proofs.standing.give_to.Goals as goal

pub returns-in_default-clause-ok : goal.returns-in_default-clause-ok
returns-in_default-clause-ok c =
    let held : c.world.inside.objects ≡ c.args.world.now.held = ap (λ (s : State). s.held) c.world.view_is in
    let none : object c.world.inside.objects c.args.number.0 ≡ None = sym c.get.ensures ∙ ap (λ r. option_copied r) c.in_default.is in
    stays c.args.world.now c.args.number.0 (λ o. with_access (owned_by c.args.user (granted c.args.user (record { 0 = 255 }) (access_of o))) o)
    (subst (λ (h : Held). object h c.args.number.0 ≡ None) held none)

pub pay_more-requires : goal.pay_more-requires
pay_more-requires c =
    let held : c.world.inside.objects ≡ c.args.world.now.held = ap (λ (s : State). s.held) c.world.view_is in
    let found : object c.world.inside.objects c.args.number.0 ≡ Some c.in-Some.object.now = sym c.get.ensures ∙ ap (λ r. option_copied r) c.in-Some.is in
    given_counted c.world.inside.profiles c.set_both.new.profiles c.pay_less.new.profiles c.world.inside.objects c.args.number.0 c.in-Some.object.now c.args.user.0 c.limit-limit.result c.pages-moved.result
    c.len-count.ensures.lawful found (subst (λ (h : Held). taker_rule h c.args.number.0 c.args.user.0 (object h c.args.number.0) ≡ None) (sym held) c.requires)
    c.pages-moved.ensures c.set_both.ensures.users c.limit-limit.ensures c.limit-limit.type_inv c.pay_less.ensures.users c.world.invariant.1

pub invariant_of-world-2 : goal.invariant_of-world-2
invariant_of-world-2 c =
    let held : c.world.inside.objects ≡ c.args.world.now.held = ap (λ (s : State). s.held) c.world.view_is in
    let found : object c.world.inside.objects c.args.number.0 ≡ Some c.in-Some.object.now = sym c.get.ensures ∙ ap (λ r. option_copied r) c.in-Some.is in (
      c.world.invariant.0,
      object_given c.world.inside.profiles c.set_both.new.profiles c.pay_less.new.profiles c.pay_more.new.profiles c.world.inside.objects c.set_both.new.objects c.set_owner.new.self
          c.args.number.0 c.in-Some.object.now c.args.user (record { 0 = 255 }) c.pages-moved.result c.len-count.ensures.lawful found
          (subst (λ rows. AreRows rows) c.as_slice-rows.ensures.value c.as_slice-rows.ensures.rows)
          (subst (λ (h : Held). taker_rule h c.args.number.0 c.args.user.0 (object h c.args.number.0) ≡ None) (sym held) c.requires)
          c.pages-moved.ensures c.in-Ok.ensures.ok c.in-Ok.ensures.rows c.set_both.ensures.users c.set_owner.ensures
          c.pay_less.ensures.users c.pay_less.ensures.rows c.pay_more.ensures.users c.pay_more.ensures.rows c.world.invariant.1,
    )

pub returns-clause-ok : goal.returns-clause-ok
returns-clause-ok c =
    rw (standing_merged c.world.inside.objects c.set_both.new.objects c.set_owner.new.self c.args.number.0 c.args.user (record { 0 = 255 }) c.in-Ok.ensures.ok c.set_owner.ensures, ← c.world.view_is) refl
