use Rattle.std.proofs.Common.{◌≡◌, ℕ, ◌+◌, ◌-◌, ap, arith, subst, sym, ◌∙◌}
use Rattle.std.specs.Option.{option_copied}
use Rattle.std.specs.Prelude.{None, Some}
use Rattle.s38_memory.specs.Tagged.{resized}
use Rattle.s38_profiles.specs.Users.{SetsUser, charge_in, user_at}
use Rattle.s38_rules.specs.state.Held.{Held, object}
use Rattle.s38_rules.specs.state.Keeping.{paid}
use Rattle.s38_rules.specs.state.Kept.{Mirrors}
use Rattle.s38_rules.specs.state.Parts.{over_object, space_part}
use Rattle.s38_rules.specs.families.Spaces.{owner_pays, pages_for_length}
use Rattle.s38_rules.specs.state.State.{State}
use Rattle.s38_changes.proofs.StandingLaws.{length_counted, length_kept, space_stays, stays}
use Rattle.s38_changes.proofs.spaces.resize.Goals as goal

pub returns-in_default-clause-ok : goal.returns-in_default-clause-ok
returns-in_default-clause-ok c =
    let held : c.world.inside.objects ≡ c.args.world.now.held = ap (λ (s : State). s.held) c.world.view_is in
    let none : object c.world.inside.objects c.args.number.0 ≡ None = sym c.get.ensures ∙ ap (λ r. option_copied r) c.in_default.is in
    stays c.args.world.now c.args.number.0 (over_object space_part (resized c.args.len)) (subst (λ (h : Held). object h c.args.number.0 ≡ None) held none)

pub returns-in_default-body : goal.returns-in_default-body
returns-in_default-body c =
    let held : c.world.inside.objects ≡ c.args.world.now.held = ap (λ (s : State). s.held) c.world.view_is in
    let found : object c.world.inside.objects c.args.number.0 ≡ Some c.in-Some.object.now = sym c.get.ensures ∙ ap (λ r. option_copied r) c.in-Some.is in
    record {
      ok = space_stays c.args.world.now c.args.number.0 (resized c.args.len) c.in-Some.object.now (subst (λ (h : Held). object h c.args.number.0 ≡ Some c.in-Some.object.now) held found) c.in_default-body.not-Space;
      err = tt;
    }

pub pay_otherwise-requires : goal.pay_otherwise-requires
pay_otherwise-requires c =
    let held : c.world.inside.objects ≡ c.args.world.now.held = ap (λ (s : State). s.held) c.world.view_is in
    let found : object c.world.inside.objects c.args.number.0 ≡ Some c.in-Some.object.now = sym c.get.ensures ∙ ap (λ r. option_copied r) c.in-Some.is in
    let room = length_counted c.world.inside.profiles c.world.inside.objects c.args.number.0 c.args.len c.limit-limit.result c.in-Some.object.now c.len-count.ensures.lawful found
    (subst (λ (h : Held). owner_pays h c.args.number.0 (pages_for_length c.args.len) ≡ None) (sym held) c.requires.paid) c.limit-limit.ensures c.limit-limit.type_inv c.world.invariant.1 in
    omega (arith, room, c.pages-before.ensures, c.pages_for_length.ensures)

pub invariant_of-world-2 : goal.invariant_of-world-2
invariant_of-world-2 c =
    let found : object c.world.inside.objects c.args.number.0 ≡ Some c.in-Some.object.now = sym c.get.ensures ∙ ap (λ r. option_copied r) c.in-Some.is in
    let users = c.world.inside.profiles.users in
    let owner : ℕ = c.in-Some.object.now.owner.0 in (
      c.world.invariant.0,
      subst (λ (h : Held). Mirrors c.pay_otherwise.new.profiles h) (sym c.in-Ok.ensures.ok)
          (length_kept c.world.inside.profiles c.pay_otherwise.new.profiles c.world.inside.objects c.args.number.0 c.args.len c.in-Some.object.now c.in-Space.field-0 found c.in-Space.is
          (subst (λ (k : ℕ). SetsUser users owner (paid (charge_in (user_at users owner) - k + pages_for_length c.args.len) (user_at users owner)) c.pay_otherwise.new.profiles.users) c.pages-before.ensures
          (subst (λ (k : ℕ). SetsUser users owner (paid (charge_in (user_at users owner) - c.pages-before.result + k) (user_at users owner)) c.pay_otherwise.new.profiles.users) c.pages_for_length.ensures
          c.pay_otherwise.ensures.users))
          c.pay_otherwise.ensures.rows c.world.invariant.1),
    )
