use Rattle.std.proofs.Common.{◌≡◌, ap, subst, sym, ◌∙◌}
use Rattle.std.specs.Prelude.{None}
use Rattle.std.specs.Option.{option_copied}
use Rattle.s38_rules.specs.state.Held.{Held, object}
use Rattle.s38_rules.specs.state.Access.{access_of, granted, with_access}
use Rattle.s38_rules.specs.state.State.{State}
use Rattle.s38_rules.specs.state.PrivateRows.{AreRows}
use Rattle.s38_changes.proofs.StandingLaws.{row_set, stays}
use Rattle.s38_changes.proofs.standing.set_row.Goals as goal

pub returns-in_default-clause-ok : goal.returns-in_default-clause-ok
returns-in_default-clause-ok c =
    let held : c.world.inside.objects ≡ c.args.world.now.held = ap (λ (s : State). s.held) c.world.view_is in
    let none : object c.world.inside.objects c.args.number.0 ≡ None = sym c.get.ensures ∙ ap (λ r. option_copied r) c.in_default.is in
    stays c.args.world.now c.args.number.0 (λ o. with_access (granted c.args.user c.args.rights (access_of o)) o) (subst (λ (h : Held). object h c.args.number.0 ≡ None) held none)

pub invariant_of-world : goal.invariant_of-world
invariant_of-world c =
    let found = sym c.get.ensures ∙ ap (λ r. option_copied r) c.in-Some.is in (
      c.world.invariant.0,
      row_set c.world.inside.profiles c.set_both.new.profiles c.world.inside.objects c.set_both.new.objects c.args.number.0 c.in-Some.object.now c.args.user c.args.rights c.set_both.result found
          (subst (λ rows. AreRows rows) c.as_slice-rows.ensures.value c.as_slice-rows.ensures.rows)
          c.set_both.ensures.ok c.set_both.ensures.rows c.set_both.ensures.users c.set_both.ensures.err c.set_both.ensures.err_rows c.world.invariant.1,
    )
