use Rattle.std.proofs.Common.{◌≡◌, ◌+◌, ℕ, None, ap, subst, sym}
use Rattle.s38_profiles.specs.Users.{SetsUser, charge_in, user_at}
use Rattle.s38_rules.specs.families.Creation.{pages_rule}
use Rattle.s38_rules.specs.state.Held.{Held, charge_in as charges, pages_of}
use Rattle.s38_rules.specs.state.Keeping.{paid}
use Rattle.s38_rules.specs.state.State.{State}
use Rattle.s38_changes.proofs.CreationLaws.{addition_kept}
use Rattle.s38_changes.proofs.creation.add.Goals as goal

pub invariant_of-world-in-Ok-enter : goal.invariant_of-world-in-Ok-enter
invariant_of-world-in-Ok-enter c =
    let o = c.args.object in
    let mid = c.prepare.new.profiles.users in
    let seen = sym (ap (λ (s : State). s.held) c.world.view_is) in (
      c.world.invariant.0,
      addition_kept c.world.inside.profiles c.prepare.new.profiles c.pay_within.new.profiles c.world.inside.objects c.enter.new.objects o c.fresh-number.result
          c.fresh-number.ensures.next c.fresh-number.ensures.given
          (subst (λ (h : Held). o.number.0 ≡ h.next) seen c.requires.number)
          (subst (λ (h : Held). pages_rule h o.owner.0 (charges h.objects o.owner.0 + pages_of o.body) 0 ≡ None) seen c.requires.paid)
          c.requires.rows c.in-Ok.ensures.rows c.in-Ok.ensures.users
          (subst (λ (p : ℕ). SetsUser mid o.owner.0 (paid (charge_in (user_at mid o.owner.0) + p) (user_at mid o.owner.0)) c.pay_within.new.profiles.users) c.pages-more.ensures c.pay_within.ensures.users)
          c.pay_within.ensures.rows c.in-Ok-enter.ensures.ok c.world.invariant.1,
    )
