-- The rows of grants keep objects fitting one another.
use Rattle.std.proofs.Common.{◌+◌, ◌≤◌, ◌≡◌, Bool, List, arith, false, refl, subst, sym, true, ℕ}
use Rattle.std.specs.Prelude.{None, Option, Some}
use Rattle.s38_base.specs.declared.id.ObjNum.{ObjNum}
use Rattle.s38_base.specs.declared.op.Op.TheVariants.{Grant, Retract, Xfro}
use Rattle.s38_base.specs.declared.op.Op.{Op}
use Rattle.s38_code.specs.declared.operand.Operand.{Operand}
use Rattle.s38_rules.proofs.ChargeLaws.{some_page}
use Rattle.s38_rules.proofs.RuleLaws.{first_none}
use Rattle.s38_rules.proofs.VerdictLaws.{rule_met}
use Rattle.s38_rules.specs.families.Grants.{given_to, grants_row, taker_rule, with_granted, with_retracted, xfro, xfro_fails}
use Rattle.s38_rules.specs.families.Grantees.{user_at, with_rights}
use Rattle.s38_rules.specs.state.Held.{charge_in, pages_of, without_in}
use Rattle.s38_rules.specs.ask.Operands.{is_given, target}
use Rattle.s38_rules.specs.state.Access.{Access, access_of, on_access}
use Rattle.s38_rules.specs.state.State.{State}
use Rattle.s38_rules.specs.declared.object.Object.{Object}
use Rattle.s38_laws_images.specs.openings.Fitting.{IsUser}
use Rattle.s38_laws_state.proofs.HeadLaws.{access_fits}
use Rattle.s38_laws_state.proofs.FitRowLaws.{IsUsed, FitsIn, MayRow, pays}

owner_stays : (given : Bool) (user : ObjNum) (r : ℕ) (x : Access) → (with_rights given user r x).owner ≡ x.owner
owner_stays true user r x = refl
owner_stays false user r x = refl

granted_may : (s : State) (ops : List Operand) → FitsIn s s.held → FitsIn s (on_access s.held (target s.held ops 1) (with_granted s.held ops))
granted_may s ops fits = access_fits (IsUsed s.processes) s.held fits (target s.held ops 1) (with_granted s.held ops)
    (λ o at. subst (λ (u : ObjNum). IsUser s.held u.0) (sym (owner_stays (is_given ops 2) (user_at s.held ops 2) _ (access_of o))) (fits.each (target s.held ops 1) o at).owner)

retracted_may : (s : State) (ops : List Operand) → FitsIn s s.held → FitsIn s (on_access s.held (target s.held ops 1) (with_retracted s.held ops))
retracted_may s ops fits = access_fits (IsUsed s.processes) s.held fits (target s.held ops 1) (with_retracted s.held ops)
    (λ o at. subst (λ (u : ObjNum). IsUser s.held u.0) (sym (owner_stays (is_given ops 2) (user_at s.held ops 2) _ (access_of o))) (fits.each (target s.held ops 1) o at).owner)

xfro_may : MayRow xfro
unfolding xfro_fails
xfro_may s p d t fits e =
    access_fits (IsUsed s.processes) s.held fits n (given_to (user_at s.held t.operands 2))
    (λ o at. takes o (subst (λ (r : Option Object). taker_rule s.held n user r ≡ None) at (first_none _ _ (rule_met xfro s p d t e)).0))
  where
    n : ℕ
    n = target s.held t.operands 1

    user : ℕ
    user = target s.held t.operands 2

    takes : (o : Object) → taker_rule s.held n user (Some o) ≡ None → IsUser s.held user
    takes o met = pays s.held user (charge_in (without_in s.held.objects n) user + pages_of o.body) 2 (more (pages_of o.body) (some_page o.body)) met
      where
        more : (pages : ℕ) → 1 ≤ pages → 1 ≤ charge_in (without_in s.held.objects n) user + pages
        more pages some = omega (arith, some)

pub grants_may : (op : Op) → MayRow (grants_row op)
unfolding grants_row
grants_may Grant = λ s p d t fits e. granted_may s t.operands fits
grants_may Retract = λ s p d t fits e. retracted_may s t.operands fits
grants_may Xfro = xfro_may
grants_may _ = λ s p d t fits e. tt
