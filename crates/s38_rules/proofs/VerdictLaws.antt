-- What a permitted request has met.
use Rattle.std.proofs.Common.{◌≡◌, ℕ, Bool, true, false, None, Some, Option, refl, cond}
use Rattle.s38_base.specs.declared.exception.Exception.{Exception}
use Rattle.s38_code.specs.declared.event.Request.{Request}
use Rattle.s38_rules.proofs.RuleLaws.{first_none}
use Rattle.s38_rules.specs.declared.verdict.Verdict.TheVariants.{Permit, Refuse}
use Rattle.s38_rules.specs.ask.Authority.{lacks_special}
use Rattle.s38_rules.specs.families.Instruction.{Instruction}
use Rattle.s38_rules.specs.state.State.{State, is_last_ready}
use Rattle.s38_rules.specs.ask.Users.{acting}
use Rattle.s38_rules.specs.step.Verdict.{lock_rules, may_wait, of_request, refused_by, unless_last}
use Rattle.s38_rules.specs.ask.RightsRules.{rights_rules}
use Rattle.s38_rules.specs.ask.AddressRules.{address_rules}

no_permit : (waits last : Bool) (x : Exception) → cond waits (unless_last last) (Refuse x) ≡ Permit → ⊥
no_permit true true x h = cc
no_permit true false x h = cc
no_permit false last x h = cc

-- no rule failed
pub permitted_none : (s : State) (p : ℕ) (t : Request) (x : Option Exception) → of_request s p t x ≡ Permit → x ≡ None
unfolding of_request
permitted_none s p t None h = refl
permitted_none s p t (Some x) h = absurd (no_permit (may_wait t.op t.operands x.id) (is_last_ready s p) x h)

-- an instruction that no rule refuses meets its own conditions and limits
pub rule_met : (i : Instruction) (s : State) (p d : ℕ) (t : Request) → refused_by i s p d t ≡ None → i.fails s p d t ≡ None
unfolding refused_by
rule_met i s p d t h =
    let one = first_none (address_rules s.held t.operands (i.needs s p d t)) _ h in
    let two = first_none (lacks_special s.held (acting s p d) (i.special s p d t)) _ one.1 in
    let three = first_none (rights_rules s p d t.operands (i.needs s p d t)) _ two.1 in
    (first_none (lock_rules s p t (i.needs s p d t)) _ three.1).1
