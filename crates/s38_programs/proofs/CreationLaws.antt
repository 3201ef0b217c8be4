-- What a creation that does not fail has met.
use Rattle.std.proofs.Common.{◌≡◌, ℕ, List, None}
use Rattle.std.specs.Prelude.{Option}
use Rattle.s38_base.specs.declared.exception.Exception.{Exception}
use Rattle.s38_code.specs.declared.operand.Operand.{Operand}
use Rattle.s38_rules.specs.families.Creation.{creation_fails}
use Rattle.s38_rules.specs.families.Programs.{crtpg_fails, new_program, template_at, template_rule}
use Rattle.s38_rules.specs.state.State.{State}
use Rattle.s38_rules.specs.ask.Users.{user_of}
use Rattle.s38_rules.proofs.RuleLaws.{first_none}

-- a program that may be made meets the rules of creation
pub crtpg_created : (s : State) (p : ℕ) (ops : List Operand) → crtpg_fails s p ops ≡ None
    → (own : Option Exception) × (creation_fails s.held (user_of s p) (new_program s.held ops) own ≡ None)
unfolding crtpg_fails
crtpg_created s p ops h = (template_rule (template_at s ops), (first_none _ _ h).0)
