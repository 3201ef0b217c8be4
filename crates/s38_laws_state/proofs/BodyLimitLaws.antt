-- When a row keeps bodies to their limits.
use Rattle.s38_base.specs.Limits.{body_limit}
use Rattle.s38_code.specs.declared.event.Request.{Request}
use Rattle.s38_rules.specs.families.Instruction.{Instruction}
use Rattle.s38_rules.specs.state.State.{State}
use Rattle.s38_rules.specs.step.Verdict.{refused_by}
use Rattle.s38_laws_state.proofs.BodyLaws.{May}
use Rattle.std.proofs.Common.{arith, false, ℕ, ◌≡◌, ◌≤◌}
use Rattle.std.proofs.lemmas.Bool.Decides.{nat_tests}
use Rattle.std.specs.Prelude.{None, nat_lt}

-- the limit of a body, under which a body that is made new is short
abbrev pub IsLimit : ℕ → Type 0
IsLimit limit = limit ≡ body_limit

abbrev pub MayRow : Instruction → Type 0
MayRow i = (s : State) (p d : ℕ) (t : Request) → IsLimit s.limit → refused_by i s p d t ≡ None → May s.limit s p (i.changes s p d t)

pub under : (a b : ℕ) → nat_lt a b ≡ false → b ≤ a
under a b h = grind (arith, nat_tests)
