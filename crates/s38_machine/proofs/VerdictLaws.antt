-- What a permitted instruction has met.
use Rattle.std.proofs.Common.{◌≡◌, ℕ, None}
use Rattle.s38_code.specs.declared.event.Event.TheVariants.{Act}
use Rattle.s38_code.specs.declared.event.Request.{Request}
use Rattle.s38_rules.specs.declared.verdict.Verdict.TheVariants.{Permit}
use Rattle.s38_rules.specs.families.Rows.{row}
use Rattle.s38_rules.specs.state.State.{State}
use Rattle.s38_rules.specs.step.Verdict.{refused_by, ruled_verdict}
use Rattle.s38_rules.specs.step.Step.{awake_verdict}
use Rattle.s38_rules.proofs.RoomLaws.{permitted_by_rules}
use Rattle.s38_rules.proofs.VerdictLaws.{permitted_none, rule_met}

-- it meets its conditions
pub permitted_conditions : (s : State) (p depth : ℕ) (request : Request) → awake_verdict s p (Act depth request) ≡ Permit → (row request.op).fails s p depth request ≡ None
unfolding ruled_verdict
permitted_conditions s p depth request h =
    rule_met (row request.op) s p depth request (permitted_none s p request (refused_by (row request.op) s p depth request) (permitted_by_rules s p (Act depth request) h))
