-- What a call that does not fail has met.
use Rattle.std.proofs.Common.{◌≡◌, ℕ, ◌<◌, false, nat_le, List, None, arith}
use Rattle.std.proofs.lemmas.Bool.Decides.{nat_tests}
use Rattle.s38_base.specs.Exceptions as exceptions
use Rattle.s38_code.specs.declared.operand.Operand.{Operand}
use Rattle.s38_rules.specs.state.Invocations.{frames_used, most_frames, stack_of}
use Rattle.s38_rules.specs.families.Calls.{argument_rule, callx_fails, frame_rule}
use Rattle.s38_rules.specs.state.State.{State}
use Rattle.s38_rules.proofs.RuleLaws.{fails_none, first_none}

-- a frame is left
pub frame_left : (s : State) (p d : ℕ) (ops : List Operand) → callx_fails s p d ops ≡ None → frames_used d (stack_of s p) < most_frames
unfolding callx_fails
frame_left s p d ops h =
    let none : nat_le most_frames (frames_used d (stack_of s p)) ≡ false = fails_none (nat_le most_frames (frames_used d (stack_of s p))) exceptions.limit_exceeded 0 (first_none (argument_rule s.held ops) (frame_rule s p d) h).1 in
    grind (arith, nat_tests)
