use Rattle.std.proofs.Common.{◌≡◌, ℕ, Bool, not, sym, ap, ◌∙◌}
use Rattle.std.specs.Prelude.{Some, None, is_some}
use Rattle.s38_base.specs.Exceptions as exceptions
use Rattle.s38_base.specs.Signals.{fails}
use Rattle.s38_rules.specs.state.Journaling.{journal_for}
use Rattle.s38_rules.specs.families.Ports.{is_port_on_disk}
use Rattle.s38_rules.specs.ask.Operands.{target}
use Rattle.s38_commitment.proofs.CommitmentLaws.{journaled_first, journaled_then}
use Rattle.s38_commitment.proofs.objects.jrnlobj_fails.Goals as goal

pub returns-in-Some : goal.returns-in-Some
returns-in-Some c =
    let h = c.args.objects.now in
    let ops = c.args.operands.now in
    let space : is_some (journal_for h c.target-space.result.0) ≡ is_some (journal_for h (target h ops 1)) = ap (λ (n : ℕ). is_some (journal_for h n)) c.target-space.ensures in
    let told : fails (is_some (journal_for h (target h ops 1))) exceptions.object_in_use 1 ≡ Some c.in-Some.failure =
    sym (c.fails.ensures ∙ ap (λ (t : Bool). fails t exceptions.object_in_use 1) (c.is_journaled.ensures ∙ space)) ∙ c.in-Some.is in
    journaled_first h ops c.in-Some.failure told

pub returns : goal.returns
returns c =
    let h = c.args.objects.now in
    let ops = c.args.operands.now in
    let space : is_some (journal_for h c.target-space.result.0) ≡ is_some (journal_for h (target h ops 1)) = ap (λ (n : ℕ). is_some (journal_for h n)) c.target-space.ensures in
    let port : is_port_on_disk h c.target-port.result.0 ≡ is_port_on_disk h (target h ops 2) = ap (λ (n : ℕ). is_port_on_disk h n) c.target-port.ensures in
    let told : fails (is_some (journal_for h (target h ops 1))) exceptions.object_in_use 1 ≡ None =
    sym (c.fails.ensures ∙ ap (λ (t : Bool). fails t exceptions.object_in_use 1) (c.is_journaled.ensures ∙ space)) ∙ c.in_default.is in
    c.fails-2.ensures ∙ ap (λ (t : Bool). fails (not t) exceptions.object_not_on_disk 2) (c.is_port_on_disk.ensures ∙ port) ∙ journaled_then h ops told
