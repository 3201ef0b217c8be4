use Rattle.std.proofs.Common.{Bor, List, ℕ, ap, map, refl, ◌∙◌}
use Rattle.std.proofs.KnownBytes.{Keeps-refl}
use Rattle.std.specs.Prelude.{Some}
use Rattle.s38_command.specs.declared.command.Command.TheVariants.{Check, Install, Jobs, List as Listing}
use Rattle.s38_command.specs.Commands.{AreTurnsOn, command_on}
use Rattle.s38_top.specs.Outside.{outside}
use Rattle.s38_top.proofs.SafeLaws.{safe_none, safe_of, unprepared_safe}
use Rattle.s38_top.proofs.CompleteLaws.{asked_by, source_decided, turns_by_call}
use Rattle.s38_top.proofs.CauseLaws.{generated_holds, source_holds, store_holds}
use Rattle.s38_top.proofs.prepare.prepare.Goals as goal

pub returns-in-Jobs-clause-asked : goal.returns-in-Jobs-clause-asked
returns-in-Jobs-clause-asked g c =
    asked_by c.ready_run.result (λ r. r.turns) _ c.in-Jobs.turns (c.in-Ok.ensures.command ∙ ap Some c.in-Jobs.is) c.ready_run.ensures.turns

pub returns-in-Jobs-clause-turns : goal.returns-in-Jobs-clause-turns
returns-in-Jobs-clause-turns g c =
    turns_by_call c.ready_run.result (λ r. r.turns) (AreTurnsOn c.args.threads) c.in-Jobs.turns (c.in-Ok.ensures.turns c.in-Jobs.turns c.in-Jobs.is) c.ready_run.ensures.turns

pub returns-in-Jobs-clause-decided : goal.returns-in-Jobs-clause-decided
returns-in-Jobs-clause-decided g c =
    source_decided c.ready_run.result (λ d. g.D.Disk.view d.disk) (λ d. d.outcome) _ (Jobs c.in-Jobs.turns) (g.S.Source.left c.args.source.now) (g.S.Source.left c.ready_run.new.source) (g.S.Source.faults c.args.source.now) (g.S.Source.faults c.ready_run.new.source)
    (g.D.Disk.view c.args.disk) (c.in-Ok.ensures.command ∙ ap Some c.in-Jobs.is) refl c.ready_run.ensures.cause

pub returns-in-Check-clause-decided : goal.returns-in-Check-clause-decided
returns-in-Check-clause-decided g c = λ written written' put put'.
    source_holds (command_on c.args.threads (map {A = Bor (List ℕ)} {B = List ℕ} (λ w. w.now) c.args.words.now))
    (outside (g.S.Source.left c.args.source.now) (g.S.Source.faults c.args.source.now) written put (g.D.Disk.view c.args.disk))
    (outside (g.S.Source.left c.of_check.new.source) (g.S.Source.faults c.of_check.new.source) written' put' (g.D.Disk.view c.args.disk))
    Check c.of_check.result (c.in-Ok.ensures.command ∙ ap Some c.in-Check.is) refl (c.of_check.ensures (g.D.Disk.view c.args.disk))

pub returns-in-Demo-clause-decided : goal.returns-in-Demo-clause-decided
returns-in-Demo-clause-decided g c =
    let within = c.in-Ok.ensures.size c.in-Demo.size c.in-Demo.is in
    λ written written' put put'.
    generated_holds (command_on c.args.threads (map {A = Bor (List ℕ)} {B = List ℕ} (λ w. w.now) c.args.words.now))
    (outside (g.S.Source.left c.args.source.now) (g.S.Source.faults c.args.source.now) written put (g.D.Disk.view c.args.disk))
    (outside (g.S.Source.left c.args.source.now) (g.S.Source.faults c.args.source.now) written' put' (g.D.Disk.view c.args.disk))
    c.in-Demo.size c.of_generated.result (c.in-Ok.ensures.command ∙ ap Some c.in-Demo.is) within.0 within.1 (Keeps-refl (g.S.Source.left c.args.source.now)) (c.of_generated.ensures (g.D.Disk.view c.args.disk))

pub returns-in-Install-clause-decided : goal.returns-in-Install-clause-decided
returns-in-Install-clause-decided g c = λ written written' put put'.
    store_holds (command_on c.args.threads (map {A = Bor (List ℕ)} {B = List ℕ} (λ w. w.now) c.args.words.now))
    (outside (g.S.Source.left c.args.source.now) (g.S.Source.faults c.args.source.now) written put (g.D.Disk.view c.args.disk))
    (outside (g.S.Source.left c.args.source.now) (g.S.Source.faults c.args.source.now) written' put' (g.D.Disk.view c.of_install.result.disk))
    Install c.of_install.result.outcome (c.in-Ok.ensures.command ∙ ap Some c.in-Install.is) (Keeps-refl (g.S.Source.left c.args.source.now)) c.of_install.ensures.comes

pub returns-in-List-clause-decided : goal.returns-in-List-clause-decided
returns-in-List-clause-decided g c = λ written written' put put'.
    store_holds (command_on c.args.threads (map {A = Bor (List ℕ)} {B = List ℕ} (λ w. w.now) c.args.words.now))
    (outside (g.S.Source.left c.args.source.now) (g.S.Source.faults c.args.source.now) written put (g.D.Disk.view c.args.disk))
    (outside (g.S.Source.left c.args.source.now) (g.S.Source.faults c.args.source.now) written' put' (g.D.Disk.view c.of_list.result.disk))
    Listing c.of_list.result.outcome (c.in-Ok.ensures.command ∙ ap Some c.in-List.is) (Keeps-refl (g.S.Source.left c.args.source.now)) c.of_list.ensures.comes

pub returns-in-Err-clause-decided : goal.returns-in-Err-clause-decided
returns-in-Err-clause-decided g c = c.in-Err.ensures.cause (g.S.Source.left c.args.source.now) (g.S.Source.faults c.args.source.now) (g.D.Disk.view c.args.disk)

pub returns-in-Err-clause-safe : goal.returns-in-Err-clause-safe
returns-in-Err-clause-safe g c = safe_none (command_on c.args.threads (map {A = Bor (List ℕ)} {B = List ℕ} (λ w. w.now) c.args.words.now)) (g.D.Disk.view c.args.disk) c.in-Err.outcome

pub returns-in-Jobs-clause-safe : goal.returns-in-Jobs-clause-safe
returns-in-Jobs-clause-safe g c =
    unprepared_safe c.ready_run.result (λ d. g.D.Disk.view d.disk) (λ d. d.outcome) (command_on c.args.threads (map {A = Bor (List ℕ)} {B = List ℕ} (λ w. w.now) c.args.words.now)) c.in-Jobs.turns (g.D.Disk.view c.args.disk) (c.in-Ok.ensures.command ∙ ap Some c.in-Jobs.is) c.ready_run.ensures.safe

pub returns-in-Check-clause-safe : goal.returns-in-Check-clause-safe
returns-in-Check-clause-safe g c = safe_none (command_on c.args.threads (map {A = Bor (List ℕ)} {B = List ℕ} (λ w. w.now) c.args.words.now)) (g.D.Disk.view c.args.disk) c.of_check.result

pub returns-in-Demo-clause-safe : goal.returns-in-Demo-clause-safe
returns-in-Demo-clause-safe g c = safe_none (command_on c.args.threads (map {A = Bor (List ℕ)} {B = List ℕ} (λ w. w.now) c.args.words.now)) (g.D.Disk.view c.args.disk) c.of_generated.result

pub returns-in-Install-clause-safe : goal.returns-in-Install-clause-safe
returns-in-Install-clause-safe g c =
    safe_of (command_on c.args.threads (map {A = Bor (List ℕ)} {B = List ℕ} (λ w. w.now) c.args.words.now)) Install (g.D.Disk.view c.args.disk) (g.D.Disk.view c.of_install.result.disk) c.of_install.result.outcome (c.in-Ok.ensures.command ∙ ap Some c.in-Install.is)
    c.of_install.ensures.safe

pub returns-in-List-clause-safe : goal.returns-in-List-clause-safe
returns-in-List-clause-safe g c =
    safe_of (command_on c.args.threads (map {A = Bor (List ℕ)} {B = List ℕ} (λ w. w.now) c.args.words.now)) Listing (g.D.Disk.view c.args.disk) (g.D.Disk.view c.of_list.result.disk) c.of_list.result.outcome (c.in-Ok.ensures.command ∙ ap Some c.in-List.is) c.of_list.ensures.safe
