use Rattle.std.proofs.Common.{◌≡◌, List, ap, subst, sym, ◌∙◌}
use Rattle.std.specs.Prelude.{◌⊎◌}
use Rattle.std.proofs.lemmas.Result.{err_from_is_err_and}
use Rattle.s38_base.specs.declared.page.Change.{Change}
use Rattle.s38_restart.specs.catalog.Groups.{removals}
use Rattle.s38_vault.specs.Content.{AreRising, HaveObjects, changed}
use Rattle.s38_vault.specs.Vaults.{VaultView}
use Rattle.s38_restart.specs.Parts.{AreParts}
use Rattle.s38_restart.specs.Removing.{AreRemovals}
use Rattle.s38_restart.specs.declared.fault.RestartFault.{RestartFault}
use Rattle.s38_restart.specs.declared.fault.RestartFault.TheVariants as faults
use Rattle.s38_restart.proofs.RestartLaws.{during_as, names_fault, names_first, removals_are, removals_have, removals_rise}
use Rattle.s38_restart.proofs.restarting.restart.Goals as goal

pub returns-in_err-parts-clause-bad : goal.returns-in_err-parts-clause-bad
returns-in_err-parts-clause-bad g c =
    let p = err_from_is_err_and c.from_residual.result c.from_residual.ensures.1 in
    let fault = subst (λ (f : RestartFault). (f ≡ faults.Failed) ⊎ (f ≡ faults.NoMemory)) (sym p.2) c.in_err-parts.ensures.fault in
    rw p.1 (λ m h. names_first _ p.0 fault)

pub returns-in_err-parts-clause-untold : goal.returns-in_err-parts-clause-untold
returns-in_err-parts-clause-untold g c =
    let p = err_from_is_err_and c.from_residual.result c.from_residual.ensures.1 in
    let fault = subst (λ (f : RestartFault). (f ≡ faults.Failed) ⊎ (f ≡ faults.NoMemory)) (sym p.2) c.in_err-parts.ensures.fault in
    rw p.1 (names_fault _ p.0 fault)

pub remove-requires-clause-removals : goal.remove-requires-clause-removals
remove-requires-clause-removals g c =
    subst (λ (l : List Change). AreRemovals l) (sym (c.deref.ensures.value ∙ c.in_ok-restored.ensures.removals)) (removals_are c.in_ok-parts.parts.items)

pub remove-requires-clause-rising : goal.remove-requires-clause-rising
remove-requires-clause-rising g c =
    let rising = c.in_ok-parts.ensures.order in
    subst (λ (l : List Change). AreRising l) (sym (c.deref.ensures.value ∙ c.in_ok-restored.ensures.removals)) (removals_rise c.in_ok-parts.parts.items rising)

pub remove-requires-clause-objects : goal.remove-requires-clause-objects
remove-requires-clause-objects g c =
    let have = c.in_ok-parts.ensures.objects in
    subst (λ (l : List Change). HaveObjects l) (sym (c.deref.ensures.value ∙ c.in_ok-restored.ensures.removals)) (removals_have c.in_ok-parts.parts.items have)

pub returns-in_err-remove-clause-during : goal.returns-in_err-remove-clause-during
returns-in_err-remove-clause-during g c = λ m h.
    let strays = c.deref.ensures.value ∙ c.in_ok-restored.ensures.removals ∙ ap (λ (l : List Change). removals l) (c.in_ok-parts.ensures.parts m h) in
    let moment = ap (λ (v : VaultView). v.moment) c.read_parts.ensures.stays in
    during_as (g.V.Vault.leaves c.remove.new.vault) (g.V.Vault.view c.args.vault.now).moment (g.V.Vault.view c.read_parts.new.vault).moment (g.V.Vault.view c.remove.new.vault).moment m
    _ _ moment strays (c.remove.ensures.during m ((c.read_parts.ensures.holds m).0 h))

pub returns-clause-holds : goal.returns-clause-holds
returns-clause-holds g c = λ m h.
    let strays = c.deref.ensures.value ∙ c.in_ok-restored.ensures.removals ∙ ap (λ (l : List Change). removals l) (c.in_ok-parts.ensures.parts m h) in
    subst (λ (l : List Change). g.V.Vault.holds c.remove.new.vault (changed m l)) strays (c.in_ok-remove.ensures.holds m ((c.read_parts.ensures.holds m).0 h))

pub returns-clause-during : goal.returns-clause-during
returns-clause-during g c = λ m h.
    let strays = c.deref.ensures.value ∙ c.in_ok-restored.ensures.removals ∙ ap (λ (l : List Change). removals l) (c.in_ok-parts.ensures.parts m h) in
    let moment = ap (λ (v : VaultView). v.moment) c.read_parts.ensures.stays in
    during_as (g.V.Vault.leaves c.remove.new.vault) (g.V.Vault.view c.args.vault.now).moment (g.V.Vault.view c.read_parts.new.vault).moment (g.V.Vault.view c.remove.new.vault).moment m
    _ _ moment strays (c.remove.ensures.during m ((c.read_parts.ensures.holds m).0 h))

pub restore-requires-clause-parts : goal.restore-requires-clause-parts
restore-requires-clause-parts g c =
    let are : AreParts c.in_ok-parts.parts.items = record { rising = c.in_ok-parts.ensures.order; objects = c.in_ok-parts.ensures.objects; fine = c.in_ok-parts.ensures.fine } in
    are

pub returns-clause-parts : goal.returns-clause-parts
returns-clause-parts g c = λ m h.
    let are : AreParts c.in_ok-parts.parts.items = record { rising = c.in_ok-parts.ensures.order; objects = c.in_ok-parts.ensures.objects; fine = c.in_ok-parts.ensures.fine } in
    subst (λ (l : List Change). AreParts l) (c.in_ok-parts.ensures.parts m h) are
