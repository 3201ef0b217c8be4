use Rattle.std.proofs.Common.{◌≡◌, true, false, None, Some, is_some, ap, refl, subst, sym, arith, ◌∙◌}
use Rattle.std.specs.FinMap.{contains_key}
use Rattle.s38_vault.specs.Directory.{keys_of}
use Rattle.s38_vault.proofs.DirectoryLaws.{contains-keys_of}
use Rattle.s38_redo_log.proofs.CommitLemmas.{home_below}
use Rattle.s38_pages.specs.Vaults.{PageStore, page_holds}
use Rattle.s38_pages.proofs.Blaming.{of_read}
use Rattle.s38_pages.proofs.VaultLemmas.{keeps_vault, page_here, placed_still}
use Rattle.s38_pages.proofs.Watching.{read_only}
use Rattle.s38_disk.proofs.Runs.{stays}
use Rattle.s38_pages.proofs.vaulted.PageVaultVault.get.Goals as goal

pub read_page-requires : goal.read_page-requires
read_page-requires g c =
    let below = home_below c.self.inside.layout c.in-Some.home (c.self.invariant.vault.index.home c.args.key c.in-Some.home (sym c.get.ensures ∙ c.in-Some.is)) in
    omega (arith, c.self.invariant.vault.size)

pub invariant_of-self : goal.invariant_of-self
invariant_of-self g c = record { vault = keeps_vault c.read_page.ensures.size c.read_page.ensures.past c.self.invariant.vault; faults = of_read c.read_page.ensures.cause.later c.self.invariant.faults; placed = placed_still c.self.invariant.placed c.read_page.ensures.size }

pub invariant_of-self-in-Some : goal.invariant_of-self-in-Some
invariant_of-self-in-Some g c = record { vault = keeps_vault c.read_page.ensures.size c.read_page.ensures.past c.self.invariant.vault; faults = of_read c.read_page.ensures.cause.later c.self.invariant.faults; placed = placed_still c.self.invariant.placed c.read_page.ensures.size }

pub returns-in_ok-read_page-in-Some-clause-there : goal.returns-in_ok-read_page-in-Some-clause-there
returns-in_ok-read_page-in-Some-clause-there g c =
    sym (subst (λ (v : PageStore). contains_key (keys_of v.homes) c.args.key ≡ true) c.self.view_is (contains-keys_of c.self.inside.homes.values c.args.key ∙ ap is_some (sym c.get.ensures ∙ c.in-Some.is)))

pub returns-in-None-clause-page : goal.returns-in-None-clause-page
returns-in-None-clause-page g c m holds =
    page_here c.self.invariant.vault c.args.key None (sym c.get.ensures ∙ c.in-None.is) None (λ s is. refl) m (subst (λ (v : PageStore). page_holds v m) (sym c.self.view_is) holds)

pub returns-in-None-clause-there : goal.returns-in-None-clause-there
returns-in-None-clause-there g c =
    sym (subst (λ (v : PageStore). contains_key (keys_of v.homes) c.args.key ≡ false) c.self.view_is (contains-keys_of c.self.inside.homes.values c.args.key ∙ ap is_some (sym c.get.ensures ∙ c.in-None.is)))

pub returns-in_ok-read_page-in-Some-clause-page : goal.returns-in_ok-read_page-in-Some-clause-page
returns-in_ok-read_page-in-Some-clause-page g c m holds =
    page_here c.self.invariant.vault c.args.key (Some c.in-Some.home) (sym c.get.ensures ∙ c.in-Some.is) (Some c.in_ok-read_page-in-Some.field-0) (λ s is. sym (ap Some (c.in_ok-read_page-in-Some.ensures.gives s is))) m (subst (λ (v : PageStore). page_holds v m) (sym c.self.view_is) holds)

pub returns-in_err-read_page-in-Some-clause-whole : goal.returns-in_err-read_page-in-Some-clause-whole
returns-in_err-read_page-in-Some-clause-whole g c = read_only c.self.view_is c.read_page.ensures.size c.read_page.ensures.cause.later c.read_page.ensures.past

pub returns-in_ok-read_page-in-Some-clause-whole : goal.returns-in_ok-read_page-in-Some-clause-whole
returns-in_ok-read_page-in-Some-clause-whole g c = read_only c.self.view_is c.read_page.ensures.size c.read_page.ensures.cause.later c.read_page.ensures.past

pub returns-in-None-clause-whole : goal.returns-in-None-clause-whole
returns-in-None-clause-whole g c = stays _ _
