use Rattle.std.proofs.Common.{◌≡◌, ◌⊎◌, ◌↔◌, ℕ, ◌<◌, ◌≤◌, None, ap, subst}
use Rattle.std.specs.Prelude.{◌≢◌, OnOk}
use Rattle.s38_vault.specs.Content.{Content, changed}
use Rattle.s38_vault.specs.Vaults.{refusal}
use Rattle.s38_pages.proofs.Watching.{goes_on, start_of}
use Rattle.s38_pages.specs.Vaults.{PageStore, page_holds, page_leaves, page_view}
use Rattle.s38_pages.specs.Watched.{WatchedStore}
use Rattle.s38_pages.proofs.watched.WatchedVaultVault.put.Goals as goal

pub invariant_of-self : goal.invariant_of-self
invariant_of-self g c = goes_on c.self.invariant (start_of c.self.inside.vault c.put.new.self c.put.ensures.shape) c.put.ensures.layout c.put.ensures.whole

pub returns-clause-holds : goal.returns-clause-holds
returns-clause-holds g c =
    let now = ap (λ (w : WatchedStore). w.now) c.self.view_is in
    subst (λ (v : PageStore). OnOk c.put.result ((m : Content) → page_holds v m → page_holds c.put.new.self (changed m c.args.changes.now))) now c.put.ensures.holds

pub returns-clause-told : goal.returns-clause-told
returns-clause-told g c =
    let now = ap (λ (w : WatchedStore). w.now) c.self.view_is in
    subst (λ (v : PageStore). OnOk c.put.result ((n : Content) → page_holds c.put.new.self n → (m : Content) × (page_holds v m × (n ≡ changed m c.args.changes.now)))) now c.put.ensures.told

pub returns-clause-full_holds : goal.returns-clause-full_holds
returns-clause-full_holds g c =
    let now = ap (λ (w : WatchedStore). w.now) c.self.view_is in
    subst (λ (v : PageStore). refusal (page_view v) c.args.changes.now ≢ None → (m : Content) → page_holds v m ↔ page_holds c.put.new.self m) now c.put.ensures.full_holds

pub returns-clause-during : goal.returns-clause-during
returns-clause-during g c =
    let now = ap (λ (w : WatchedStore). w.now) c.self.view_is in
    subst (λ (v : PageStore). (m : Content) → page_holds v m → (t : ℕ) (n : Content) → (page_view v).moment < t → t ≤ (page_view c.put.new.self).moment → page_leaves c.put.new.self t n → (n ≡ m) ⊎ (n ≡ changed m c.args.changes.now)) now
    c.put.ensures.during

pub returns-clause-after : goal.returns-clause-after
returns-clause-after g c =
    let now = ap (λ (w : WatchedStore). w.now) c.self.view_is in
    subst (λ (v : PageStore). OnOk c.put.result ((m n : Content) → page_holds v m → page_leaves c.put.new.self (page_view c.put.new.self).moment n → ((page_view v).moment < (page_view c.put.new.self).moment) × (n ≡ changed m c.args.changes.now))) now
    c.put.ensures.after
