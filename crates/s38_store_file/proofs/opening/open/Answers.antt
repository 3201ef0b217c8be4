use Rattle.s38_store_file.proofs.CrashLaws.{goes_by, goes_then}
use Rattle.s38_store_file.proofs.KeepLaws.{err_on, ok_on}
use Rattle.std.proofs.Common.{◌∙◌, ap, subst, sym}
use Rattle.s38_pages.proofs.VaultLemmas.{recovers_to_one}
use Rattle.s38_pages.specs.Vaults.{page_holds}
use Rattle.s38_pages.specs.Mounts.{layout_of}
use Rattle.s38_store_file.proofs.OpenLaws.{refusal_of}
use Rattle.s38_store_file.proofs.WatchLaws.{opened_during, refused_during}
use Rattle.s38_store_file.proofs.opening.open.Goals as goal

pub returns-in-Ok-clause-restarts : goal.returns-in-Ok-clause-restarts
returns-in-Ok-clause-restarts g c =
    ok_on _ _ c.restarted.result c.restarted.ensures.opened (λ store h s is.
    let was = c.in-Ok.ensures.content s is in
    record { large = c.in-Ok.ensures.large; content = was.0; stands = was.1.0; objects = (h was.0 was.1.1).objects })

pub returns-in-Ok-clause-opened : goal.returns-in-Ok-clause-opened
returns-in-Ok-clause-opened g c =
    ok_on _ _ c.restarted.result c.restarted.ensures.opened (λ store h s is m stands.
    let was = c.in-Ok.ensures.content s is in
    let one = recovers_to_one (layout_of (g.D.Disk.view c.args.disk).size) s.now was.0 m was.1.0 stands in
    h m (subst (page_holds c.in-Ok.vault) one was.1.1))

pub returns-in-Ok-clause-holds : goal.returns-in-Ok-clause-holds
returns-in-Ok-clause-holds g c =
    ok_on _ _ c.restarted.result c.restarted.ensures.opened (λ store h s is.
    let was = c.in-Ok.ensures.content s is in
    (was.0, (was.1.0, (h was.0 was.1.1).holds)))

pub returns-in-Ok-clause-refused : goal.returns-in-Ok-clause-refused
returns-in-Ok-clause-refused g c =
    err_on _ _ c.restarted.result c.restarted.ensures.refused (λ refusal h s is.
    let was = c.in-Ok.ensures.content s is in
    refusal_of (g.D.Disk.view c.args.disk).size s.now was.0 refusal.1 was.1.0 (h was.0 was.1.1))

pub restarted-requires-clause-layout : goal.restarted-requires-clause-layout
restarted-requires-clause-layout g c = c.in-Ok.ensures.vault.2 ∙ ap layout_of (sym c.in-Ok.ensures.moves.size)

pub returns-in-Ok-clause-during : goal.returns-in-Ok-clause-during
returns-in-Ok-clause-during g c = ok_on _ _ c.restarted.result c.restarted.ensures.during (λ store h. opened_during c.in-Ok.vault c.in-Ok.ensures.moves c.in-Ok.ensures.content h)

pub returns-in-Ok-clause-crash : goal.returns-in-Ok-clause-crash
returns-in-Ok-clause-crash g c = err_on _ _ c.restarted.result c.restarted.ensures.crash (λ refusal h. opened_during c.in-Ok.vault c.in-Ok.ensures.moves c.in-Ok.ensures.content h)

pub returns-in-Err-clause-crash : goal.returns-in-Err-clause-crash
returns-in-Err-clause-crash g c = refused_during c.in-Err.ensures.crash

pub returns-in-Ok-clause-goes : goal.returns-in-Ok-clause-goes
returns-in-Ok-clause-goes g c = ok_on _ _ c.restarted.result c.restarted.ensures.goes (λ store h. goes_then (goes_by c.in-Ok.ensures.moves) h)

pub returns-in-Ok-clause-placed : goal.returns-in-Ok-clause-placed
returns-in-Ok-clause-placed g c = ok_on _ _ c.restarted.result c.restarted.ensures.placed (λ store h. h ∙ c.in-Ok.ensures.vault.2)
